use Rattle.std.proofs.Common.{◌∙◌, sym}
use Rattle.stack_assoc.specs.declared.messages.fault.Layer.TheVariants as layers
use Rattle.stack_assoc.specs.Messages.Layers.{out_of_order}
use Rattle.stack_assoc.specs.Messages.Setting.{connecting, initiate_in_pdu}
use Rattle.stack_assoc.proofs.OfMessages.Exact.{some-read, none-read}
use Rattle.stack_assoc.proofs.messages.setting.connecting.Goals as goal

pub returns-in-Some : goal.returns-in-Some
returns-in-Some c = some-read (out_of_order layers.Mms)
    (connecting c.args.session c.args.called c.args.contexts c.args.request)
    (initiate_in_pdu c.args.pdu) c.in-Some.initiate (sym c.initiate_of.ensures ∙ c.in-Some.is)

pub returns-in-None : goal.returns-in-None
returns-in-None c = none-read (out_of_order layers.Mms) c.out_of_order.result
    (connecting c.args.session c.args.called c.args.contexts c.args.request)
    (initiate_in_pdu c.args.pdu) (sym c.initiate_of.ensures ∙ c.in-None.is) c.out_of_order.ensures
