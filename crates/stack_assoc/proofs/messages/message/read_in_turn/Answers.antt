use Rattle.std.proofs.Common.{◌∙◌, sym}
use Rattle.stack_assoc.specs.declared.messages.fault.Layer.TheVariants as layers
use Rattle.stack_assoc.specs.Messages.Layers.{out_of_order}
use Rattle.stack_assoc.specs.Messages.Turns.{spdu_may_come}
use Rattle.stack_assoc.specs.Messages.Messages.{said_by}
use Rattle.stack_assoc.proofs.OfMessages.Exact.{refused-so}
use Rattle.stack_assoc.proofs.messages.message.read_in_turn.Goals as goal

pub returns-else-spdu_may_come : goal.returns-else-spdu_may_come
returns-else-spdu_may_come c =
    let e = c.args.expecting in
    refused-so (spdu_may_come e.side e.phase c.args.spdu) (out_of_order layers.Session)
    c.out_of_order.result (said_by e c.args.tsdu.now c.args.spdu)
    (sym c.spdu_may_come.ensures ∙ c.if-spdu_may_come.false) c.out_of_order.ensures
