use Rattle.stack_assoc.specs.declared.messages.fault.Layer.TheVariants as layers
use Rattle.stack_assoc.specs.Messages.Layers.{out_of_order}
use Rattle.stack_assoc.proofs.OfMessages.Exact.{nothing_so}
use Rattle.stack_assoc.proofs.messages.setting.read_results.Goals as goal

pub returns-in-Connect : goal.returns-in-Connect
returns-in-Connect c =
    rw c.in-Connect.is (nothing_so (out_of_order layers.Presentation) c.out_of_order.result c.out_of_order.ensures)

pub returns : goal.returns
returns c =
    rw c.in-Carry.is (nothing_so (out_of_order layers.Presentation) c.out_of_order-in-Carry.result c.out_of_order-in-Carry.ensures)
