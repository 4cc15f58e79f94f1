use Rattle.stack_assoc.specs.declared.messages.fault.Layer.TheVariants as layers
use Rattle.stack_assoc.specs.Messages.Layers.{out_of_order}
use Rattle.stack_assoc.proofs.OfMessages.Exact.{nothing_so}
use Rattle.stack_assoc.proofs.messages.setting.read_offers.Goals as goal

pub returns-in-Accept : goal.returns-in-Accept
returns-in-Accept c =
    rw c.in-Accept.is (nothing_so (out_of_order layers.Presentation) c.out_of_order.result c.out_of_order.ensures)

pub returns-in-Carry : goal.returns-in-Carry
returns-in-Carry c =
    rw c.in-Carry.is (nothing_so (out_of_order layers.Presentation) c.out_of_order-in-Carry.result c.out_of_order-in-Carry.ensures)
