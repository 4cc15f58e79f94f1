use Rattle.stack_assoc.specs.declared.messages.fault.Layer.TheVariants as layers
use Rattle.stack_assoc.specs.Messages.Layers.{out_of_order}
use Rattle.stack_assoc.proofs.OfMessages.Exact.{nothing_so}
use Rattle.stack_assoc.proofs.messages.setting.read_user.Goals as goal

pub returns-in-None : goal.returns-in-None
returns-in-None c =
    rw c.in-None.is (nothing_so (out_of_order layers.Acse) c.out_of_order.result c.out_of_order.ensures)
