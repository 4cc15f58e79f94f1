use Rattle.stack_assoc.specs.declared.messages.fault.Layer.TheVariants as layers
use Rattle.stack_assoc.specs.Messages.Layers.{out_of_order}
use Rattle.stack_assoc.proofs.OfMessages.Exact.{nothing_so}
use Rattle.stack_assoc.proofs.messages.setting.read_aarq.Goals as goal

pub returns-in-Aare : goal.returns-in-Aare
returns-in-Aare c =
    rw c.in-Aare.is (nothing_so (out_of_order layers.Acse) c.out_of_order.result c.out_of_order.ensures)

pub returns-in-Rlrq : goal.returns-in-Rlrq
returns-in-Rlrq c =
    rw c.in-Rlrq.is (nothing_so (out_of_order layers.Acse) c.out_of_order-in-Rlrq.result c.out_of_order-in-Rlrq.ensures)

pub returns-in-Rlre : goal.returns-in-Rlre
returns-in-Rlre c =
    rw c.in-Rlre.is (nothing_so (out_of_order layers.Acse) c.out_of_order-in-Rlre.result c.out_of_order-in-Rlre.ensures)

pub returns-in-Abrt : goal.returns-in-Abrt
returns-in-Abrt c =
    rw c.in-Abrt.is (nothing_so (out_of_order layers.Acse) c.out_of_order-in-Abrt.result c.out_of_order-in-Abrt.ensures)
