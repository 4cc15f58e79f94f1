use Rattle.stack_assoc.specs.declared.messages.fault.Layer.TheVariants as layers
use Rattle.stack_assoc.specs.Messages.Layers.{out_of_order}
use Rattle.stack_assoc.proofs.OfMessages.Exact.{nothing_so}
use Rattle.stack_assoc.proofs.messages.setting.read_aare.Goals.{in-Aare, in-Aarq, in-Rlrq, in-Rlre, in-Abrt}
use Rattle.stack_assoc.proofs.messages.setting.read_aare.Goals as goal

pub returns : goal.returns
returns c = elim c.match-apdu.branch [
  | in-Aare w ↦ rw (w.in-Aare.is, w.result-is) w.read_user.ensures
  | in-Aarq w ↦ rw (w.in-Aarq.is, w.result-is)
      (nothing_so (out_of_order layers.Acse) w.out_of_order.result w.out_of_order.ensures)
  | in-Rlrq w ↦ rw (w.in-Rlrq.is, w.result-is) (nothing_so (out_of_order layers.Acse)
      w.out_of_order-in-Rlrq.result w.out_of_order-in-Rlrq.ensures)
  | in-Rlre w ↦ rw (w.in-Rlre.is, w.result-is) (nothing_so (out_of_order layers.Acse)
      w.out_of_order-in-Rlre.result w.out_of_order-in-Rlre.ensures)
  | in-Abrt w ↦ rw (w.in-Abrt.is, w.result-is) (nothing_so (out_of_order layers.Acse)
      w.out_of_order-in-Abrt.result w.out_of_order-in-Abrt.ensures)
]
