use Rattle.std.proofs.Common.{◌≡◌, drop, length}
use Rattle.bilateral.specs.declared.rows.TheConstants.{SLOT_LIMIT}
use Rattle.node_core.specs.Slots.SlotsKept.{handed_all}
use Rattle.node_core.proofs.node.peer.hand_out_all.Given as goal

abbrev pub invariant-loop-slot : goal.invariant-loop-slot
invariant-loop-slot l = record {
  left : handed_all l.ordinal (drop l.slot-index l.handed) l.slots
      ≡ handed_all l.ordinal l.handed l.initial.slots;
  many : length l.slots ≡ SLOT_LIMIT;
}
