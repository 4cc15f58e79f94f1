use Rattle.std.proofs.Common.{ap, sym, ◌∙◌}
use Rattle.transfer_sets.specs.SlotMoves.{PointChange}
use Rattle.transfer_sets.specs.SlotState.{KeptSlot}
use Rattle.transfer_sets.proofs.Followed.{all_noted}
use Rattle.transfer_sets.proofs.slot.Slot.change.Goals as goal

pub returns-then-self-clause-moves : goal.returns-then-self-clause-moves
returns-then-self-clause-moves c = λ members moves point same f.
    let change : PointChange = record {
      point = point;
      moment = c.args.now;
      value = c.args.value;
      count = c.args.cov;
    } in
    all_noted members moves change c.args.places.now c.args.self.now.state
    c.note_change.new.self.state c.note_members.new.self.state same
    (sym c.is_empty.ensures ∙ c.if-is_empty.false)
    (ap (λ (s : KeptSlot). s.state) c.note_change.ensures) c.note_members.ensures.state f
