use Rattle.std.proofs.Common.{◌≡◌, ℕ, ◌+◌, ◌≤◌, List, map, drop}
use Rattle.tase_points.specs.Sample.{Sample}
use Rattle.transfer_sets.specs.declared.noted.Noted.{Noted}
use Rattle.transfer_sets.specs.SlotState.{noted_behind}
use Rattle.transfer_sets.proofs.slot.Slot.note_members.Given as goal

-- a member with this value and this count
abbrev pub noted_with : Sample → ℕ → ℕ → Noted
noted_with value cov member = record { member = member; value = value; cov = cov }

-- the notes of the places that are left, behind those that stand, are those of all places
abbrev pub invariant-loop-member : goal.invariant-loop-member
invariant-loop-member l =
    let notes = λ (places : List ℕ). map (noted_with l.value l.cov) places in
    let all = l.fn.self.state.wish.all_changes in
    (record l.self.state {
      noted = noted_behind all l.self.state.noted (notes (drop l.member-index l.places));
    } ≡ record l.fn.self.state {
      noted = noted_behind all l.fn.self.state.noted (notes l.places);
    })
    × (l.self.state.wish ≡ l.fn.self.state.wish)
    × (l.fn.self.spare ≤ l.self.spare + l.member-index)
