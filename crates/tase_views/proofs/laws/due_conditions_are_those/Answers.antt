use Rattle.std.proofs.Common.{sym, subst}
use Rattle.transfer_sets.specs.Due.{AreDue}
use Rattle.transfer_sets.proofs.DueNumbers.{one_number, some_number}
use Rattle.tase_views.specs.View.{moment_in}
use Rattle.tase_views.specs.Reports.{slot_state, due_conditions}
use Rattle.tase_views.proofs.laws.due_conditions_are_those.Goals as goal

pub returns : goal.returns
returns c = λ tables view slot to conditions.
    let state = slot_state tables view slot in
    let from = moment_in view in (
      λ are. one_number state from to conditions (due_conditions tables view slot to) are
          (some_number state from to),
      λ same. subst (AreDue state from to) (sym same) (some_number state from to),
    )
