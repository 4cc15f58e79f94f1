use Rattle.std.proofs.Common.{◌≡◌, ◌++◌, flat_map, take}
use Rattle.texts.specs.Reports.ReportTexts.{next_outcome}
use Rattle.texts.proofs.reports.writing.put_outcomes.Given as goal

abbrev pub invariant-loop-outcome : goal.invariant-loop-outcome
invariant-loop-outcome l =
    l.out.items ≡ l.initial.out.items ++ flat_map next_outcome (take l.outcome-index l.outcomes)
