use Rattle.std.proofs.Common.{◌≡◌, ◌++◌, take}
use Rattle.texts.specs.Reports.ReportTexts.{told_text}
use Rattle.texts.proofs.reports.writing.put_told.Given as goal

abbrev pub invariant-loop-index : goal.invariant-loop-index
invariant-loop-index l =
    l.out.items ≡ l.initial.out.items
    ++ told_text (take l.index l.names) (take l.index l.outcomes)
