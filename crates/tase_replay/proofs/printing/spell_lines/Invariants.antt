use Rattle.std.proofs.Common.{◌≡◌, flat_map, take}
use Rattle.tase_replay.specs.Play.{line_of_report}
use Rattle.tase_replay.proofs.printing.spell_lines.Given as goal

abbrev pub invariant-loop-report : goal.invariant-loop-report
invariant-loop-report l =
    l.text.items ≡ flat_map (line_of_report l.fn.who) (take l.report-index l.fn.reports)
