use Rattle.std.proofs.Common.{◌≡◌, ◌^◌, None, length}
use Rattle.std.specs.Str.Lines.{lines}
use Rattle.tase_resume.specs.Snapshots.{ends_lines, lines_read}
use Rattle.tase_resume.specs.Reading.{state_of}
use Rattle.tase_resume.proofs.reading.take_lines.Given as goal

abbrev pub invariant-loop-line : goal.invariant-loop-line
invariant-loop-line l =
    let first = l.initial.node in
    let ended = ends_lines l.text in record {
      limit : l.node.setup.limit ≡ 2 ^ 31;
      read : lines_read first.setup.centre ended
          (state_of first (record { last = None; defining = None })) 1 (lines l.text)
          ≡ lines_read l.node.setup.centre ended (state_of l.node l.standing) l.number
          (lines l.rest);
    }

abbrev pub decreases-loop-line : goal.decreases-loop-line
decreases-loop-line l = length l.rest
