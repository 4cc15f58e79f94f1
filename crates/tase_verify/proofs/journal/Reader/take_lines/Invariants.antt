use Rattle.std.proofs.Common.{◌≡◌, length}
use Rattle.std.specs.Str.Lines.{lines}
use Rattle.tase_verify.specs.JournalIn.{is_ended, past_of_lines}
use Rattle.tase_verify.specs.Reading.{past_of, GoesOn}
use Rattle.tase_verify.proofs.journal.Reader.take_lines.Given as goal

abbrev pub invariant-loop-line : goal.invariant-loop-line
invariant-loop-line l =
    let first = l.initial.self in
    let ended = is_ended l.text in record {
      on : GoesOn first l.self;
      read : past_of_lines first.node.setup ended (past_of first) 1 (lines l.text)
          ≡ past_of_lines l.self.node.setup ended (past_of l.self) l.number (lines l.rest);
    }

abbrev pub decreases-loop-line : goal.decreases-loop-line
decreases-loop-line l = length l.rest
