use Rattle.std.proofs.Common.{◌≡◌, ◌-◌, ◌∙◌, sym, None, length, take, drop, arith}
use Rattle.std.proofs.lemmas.List.{length-take}
use Rattle.std.specs.Str.Lines.{lines}
use Rattle.capture_text.specs.Pieces.{bad_line_from}
use Rattle.capture_text.proofs.Walking.{no_bad_line, capture_of, empty_are_pairs}
use Rattle.capture_text.proofs.pieces.read_pieces.Goals as goal

pub invariant_of-result : goal.invariant_of-result
invariant_of-result c =
    let good : bad_line_from 1 (lines c.args.text.now) ≡ None =
    sym c.first_bad_line.ensures ∙ c.in-None.is in
    let text = c.args.text.now in
    let len = length-take (length text - length text) (drop (length text) text) in (
      empty_are_pairs (take (length text - length text) (drop (length text) text))
          (omega (arith, len)),
      no_bad_line text good,
    )

pub returns-in-None : goal.returns-in-None
returns-in-None c =
    let good : bad_line_from 1 (lines c.args.text.now) ≡ None =
    sym c.first_bad_line.ensures ∙ c.in-None.is in
    let text = c.args.text.now in
    let len = length-take (length text - length text) (drop (length text) text) in
    capture_of (take (length text - length text) (drop (length text) text)) text
    (omega (arith, len)) good
