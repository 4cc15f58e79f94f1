use Rattle.std.proofs.Common.{◌∙◌, ◌≡◌, ◌%◌, length, arith}
use Rattle.capture_text.proofs.Digits.{are_pairs_even}
use Rattle.capture_text.proofs.pieces.are_pairs.Goals as goal

pub returns-then-line-eq0 : goal.returns-then-line-eq0
returns-then-line-eq0 c =
    let even : length c.args.line.now % 2 ≡ 0 = omega arith in
    c.are_digits.ensures ∙ are_pairs_even c.args.line.now even
