use Rattle.std.proofs.Common.{arith, rules, sym}
use Rattle.std.proofs.lemmas.List.{take_rest}
use Rattle.plain_text.proofs.Decimal.{integer_within-minus}
use Rattle.plain_text.proofs.numbers.read_integer.Goals as goal

pub returns-in_ok-negated-in-45 : goal.returns-in_ok-negated-in-45
returns-in_ok-negated-in-45 c =
    rw (integer_within-minus c.args.low c.args.high c.args.word.now _
    c.in_ok-read_number-in-45.field-0 c.in_ok-negated-in-45.field-0 (omega arith) (omega arith)
    (take_rest c.args.word.now 1) (sym c.in_ok-read_number-in-45.ensures)
    (sym c.in_ok-negated-in-45.ensures)) (search rules)
