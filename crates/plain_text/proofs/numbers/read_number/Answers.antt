use Rattle.std.proofs.Common.{arith, sym, ◌∙◌, get_or}
use Rattle.plain_text.proofs.Decimal.{number_up_to-next, digit_value-decimal}
use Rattle.plain_text.proofs.numbers.read_number.Goals as goal

pub returns-in_err-checked_mul : goal.returns-in_err-checked_mul
returns-in_err-checked_mul c =
    c.from_residual.ensures
    ∙ sym (number_up_to-next c.args.limit c.loop-digit.number c.args.word.now
    c.loop-digit.digit-index (omega arith) c.loop-digit.invariant.value
    (omega (arith, c.in_err-checked_mul.ensures)))

pub returns-in_err-number : goal.returns-in_err-number
returns-in_err-number c =
    c.from_residual-in_err-number.ensures
    ∙ sym (number_up_to-next c.args.limit c.loop-digit.number c.args.word.now
    c.loop-digit.digit-index (omega arith) c.loop-digit.invariant.value
    (let digit = c.if-not-is_ascii_digit.ensures.cases in
    let value = digit_value-decimal (get_or c.args.word.now c.loop-digit.digit-index 0)
    digit.0 digit.1 in
    omega (
      arith,
      c.in_err-number.ensures,
      c.in_ok-checked_mul.ensures.1,
      c.from.ensures,
    )))
