use Rattle.std.proofs.Common.{arith}
use Rattle.plain_text.proofs.TextLengths.{length-decimal-step, length-decimal-digit}
use Rattle.plain_text.proofs.TextLengths.{length-decimal-few, length-decimal-some}
use Rattle.plain_text.proofs.lengths.decimal_len.Goals as goal

pub overflow_add-len : goal.overflow_add-len
overflow_add-len c =
    omega (
      arith,
      c.loop-rest.invariant,
      length-decimal-few c.args.number (omega arith),
      length-decimal-some c.loop-rest.rest (omega arith),
    )

pub loop-rest-preserved : goal.loop-rest-preserved
loop-rest-preserved c =
    omega (
      arith,
      c.loop-rest.invariant,
      length-decimal-step c.loop-rest.rest (omega arith) (omega arith),
    )

pub returns-clause-exact : goal.returns-clause-exact
returns-clause-exact c =
    omega (
      arith,
      c.loop-rest.invariant,
      length-decimal-digit c.loop-rest.rest (omega arith),
    )

pub returns-clause-few : goal.returns-clause-few
returns-clause-few c =
    omega (
      arith,
      c.loop-rest.invariant,
      length-decimal-digit c.loop-rest.rest (omega arith),
      length-decimal-few c.args.number (omega arith),
    )
