use Rattle.std.proofs.Common.{pos, arith}
use Rattle.ber_values.specs.Writing.{written, integer_octets}
use Rattle.acse_assoc.proofs.Sizes.{written-short}
use Rattle.acse_assoc.proofs.response.result_len.Goals as goal

pub returns-clause-value : goal.returns-clause-value
returns-clause-value c =
    written-short 162 c.code_len.result (written 2 (integer_octets (pos c.args.code)))
    c.code_len.ensures.value (omega (arith, c.code_len.ensures.few))
