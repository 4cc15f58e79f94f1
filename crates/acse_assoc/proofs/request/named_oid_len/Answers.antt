use Rattle.std.proofs.Common.{arith}
use Rattle.ber_values.specs.Writing.{written}
use Rattle.acse_assoc.proofs.Sizes.{written-short}
use Rattle.acse_assoc.proofs.request.named_oid_len.Goals as goal

pub returns-clause-value : goal.returns-clause-value
returns-clause-value c tag = written-short tag c.oid_len.result (written 6 c.args.name.now)
    c.oid_len.ensures.value (omega (arith, c.oid_len.ensures.few))
