use Rattle.std.proofs.Common.{length, ap, arith}
use Rattle.acse_assoc.proofs.Sizes.{written-short}
use Rattle.acse_assoc.proofs.request.oid_len.Goals as goal

pub returns-clause-value : goal.returns-clause-value
returns-clause-value c = written-short 6 (length c.octets.result.now) c.args.name.now
    (ap length c.octets.ensures.value)
    (omega (arith, ap length c.octets.ensures.value, c.octets.ensures.sized.1))
