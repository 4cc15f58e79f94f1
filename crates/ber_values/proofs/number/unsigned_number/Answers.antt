use Rattle.std.proofs.Common.{◌≡◌, ◌*◌, ◌+◌, take, get_or, arith}
use Rattle.ber_values.specs.Octets.{number_of}
use Rattle.ber_values.proofs.Octets.{number_of-more, below_next, below_eight}
use Rattle.ber_values.proofs.number.unsigned_number.Goals as goal

pub overflow_mul-number : goal.overflow_mul-number
overflow_mul-number c = omega (arith, c.loop-octet.invariant.1, below_eight c.loop-octet.octet-index (omega arith))

pub overflow_add-number : goal.overflow_add-number
overflow_add-number c = omega (arith, c.loop-octet.invariant.1, below_eight c.loop-octet.octet-index (omega arith))

pub loop-octet-preserved : goal.loop-octet-preserved
loop-octet-preserved c =
    let i = c.loop-octet.octet-index in
    let more : number_of (take (i + 1) c.args.octets.now) ≡ number_of (take i c.args.octets.now) * 256 + get_or c.args.octets.now i 0 = number_of-more c.args.octets.now i 0 (omega arith) in
    (omega (arith, more, c.loop-octet.invariant.0), below_next c.loop-octet.number i c.from.result c.loop-octet.invariant.1 (omega arith))
