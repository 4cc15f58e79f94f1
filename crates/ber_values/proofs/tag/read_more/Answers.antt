use Rattle.std.proofs.Common.{take, arith}
use Rattle.std.proofs.lemmas.List.{length-take}
use Rattle.ber_values.proofs.Octets.{number_of-four, IsOctets-take}
use Rattle.ber_values.proofs.tag.read_more.Goals as goal

pub returns-clause-bounded : goal.returns-clause-bounded
returns-clause-bounded c =
    let s = c.args.octets.now in
    let n = c.args.count in
    rw (c.unsigned_number.ensures, c.split_at.ensures.front) (number_of-four (take n s) (IsOctets-take n s (λ i. omega (arith, c.type_inv.octets i))) (omega (arith, length-take n s, c.requires.few)))
