use Rattle.std.proofs.Common.{◌≤◌, pos, ◌≤ℤ◌, arith}
use Rattle.std.proofs.lemmas.Int.{ints}
use borrow.Author.Differences.{lt-false}
use Rattle.tase_conn.proofs.OfMap.Sized.{pdu_len_most}
use Rattle.tase_verify.proofs.association.saying.is_too_long.Goals as goal

pub returns-else-pdu_len-detail-clause-few : goal.returns-else-pdu_len-detail-clause-few
returns-else-pdu_len-detail-clause-few c = λ same most.
    let few : c.pdu_len.result ≤ 4294967295 =
    omega (arith, c.pdu_len.ensures, pdu_len_most c.args.pdu.now) in
    let less : pos c.pdu_len.result ≤ℤ c.args.detail = omega (arith, ints, lt-false) in
    omega (arith, ints, c.pdu_len.ensures, less, most)
