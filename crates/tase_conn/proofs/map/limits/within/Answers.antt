use Rattle.std.proofs.Common.{◌≤◌, pos, ◌≤ℤ◌, rules, arith}
use Rattle.std.proofs.lemmas.Int.{ints}
use borrow.Author.Differences.{lt-false}
use Rattle.tase_conn.proofs.OfMap.Sized.{pdu_len_most, within_same}
use Rattle.tase_conn.proofs.map.limits.within.Goals as goal

pub overflow_cast-pdu_len : goal.overflow_cast-pdu_len
overflow_cast-pdu_len c =
    let few : c.pdu_len.result ≤ 4294967295 =
    omega (arith, c.pdu_len.ensures, pdu_len_most c.args.pdu) in
    search rules

pub returns-else-pdu_len-detail-clause-value : goal.returns-else-pdu_len-detail-clause-value
returns-else-pdu_len-detail-clause-value c =
    let few : c.pdu_len.result ≤ 4294967295 =
    omega (arith, c.pdu_len.ensures, pdu_len_most c.args.pdu) in
    let less : pos c.pdu_len.result ≤ℤ c.args.detail =
    omega (arith, ints, lt-false) in
    within_same c.args.detail c.args.invoke c.args.pdu c.pdu_len.result c.pdu_len.ensures less

pub returns-else-pdu_len-detail-clause-few : goal.returns-else-pdu_len-detail-clause-few
returns-else-pdu_len-detail-clause-few c =
    let few : c.pdu_len.result ≤ 4294967295 =
    omega (arith, c.pdu_len.ensures, pdu_len_most c.args.pdu) in
    let less : pos c.pdu_len.result ≤ℤ c.args.detail =
    omega (arith, ints, lt-false) in
    omega (arith, ints, c.pdu_len.ensures, less, c.requires.detail)
