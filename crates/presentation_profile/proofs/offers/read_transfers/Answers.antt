use Rattle.std.proofs.Common.{◌<◌, length, sym}
use Rattle.std.proofs.lemmas.Result.{err_from_is_err_and}
use Rattle.ber_values.proofs.Lists.{some_left, none_left}
use Rattle.presentation_profile.proofs.Transfers.{names-begin, names-more, names-fail, names-end}
use Rattle.presentation_profile.proofs.offers.read_transfers.Goals as goal

pub loop-rest-init : goal.loop-rest-init
loop-rest-init c = names-begin c.args.part.now.head c.args.part.now.contents.now c.requires

pub returns : goal.returns
returns c = sym (names-end c.args.part.now.head c.args.part.now.contents.now c.loop-rest.ber c.loop-rest.at c.loop-rest.rest.now (none_left c.loop-rest.rest.now c.is_empty.result c.is_empty.ensures c.loop-rest-test.false) c.loop-rest.invariant)

pub returns-in_err-is_ber : goal.returns-in_err-is_ber
returns-in_err-is_ber c =
    let p = err_from_is_err_and c.from_residual.result c.from_residual.ensures.1 in
    let rest = c.loop-rest.rest.now in
    let some : 0 < length rest = some_left rest c.is_empty.result c.is_empty.ensures c.loop-rest-test.true in
    rw (p.1, p.2) (sym (names-fail c.args.part.now.head c.args.part.now.contents.now c.loop-rest.ber c.loop-rest.at rest c.in_err-is_ber.field-0.0 some c.in_err-is_ber.ensures.exact c.loop-rest.invariant))

pub loop-rest-preserved : goal.loop-rest-preserved
loop-rest-preserved c =
    let rest = c.loop-rest.rest.now in
    let some : 0 < length rest = some_left rest c.is_empty.result c.is_empty.ensures c.loop-rest-test.true in
    let read = c.in_ok-is_ber.ensures.exact in
    let within = c.in_ok-is_ber.ensures.within in
    rw (c.octets_from-rest.ensures, read.1) (names-more c.args.part.now.head c.args.part.now.contents.now c.loop-rest.ber c.loop-rest.at rest read.0 c.in_ok-is_ber.next some read.2 within.0 within.1 c.loop-rest.invariant)
