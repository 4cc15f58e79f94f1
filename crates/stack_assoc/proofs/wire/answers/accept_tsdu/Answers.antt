use Rattle.std.proofs.Common.{◌∙◌, arith}
use Rattle.stack_assoc.specs.Wire.Tsdus.{accept_tsdu}
use Rattle.stack_assoc.proofs.OfWire.Fits.{initiated_pdu-most, accepted-most, accept_ppdu, accept_ppdu-most}
use Rattle.stack_assoc.proofs.OfWire.Fits.{accept-fits}
use Rattle.stack_assoc.proofs.OfWire.Layered.{bounded_by, fits_as, initiated_pdu, accepted_apdu}
use Rattle.stack_assoc.proofs.OfWire.Layered.{accepted_apdu_is, accept_ppdu_is, accept_is}
use Rattle.stack_assoc.proofs.wire.answers.accept_tsdu.Goals as goal

pub pdu_octets-requires-clause-bounded : goal.pdu_octets-requires-clause-bounded
pdu_octets-requires-clause-bounded c = omega (arith, initiated_pdu-most c.args.answer.now)

pub apdu_octets-requires-clause-bounded : goal.apdu_octets-requires-clause-bounded
apdu_octets-requires-clause-bounded c = bounded_by c.as_slice.result.now
    (initiated_pdu c.args.answer.now) 86 65400
    (c.as_slice.ensures.value ∙ c.in_ok-pdu.ensures)
    (initiated_pdu-most c.args.answer.now) (omega arith)

pub ppdu_octets-requires-clause-bounded : goal.ppdu_octets-requires-clause-bounded
ppdu_octets-requires-clause-bounded c = bounded_by c.as_slice-2.result.now
    (accepted_apdu c.args.setup.now.mms c.args.answer.now) 160 65400
    (accepted_apdu_is c.args.setup.now.mms c.args.answer.now c.accepted-response.result
    c.as_slice.result.now c.in_ok-apdu.apdu.items c.as_slice-2.result.now
    c.as_slice-2.ensures.value c.in_ok-apdu.ensures c.accepted-response.ensures
    (c.as_slice.ensures.value ∙ c.in_ok-pdu.ensures))
    (accepted-most c.args.setup.now.mms c.args.answer.now) (omega arith)

pub spdu_octets-requires-clause-bounded : goal.spdu_octets-requires-clause-bounded
spdu_octets-requires-clause-bounded c = bounded_by c.as_slice-3.result.now
    (accept_ppdu c.args.setup.now c.args.answer.now) 397 65400
    (accept_ppdu_is c.args.setup.now c.args.answer.now c.in_ok-accept.accept
    c.as_slice-2.result.now c.in_ok-ppdu.ppdu.items c.as_slice-3.result.now
    c.as_slice-3.ensures.value c.in_ok-ppdu.ensures c.in_ok-accept.ensures.value
    (accepted_apdu_is c.args.setup.now.mms c.args.answer.now c.accepted-response.result
    c.as_slice.result.now c.in_ok-apdu.apdu.items c.as_slice-2.result.now
    c.as_slice-2.ensures.value c.in_ok-apdu.ensures c.accepted-response.ensures
    (c.as_slice.ensures.value ∙ c.in_ok-pdu.ensures)))
    (accept_ppdu-most c.args.setup.now c.args.answer.now c.requires.setup
    c.in_ok-accept.ensures.sized) (omega arith)

pub returns-clause-value : goal.returns-clause-value
returns-clause-value c = accept_is c.args.setup.now c.args.answer.now c.in_ok-spdu.spdu
    c.as_slice-3.result.now c.in_ok-tsdu.tsdu.items c.in_ok-tsdu.ensures c.in_ok-spdu.ensures.value
    (accept_ppdu_is c.args.setup.now c.args.answer.now c.in_ok-accept.accept
    c.as_slice-2.result.now c.in_ok-ppdu.ppdu.items c.as_slice-3.result.now
    c.as_slice-3.ensures.value c.in_ok-ppdu.ensures c.in_ok-accept.ensures.value
    (accepted_apdu_is c.args.setup.now.mms c.args.answer.now c.accepted-response.result
    c.as_slice.result.now c.in_ok-apdu.apdu.items c.as_slice-2.result.now
    c.as_slice-2.ensures.value c.in_ok-apdu.ensures c.accepted-response.ensures
    (c.as_slice.ensures.value ∙ c.in_ok-pdu.ensures)))

pub returns-clause-fits : goal.returns-clause-fits
returns-clause-fits c = fits_as c.in_ok-tsdu.tsdu.items
    (accept_tsdu c.args.setup.now c.args.answer.now)
    (accept_is c.args.setup.now c.args.answer.now c.in_ok-spdu.spdu
    c.as_slice-3.result.now c.in_ok-tsdu.tsdu.items c.in_ok-tsdu.ensures c.in_ok-spdu.ensures.value
    (accept_ppdu_is c.args.setup.now c.args.answer.now c.in_ok-accept.accept
    c.as_slice-2.result.now c.in_ok-ppdu.ppdu.items c.as_slice-3.result.now
    c.as_slice-3.ensures.value c.in_ok-ppdu.ensures c.in_ok-accept.ensures.value
    (accepted_apdu_is c.args.setup.now.mms c.args.answer.now c.accepted-response.result
    c.as_slice.result.now c.in_ok-apdu.apdu.items c.as_slice-2.result.now
    c.as_slice-2.ensures.value c.in_ok-apdu.ensures c.accepted-response.ensures
    (c.as_slice.ensures.value ∙ c.in_ok-pdu.ensures))))
    (accept-fits c.args.setup.now c.args.answer.now c.requires.setup
    c.in_ok-spdu.ensures.sized c.in_ok-accept.ensures.sized)
