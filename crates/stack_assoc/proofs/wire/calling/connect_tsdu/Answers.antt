use Rattle.std.proofs.Common.{arith}
use Rattle.stack_assoc.specs.Wire.Tsdus.{own_parameters, connect_tsdu}
use Rattle.stack_assoc.proofs.OfWire.Fits.{initiate_pdu-most, own_apdu-most, own_ppdu, own_ppdu-most}
use Rattle.stack_assoc.proofs.OfWire.Fits.{connect-fits}
use Rattle.stack_assoc.proofs.OfWire.Layered.{bounded_by, fits_as, own_pdu, own_apdu, own_pdu_is}
use Rattle.stack_assoc.proofs.OfWire.Layered.{own_apdu_is, own_ppdu_is, connect_is}
use Rattle.stack_assoc.proofs.wire.calling.connect_tsdu.Goals as goal

pub pdu_octets-requires-clause-bounded : goal.pdu_octets-requires-clause-bounded
pdu_octets-requires-clause-bounded c = omega (arith, initiate_pdu-most c.own_parameters.result)

pub apdu_octets-requires-clause-bounded : goal.apdu_octets-requires-clause-bounded
apdu_octets-requires-clause-bounded c = bounded_by c.as_slice.result.now own_pdu 86 65400
    (own_pdu_is c.own_parameters.result c.in_ok-pdu.pdu.items c.as_slice.result.now
    c.as_slice.ensures.value c.in_ok-pdu.ensures c.own_parameters.ensures)
    (initiate_pdu-most own_parameters) (omega arith)

pub ppdu_octets-requires-clause-bounded : goal.ppdu_octets-requires-clause-bounded
ppdu_octets-requires-clause-bounded c = bounded_by c.as_slice-2.result.now
    (own_apdu c.args.title.now) 177 65400
    (own_apdu_is c.args.title.now c.in_ok-request.request c.as_slice.result.now
    c.in_ok-apdu.apdu.items c.as_slice-2.result.now c.as_slice-2.ensures.value
    c.in_ok-apdu.ensures c.in_ok-request.ensures.value
    (own_pdu_is c.own_parameters.result c.in_ok-pdu.pdu.items c.as_slice.result.now
    c.as_slice.ensures.value c.in_ok-pdu.ensures c.own_parameters.ensures))
    (own_apdu-most c.args.title.now c.in_ok-request.ensures.titled) (omega arith)

pub spdu_octets-requires-clause-bounded : goal.spdu_octets-requires-clause-bounded
spdu_octets-requires-clause-bounded c = bounded_by c.as_slice-3.result.now
    (own_ppdu c.args.title.now) 307 65400
    (own_ppdu_is c.args.title.now c.in_ok-connect.connect c.as_slice-2.result.now
    c.in_ok-ppdu.ppdu.items c.as_slice-3.result.now c.as_slice-3.ensures.value
    c.in_ok-ppdu.ensures c.in_ok-connect.ensures
    (own_apdu_is c.args.title.now c.in_ok-request.request c.as_slice.result.now
    c.in_ok-apdu.apdu.items c.as_slice-2.result.now c.as_slice-2.ensures.value
    c.in_ok-apdu.ensures c.in_ok-request.ensures.value
    (own_pdu_is c.own_parameters.result c.in_ok-pdu.pdu.items c.as_slice.result.now
    c.as_slice.ensures.value c.in_ok-pdu.ensures c.own_parameters.ensures)))
    (own_ppdu-most c.args.title.now c.in_ok-request.ensures.titled) (omega arith)

pub returns-clause-value : goal.returns-clause-value
returns-clause-value c = connect_is c.args.title.now c.in_ok-spdu.spdu c.as_slice-3.result.now
    c.in_ok-tsdu.tsdu.items c.in_ok-tsdu.ensures c.in_ok-spdu.ensures
    (own_ppdu_is c.args.title.now c.in_ok-connect.connect c.as_slice-2.result.now
    c.in_ok-ppdu.ppdu.items c.as_slice-3.result.now c.as_slice-3.ensures.value
    c.in_ok-ppdu.ensures c.in_ok-connect.ensures
    (own_apdu_is c.args.title.now c.in_ok-request.request c.as_slice.result.now
    c.in_ok-apdu.apdu.items c.as_slice-2.result.now c.as_slice-2.ensures.value
    c.in_ok-apdu.ensures c.in_ok-request.ensures.value
    (own_pdu_is c.own_parameters.result c.in_ok-pdu.pdu.items c.as_slice.result.now
    c.as_slice.ensures.value c.in_ok-pdu.ensures c.own_parameters.ensures)))

pub returns-clause-fits : goal.returns-clause-fits
returns-clause-fits c = fits_as c.in_ok-tsdu.tsdu.items (connect_tsdu c.args.title.now)
    (connect_is c.args.title.now c.in_ok-spdu.spdu c.as_slice-3.result.now
    c.in_ok-tsdu.tsdu.items c.in_ok-tsdu.ensures c.in_ok-spdu.ensures
    (own_ppdu_is c.args.title.now c.in_ok-connect.connect c.as_slice-2.result.now
    c.in_ok-ppdu.ppdu.items c.as_slice-3.result.now c.as_slice-3.ensures.value
    c.in_ok-ppdu.ensures c.in_ok-connect.ensures
    (own_apdu_is c.args.title.now c.in_ok-request.request c.as_slice.result.now
    c.in_ok-apdu.apdu.items c.as_slice-2.result.now c.as_slice-2.ensures.value
    c.in_ok-apdu.ensures c.in_ok-request.ensures.value
    (own_pdu_is c.own_parameters.result c.in_ok-pdu.pdu.items c.as_slice.result.now
    c.as_slice.ensures.value c.in_ok-pdu.ensures c.own_parameters.ensures))))
    (connect-fits c.args.title.now c.in_ok-request.ensures.titled)
