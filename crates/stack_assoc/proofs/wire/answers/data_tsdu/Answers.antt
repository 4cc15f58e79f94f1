use Rattle.std.proofs.Common.{arith}
use Rattle.stack_assoc.specs.Wire.Tsdus.{data_tsdu}
use Rattle.stack_assoc.proofs.OfWire.Fits.{data_ppdu-most, data-fits}
use Rattle.stack_assoc.proofs.OfWire.Layered.{bounded_by, fits_as, data_ppdu, data_ppdu_is, data_is}
use Rattle.stack_assoc.proofs.wire.answers.data_tsdu.Goals as goal

pub spdu_octets-requires-clause-bounded : goal.spdu_octets-requires-clause-bounded
spdu_octets-requires-clause-bounded c = bounded_by c.as_slice-2.result.now
    (data_ppdu c.args.mms c.args.pdu.now) 65032 65400
    (data_ppdu_is c.args.mms c.args.pdu.now c.in_ok-body.body.items
    c.as_slice.result.now c.in_ok-ppdu.ppdu.items c.as_slice-2.result.now
    c.as_slice-2.ensures.value c.in_ok-ppdu.ensures c.as_slice.ensures.value c.in_ok-body.ensures)
    (data_ppdu-most c.args.mms c.args.pdu.now c.requires.bounded) (omega arith)

pub returns-clause-value : goal.returns-clause-value
returns-clause-value c = data_is c.args.mms c.args.pdu.now c.as_slice-2.result.now
    c.in_ok-tsdu.tsdu.items c.in_ok-tsdu.ensures
    (data_ppdu_is c.args.mms c.args.pdu.now c.in_ok-body.body.items
    c.as_slice.result.now c.in_ok-ppdu.ppdu.items c.as_slice-2.result.now
    c.as_slice-2.ensures.value c.in_ok-ppdu.ensures c.as_slice.ensures.value c.in_ok-body.ensures)

pub returns-clause-fits : goal.returns-clause-fits
returns-clause-fits c = fits_as c.in_ok-tsdu.tsdu.items (data_tsdu c.args.mms c.args.pdu.now)
    (data_is c.args.mms c.args.pdu.now c.as_slice-2.result.now c.in_ok-tsdu.tsdu.items
    c.in_ok-tsdu.ensures
    (data_ppdu_is c.args.mms c.args.pdu.now c.in_ok-body.body.items
    c.as_slice.result.now c.in_ok-ppdu.ppdu.items c.as_slice-2.result.now
    c.as_slice-2.ensures.value c.in_ok-ppdu.ensures c.as_slice.ensures.value c.in_ok-body.ensures))
    (data-fits c.args.mms c.args.pdu.now c.requires.bounded)
