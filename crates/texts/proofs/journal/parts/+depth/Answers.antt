-- A value is deeper than its members, and spelled where they are.
use Rattle.std.proofs.Common.{◌∙◌, ap, arith}
use Rattle.mms_data.specs.Datum.{depth}
use Rattle.mms_data.specs.DatumOf.{datum_of}
use Rattle.mms_data.proofs.OfText.Spelled.{member_shallow}
use Rattle.texts.proofs.OfJournal.Kept.{IsSpelled, one_more, all_kept, structure_spelled}
use Rattle.texts.proofs.OfJournal.Kept.{array_spelled}
use Rattle.texts.proofs.journal.parts.+depth.Goals as goal

pub are_textual-is_textual-requires : goal.are_textual-is_textual-requires
are_textual-is_textual-requires t c =
    let shallow = member_shallow c.args.values.now c.loop-value.value-index c.value-item.result
    c.loop-value-test.true in
    (omega (arith, c.decreases, shallow, ap depth c.value-item.is), tt)

pub are_textual-loop-value-preserved : goal.are_textual-loop-value-preserved
are_textual-loop-value-preserved t c =
    one_more IsSpelled c.args.values.now c.loop-value.value-index c.value-item.result
    c.loop-value-test.true c.value-item.is c.is_textual.ensures c.loop-value.invariant

pub are_textual-returns : goal.are_textual-returns
are_textual-returns t c =
    all_kept IsSpelled c.args.values.now c.loop-value.value-index c.loop-value-test.false
    c.loop-value.invariant

pub is_textual-returns-in-Structure : goal.is_textual-returns-in-Structure
is_textual-returns-in-Structure t c =
    structure_spelled c.args.value.now c.in-Structure.members
    (c.kind.ensures ∙ ap datum_of c.in-Structure.is)
    (rw c.as_slice-in-Structure.ensures at c.are_textual.ensures)

pub is_textual-returns-in-Array : goal.is_textual-returns-in-Array
is_textual-returns-in-Array t c =
    array_spelled c.args.value.now c.in-Array.members
    (c.kind.ensures ∙ ap datum_of c.in-Array.is)
    (rw c.as_slice-in-Array.ensures at c.are_textual-in-Array.ensures)
