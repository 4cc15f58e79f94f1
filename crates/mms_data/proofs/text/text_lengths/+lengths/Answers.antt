-- A container's length, by that of its members; a value is deeper than its members.
use Rattle.std.proofs.Common.{◌≡◌, length, sym, ap, ◌∙◌, arith}
use Rattle.plain_text.specs.Lengths.{capped_len}
use Rattle.mms_data.specs.Datum.{data_of, depth, deepest, structure, array}
use Rattle.mms_data.specs.DatumOf.{datum_of}
use Rattle.mms_data.specs.Text.Texts.{data_text, members_text}
use Rattle.mms_data.proofs.OfText.Spelled.{member_shallow}
use Rattle.mms_data.proofs.OfText.TextLengths.{bracketed-length}
use Rattle.mms_data.proofs.text.text_lengths.+lengths.Goals as goal

pub members_len-text_len-requires : goal.members_len-text_len-requires
members_len-text_len-requires t c =
    let items = c.as_slice-member-items.result.now in
    let member = c.member-item.result in
    let shallow = member_shallow items c.loop-index.index member c.loop-index-test.true in (
      omega (
        arith,
        c.decreases,
        shallow,
        ap depth c.member-item.is,
        ap (λ ds. deepest (data_of ds)) c.as_slice-member-items.ensures,
      ),
      tt,
    )

pub text_len-returns-in-Structure : goal.text_len-returns-in-Structure
text_len-returns-in-Structure t c =
    let ds = data_of c.in-Structure.members in
    let e : structure ds ≡ c.args.value.now = sym (ap datum_of c.in-Structure.is)
    ∙ sym c.kind.ensures in
    c.add_len.ensures
    ∙ bracketed-length 123 125 (members_text ds) c.members_len.result c.members_len.ensures
    ∙ ap (λ d. capped_len (length (data_text d))) e

pub text_len-returns-in-Array : goal.text_len-returns-in-Array
text_len-returns-in-Array t c =
    let ds = data_of c.in-Array.members in
    let e : array ds ≡ c.args.value.now = sym (ap datum_of c.in-Array.is) ∙ sym c.kind.ensures in
    c.add_len-in-Array.ensures
    ∙ bracketed-length 91 93 (members_text ds) c.members_len-in-Array.result
    c.members_len-in-Array.ensures
    ∙ ap (λ d. capped_len (length (data_text d))) e
