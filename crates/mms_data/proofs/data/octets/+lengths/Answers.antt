-- A container's length, by that of its members.
use Rattle.std.proofs.Common.{◌≡◌, ◌∙◌, sym, ap}
use Rattle.ber_values.proofs.Capped.{capped-written}
use Rattle.mms_data.specs.Datum.{structure, array, data_of}
use Rattle.mms_data.specs.DatumOf.{datum_of}
use Rattle.mms_data.specs.DataWritten.{members_octets, datum_len}
use Rattle.mms_data.proofs.data.octets.+lengths.Goals as goal

pub len_of-returns-in-Structure : goal.len_of-returns-in-Structure
len_of-returns-in-Structure t c =
    let ds = data_of c.in-Structure.members in
    let e : structure ds ≡ c.args.value.now = sym (ap datum_of c.in-Structure.is) ∙ c.value.view_is in
    c.part_len.ensures
    ∙ capped-written 162 c.len_of_members.result (members_octets ds) c.len_of_members.ensures
    ∙ ap datum_len e

pub len_of-returns-in-Array : goal.len_of-returns-in-Array
len_of-returns-in-Array t c =
    let ds = data_of c.in-Array.members in
    let e : array ds ≡ c.args.value.now = sym (ap datum_of c.in-Array.is) ∙ c.value.view_is in
    c.part_len-in-Array.ensures
    ∙ capped-written 161 c.len_of_members-in-Array.result (members_octets ds)
    c.len_of_members-in-Array.ensures
    ∙ ap datum_len e
