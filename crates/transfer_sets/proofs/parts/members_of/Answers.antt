use Rattle.std.proofs.Common.{◌∙◌, sym, ap}
use Rattle.mms_data.specs.DatumOf.{datum_of}
use Rattle.point_data.specs.Parts.{structure_members}
use Rattle.point_data.proofs.Members.{list_of-data_of}
use Rattle.transfer_sets.proofs.parts.members_of.Goals as goal

pub returns-in-Structure : goal.returns-in-Structure
returns-in-Structure c =
    c.as_slice.ensures
    ∙ sym (ap structure_members (c.kind.ensures ∙ ap datum_of c.in-Structure.is)
    ∙ list_of-data_of c.in-Structure.members)
