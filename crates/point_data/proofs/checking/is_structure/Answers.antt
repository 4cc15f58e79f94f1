use Rattle.std.proofs.Common.{◌≡◌, ◌∙◌, sym, ap}
use Rattle.mms_data.specs.Datum.{structure, data_of}
use Rattle.mms_data.specs.DatumOf.{datum_of}
use Rattle.point_data.specs.Parts.{structure_members}
use Rattle.point_data.proofs.Members.{list_of-data_of}
use Rattle.point_data.proofs.checking.is_structure.Goals as goal

pub returns-in-Structure : goal.returns-in-Structure
returns-in-Structure c =
    let own : c.args.datum.now ≡ structure (data_of c.in-Structure.members) = c.kind.ensures
    ∙ ap datum_of c.in-Structure.is in (
      λ t. ap (λ ds. structure (data_of ds)) (c.are_components.ensures.0 t) ∙ sym own,
      λ e. c.are_components.ensures.1
          (sym (list_of-data_of _) ∙ ap structure_members (e ∙ own)
          ∙ list_of-data_of c.in-Structure.members),
    )
