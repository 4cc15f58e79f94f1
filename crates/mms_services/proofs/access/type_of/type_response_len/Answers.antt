use Rattle.std.proofs.Common.{◌∙◌, refl}
use Rattle.ber_values.specs.Writing.{written, length_octets}
use Rattle.ber_values.proofs.Capped.{capped-written}
use Rattle.ber_values.proofs.Pieces.{capped-both}
use Rattle.mms_data.specs.Types.ShapeWritten.{shape_octets}
use Rattle.mms_services.specs.Access.TypesOf.{undeletable_octets, type_response_octets}
use Rattle.mms_services.proofs.access.type_of.type_response_len.Goals as goal

pub returns : goal.returns
unfolding type_response_octets undeletable_octets length_octets
returns c =
    let shape = shape_octets c.args.response.now.shape in
    c.add_len.ensures ∙ capped-both 3 c.part_len.result undeletable_octets (written 162 shape) refl
    (c.part_len.ensures ∙ capped-written 162 c.shape_len.result shape c.shape_len.ensures)
