-- What is written for types of variables is read back.
use Rattle.std.proofs.Common.{ℕ, ◌+◌, ◌<◌, ◌^◌, false, [], ◌∷◌, ◌++◌, length, refl, arith}
use Rattle.std.proofs.lemmas.List.{length-append}
use Rattle.ber_values.specs.Elements as elements
use Rattle.ber_values.specs.Writing.{written}
use Rattle.ber_values.specs.Grammars.{then_in, map_in}
use Rattle.ber_values.specs.Parts.{part_in, contents_as}
use Rattle.ber_values.specs.Leaves.{boolean}
use Rattle.ber_values.proofs.Written.{contents_spelled}
use Rattle.ber_values.proofs.Pieces.{contents-few}
use Rattle.ber_values.proofs.WrittenParts.{Writes, then-ends, map-ends, part-writes}
use Rattle.ber_values.proofs.WrittenParts.{all-spelled, ends_of}
use Rattle.mms_data.specs.Types.ShapeOctets.{passed_once, sole_shape}
use Rattle.mms_data.specs.Types.ShapeWritten.{shape_octets}
use Rattle.mms_data.proofs.OfTypes.ShapesWritten.{behind_passed, sole_shape_spelled}
use Rattle.mms_services.specs.declared.access.type_of.TypeRequest.{TypeRequest}
use Rattle.mms_services.specs.declared.access.type_of.TypeResponse.{TypeResponse}
use Rattle.mms_services.specs.Access.TypesOf.{type_request, type_told, type_response}
use Rattle.mms_services.specs.Access.TypesOf.{type_request_octets, undeletable_octets}
use Rattle.mms_services.specs.Access.TypesOf.{type_response_octets, IsNamedType, IsTyped}
use Rattle.mms_services.proofs.OfAccess.SpecsWritten.{sole_variable-spelled}

pub type_request-spelled : (at : ℕ) (r : TypeRequest) → IsNamedType r
    → type_request.spells at r (type_request_octets r)
unfolding type_request type_request_octets contents_as
type_request-spelled at r named = (r.name, sole_variable-spelled at r.name named, refl)

undeletable-writes : (at : ℕ) → Writes (part_in 128 boolean) at false undeletable_octets
unfolding undeletable_octets boolean
undeletable-writes at =
    part-writes 128 boolean at false (0 ∷ []) (omega arith)
    (contents_spelled elements.boolean false tt)

pub type_response-spelled : (at : ℕ) (r : TypeResponse) → IsTyped r
    → length (type_response_octets r) < 2 ^ 32
    → type_response.spells at r (type_response_octets r)
unfolding type_response type_response_octets
type_response-spelled at r lawful few =
    let inner = shape_octets r.shape in
    let rest = written 162 inner in
    let less : length rest < 2 ^ 32 = omega (arith, few, length-append undeletable_octets rest) in
    let least = contents-few 162 inner less in
    let next = at + length undeletable_octets in
    let told = map_in type_told (part_in 162 sole_shape) in
    all-spelled _ at r (undeletable_octets ++ rest)
    (then-ends (part_in 128 boolean) (λ deletable. then_in (passed_once 161) (λ address. told)) at
    false undeletable_octets r rest (undeletable-writes at)
    (behind_passed 161 162 next told r inner refl
    (map-ends type_told (part_in 162 sole_shape) next r.shape rest
    (ends_of (part_in 162 sole_shape) next r.shape rest
    (part-writes 162 sole_shape next r.shape inner least
    (sole_shape_spelled _ r.shape lawful least))))))
