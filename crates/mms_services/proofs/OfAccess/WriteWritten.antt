-- What is written for requests and responses of Write is read back.
use Rattle.std.proofs.Common.{ℕ, suc, ◌+◌, ◌<◌, ◌^◌, List, [], ◌∷◌, ◌++◌, length, flat_map, Option, Some, None, refl, arith}
use Rattle.std.proofs.lemmas.List.{length-append}
use Rattle.std.specs.List.{All}
use Rattle.ber_values.specs.Writing.{written}
use Rattle.ber_values.specs.Grammars.{map_in}
use Rattle.ber_values.specs.Parts.{part_in, contents_as}
use Rattle.ber_values.specs.Leaves.{octet, fixed}
use Rattle.ber_values.proofs.Grammars.{choose-written, choose-other}
use Rattle.ber_values.proofs.WrittenParts.{ends_of, then-ends, map-ends, part-writes, all-spelled, WritesEach, WriteAll, list-spelled, count-spelled}
use Rattle.mms_data.specs.Datum.{Datum}
use Rattle.mms_data.specs.DataOctets.{one_datum}
use Rattle.mms_data.specs.DataWritten.{datum_octets}
use Rattle.mms_data.specs.Lawful.{IsLawful, IsHeld}
use Rattle.mms_data.proofs.DataWritten.{one_datum_begins}
use Rattle.mms_services.specs.declared.access.spec.Spec.{Spec}
use Rattle.mms_services.specs.declared.access.spec.Spec.TheVariants as kinds
use Rattle.mms_services.specs.declared.access.write.WriteRequest.{WriteRequest}
use Rattle.mms_services.specs.declared.access.write.WriteResponse.{WriteResponse}
use Rattle.mms_services.specs.Access.Specifications.{specification, spec_octets}
use Rattle.mms_services.specs.Access.Writes.{write_asked, values_of, write_request, one_written, write_response, values_octets, write_request_octets, one_written_octets, write_response_octets, HasValues, IsWriteRequest, IsHeldWriteRequest}
use Rattle.ber_values.proofs.Pieces.{contents-few}
use Rattle.mms_services.proofs.OfAccess.SpecsWritten.{spec-writes}
use Rattle.mms_services.proofs.OfAccess.ReadWritten.{datum-some}

-- ---- requests

data-write : (ds : List Datum) → All IsLawful ds → All IsHeld ds → length (flat_map datum_octets ds) < 2 ^ 32 → WriteAll one_datum datum_octets ds
data-write [] lawful held few = tt
data-write (d ∷ ds) lawful held few =
    let len = length-append (datum_octets d) (flat_map datum_octets ds) in (
      record { some = datum-some d; writes = λ at. one_datum_begins d (lawful 0 d (omega arith)) (held 0 d (omega arith)) (omega (arith, few, len)) at },
      data-write ds (λ k x lt. lawful (suc k) x (omega (arith, lt))) (λ k x lt. held (suc k) x (omega (arith, lt))) (omega (arith, few, len)),
    )

-- as many values as are wanted
values-spelled : (at : ℕ) (s : Spec) (ds : List Datum) → HasValues s (length ds) → WriteAll one_datum datum_octets ds → (values_of s).spells at ds (values_octets ds)
unfolding values_of values_octets
values-spelled at (kinds.List names) ds count each = count-spelled one_datum datum_octets (length names) (length names) at ds (omega (arith, count)) (omega (arith, count)) each
values-spelled at (kinds.Set name) ds some each = list-spelled one_datum datum_octets 1 at ds some each

values-write : (ds : List Datum) → All IsLawful ds → All IsHeld ds → length (values_octets ds) < 2 ^ 32 → WriteAll one_datum datum_octets ds
unfolding values_octets
values-write ds lawful held few = data-write ds lawful held few

-- what is written for a request is the request
pub write_request-spelled : (at : ℕ) (r : WriteRequest) → IsWriteRequest r → IsHeldWriteRequest r → length (write_request_octets r) < 2 ^ 32 → write_request.spells at r (write_request_octets r)
unfolding write_request write_request_octets
write_request-spelled at r is held few =
    let one = spec_octets r.spec in
    let values = values_octets r.values in
    let two = written 160 values in
    let next = at + length one in
    let front : length one < 2 ^ 32 = omega (arith, few, length-append one two) in
    let small : length two < 2 ^ 32 = omega (arith, few, length-append one two) in
    let inner = contents-few 160 values small in
    all-spelled _ at r (one ++ two)
    (then-ends specification (λ spec. map_in (write_asked spec) (part_in 160 (values_of spec))) at r.spec one r two
    (spec-writes at r.spec is.spec held.spec front)
    (map-ends (write_asked r.spec) (part_in 160 (values_of r.spec)) next r.values two
    (ends_of (part_in 160 (values_of r.spec)) next r.values two
    (part-writes 160 (values_of r.spec) next r.values values inner
    (values-spelled _ r.spec r.values is.enough (values-write r.values is.lawful held.values inner))))))

-- ---- responses

written-writes : (w : Option ℕ) → WritesEach one_written one_written_octets w
unfolding one_written one_written_octets contents_as octet fixed
written-writes None = record {
  some = omega arith;
  writes = λ at rest. choose-other 128 _ _ at _ _ refl (part-writes 129 _ at None [] (omega arith) (tt, refl, refl) rest);
}
written-writes (Some reason) = record {
  some = omega arith;
  writes = λ at rest. choose-written 128 _ _ at (Some reason) (reason ∷ []) rest (omega arith) (reason, refl, refl);
}

all_written : (ws : List (Option ℕ)) → WriteAll one_written one_written_octets ws
all_written [] = tt
all_written (w ∷ ws) = (written-writes w, all_written ws)

-- what is written for a response is the response
pub write_response-spelled : (at : ℕ) (r : WriteResponse) → write_response.spells at r (write_response_octets r)
unfolding write_response write_response_octets contents_as
write_response-spelled at r = (r.results, list-spelled one_written one_written_octets 0 at r.results (omega arith) (all_written r.results), refl)
