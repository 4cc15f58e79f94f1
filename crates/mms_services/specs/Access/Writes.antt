-- Values that variables are to get (ISO 9506-2, Write).
use Rattle.std.specs.Prelude.{◌≡◌, ℕ, ◌≤◌, List, [], ◌∷◌, ◌++◌, length, flat_map}
use Rattle.std.specs.Prelude.{Option, Some, None}
use Rattle.std.specs.List.{All}
use Rattle.ber_values.specs.Grammars.{Grammar, then_in, map_in}
use Rattle.ber_values.specs.Parts.{Contents, part_in, choose_in, contents_as, all_in}
use Rattle.ber_values.specs.Lists.{count_in, list_in}
use Rattle.ber_values.specs.Leaves.{octet, fixed}
use Rattle.ber_values.specs.Writing.{written}
use Rattle.mms_data.specs.Datum.{Datum}
use Rattle.mms_data.specs.DataOctets.{one_datum}
use Rattle.mms_data.specs.DataWritten.{datum_octets}
use Rattle.mms_data.specs.Lawful.{IsLawful, IsHeld}
use Rattle.mms_services.specs.declared.access.spec.Spec.{Spec}
use Rattle.mms_services.specs.declared.access.spec.Spec.TheVariants as kinds
use Rattle.mms_services.specs.declared.access.write.WriteRequest.{WriteRequest}
use Rattle.mms_services.specs.declared.access.write.WriteResponse.{WriteResponse}
use Rattle.mms_services.specs.Access.Specifications.{specification, spec_octets, IsSpec, IsNamedSpec}

abbrev pub write_asked : Spec → List Datum → WriteRequest
write_asked spec values = record { spec = spec; values = values }

abbrev pub write_answered : List (Option ℕ) → WriteResponse
write_answered results = record { results = results }

-- a value for each variable of a list, one or more for a list that is named
unfoldable pub values_of : Spec → Contents (List Datum)
values_of (kinds.List names) = count_in (length names) (length names) one_datum
values_of (kinds.Set name) = list_in 1 one_datum

unfoldable pub write_request : Contents WriteRequest
write_request = all_in
    (then_in specification (λ spec.
    map_in (write_asked spec) (part_in 160 (values_of spec))))

-- the number of an error, or that the variable was written
unfoldable pub one_written : Grammar (Option ℕ)
one_written =
    choose_in 128 (contents_as Some octet)
    (part_in 129 (contents_as (λ u. None) (fixed [])))

unfoldable pub write_response : Contents WriteResponse
write_response = contents_as write_answered (list_in 0 one_written)

-- ---- written forms

-- data, one after another
unfoldable pub values_octets : List Datum → List ℕ
values_octets values = flat_map datum_octets values

unfoldable pub write_request_octets : WriteRequest → List ℕ
write_request_octets r = spec_octets r.spec ++ written 160 (values_octets r.values)

unfoldable pub one_written_octets : Option ℕ → List ℕ
one_written_octets None = written 129 []
one_written_octets (Some reason) = written 128 (reason ∷ [])

unfoldable pub write_response_octets : WriteResponse → List ℕ
write_response_octets r = flat_map one_written_octets r.results

-- a value for each variable of a list, one or more for a list that is named
abbrev pub HasValues : Spec → ℕ → Type 0
HasValues (kinds.List names) count = count ≡ length names
HasValues (kinds.Set name) count = 1 ≤ count

-- a request that can be written
pub record IsWriteRequest (r : WriteRequest) : Type 0 where
  pub spec : IsSpec r.spec
  pub enough : HasValues r.spec (length r.values)
  pub lawful : All IsLawful r.values

-- what the type of a request keeps of its parts
pub record IsHeldWriteRequest (r : WriteRequest) : Type 0 where
  pub spec : IsNamedSpec r.spec
  pub values : All IsHeld r.values
