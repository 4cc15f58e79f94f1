-- What is written for requests and responses of Read is read back.
use Rattle.std.proofs.Common.{◌≡◌, ℕ, suc, ◌+◌, ◌<◌, ◌^◌, true, false, Bool, List, [], ◌∷◌, ◌++◌, length, flat_map, Option, Some, None, refl, ap, subst, arith}
use Rattle.std.proofs.lemmas.List.{length-append}
use Rattle.std.specs.List.{All}
use Rattle.ber_values.specs.Writing.{written, boolean_octets}
use Rattle.ber_values.specs.Grammars.{taken, map_in, has_tag}
use Rattle.ber_values.specs.Parts.{part_in, maybe_in}
use Rattle.ber_values.specs.Lists.{list_in, count_in}
use Rattle.ber_values.specs.Leaves.{boolean}
use Rattle.ber_values.specs.Elements as elements
use Rattle.ber_values.proofs.Written.{contents_spelled}
use Rattle.ber_values.proofs.WrittenParts.{ends_of, map-ends, part-writes, all-spelled, WritesEach, WriteAll, list-spelled, count-spelled, maybe-none, maybe-some, before-ends}
use Rattle.mms_data.specs.Datum as data_kinds
use Rattle.mms_data.specs.Datum.{Datum}
use Rattle.mms_data.specs.declared.outcome.Outcome.{Outcome}
use Rattle.mms_data.specs.declared.outcome.Outcome.TheVariants.{Good, Fail}
use Rattle.mms_data.specs.OutcomeOctets.{one_outcome, outcome_octets, IsLawfulOutcome, IsHeldOutcome}
use Rattle.mms_data.specs.DataWritten.{datum_octets}
use Rattle.mms_data.proofs.OutcomeRead.{one_outcome_begins}
use Rattle.mms_services.specs.declared.access.spec.Spec.{Spec}
use Rattle.mms_services.specs.declared.access.read.ReadRequest.{ReadRequest}
use Rattle.mms_services.specs.declared.access.read.ReadResponse.{ReadResponse}
use Rattle.mms_services.specs.Access.Specifications.{sole_spec, spec_octets, IsNamedSpec}
use Rattle.mms_services.specs.Access.Reads.{read_asked, read_answered, echo_in, read_request, read_response, echo_octets, read_request_octets, echoed_octets, outcomes_octets, read_response_octets, IsSpecIfAny, IsNamedIfAny, IsReadRequest, IsReadResponse, IsHeldReadResponse}
use Rattle.ber_values.proofs.Pieces.{contents-few}
use Rattle.mms_services.proofs.OfAccess.SpecsWritten.{sole_spec-spelled}

-- ---- outcomes

-- data have some octets
pub datum-some : (d : Datum) → 0 < length (datum_octets d)
datum-some (data_kinds.boolean b) = omega arith
datum-some (data_kinds.integer z) = omega arith
datum-some (data_kinds.unsigned n) = omega arith
datum-some (data_kinds.bits b) = omega arith
datum-some (data_kinds.real o) = omega arith
datum-some (data_kinds.octets o) = omega arith
datum-some (data_kinds.text o) = omega arith
datum-some (data_kinds.structure ds) = omega arith
datum-some (data_kinds.array ds) = omega arith

outcome-some : (o : Outcome) → 0 < length (outcome_octets o)
outcome-some (Good d) = datum-some d
outcome-some (Fail reason) = omega arith

outcome-writes : (o : Outcome) → IsLawfulOutcome o → IsHeldOutcome o → length (outcome_octets o) < 2 ^ 32 → WritesEach one_outcome outcome_octets o
outcome-writes o lawful held few = record { some = outcome-some o; writes = λ at. one_outcome_begins o lawful held few at }

pub outcomes-write : (os : List Outcome) → All IsLawfulOutcome os → All IsHeldOutcome os → length (flat_map outcome_octets os) < 2 ^ 32 → WriteAll one_outcome outcome_octets os
outcomes-write [] lawful held few = tt
outcomes-write (o ∷ os) lawful held few =
    let len = length-append (outcome_octets o) (flat_map outcome_octets os) in (
      outcome-writes o (lawful 0 o (omega arith)) (held 0 o (omega arith)) (omega (arith, few, len)),
      outcomes-write os (λ k d lt. lawful (suc k) d (omega (arith, lt))) (λ k d lt. held (suc k) d (omega (arith, lt))) (omega (arith, few, len)),
    )

-- any number of outcomes, and just so many
pub outcomes-spelled : (at : ℕ) (os : List Outcome) → All IsLawfulOutcome os → All IsHeldOutcome os → length (outcomes_octets os) < 2 ^ 32 → (list_in 0 one_outcome).spells at os (outcomes_octets os)
unfolding outcomes_octets
outcomes-spelled at os lawful held few = list-spelled one_outcome outcome_octets 0 at os (omega arith) (outcomes-write os lawful held few)

pub outcomes-counted : (at n : ℕ) (os : List Outcome) → length os ≡ n → All IsLawfulOutcome os → All IsHeldOutcome os → length (outcomes_octets os) < 2 ^ 32 → (count_in n n one_outcome).spells at os (outcomes_octets os)
unfolding outcomes_octets
outcomes-counted at n os count lawful held few = count-spelled one_outcome outcome_octets n n at os (omega (arith, count)) (omega (arith, count)) (outcomes-write os lawful held few)

-- ---- requests

echo-begins : (echo : Bool) (at : ℕ) (rest : List ℕ) → has_tag 128 rest ≡ false → echo_in.begins at (echo_octets echo ++ rest) (taken echo (at + length (echo_octets echo)) rest)
unfolding echo_in echo_octets map_in boolean
echo-begins true at rest other =
    let octets = written 128 (boolean_octets true) in
    let end = at + length octets in (
      taken (Some true) end rest,
      maybe-some 128 boolean at true (octets ++ rest) rest end refl
          (part-writes 128 boolean at true (boolean_octets true) (omega arith) (contents_spelled elements.boolean true tt) rest),
      refl,
    )
echo-begins false at rest other =
    let same : at + 0 ≡ at = omega arith in (
      taken None at rest,
      maybe-none 128 boolean at rest other,
      ap (λ (n : ℕ). taken false n rest) same,
    )

-- what is written for a request is the request
pub read_request-spelled : (at : ℕ) (r : ReadRequest) → IsReadRequest r → IsNamedSpec r.spec → length (read_request_octets r) < 2 ^ 32 → read_request.spells at r (read_request_octets r)
unfolding read_request read_request_octets
read_request-spelled at r some named few =
    let one = echo_octets r.echo in
    let spec = spec_octets r.spec in
    let two = written 161 spec in
    let next = at + length one in
    let small : length two < 2 ^ 32 = omega (arith, few, length-append one two) in
    let inner = contents-few 161 spec small in
    all-spelled _ at r (one ++ two)
    (before-ends echo_in (λ echo. map_in (read_asked echo) (part_in 161 sole_spec)) at r.echo one r two
    (echo-begins r.echo at two refl)
    (map-ends (read_asked r.echo) (part_in 161 sole_spec) next r.spec two
    (ends_of (part_in 161 sole_spec) next r.spec two
    (part-writes 161 sole_spec next r.spec spec inner (sole_spec-spelled _ r.spec some named inner)))))

-- ---- responses

echoed-begins : (s : Option Spec) (at : ℕ) (rest : List ℕ) → IsSpecIfAny s → IsNamedIfAny s → length (echoed_octets s) < 2 ^ 32 → has_tag 160 rest ≡ false → (maybe_in 160 sole_spec).begins at (echoed_octets s ++ rest) (taken s (at + length (echoed_octets s)) rest)
unfolding echoed_octets
echoed-begins None at rest some named few other =
    let same : at ≡ at + 0 = omega arith in
    subst (λ (n : ℕ). (maybe_in 160 sole_spec).begins at rest (taken None n rest)) same (maybe-none 160 sole_spec at rest other)
echoed-begins (Some s) at rest some named few other =
    let octets = written 160 (spec_octets s) in
    let inner = contents-few 160 (spec_octets s) few in
    maybe-some 160 sole_spec at s (octets ++ rest) rest (at + length octets) refl
    (part-writes 160 sole_spec at s (spec_octets s) inner (sole_spec-spelled _ s some named inner) rest)

-- what is written for a response is the response
pub read_response-spelled : (at : ℕ) (r : ReadResponse) → IsReadResponse r → IsHeldReadResponse r → length (read_response_octets r) < 2 ^ 32 → read_response.spells at r (read_response_octets r)
unfolding read_response read_response_octets
read_response-spelled at r is held few =
    let one = echoed_octets r.spec in
    let results = outcomes_octets r.results in
    let two = written 161 results in
    let next = at + length one in
    let front : length one < 2 ^ 32 = omega (arith, few, length-append one two) in
    let small : length two < 2 ^ 32 = omega (arith, few, length-append one two) in
    let inner = contents-few 161 results small in
    all-spelled _ at r (one ++ two)
    (before-ends (maybe_in 160 sole_spec) (λ spec. map_in (read_answered spec) (part_in 161 (list_in 0 one_outcome))) at r.spec one r two
    (echoed-begins r.spec at two is.spec held.spec front refl)
    (map-ends (read_answered r.spec) (part_in 161 (list_in 0 one_outcome)) next r.results two
    (ends_of (part_in 161 (list_in 0 one_outcome)) next r.results two
    (part-writes 161 (list_in 0 one_outcome) next r.results results inner (outcomes-spelled _ r.results is.lawful held.results inner)))))
