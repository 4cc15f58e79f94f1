-- Values of variables that are asked for (ISO 9506-2, Read).
use Rattle.std.specs.Prelude.{ℕ, Bool, true, false, List, [], ◌++◌, flat_map, Option, Some, None}
use Rattle.std.specs.List.{All}
use Rattle.ber_values.specs.Grammars.{Grammar, then_in, map_in}
use Rattle.ber_values.specs.Parts.{Contents, part_in, maybe_in, all_in}
use Rattle.ber_values.specs.Lists.{list_in}
use Rattle.ber_values.specs.Leaves.{boolean}
use Rattle.ber_values.specs.Writing.{written, boolean_octets}
use Rattle.mms_data.specs.declared.outcome.Outcome.{Outcome}
use Rattle.mms_data.specs.OutcomeOctets.{one_outcome, outcome_octets, IsLawfulOutcome}
use Rattle.mms_data.specs.OutcomeOctets.{IsHeldOutcome}
use Rattle.mms_services.specs.declared.access.spec.Spec.{Spec}
use Rattle.mms_services.specs.declared.access.read.ReadRequest.{ReadRequest}
use Rattle.mms_services.specs.declared.access.read.ReadResponse.{ReadResponse}
use Rattle.mms_services.specs.Access.Specifications.{sole_spec, spec_octets, IsSpec, IsNamedSpec}

-- no echo where nothing is said
abbrev pub echo_of : Option Bool → Bool
echo_of None = false
echo_of (Some echo) = echo

abbrev pub read_asked : Bool → Spec → ReadRequest
read_asked echo spec = record { echo = echo; spec = spec }

abbrev pub read_answered : Option Spec → List Outcome → ReadResponse
read_answered spec results = record { spec = spec; results = results }

-- whether the answer is to repeat the specification
unfoldable pub echo_in : Grammar Bool
echo_in = map_in echo_of (maybe_in 128 boolean)

unfoldable pub read_request : Contents ReadRequest
read_request = all_in
    (then_in echo_in (λ echo.
    map_in (read_asked echo) (part_in 161 sole_spec)))

unfoldable pub read_response : Contents ReadResponse
read_response = all_in
    (then_in (maybe_in 160 sole_spec) (λ spec.
    map_in (read_answered spec) (part_in 161 (list_in 0 one_outcome))))

-- ---- written forms

-- an echo is written only where it is wanted
unfoldable pub echo_octets : Bool → List ℕ
echo_octets true = written 128 (boolean_octets true)
echo_octets false = []

unfoldable pub read_request_octets : ReadRequest → List ℕ
read_request_octets r = echo_octets r.echo ++ written 161 (spec_octets r.spec)

unfoldable pub echoed_octets : Option Spec → List ℕ
echoed_octets None = []
echoed_octets (Some spec) = written 160 (spec_octets spec)

-- outcomes, one after another
unfoldable pub outcomes_octets : List Outcome → List ℕ
outcomes_octets results = flat_map outcome_octets results

unfoldable pub read_response_octets : ReadResponse → List ℕ
read_response_octets r = echoed_octets r.spec ++ written 161 (outcomes_octets r.results)

abbrev pub IsSpecIfAny : Option Spec → Type 0
IsSpecIfAny None = Unit {0}
IsSpecIfAny (Some spec) = IsSpec spec

abbrev pub IsNamedIfAny : Option Spec → Type 0
IsNamedIfAny None = Unit {0}
IsNamedIfAny (Some spec) = IsNamedSpec spec

-- a request that can be written
abbrev pub IsReadRequest : ReadRequest → Type 0
IsReadRequest r = IsSpec r.spec

-- a response that can be written
pub record IsReadResponse (r : ReadResponse) : Type 0 where
  pub spec : IsSpecIfAny r.spec
  pub lawful : All IsLawfulOutcome r.results

-- what the type of a response keeps of its parts
pub record IsHeldReadResponse (r : ReadResponse) : Type 0 where
  pub spec : IsNamedIfAny r.spec
  pub results : All IsHeldOutcome r.results
