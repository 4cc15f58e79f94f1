-- What octets spell of variables and their values can be written again.
use Rattle.std.proofs.Common.{ℕ, ◌≤◌, List, length, arith}
use Rattle.std.specs.List.{All}
use Rattle.ber_values.specs.Reading.{Taken}
use Rattle.ber_values.specs.Grammars.{then_in, map_in}
use Rattle.ber_values.specs.Parts.{part_in, maybe_in}
use Rattle.ber_values.specs.Lists.{list_in, count_in}
use Rattle.mms_data.specs.Datum.{Datum}
use Rattle.mms_data.specs.DataOctets.{one_datum}
use Rattle.mms_data.specs.Lawful.{IsLawful}
use Rattle.mms_data.proofs.DataLawful.{datum_lawful}
use Rattle.mms_data.specs.ObjectName.{ObjectName}
use Rattle.mms_data.specs.declared.outcome.Outcome.{Outcome}
use Rattle.mms_data.specs.OutcomeOctets.{one_outcome, IsLawfulOutcome}
use Rattle.mms_data.proofs.OutcomeRead.{outcome_lawful}
use Rattle.mms_services.specs.declared.access.spec.Spec.{Spec}
use Rattle.mms_services.specs.declared.access.spec.Spec.TheVariants as kinds
use Rattle.mms_services.specs.declared.access.read.ReadRequest.{ReadRequest}
use Rattle.mms_services.specs.declared.access.read.ReadResponse.{ReadResponse}
use Rattle.mms_services.specs.declared.access.write.WriteRequest.{WriteRequest}
use Rattle.mms_services.specs.declared.access.report.ReportPdu.{ReportPdu}
use Rattle.mms_services.specs.Access.Specifications.{sole_name, variables, specification, sole_spec, IsSpec}
use Rattle.mms_services.specs.Access.Reads.{read_asked, read_answered, echo_in, read_request, read_response, IsSpecIfAny, IsReadRequest, IsReadResponse}
use Rattle.mms_services.specs.Access.Writes.{write_asked, values_of, write_request, HasValues, IsWriteRequest}
use Rattle.mms_services.specs.Access.Reports.{reported, report_results, report, report_pdu, HasResults, IsReport}
use Rattle.mms_data.specs.Types.TypeShape.{TypeShape, IsTypeShape}
use Rattle.mms_data.specs.Types.ShapeOctets.{one_shape, sole_shape}
use Rattle.mms_data.proofs.OfTypes.ShapesLawful.{shape_lawful}
use Rattle.mms_services.specs.declared.access.type_of.TypeResponse.{TypeResponse}
use Rattle.mms_services.specs.Access.TypesOf.{type_told, type_response, IsTyped}
use Rattle.ber_values.proofs.Holding.{part-holds, choose-holds, maybe-holds, map-holds, as-holds, all-holds, list-holds}

-- ---- specifications

-- one or more variables
pub variables-hold : (at : ℕ) (ns : List ObjectName) (os : List ℕ) → variables.spells at ns os → 1 ≤ length ns
unfolding variables list_in
variables-hold at ns os h = h.enough

pub spec-holds : (at : ℕ) (os : List ℕ) (t : Taken Spec) → specification.begins at os t → IsSpec t.value
unfolding specification
spec-holds at os t =
    choose-holds IsSpec 160 _ _ at os t (as-holds IsSpec kinds.List variables variables-hold)
    (part-holds IsSpec 161 _ at os t (as-holds IsSpec kinds.Set sole_name (λ place n inner s. tt)))

pub sole_spec-holds : (at : ℕ) (s : Spec) (os : List ℕ) → sole_spec.spells at s os → IsSpec s
unfolding sole_spec
sole_spec-holds = all-holds IsSpec specification spec-holds

-- ---- Read

outcomes-hold : (at : ℕ) (rs : List Outcome) (os : List ℕ) → (list_in 0 one_outcome).spells at rs os → All IsLawfulOutcome rs
unfolding list_in
outcomes-hold at rs os h = list-holds IsLawfulOutcome one_outcome outcome_lawful rs at os h.end _ h.spelled

pub read_request-holds : (at : ℕ) (r : ReadRequest) (os : List ℕ) → read_request.spells at r os → IsReadRequest r
unfolding read_request then_in
read_request-holds = all-holds IsReadRequest (then_in echo_in (λ echo. map_in (read_asked echo) (part_in 161 sole_spec))) each
  where
    each : (at : ℕ) (os : List ℕ) (t : Taken ReadRequest) → (then_in echo_in (λ echo. map_in (read_asked echo) (part_in 161 sole_spec))).begins at os t → IsReadRequest t.value
    each at os t b =
        map-holds IsReadRequest (read_asked b.0.value) (part_in 161 sole_spec) b.0.next b.0.rest t
        (λ u c. part-holds IsSpec 161 sole_spec b.0.next b.0.rest u sole_spec-holds c) b.2

pub read_response-holds : (at : ℕ) (r : ReadResponse) (os : List ℕ) → read_response.spells at r os → IsReadResponse r
unfolding read_response then_in
read_response-holds = all-holds IsReadResponse (then_in (maybe_in 160 sole_spec) (λ spec. map_in (read_answered spec) (part_in 161 (list_in 0 one_outcome)))) each
  where
    each : (at : ℕ) (os : List ℕ) (t : Taken ReadResponse) → (then_in (maybe_in 160 sole_spec) (λ spec. map_in (read_answered spec) (part_in 161 (list_in 0 one_outcome)))).begins at os t → IsReadResponse t.value
    each at os t b =
        map-holds IsReadResponse (read_answered b.0.value) (part_in 161 (list_in 0 one_outcome)) b.0.next b.0.rest t
        (λ u c. record {
          spec = maybe-holds IsSpecIfAny 160 sole_spec at os b.0 tt sole_spec-holds b.1;
          lawful = part-holds (All IsLawfulOutcome) 161 (list_in 0 one_outcome) b.0.next b.0.rest u outcomes-hold c;
        }) b.2

-- ---- Write

values-hold : (s : Spec) (at : ℕ) (ds : List Datum) (os : List ℕ) → (values_of s).spells at ds os → HasValues s (length ds) × All IsLawful ds
unfolding values_of list_in count_in
values-hold (kinds.List names) at ds os h = (omega (arith, h.enough, h.few), list-holds IsLawful one_datum datum_lawful ds at os h.end _ h.spelled)
values-hold (kinds.Set name) at ds os h = (h.enough, list-holds IsLawful one_datum datum_lawful ds at os h.end _ h.spelled)

pub write_request-holds : (at : ℕ) (r : WriteRequest) (os : List ℕ) → write_request.spells at r os → IsWriteRequest r
unfolding write_request then_in
write_request-holds = all-holds IsWriteRequest (then_in specification (λ spec. map_in (write_asked spec) (part_in 160 (values_of spec)))) each
  where
    each : (at : ℕ) (os : List ℕ) (t : Taken WriteRequest) → (then_in specification (λ spec. map_in (write_asked spec) (part_in 160 (values_of spec)))).begins at os t → IsWriteRequest t.value
    each at os t b =
        map-holds IsWriteRequest (write_asked b.0.value) (part_in 160 (values_of b.0.value)) b.0.next b.0.rest t
        (λ u c.
        let v = part-holds (λ ds. HasValues b.0.value (length ds) × All IsLawful ds) 160 (values_of b.0.value) b.0.next b.0.rest u (values-hold b.0.value) c in
        record { spec = spec-holds at os b.0 b.1; enough = v.0; lawful = v.1 }) b.2

-- ---- reports

results-hold : (s : Spec) (at : ℕ) (rs : List Outcome) (os : List ℕ) → (report_results s).spells at rs os → HasResults s (length rs) × All IsLawfulOutcome rs
unfolding report_results list_in count_in
results-hold (kinds.List names) at rs os h = (omega (arith, h.enough, h.few), list-holds IsLawfulOutcome one_outcome outcome_lawful rs at os h.end _ h.spelled)
results-hold (kinds.Set name) at rs os h = (tt, list-holds IsLawfulOutcome one_outcome outcome_lawful rs at os h.end _ h.spelled)

report-holds : (at : ℕ) (r : ReportPdu) (os : List ℕ) → report.spells at r os → IsReport r
unfolding report then_in
report-holds = all-holds IsReport (then_in specification (λ spec. map_in (reported spec) (part_in 160 (report_results spec)))) each
  where
    each : (at : ℕ) (os : List ℕ) (t : Taken ReportPdu) → (then_in specification (λ spec. map_in (reported spec) (part_in 160 (report_results spec)))).begins at os t → IsReport t.value
    each at os t b =
        map-holds IsReport (reported b.0.value) (part_in 160 (report_results b.0.value)) b.0.next b.0.rest t
        (λ u c.
        let v = part-holds (λ rs. HasResults b.0.value (length rs) × All IsLawfulOutcome rs) 160 (report_results b.0.value) b.0.next b.0.rest u (results-hold b.0.value) c in
        record { spec = spec-holds at os b.0 b.1; enough = v.0; lawful = v.1 }) b.2

pub report_pdu-holds : (at : ℕ) (r : ReportPdu) (os : List ℕ) → report_pdu.spells at r os → IsReport r
unfolding report_pdu
report_pdu-holds = all-holds IsReport (part_in 160 report) (λ at os t. part-holds IsReport 160 report at os t report-holds)

-- ---- types

shape-holds : (at : ℕ) (s : TypeShape) (os : List ℕ) → sole_shape.spells at s os → IsTypeShape s
unfolding sole_shape
shape-holds = all-holds IsTypeShape one_shape shape_lawful

pub type_response-holds : (at : ℕ) (r : TypeResponse) (os : List ℕ)
    → type_response.spells at r os → IsTyped r
unfolding type_response then_in
type_response-holds = all-holds IsTyped _ (λ at os t b.
    map-holds IsTyped type_told (part_in 162 sole_shape) b.2.0.next b.2.0.rest t
    (λ u. part-holds IsTypeShape 162 sole_shape b.2.0.next b.2.0.rest u shape-holds) b.2.2)
