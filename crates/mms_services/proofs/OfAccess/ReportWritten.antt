-- What is written for reports is read back.
use Rattle.std.proofs.Common.{ℕ, ◌+◌, ◌<◌, ◌^◌, List, ◌++◌, length, arith}
use Rattle.std.proofs.lemmas.List.{length-append}
use Rattle.std.specs.List.{All}
use Rattle.ber_values.specs.Writing.{written}
use Rattle.ber_values.specs.Grammars.{map_in}
use Rattle.ber_values.specs.Parts.{part_in}
use Rattle.ber_values.proofs.WrittenParts.{ends_of, then-ends, map-ends, part-writes, all-spelled}
use Rattle.mms_data.specs.declared.outcome.Outcome.{Outcome}
use Rattle.mms_data.specs.OutcomeOctets.{IsLawfulOutcome, IsHeldOutcome}
use Rattle.mms_services.specs.declared.access.spec.Spec.{Spec}
use Rattle.mms_services.specs.declared.access.spec.Spec.TheVariants as kinds
use Rattle.mms_services.specs.declared.access.report.ReportPdu.{ReportPdu}
use Rattle.mms_services.specs.Access.Specifications.{specification, spec_octets}
use Rattle.mms_services.specs.Access.Reads.{outcomes_octets}
use Rattle.mms_services.specs.Access.Reports.{reported, report_results, report, report_pdu, report_octets, report_pdu_octets, HasResults, IsReport, IsHeldReport}
use Rattle.ber_values.proofs.Pieces.{contents-few}
use Rattle.mms_services.proofs.OfAccess.SpecsWritten.{spec-writes}
use Rattle.mms_services.proofs.OfAccess.ReadWritten.{outcomes-spelled, outcomes-counted}

-- as many outcomes as are wanted
results-spelled : (at : ℕ) (s : Spec) (os : List Outcome) → HasResults s (length os) → All IsLawfulOutcome os → All IsHeldOutcome os → length (outcomes_octets os) < 2 ^ 32 → (report_results s).spells at os (outcomes_octets os)
unfolding report_results
results-spelled at (kinds.List names) os count lawful held few = outcomes-counted at (length names) os count lawful held few
results-spelled at (kinds.Set name) os u lawful held few = outcomes-spelled at os lawful held few

report-spelled : (at : ℕ) (r : ReportPdu) → IsReport r → IsHeldReport r → length (report_octets r) < 2 ^ 32 → report.spells at r (report_octets r)
unfolding report report_octets
report-spelled at r is held few =
    let one = spec_octets r.spec in
    let results = outcomes_octets r.results in
    let two = written 160 results in
    let next = at + length one in
    let front : length one < 2 ^ 32 = omega (arith, few, length-append one two) in
    let small : length two < 2 ^ 32 = omega (arith, few, length-append one two) in
    let inner = contents-few 160 results small in
    all-spelled _ at r (one ++ two)
    (then-ends specification (λ spec. map_in (reported spec) (part_in 160 (report_results spec))) at r.spec one r two
    (spec-writes at r.spec is.spec held.spec front)
    (map-ends (reported r.spec) (part_in 160 (report_results r.spec)) next r.results two
    (ends_of (part_in 160 (report_results r.spec)) next r.results two
    (part-writes 160 (report_results r.spec) next r.results results inner
    (results-spelled _ r.spec r.results is.enough is.lawful held.results inner)))))

-- what is written for a report is the report
pub report_pdu-spelled : (at : ℕ) (r : ReportPdu) → IsReport r → IsHeldReport r → length (report_pdu_octets r) < 2 ^ 32 → report_pdu.spells at r (report_pdu_octets r)
unfolding report_pdu report_pdu_octets
report_pdu-spelled at r is held few =
    let octets = report_octets r in
    let inner = contents-few 160 octets few in
    all-spelled (part_in 160 report) at r (written 160 octets)
    (ends_of (part_in 160 report) at r (written 160 octets)
    (part-writes 160 report at r octets inner (report-spelled _ r is held inner)))
