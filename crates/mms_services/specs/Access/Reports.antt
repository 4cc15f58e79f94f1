-- Values of variables that weren't asked for (ISO 9506-2, InformationReport).
use Rattle.std.specs.Prelude.{◌≡◌, ℕ, List, ◌++◌, length}
use Rattle.std.specs.List.{All}
use Rattle.ber_values.specs.Grammars.{then_in, map_in}
use Rattle.ber_values.specs.Parts.{Contents, part_in, all_in}
use Rattle.ber_values.specs.Lists.{count_in, list_in}
use Rattle.ber_values.specs.Writing.{written}
use Rattle.mms_data.specs.declared.outcome.Outcome.{Outcome}
use Rattle.mms_data.specs.OutcomeOctets.{one_outcome, IsLawfulOutcome, IsHeldOutcome}
use Rattle.mms_services.specs.declared.access.spec.Spec.{Spec}
use Rattle.mms_services.specs.declared.access.spec.Spec.TheVariants as kinds
use Rattle.mms_services.specs.declared.access.report.ReportPdu.{ReportPdu}
use Rattle.mms_services.specs.Access.Specifications.{specification, spec_octets, IsSpec, IsNamedSpec}
use Rattle.mms_services.specs.Access.Reads.{outcomes_octets}

abbrev pub reported : Spec → List Outcome → ReportPdu
reported spec results = record { spec = spec; results = results }

-- an outcome for each variable of a list, any number for a list that is named
unfoldable pub report_results : Spec → Contents (List Outcome)
report_results (kinds.List names) = count_in (length names) (length names) one_outcome
report_results (kinds.Set name) = list_in 0 one_outcome

unfoldable pub report : Contents ReportPdu
report = all_in
    (then_in specification (λ spec.
    map_in (reported spec) (part_in 160 (report_results spec))))

-- a report, which is the only unconfirmed service
unfoldable pub report_pdu : Contents ReportPdu
report_pdu = all_in (part_in 160 report)

-- ---- written forms

unfoldable pub report_octets : ReportPdu → List ℕ
report_octets r = spec_octets r.spec ++ written 160 (outcomes_octets r.results)

unfoldable pub report_pdu_octets : ReportPdu → List ℕ
report_pdu_octets r = written 160 (report_octets r)

-- an outcome for each variable of a list
abbrev pub HasResults : Spec → ℕ → Type 0
HasResults (kinds.List names) count = count ≡ length names
HasResults (kinds.Set name) count = Unit {0}

-- a report that can be written
pub record IsReport (r : ReportPdu) : Type 0 where
  pub spec : IsSpec r.spec
  pub enough : HasResults r.spec (length r.results)
  pub lawful : All IsLawfulOutcome r.results

-- what the type of a report keeps of its parts
pub record IsHeldReport (r : ReportPdu) : Type 0 where
  pub spec : IsNamedSpec r.spec
  pub results : All IsHeldOutcome r.results
