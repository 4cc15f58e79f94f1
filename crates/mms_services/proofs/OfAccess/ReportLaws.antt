-- Reading reports is exact.
use Rattle.std.proofs.Common.{length}
use Rattle.ber_values.specs.Parts.{IsContentsGrammar}
use Rattle.ber_values.proofs.Grammars.{then_reads, map_reads, part_reads, all_reads}
use Rattle.ber_values.proofs.Lists.{count_reads, list_reads}
use Rattle.mms_data.proofs.OutcomeRead.{one_outcome_reads}
use Rattle.mms_services.specs.declared.access.spec.Spec.{Spec}
use Rattle.mms_services.specs.declared.access.spec.Spec.TheVariants as kinds
use Rattle.mms_services.specs.Access.Reports.{report_results, report, report_pdu}
use Rattle.mms_services.proofs.OfAccess.ReadSpecs.{specification_reads}

results_contents : (spec : Spec) → IsContentsGrammar (report_results spec)
unfolding report_results
results_contents (kinds.List names) =
    count_reads (length names) (length names) _ one_outcome_reads
results_contents (kinds.Set name) = list_reads 0 _ one_outcome_reads

report_contents : IsContentsGrammar report
unfolding report
report_contents = all_reads _
    (then_reads _ _ specification_reads (λ spec.
    map_reads _ _ (part_reads 160 _ (results_contents spec))))

pub report_pdu_contents : IsContentsGrammar report_pdu
unfolding report_pdu
report_pdu_contents = all_reads _ (part_reads 160 _ report_contents)
