-- Reading errors is exact.
use Rattle.ber_values.specs.Parts.{IsContentsGrammar}
use Rattle.ber_values.proofs.Grammars.{then_reads, map_reads, part_reads, all_reads, pass_reads}
use Rattle.ber_values.proofs.Leaves.{unsigned_contents}
use Rattle.mms_services.specs.Errors.{error_class, service_error, error_of, error_pdu}
use Rattle.mms_services.proofs.CodedRead.{coded_reads}

pub error_class_contents : IsContentsGrammar error_class
unfolding error_class
error_class_contents = all_reads _ (coded_reads 128 143)

pub service_error_contents : IsContentsGrammar service_error
unfolding service_error
service_error_contents = all_reads _
    (then_reads _ _ (part_reads 160 _ error_class_contents) (λ error.
    map_reads _ _ (pass_reads _)))

pub error_pdu_contents : IsContentsGrammar error_pdu
unfolding error_pdu
error_pdu_contents = all_reads _
    (then_reads _ _ (part_reads 128 _ unsigned_contents) (λ invoke.
    map_reads (error_of invoke) _ (part_reads 162 _ service_error_contents)))
