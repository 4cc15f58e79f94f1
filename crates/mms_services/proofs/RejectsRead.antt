-- Reading rejects is exact.
use Rattle.ber_values.specs.Parts.{IsContentsGrammar}
use Rattle.ber_values.proofs.Grammars.{then_reads, map_reads, maybe_reads, all_reads}
use Rattle.ber_values.proofs.Leaves.{unsigned_contents}
use Rattle.mms_services.specs.Rejects.{reject_of, reject_pdu}
use Rattle.mms_services.proofs.CodedRead.{coded_reads}

pub reject_pdu_contents : IsContentsGrammar reject_pdu
unfolding reject_pdu
reject_pdu_contents = all_reads _
    (then_reads _ _ (maybe_reads 128 _ unsigned_contents) (λ invoke.
    map_reads (reject_of invoke) _ (coded_reads 129 143)))
