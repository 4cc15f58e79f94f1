-- Reading requests and responses of Read is exact.
use Rattle.ber_values.specs.Grammars.{IsGrammar}
use Rattle.ber_values.specs.Parts.{IsContentsGrammar}
use Rattle.ber_values.proofs.Grammars.{then_reads, map_reads, part_reads, maybe_reads, all_reads}
use Rattle.ber_values.proofs.Lists.{list_reads}
use Rattle.ber_values.proofs.Leaves.{boolean_contents}
use Rattle.mms_data.proofs.OutcomeRead.{one_outcome_reads}
use Rattle.mms_services.specs.Access.Reads.{echo_in, read_request, read_response}
use Rattle.mms_services.proofs.OfAccess.ReadSpecs.{sole_spec_contents}

echo_reads : IsGrammar echo_in
unfolding echo_in
echo_reads = map_reads _ _ (maybe_reads 128 _ boolean_contents)

pub read_request_contents : IsContentsGrammar read_request
unfolding read_request
read_request_contents = all_reads _
    (then_reads _ _ echo_reads (λ echo.
    map_reads _ _ (part_reads 161 _ sole_spec_contents)))

pub read_response_contents : IsContentsGrammar read_response
unfolding read_response
read_response_contents = all_reads _
    (then_reads _ _ (maybe_reads 160 _ sole_spec_contents) (λ spec.
    map_reads _ _ (part_reads 161 _ (list_reads 0 _ one_outcome_reads))))
