-- Reading who answers is exact.
use Rattle.std.proofs.Common.{[]}
use Rattle.ber_values.specs.Grammars.{IsGrammar}
use Rattle.ber_values.specs.Parts.{IsContentsGrammar}
use Rattle.ber_values.proofs.Grammars.{then_reads, map_reads, part_reads, maybe_reads, all_reads}
use Rattle.ber_values.proofs.Leaves.{visible_contents, raw_contents, fixed_contents}
use Rattle.mms_services.specs.Identities.{identify_request, some_syntaxes, identify_response}

pub identify_request_contents : IsContentsGrammar identify_request
unfolding identify_request
identify_request_contents = fixed_contents []

some_syntaxes_reads : IsGrammar some_syntaxes
unfolding some_syntaxes
some_syntaxes_reads = map_reads _ _ (maybe_reads 163 _ raw_contents)

pub identify_response_contents : IsContentsGrammar identify_response
unfolding identify_response
identify_response_contents = all_reads _
    (then_reads _ _ (part_reads 128 _ visible_contents) (λ vendor.
    then_reads _ _ (part_reads 129 _ visible_contents) (λ model.
    then_reads _ _ (part_reads 130 _ visible_contents) (λ revision.
    some_syntaxes_reads))))
