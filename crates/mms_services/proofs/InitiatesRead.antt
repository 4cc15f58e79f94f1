-- Reading the parameters of an association is exact.
use Rattle.ber_values.specs.Parts.{IsContentsGrammar}
use Rattle.ber_values.proofs.Grammars.{then_reads, map_reads, part_reads, maybe_reads, all_reads}
use Rattle.ber_values.proofs.Grammars.{pass_reads}
use Rattle.ber_values.proofs.Leaves.{integer_contents, raw_contents}
use Rattle.mms_services.specs.Initiates.{initiate_detail, initiate_of, initiate}

pub initiate_detail_contents : IsContentsGrammar initiate_detail
unfolding initiate_detail
initiate_detail_contents = all_reads _
    (then_reads _ _ (part_reads 128 _ integer_contents) (λ version.
    then_reads _ _ (part_reads 129 _ raw_contents) (λ parameters.
    then_reads _ _ (part_reads 130 _ raw_contents) (λ services.
    map_reads _ _ (pass_reads _)))))

pub initiate_contents : IsContentsGrammar initiate
unfolding initiate
initiate_contents = all_reads _
    (then_reads _ _ (maybe_reads 128 _ integer_contents) (λ detail.
    then_reads _ _ (part_reads 129 _ integer_contents) (λ calling.
    then_reads _ _ (part_reads 130 _ integer_contents) (λ called.
    then_reads _ _ (maybe_reads 131 _ integer_contents) (λ nesting.
    map_reads (initiate_of detail calling called nesting) _
    (part_reads 164 _ initiate_detail_contents))))))
