-- Reading requests and responses of Write is exact.
use Rattle.std.proofs.Common.{[], length}
use Rattle.ber_values.specs.Grammars.{IsGrammar}
use Rattle.ber_values.specs.Parts.{IsContentsGrammar}
use Rattle.ber_values.proofs.Grammars.{then_reads, map_reads, part_reads, choose_reads}
use Rattle.ber_values.proofs.Grammars.{as_reads, all_reads}
use Rattle.ber_values.proofs.Lists.{count_reads, list_reads}
use Rattle.ber_values.proofs.Leaves.{octet_contents, fixed_contents}
use Rattle.mms_data.proofs.DataRead.{one_datum_reads}
use Rattle.mms_services.specs.declared.access.spec.Spec.{Spec}
use Rattle.mms_services.specs.declared.access.spec.Spec.TheVariants as kinds
use Rattle.mms_services.specs.Access.Writes.{values_of, write_request, one_written, write_response}
use Rattle.mms_services.proofs.OfAccess.ReadSpecs.{specification_reads}

values_contents : (spec : Spec) → IsContentsGrammar (values_of spec)
unfolding values_of
values_contents (kinds.List names) = count_reads (length names) (length names) _ one_datum_reads
values_contents (kinds.Set name) = list_reads 1 _ one_datum_reads

pub write_request_contents : IsContentsGrammar write_request
unfolding write_request
write_request_contents = all_reads _
    (then_reads _ _ specification_reads (λ spec.
    map_reads _ _ (part_reads 160 _ (values_contents spec))))

one_written_reads : IsGrammar one_written
unfolding one_written
one_written_reads =
    choose_reads 128 _ _ (as_reads _ _ octet_contents)
    (part_reads 129 _ (as_reads _ _ (fixed_contents [])))

pub write_response_contents : IsContentsGrammar write_response
unfolding write_response
write_response_contents = as_reads _ _ (list_reads 0 _ one_written_reads)
