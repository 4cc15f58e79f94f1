-- Reading who asks for a type, and who tells one, is exact.
use Rattle.ber_values.specs.Parts.{IsContentsGrammar}
use Rattle.ber_values.proofs.Grammars.{then_reads, map_reads, part_reads, as_reads, all_reads}
use Rattle.ber_values.proofs.Leaves.{boolean_contents}
use Rattle.mms_data.proofs.OfTypes.ShapesRead.{passed_once_reads, sole_shape_contents}
use Rattle.mms_services.specs.Access.TypesOf.{type_asked, type_request, type_told, type_response}
use Rattle.mms_services.proofs.OfAccess.ReadSpecs.{sole_variable_contents}

pub type_request_contents : IsContentsGrammar type_request
unfolding type_request
type_request_contents = as_reads type_asked _ sole_variable_contents

pub type_response_contents : IsContentsGrammar type_response
unfolding type_response
type_response_contents = all_reads _
    (then_reads _ _ (part_reads 128 _ boolean_contents) (λ deletable.
    then_reads _ _ (passed_once_reads 161) (λ address.
    map_reads type_told _ (part_reads 162 _ sole_shape_contents))))
