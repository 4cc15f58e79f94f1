-- Reading specifications is exact.
use Rattle.ber_values.specs.Grammars.{IsGrammar}
use Rattle.ber_values.specs.Parts.{IsContentsGrammar}
use Rattle.ber_values.proofs.Grammars.{part_reads, choose_reads, as_reads, all_reads}
use Rattle.ber_values.proofs.Lists.{list_reads}
use Rattle.mms_data.proofs.NameRead.{one_name_reads}
use Rattle.mms_services.specs.declared.access.spec.Spec.TheVariants as kinds
use Rattle.mms_services.specs.Access.Specifications.{sole_name, sole_variable, variable, variables}
use Rattle.mms_services.specs.Access.Specifications.{specification, sole_spec}

pub sole_name_contents : IsContentsGrammar sole_name
unfolding sole_name
sole_name_contents = all_reads _ one_name_reads

pub sole_variable_contents : IsContentsGrammar sole_variable
unfolding sole_variable
sole_variable_contents = all_reads _ (part_reads 160 _ sole_name_contents)

variable_reads : IsGrammar variable
unfolding variable
variable_reads = part_reads 48 _ sole_variable_contents

pub variables_contents : IsContentsGrammar variables
unfolding variables
variables_contents = list_reads 1 _ variable_reads

pub specification_reads : IsGrammar specification
unfolding specification
specification_reads =
    choose_reads 160 _ _ (as_reads kinds.List _ variables_contents)
    (part_reads 161 _ (as_reads kinds.Set _ sole_name_contents))

pub sole_spec_contents : IsContentsGrammar sole_spec
unfolding sole_spec
sole_spec_contents = all_reads _ specification_reads
