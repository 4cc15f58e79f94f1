-- Reading lists of names is exact.
use Rattle.std.proofs.Common.{[]}
use Rattle.ber_values.specs.Grammars.{IsGrammar}
use Rattle.ber_values.specs.Parts.{IsContentsGrammar}
use Rattle.ber_values.proofs.Grammars.{then_reads, map_reads, part_reads, maybe_reads, all_reads}
use Rattle.ber_values.proofs.Grammars.{choose_reads, as_reads}
use Rattle.ber_values.proofs.Lists.{list_reads}
use Rattle.ber_values.proofs.Leaves.{integer_contents, boolean_contents, fixed_contents}
use Rattle.mms_data.proofs.NameRead.{identifier_contents}
use Rattle.mms_services.specs.Names.NameLists.{object_class, one_scope, object_scope, request_of}
use Rattle.mms_services.specs.Names.NameLists.{after_name, name_list_request, listed_name}
use Rattle.mms_services.specs.Names.NameLists.{more_names, response_of, name_list_response}

pub object_class_contents : IsContentsGrammar object_class
unfolding object_class
object_class_contents = all_reads _ (part_reads 128 _ integer_contents)

one_scope_reads : IsGrammar one_scope
unfolding one_scope
one_scope_reads =
    choose_reads 128 _ _ (as_reads _ _ (fixed_contents []))
    (choose_reads 129 _ _ (as_reads _ _ identifier_contents)
    (part_reads 130 _ (as_reads _ _ (fixed_contents []))))

pub object_scope_contents : IsContentsGrammar object_scope
unfolding object_scope
object_scope_contents = all_reads _ one_scope_reads

after_name_reads : IsGrammar after_name
unfolding after_name
after_name_reads = maybe_reads 130 _ identifier_contents

pub name_list_request_contents : IsContentsGrammar name_list_request
unfolding name_list_request
name_list_request_contents = all_reads _
    (then_reads _ _ (part_reads 160 _ object_class_contents) (λ class.
    then_reads _ _ (part_reads 161 _ object_scope_contents) (λ scope.
    map_reads (request_of class scope) _ after_name_reads)))

pub listed_reads : IsGrammar listed_name
unfolding listed_name
listed_reads = part_reads 26 _ identifier_contents

more_names_reads : IsGrammar more_names
unfolding more_names
more_names_reads = map_reads _ _ (maybe_reads 129 _ boolean_contents)

pub name_list_response_contents : IsContentsGrammar name_list_response
unfolding name_list_response
name_list_response_contents = all_reads _
    (then_reads _ _ (part_reads 160 _ (list_reads 0 _ listed_reads)) (λ names.
    map_reads (response_of names) _ more_names_reads))
