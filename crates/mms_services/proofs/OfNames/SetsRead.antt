-- Reading what services of named variable lists carry is exact.
use Rattle.std.proofs.Common.{◌+◌, [], ◌∷◌, length, pos}
use Rattle.ber_values.specs.Reading.{Taken}
use Rattle.ber_values.specs.Grammars.{IsGrammar, taken}
use Rattle.ber_values.specs.Parts.{IsContentsGrammar}
use Rattle.ber_values.specs.Leaves.{integer, unsigned}
use Rattle.ber_values.proofs.Grammars.{IsReading-done, gives_reads, then_reads, map_reads}
use Rattle.ber_values.proofs.Grammars.{branch_reads, part_reads, choose_reads, as_reads, all_reads}
use Rattle.ber_values.proofs.Leaves.{fixed_contents, integer_contents, unsigned_contents}
use Rattle.ber_values.proofs.Lists.{list_reads}
use Rattle.mms_data.proofs.NameRead.{one_name_reads}
use Rattle.mms_services.specs.Names.Defines.{define_of, define_request}
use Rattle.mms_services.specs.Names.MemberLists.{members_of, members_request, members_listed}
use Rattle.mms_services.specs.Names.MemberLists.{members_response}
use Rattle.mms_services.specs.Names.Deletes.{is_specific, deletion_scope, free, set_names, delete_of}
use Rattle.mms_services.specs.Names.Deletes.{delete_request, deleted_of, delete_response}
use Rattle.mms_services.proofs.OfAccess.ReadSpecs.{sole_name_contents, variables_contents}

pub define_request_contents : IsContentsGrammar define_request
unfolding define_request
define_request_contents = all_reads _
    (then_reads _ _ one_name_reads (λ set.
    map_reads (define_of set) _ (part_reads 160 _ variables_contents)))

pub members_request_contents : IsContentsGrammar members_request
unfolding members_request
members_request_contents = as_reads members_of _ sole_name_contents

pub members_response_contents : IsContentsGrammar members_response
unfolding members_response
members_response_contents = all_reads _
    (then_reads _ _ (part_reads 128 _ (fixed_contents (255 ∷ []))) (λ u.
    map_reads members_listed _ (part_reads 161 _ variables_contents)))

deletion_scope_reads : IsGrammar deletion_scope
unfolding deletion_scope
deletion_scope_reads = choose_reads 128 integer _ integer_contents (gives_reads (pos 0))

pub free_reads : IsGrammar free
unfolding free
free_reads at octets =
    IsReading-done (Taken (Unit {0})) (taken tt (at + length octets) [])

pub set_names_contents : IsContentsGrammar set_names
unfolding set_names
set_names_contents = list_reads 1 _ one_name_reads

pub delete_request_contents : IsContentsGrammar delete_request
unfolding delete_request
delete_request_contents = all_reads _
    (then_reads _ _ deletion_scope_reads (λ scope. branch_reads (λ octets. is_specific scope) _ _
    (map_reads (delete_of scope) _ (part_reads 161 _ set_names_contents))
    (map_reads (λ u. delete_of scope []) _ free_reads)))

pub delete_response_contents : IsContentsGrammar delete_response
unfolding delete_response
delete_response_contents = all_reads _
    (then_reads _ _ (part_reads 128 unsigned unsigned_contents) (λ matched.
    map_reads (deleted_of matched) _ (part_reads 129 unsigned unsigned_contents)))
