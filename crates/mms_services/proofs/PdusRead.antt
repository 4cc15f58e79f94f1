-- Reading PDUs is exact.
use Rattle.std.proofs.Common.{[]}
use Rattle.ber_values.specs.Grammars.{IsGrammar}
use Rattle.ber_values.specs.Parts.{IsContentsGrammar}
use Rattle.ber_values.proofs.Grammars.{then_reads, map_reads, branch_reads, refused_reads}
use Rattle.ber_values.proofs.Grammars.{skip_reads, part_reads, choose_reads, as_reads, all_reads}
use Rattle.ber_values.proofs.Grammars.{whole_reads}
use Rattle.ber_values.proofs.Leaves.{unsigned_contents, raw_contents, fixed_contents}
use Rattle.mms_services.specs.Requests.{unknown_request, set_request, one_request}
use Rattle.mms_services.specs.Responses.{set_response, one_response}
use Rattle.mms_services.specs.Pdus.{requested, responded, invoke_in, confirmed_request}
use Rattle.mms_services.specs.Pdus.{confirmed_response, frame_pdu, one_pdu, pdu}
use Rattle.mms_services.proofs.OfNames.NameListsRead.{name_list_request_contents, name_list_response_contents}
use Rattle.mms_services.proofs.IdentitiesRead.{identify_request_contents, identify_response_contents}
use Rattle.mms_services.proofs.OfAccess.ReadLaws.{read_request_contents, read_response_contents}
use Rattle.mms_services.proofs.OfAccess.WriteLaws.{write_request_contents, write_response_contents}
use Rattle.mms_services.proofs.OfAccess.TypesRead.{type_request_contents, type_response_contents}
use Rattle.mms_services.proofs.OfNames.SetsRead.{define_request_contents, members_request_contents}
use Rattle.mms_services.proofs.OfNames.SetsRead.{members_response_contents, delete_request_contents}
use Rattle.mms_services.proofs.OfNames.SetsRead.{delete_response_contents}
use Rattle.mms_services.proofs.ErrorsRead.{error_pdu_contents}
use Rattle.mms_services.proofs.OfAccess.ReportLaws.{report_pdu_contents}
use Rattle.mms_services.proofs.RejectsRead.{reject_pdu_contents}
use Rattle.mms_services.proofs.InitiatesRead.{initiate_contents}

unknown_request_reads : IsGrammar unknown_request
unfolding unknown_request
unknown_request_reads = branch_reads _ _ _ (map_reads _ _ skip_reads) refused_reads

set_request_reads : IsGrammar set_request
unfolding set_request
set_request_reads =
    choose_reads 171 _ _ (as_reads _ _ define_request_contents)
    (choose_reads 172 _ _ (as_reads _ _ members_request_contents)
    (choose_reads 173 _ _ (as_reads _ _ delete_request_contents)
    unknown_request_reads))

pub one_request_reads : IsGrammar one_request
unfolding one_request
one_request_reads =
    choose_reads 161 _ _ (as_reads _ _ name_list_request_contents)
    (choose_reads 130 _ _ (as_reads _ _ identify_request_contents)
    (choose_reads 164 _ _ (as_reads _ _ read_request_contents)
    (choose_reads 165 _ _ (as_reads _ _ write_request_contents)
    (choose_reads 166 _ _ (as_reads _ _ type_request_contents)
    set_request_reads))))

set_response_reads : IsGrammar set_response
unfolding set_response
set_response_reads =
    choose_reads 139 _ _ (as_reads _ _ (fixed_contents []))
    (choose_reads 172 _ _ (as_reads _ _ members_response_contents)
    (part_reads 173 _ (as_reads _ _ delete_response_contents)))

pub one_response_reads : IsGrammar one_response
unfolding one_response
one_response_reads =
    choose_reads 161 _ _ (as_reads _ _ name_list_response_contents)
    (choose_reads 162 _ _ (as_reads _ _ identify_response_contents)
    (choose_reads 164 _ _ (as_reads _ _ read_response_contents)
    (choose_reads 165 _ _ (as_reads _ _ write_response_contents)
    (choose_reads 166 _ _ (as_reads _ _ type_response_contents)
    set_response_reads))))

pub invoke_reads : IsGrammar invoke_in
unfolding invoke_in
invoke_reads = part_reads 2 _ unsigned_contents

confirmed_request_contents : IsContentsGrammar confirmed_request
unfolding confirmed_request
confirmed_request_contents = all_reads _
    (then_reads _ _ invoke_reads (λ invoke. map_reads (requested invoke) _ one_request_reads))

confirmed_response_contents : IsContentsGrammar confirmed_response
unfolding confirmed_response
confirmed_response_contents = all_reads _
    (then_reads _ _ invoke_reads (λ invoke. map_reads (responded invoke) _ one_response_reads))

frame_pdu_reads : IsGrammar frame_pdu
unfolding frame_pdu
frame_pdu_reads =
    choose_reads 168 _ _ (as_reads _ _ initiate_contents)
    (choose_reads 169 _ _ (as_reads _ _ initiate_contents)
    (choose_reads 170 _ _ (as_reads _ _ raw_contents)
    (choose_reads 139 _ _ (as_reads _ _ (fixed_contents []))
    (part_reads 140 _ (as_reads _ _ (fixed_contents []))))))

one_pdu_reads : IsGrammar one_pdu
unfolding one_pdu
one_pdu_reads =
    choose_reads 160 _ _ confirmed_request_contents
    (choose_reads 161 _ _ confirmed_response_contents
    (choose_reads 162 _ _ (as_reads _ _ error_pdu_contents)
    (choose_reads 163 _ _ (as_reads _ _ report_pdu_contents)
    (choose_reads 164 _ _ (as_reads _ _ reject_pdu_contents)
    frame_pdu_reads))))

pub pdu_reads : IsGrammar pdu
unfolding pdu
pdu_reads = whole_reads one_pdu one_pdu_reads
