-- What is written for PDUs is read back.
use Rattle.std.proofs.Common.{ℕ, ◌+◌, ◌<◌, ◌^◌, [], ◌++◌, length, refl, arith}
use Rattle.std.proofs.lemmas.List.{length-append}
use Rattle.ber_values.specs.Grammars.{taken}
use Rattle.ber_values.specs.Parts.{contents_as}
use Rattle.ber_values.specs.Leaves.{fixed}
use Rattle.ber_values.proofs.Grammars.{choose-written, choose-other}
use Rattle.ber_values.proofs.WrittenParts.{Writes, ends_of, then-ends, map-ends, part-writes, all-spelled, whole-begins}
use Rattle.mms_services.specs.declared.request.Request.{Request}
use Rattle.mms_services.specs.declared.request.Request.TheVariants as requests
use Rattle.mms_services.specs.declared.response.Response.{Response}
use Rattle.mms_services.specs.declared.response.Response.TheVariants as responses
use Rattle.mms_services.specs.declared.pdu.MmsPdu.{MmsPdu}
use Rattle.mms_services.specs.declared.pdu.MmsPdu.TheVariants as pdus
use Rattle.mms_services.specs.Names.NameLists.{name_list_request_octets, name_list_response_octets}
use Rattle.mms_services.specs.Identities.{identify_response_octets}
use Rattle.mms_services.specs.Access.Reads.{read_request_octets, read_response_octets}
use Rattle.mms_services.specs.Access.Writes.{write_request_octets, write_response_octets}
use Rattle.mms_services.specs.Access.TypesOf.{type_request_octets, type_response_octets}
use Rattle.mms_services.specs.Names.Defines.{define_request_octets}
use Rattle.mms_services.specs.Names.MemberLists.{members_request_octets, members_response_octets}
use Rattle.mms_services.specs.Names.Deletes.{delete_request_octets, delete_response_octets}
use Rattle.mms_services.specs.Errors.{error_pdu_octets}
use Rattle.mms_services.specs.Access.Reports.{report_pdu_octets}
use Rattle.mms_services.specs.Rejects.{reject_pdu_octets}
use Rattle.mms_services.specs.Initiates.{initiate_octets}
use Rattle.mms_services.specs.Requests.{set_request, one_request}
use Rattle.mms_services.specs.Responses.{set_response, one_response}
use Rattle.mms_services.specs.Pdus.{requested, responded, invoke_in, confirmed_request, confirmed_response, frame_pdu, one_pdu, pdu}
use Rattle.mms_services.specs.Lawful.{IsLawfulResponse}
use Rattle.mms_services.specs.PduOctets.{request_octets, response_octets, invoke_octets, pdu_octets, IsWritableRequest, IsWritablePdu}
use Rattle.mms_services.specs.Held.{IsHeldRequest, IsHeldResponse, IsHeldPdu}
use Rattle.ber_values.proofs.Pieces.{contents-few}
use Rattle.mms_services.proofs.ShortSpelled.{initiate-spelled, error_pdu-spelled, reject_pdu-spelled, identify_request-spelled, identify_response-spelled}
use Rattle.mms_services.proofs.OfNames.NameListsSpelled.{name_list_request-spelled, name_list_response-spelled}
use Rattle.mms_services.proofs.OfAccess.ReadWritten.{read_request-spelled, read_response-spelled}
use Rattle.mms_services.proofs.OfAccess.WriteWritten.{write_request-spelled, write_response-spelled}
use Rattle.mms_services.proofs.OfAccess.ReportWritten.{report_pdu-spelled}
use Rattle.mms_services.proofs.OfAccess.TypesWritten.{type_request-spelled, type_response-spelled}
use Rattle.mms_services.proofs.OfNames.SetsWritten.{define_request-spelled, members_request-spelled, members_response-spelled, delete_request-spelled, delete_response-spelled, unsigned-written}

request-writes : (at : ℕ) (r : Request) → IsWritableRequest r → IsHeldRequest r
    → length (request_octets r) < 2 ^ 32 → Writes one_request at r (request_octets r)
unfolding one_request set_request request_octets contents_as
request-writes at (requests.NameList r) lawful held few rest =
    choose-written 161 _ _ at (requests.NameList r) (name_list_request_octets r) rest
    (contents-few 161 (name_list_request_octets r) few) (r, name_list_request-spelled _ r held lawful, refl)
request-writes at requests.Identify lawful held few rest =
    choose-other 161 _ _ at _ _ refl
    (choose-written 130 _ _ at requests.Identify [] rest (omega arith) (tt, identify_request-spelled _, refl))
request-writes at (requests.Read r) lawful held few rest =
    let less = contents-few 164 (read_request_octets r) few in
    choose-other 161 _ _ at _ _ refl (choose-other 130 _ _ at _ _ refl
    (choose-written 164 _ _ at (requests.Read r) (read_request_octets r) rest less
    (r, read_request-spelled _ r lawful held less, refl)))
request-writes at (requests.Write r) lawful held few rest =
    let less = contents-few 165 (write_request_octets r) few in
    choose-other 161 _ _ at _ _ refl (choose-other 130 _ _ at _ _ refl
    (choose-other 164 _ _ at _ _ refl
    (choose-written 165 _ _ at (requests.Write r) (write_request_octets r) rest less
    (r, write_request-spelled _ r lawful held less, refl))))
request-writes at (requests.TypeOf r) lawful held few rest =
    let less = contents-few 166 (type_request_octets r) few in
    choose-other 161 _ _ at _ _ refl (choose-other 130 _ _ at _ _ refl
    (choose-other 164 _ _ at _ _ refl (choose-other 165 _ _ at _ _ refl
    (choose-written 166 _ _ at (requests.TypeOf r) (type_request_octets r) rest less
    (r, type_request-spelled _ r held, refl)))))
request-writes at (requests.Define r) lawful held few rest =
    let less = contents-few 171 (define_request_octets r) few in
    choose-other 161 _ _ at _ _ refl (choose-other 130 _ _ at _ _ refl
    (choose-other 164 _ _ at _ _ refl (choose-other 165 _ _ at _ _ refl
    (choose-other 166 _ _ at _ _ refl
    (choose-written 171 _ _ at (requests.Define r) (define_request_octets r) rest less
    (r, define_request-spelled _ r lawful held less, refl))))))
request-writes at (requests.MembersOf r) lawful held few rest =
    let less = contents-few 172 (members_request_octets r) few in
    choose-other 161 _ _ at _ _ refl (choose-other 130 _ _ at _ _ refl
    (choose-other 164 _ _ at _ _ refl (choose-other 165 _ _ at _ _ refl
    (choose-other 166 _ _ at _ _ refl (choose-other 171 _ _ at _ _ refl
    (choose-written 172 _ _ at (requests.MembersOf r) (members_request_octets r) rest less
    (r, members_request-spelled _ r held, refl)))))))
request-writes at (requests.Delete r) lawful held few rest =
    let less = contents-few 173 (delete_request_octets r) few in
    choose-other 161 _ _ at _ _ refl (choose-other 130 _ _ at _ _ refl
    (choose-other 164 _ _ at _ _ refl (choose-other 165 _ _ at _ _ refl
    (choose-other 166 _ _ at _ _ refl (choose-other 171 _ _ at _ _ refl
    (choose-other 172 _ _ at _ _ refl
    (choose-written 173 _ _ at (requests.Delete r) (delete_request_octets r) rest less
    (r, delete_request-spelled _ r lawful held less, refl))))))))
request-writes at requests.Unknown lawful held few rest = absurd lawful

response-writes : (at : ℕ) (r : Response) → IsLawfulResponse r → IsHeldResponse r
    → length (response_octets r) < 2 ^ 32 → Writes one_response at r (response_octets r)
unfolding one_response set_response response_octets contents_as fixed
response-writes at (responses.NameList r) lawful held few rest =
    let less = contents-few 161 (name_list_response_octets r) few in
    choose-written 161 _ _ at (responses.NameList r) (name_list_response_octets r) rest less
    (r, name_list_response-spelled _ r lawful less, refl)
response-writes at responses.Identify lawful held few rest =
    choose-other 161 _ _ at _ _ refl
    (choose-written 162 _ _ at responses.Identify identify_response_octets rest
    (contents-few 162 identify_response_octets few) (tt, identify_response-spelled _, refl))
response-writes at (responses.Read r) lawful held few rest =
    let less = contents-few 164 (read_response_octets r) few in
    choose-other 161 _ _ at _ _ refl (choose-other 162 _ _ at _ _ refl
    (choose-written 164 _ _ at (responses.Read r) (read_response_octets r) rest less
    (r, read_response-spelled _ r lawful held less, refl)))
response-writes at (responses.Write r) lawful held few rest =
    let less = contents-few 165 (write_response_octets r) few in
    choose-other 161 _ _ at _ _ refl (choose-other 162 _ _ at _ _ refl
    (choose-other 164 _ _ at _ _ refl
    (choose-written 165 _ _ at (responses.Write r) (write_response_octets r) rest less
    (r, write_response-spelled _ r, refl))))
response-writes at (responses.TypeIs r) lawful held few rest =
    let less = contents-few 166 (type_response_octets r) few in
    choose-other 161 _ _ at _ _ refl (choose-other 162 _ _ at _ _ refl
    (choose-other 164 _ _ at _ _ refl (choose-other 165 _ _ at _ _ refl
    (choose-written 166 _ _ at (responses.TypeIs r) (type_response_octets r) rest less
    (r, type_response-spelled _ r lawful less, refl)))))
response-writes at responses.Define lawful held few rest =
    choose-other 161 _ _ at _ _ refl (choose-other 162 _ _ at _ _ refl
    (choose-other 164 _ _ at _ _ refl (choose-other 165 _ _ at _ _ refl
    (choose-other 166 _ _ at _ _ refl
    (choose-written 139 _ _ at responses.Define [] rest (omega arith) (tt, refl, refl))))))
response-writes at (responses.MembersOf r) lawful held few rest =
    let less = contents-few 172 (members_response_octets r) few in
    choose-other 161 _ _ at _ _ refl (choose-other 162 _ _ at _ _ refl
    (choose-other 164 _ _ at _ _ refl (choose-other 165 _ _ at _ _ refl
    (choose-other 166 _ _ at _ _ refl (choose-other 139 _ _ at _ _ refl
    (choose-written 172 _ _ at (responses.MembersOf r) (members_response_octets r) rest less
    (r, members_response-spelled _ r lawful held less, refl)))))))
response-writes at (responses.Delete r) lawful held few rest =
    let less = contents-few 173 (delete_response_octets r) few in
    choose-other 161 _ _ at _ _ refl (choose-other 162 _ _ at _ _ refl
    (choose-other 164 _ _ at _ _ refl (choose-other 165 _ _ at _ _ refl
    (choose-other 166 _ _ at _ _ refl (choose-other 139 _ _ at _ _ refl
    (choose-other 172 _ _ at _ _ refl
    (part-writes 173 _ at (responses.Delete r) (delete_response_octets r) less
    (r, delete_response-spelled _ r held, refl) rest)))))))

-- ---- numbers and services

invoke-writes : (at invoke : ℕ) → invoke < 2 ^ 32 → Writes invoke_in at invoke (invoke_octets invoke)
unfolding invoke_in invoke_octets
invoke-writes at invoke few = unsigned-written 2 at invoke few

confirmed_request-spelled : (at invoke : ℕ) (r : Request) → invoke < 2 ^ 32 → IsWritableRequest r
    → IsHeldRequest r → length (invoke_octets invoke ++ request_octets r) < 2 ^ 32
    → confirmed_request.spells at (requested invoke r) (invoke_octets invoke ++ request_octets r)
unfolding confirmed_request
confirmed_request-spelled at invoke r small lawful held few =
    let one = invoke_octets invoke in
    let two = request_octets r in
    let next = at + length one in
    let less : length two < 2 ^ 32 = omega (arith, few, length-append one two) in
    all-spelled _ at (requested invoke r) (one ++ two)
    (then-ends invoke_in _ at invoke one (requested invoke r) two (invoke-writes at invoke small)
    (map-ends (requested invoke) one_request next r two
    (ends_of one_request next r two (request-writes next r lawful held less))))

confirmed_response-spelled : (at invoke : ℕ) (r : Response) → invoke < 2 ^ 32 → IsLawfulResponse r
    → IsHeldResponse r → length (invoke_octets invoke ++ response_octets r) < 2 ^ 32
    → confirmed_response.spells at (responded invoke r) (invoke_octets invoke ++ response_octets r)
unfolding confirmed_response
confirmed_response-spelled at invoke r small lawful held few =
    let one = invoke_octets invoke in
    let two = response_octets r in
    let next = at + length one in
    let less : length two < 2 ^ 32 = omega (arith, few, length-append one two) in
    all-spelled _ at (responded invoke r) (one ++ two)
    (then-ends invoke_in _ at invoke one (responded invoke r) two (invoke-writes at invoke small)
    (map-ends (responded invoke) one_response next r two
    (ends_of one_response next r two (response-writes next r lawful held less))))

-- ---- PDUs

one_pdu-writes : (at : ℕ) (p : MmsPdu) → IsWritablePdu p → IsHeldPdu p
    → length (pdu_octets p) < 2 ^ 32 → Writes one_pdu at p (pdu_octets p)
unfolding one_pdu frame_pdu pdu_octets contents_as fixed
one_pdu-writes at (pdus.Request invoke r) writable held few rest =
    let contents = invoke_octets invoke ++ request_octets r in
    let less = contents-few 160 contents few in
    choose-written 160 _ _ at (pdus.Request invoke r) contents rest less
    (confirmed_request-spelled _ invoke r held.0 writable held.1 less)
one_pdu-writes at (pdus.Response invoke r) writable held few rest =
    let contents = invoke_octets invoke ++ response_octets r in
    let less = contents-few 161 contents few in
    choose-other 160 _ _ at _ _ refl
    (choose-written 161 _ _ at (pdus.Response invoke r) contents rest less
    (confirmed_response-spelled _ invoke r held.0 writable held.1 less))
one_pdu-writes at (pdus.Error e) writable held few rest =
    choose-other 160 _ _ at _ _ refl (choose-other 161 _ _ at _ _ refl
    (choose-written 162 _ _ at (pdus.Error e) (error_pdu_octets e) rest (contents-few 162 (error_pdu_octets e) few)
    (e, error_pdu-spelled _ e held writable, refl)))
one_pdu-writes at (pdus.Report r) writable held few rest =
    let less = contents-few 163 (report_pdu_octets r) few in
    choose-other 160 _ _ at _ _ refl (choose-other 161 _ _ at _ _ refl (choose-other 162 _ _ at _ _ refl
    (choose-written 163 _ _ at (pdus.Report r) (report_pdu_octets r) rest less
    (r, report_pdu-spelled _ r writable held less, refl))))
one_pdu-writes at (pdus.Reject r) writable held few rest =
    choose-other 160 _ _ at _ _ refl (choose-other 161 _ _ at _ _ refl (choose-other 162 _ _ at _ _ refl (choose-other 163 _ _ at _ _ refl
    (choose-written 164 _ _ at (pdus.Reject r) (reject_pdu_octets r) rest (contents-few 164 (reject_pdu_octets r) few)
    (r, reject_pdu-spelled _ r held writable.0 writable.1, refl)))))
one_pdu-writes at (pdus.Initiate o) writable held few rest =
    choose-other 160 _ _ at _ _ refl (choose-other 161 _ _ at _ _ refl (choose-other 162 _ _ at _ _ refl (choose-other 163 _ _ at _ _ refl (choose-other 164 _ _ at _ _ refl
    (choose-written 168 _ _ at (pdus.Initiate o) (initiate_octets o) rest (contents-few 168 (initiate_octets o) few)
    (o, initiate-spelled _ o writable.version held, refl))))))
one_pdu-writes at (pdus.Initiated o) writable held few rest =
    choose-other 160 _ _ at _ _ refl (choose-other 161 _ _ at _ _ refl (choose-other 162 _ _ at _ _ refl (choose-other 163 _ _ at _ _ refl (choose-other 164 _ _ at _ _ refl (choose-other 168 _ _ at _ _ refl
    (choose-written 169 _ _ at (pdus.Initiated o) (initiate_octets o) rest (contents-few 169 (initiate_octets o) few)
    (o, initiate-spelled _ o writable.version held, refl)))))))
one_pdu-writes at pdus.InitiateError writable held few rest = absurd writable
one_pdu-writes at pdus.Conclude writable held few rest =
    choose-other 160 _ _ at _ _ refl (choose-other 161 _ _ at _ _ refl (choose-other 162 _ _ at _ _ refl (choose-other 163 _ _ at _ _ refl (choose-other 164 _ _ at _ _ refl (choose-other 168 _ _ at _ _ refl (choose-other 169 _ _ at _ _ refl (choose-other 170 _ _ at _ _ refl
    (choose-written 139 _ _ at pdus.Conclude [] rest (omega arith) (tt, refl, refl)))))))))
one_pdu-writes at pdus.Concluded writable held few rest =
    choose-other 160 _ _ at _ _ refl (choose-other 161 _ _ at _ _ refl (choose-other 162 _ _ at _ _ refl (choose-other 163 _ _ at _ _ refl (choose-other 164 _ _ at _ _ refl (choose-other 168 _ _ at _ _ refl (choose-other 169 _ _ at _ _ refl (choose-other 170 _ _ at _ _ refl (choose-other 139 _ _ at _ _ refl
    (part-writes 140 _ at pdus.Concluded [] (omega arith) (tt, refl, refl) rest)))))))))

pub pdu_begins : (p : MmsPdu) → IsWritablePdu p → IsHeldPdu p → length (pdu_octets p) < 2 ^ 32
    → (at : ℕ) → pdu.begins at (pdu_octets p) (taken p (at + length (pdu_octets p)) [])
unfolding pdu
pdu_begins p writable held few at =
    whole-begins one_pdu at p (pdu_octets p)
    (ends_of one_pdu at p (pdu_octets p) (one_pdu-writes at p writable held few))
