-- What octets spell of PDUs is lawful.
use Rattle.std.proofs.Common.{ℕ, List, Result, Ok, Err, IfOk, subst, sym, inl, inr}
use Rattle.ber_values.specs.Readers.{IsReadBy, taken_whole}
use Rattle.mms_services.specs.declared.fault.MmsFault.{MmsFault}
use Rattle.ber_values.specs.Reading.{Taken}
use Rattle.ber_values.specs.Grammars.{branch_in, refused}
use Rattle.ber_values.specs.Passing.{skip}
use Rattle.ber_values.specs.Parts.{whole_in}
use Rattle.mms_services.specs.declared.request.Request.{Request}
use Rattle.mms_services.specs.declared.request.Request.TheVariants as requests
use Rattle.mms_services.specs.declared.response.Response.{Response}
use Rattle.mms_services.specs.declared.response.Response.TheVariants as responses
use Rattle.mms_services.specs.declared.pdu.MmsPdu.{MmsPdu}
use Rattle.mms_services.specs.declared.pdu.MmsPdu.TheVariants as pdus
use Rattle.mms_services.specs.Requests.{unknown_request, set_request, one_request}
use Rattle.mms_services.specs.Responses.{set_response, one_response}
use Rattle.mms_services.specs.Pdus.{requested, responded, confirmed_request, confirmed_response, frame_pdu, one_pdu, pdu, without_invoke}
use Rattle.mms_services.specs.Lawful.{IsLawfulRequest, IsLawfulResponse, IsLawfulPdu}
use Rattle.ber_values.proofs.Holding.{part-holds, choose-holds, map-holds, as-holds, all-holds}
use Rattle.mms_services.proofs.OfAccess.SpelledAccess.{read_request-holds, read_response-holds, write_request-holds, report_pdu-holds}
use Rattle.mms_services.proofs.OfAccess.SpelledAccess.{type_response-holds}
use Rattle.mms_services.proofs.OfNames.SpelledNames.{then-holds, name_list_request-holds, name_list_response-holds, define_request-holds, members_response-holds, delete_request-holds}
use Rattle.mms_services.proofs.SpelledCodes.{error_pdu-holds, reject_pdu-holds}

unknown-holds : (at : ℕ) (os : List ℕ) (t : Taken Request) → unknown_request.begins at os t → IsLawfulRequest t.value
unfolding unknown_request branch_in refused
unknown-holds at os t (inl h) = map-holds IsLawfulRequest (λ u. requests.Unknown) skip at os t (λ u b. tt) h.1
unknown-holds at os t (inr h) = absurd h.1

set_request-holds : (at : ℕ) (os : List ℕ) (t : Taken Request) → set_request.begins at os t → IsLawfulRequest t.value
unfolding set_request
set_request-holds at os t =
    choose-holds IsLawfulRequest 171 _ _ at os t (as-holds IsLawfulRequest requests.Define _ define_request-holds)
    (choose-holds IsLawfulRequest 172 _ _ at os t (as-holds IsLawfulRequest requests.MembersOf _ (λ place r inner s. tt))
    (choose-holds IsLawfulRequest 173 _ _ at os t (as-holds IsLawfulRequest requests.Delete _ delete_request-holds)
    (unknown-holds at os t)))

one_request-holds : (at : ℕ) (os : List ℕ) (t : Taken Request) → one_request.begins at os t → IsLawfulRequest t.value
unfolding one_request
one_request-holds at os t =
    choose-holds IsLawfulRequest 161 _ _ at os t (as-holds IsLawfulRequest requests.NameList _ name_list_request-holds)
    (choose-holds IsLawfulRequest 130 _ _ at os t (as-holds IsLawfulRequest _ _ (λ place r inner s. tt))
    (choose-holds IsLawfulRequest 164 _ _ at os t (as-holds IsLawfulRequest requests.Read _ read_request-holds)
    (choose-holds IsLawfulRequest 165 _ _ at os t (as-holds IsLawfulRequest requests.Write _ write_request-holds)
    (choose-holds IsLawfulRequest 166 _ _ at os t
    (as-holds IsLawfulRequest requests.TypeOf _ (λ place r inner s. tt))
    (set_request-holds at os t)))))

set_response-holds : (at : ℕ) (os : List ℕ) (t : Taken Response) → set_response.begins at os t → IsLawfulResponse t.value
unfolding set_response
set_response-holds at os t =
    choose-holds IsLawfulResponse 139 _ _ at os t (as-holds IsLawfulResponse _ _ (λ place r inner s. tt))
    (choose-holds IsLawfulResponse 172 _ _ at os t (as-holds IsLawfulResponse responses.MembersOf _ members_response-holds)
    (part-holds IsLawfulResponse 173 _ at os t (as-holds IsLawfulResponse responses.Delete _ (λ place r inner s. tt))))

one_response-holds : (at : ℕ) (os : List ℕ) (t : Taken Response) → one_response.begins at os t → IsLawfulResponse t.value
unfolding one_response
one_response-holds at os t =
    choose-holds IsLawfulResponse 161 _ _ at os t (as-holds IsLawfulResponse responses.NameList _ name_list_response-holds)
    (choose-holds IsLawfulResponse 162 _ _ at os t (as-holds IsLawfulResponse _ _ (λ place r inner s. tt))
    (choose-holds IsLawfulResponse 164 _ _ at os t (as-holds IsLawfulResponse responses.Read _ read_response-holds)
    (choose-holds IsLawfulResponse 165 _ _ at os t (as-holds IsLawfulResponse responses.Write _ (λ place r inner s. tt))
    (choose-holds IsLawfulResponse 166 _ _ at os t
    (as-holds IsLawfulResponse responses.TypeIs _ type_response-holds)
    (set_response-holds at os t)))))

confirmed_request-holds : (at : ℕ) (p : MmsPdu) (os : List ℕ) → confirmed_request.spells at p os → IsLawfulPdu p
unfolding confirmed_request
confirmed_request-holds = all-holds IsLawfulPdu _ (λ at os t. then-holds IsLawfulPdu _ _ at os t
    (λ invoke at os t. map-holds IsLawfulPdu (requested invoke) _ at os t (λ u. one_request-holds at os u)))

confirmed_response-holds : (at : ℕ) (p : MmsPdu) (os : List ℕ) → confirmed_response.spells at p os → IsLawfulPdu p
unfolding confirmed_response
confirmed_response-holds = all-holds IsLawfulPdu _ (λ at os t. then-holds IsLawfulPdu _ _ at os t
    (λ invoke at os t. map-holds IsLawfulPdu (responded invoke) _ at os t (λ u. one_response-holds at os u)))

frame_pdu-holds : (at : ℕ) (os : List ℕ) (t : Taken MmsPdu) → frame_pdu.begins at os t → IsLawfulPdu t.value
unfolding frame_pdu
frame_pdu-holds at os t =
    choose-holds IsLawfulPdu 168 _ _ at os t (as-holds IsLawfulPdu pdus.Initiate _ (λ place r inner s. tt))
    (choose-holds IsLawfulPdu 169 _ _ at os t (as-holds IsLawfulPdu pdus.Initiated _ (λ place r inner s. tt))
    (choose-holds IsLawfulPdu 170 _ _ at os t (as-holds IsLawfulPdu _ _ (λ place r inner s. tt))
    (choose-holds IsLawfulPdu 139 _ _ at os t (as-holds IsLawfulPdu _ _ (λ place r inner s. tt))
    (part-holds IsLawfulPdu 140 _ at os t (as-holds IsLawfulPdu _ _ (λ place r inner s. tt))))))

one_pdu-holds : (at : ℕ) (os : List ℕ) (t : Taken MmsPdu) → one_pdu.begins at os t → IsLawfulPdu t.value
unfolding one_pdu
one_pdu-holds at os t =
    choose-holds IsLawfulPdu 160 _ _ at os t confirmed_request-holds
    (choose-holds IsLawfulPdu 161 _ _ at os t confirmed_response-holds
    (choose-holds IsLawfulPdu 162 _ _ at os t (as-holds IsLawfulPdu pdus.Error _ error_pdu-holds)
    (choose-holds IsLawfulPdu 163 _ _ at os t (as-holds IsLawfulPdu pdus.Report _ report_pdu-holds)
    (choose-holds IsLawfulPdu 164 _ _ at os t (as-holds IsLawfulPdu pdus.Reject _ reject_pdu-holds)
    (frame_pdu-holds at os t)))))

pub pdu-holds : (at : ℕ) (os : List ℕ) (t : Taken MmsPdu) → pdu.begins at os t → IsLawfulPdu t.value
unfolding pdu whole_in
pdu-holds at os t h = subst (λ (u : Taken MmsPdu). IsLawfulPdu u.value) (sym h.2.1) (one_pdu-holds at os h.0 h.1)

-- so a PDU that a reader answers is lawful
pub lawful_read : (octets : List ℕ) (read : Result MmsPdu MmsFault)
    → IsReadBy pdu (taken_whole 0 octets) 0 octets (without_invoke read) → IfOk read IsLawfulPdu
lawful_read octets (Ok p) reads = pdu-holds 0 octets (taken_whole 0 octets p) reads.found
lawful_read octets (Err f) reads = tt
