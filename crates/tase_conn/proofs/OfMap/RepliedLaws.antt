-- Replies and PDUs are each other's.
use Rattle.std.proofs.Common.{◌≡◌, ℕ, List, Option, Some, None, refl, sym, subst}
use Rattle.std.specs.Prelude.{option_map, IfSome}
use Rattle.std.specs.List.{All}
use Rattle.mms_data.specs.declared.outcome.Outcome.{Outcome}
use Rattle.mms_data.specs.OutcomeOctets.{IsLawfulOutcome}
use Rattle.mms_services.specs.declared.access.spec.Spec.{Spec}
use Rattle.mms_services.specs.declared.access.spec.Spec.TheVariants as specs
use Rattle.mms_services.specs.declared.response.Response.{Response}
use Rattle.mms_services.specs.declared.response.Response.TheVariants as responses
use Rattle.mms_services.specs.declared.pdu.MmsPdu.{MmsPdu}
use Rattle.mms_services.specs.declared.pdu.MmsPdu.TheVariants as pdus
use Rattle.mms_services.specs.Access.Reads.{IsSpecIfAny}
use Rattle.mms_services.specs.Lawful.{IsLawfulPdu, IsLawfulResponse}
use Rattle.mms_services.specs.PduOctets.{IsWritablePdu}
use Rattle.tase_views.specs.declared.reply.ReadSpec.{ReadSpec}
use Rattle.tase_views.specs.declared.reply.ReadSpec.TheVariants as named
use Rattle.tase_views.specs.declared.reply.ReplyKind.{ReplyKind}
use Rattle.tase_views.specs.declared.reply.ReplyKind.TheVariants as replies
use Rattle.tase_views.specs.Replies.{IsReply, IsReadSpec}
use Rattle.tase_conn.specs.Map.Replied.{spec_in, pdu_of_reply, results_reply, reply_in_response, reply_in}
use Rattle.tase_conn.specs.Map.Replied.{answered_number}

-- ---- what types keep

spec_writable : (spec : Option ReadSpec) → IfSome spec IsReadSpec
    → IsSpecIfAny (option_map spec_in spec)
spec_writable None i = tt
spec_writable (Some (named.List names)) i = i
spec_writable (Some (named.Set name)) i = tt

pdu_writable : (invoke : ℕ) (reply : ReplyKind) → IsReply reply → IsWritablePdu (pdu_of_reply invoke reply)
pdu_writable invoke replies.Identified i = tt
pdu_writable invoke (replies.Results spec results) i =
    record { spec = spec_writable spec i.0; lawful = i.1 }
pdu_writable invoke (replies.Written results) i = tt
pdu_writable invoke (replies.NamesAre names more) i = i
pdu_writable invoke (replies.TypeIs shape) i = i
pdu_writable invoke replies.Defined i = tt
pdu_writable invoke (replies.MembersAre names) i = i
pdu_writable invoke (replies.Deleted matched deleted) i = tt
pdu_writable invoke (replies.Error class code) i = i
pdu_writable invoke (replies.Reject kind code) i = i

-- the PDU of a reply may be written
pub writable_pdu : (invoke : ℕ) (reply : ReplyKind) (pdu : MmsPdu) → IsReply reply
    → pdu ≡ pdu_of_reply invoke reply → IsWritablePdu pdu
writable_pdu invoke reply pdu i e = subst IsWritablePdu (sym e) (pdu_writable invoke reply i)

-- what a reply keeps, where there is one
abbrev IsReplyIfAny : Option ReplyKind → Type 0
IsReplyIfAny reply = IfSome reply IsReply

results_lawful : (results : List Outcome) (spec : Option Spec) → IsSpecIfAny spec
    → All IsLawfulOutcome results → IsReplyIfAny (results_reply results spec)
results_lawful results None s l = (tt, l)
results_lawful results (Some (specs.List names)) s l = (s, l)
results_lawful results (Some (specs.Set name)) s l = (tt, l)

response_lawful : (response : Response) → IsLawfulResponse response
    → IsReplyIfAny (reply_in_response response)
response_lawful (responses.NameList r) l = l
response_lawful responses.Identify l = tt
response_lawful (responses.Read r) l = results_lawful r.results r.spec l.spec l.lawful
response_lawful (responses.Write r) l = tt
response_lawful (responses.TypeIs r) l = l
response_lawful responses.Define l = tt
response_lawful (responses.MembersOf r) l = l
response_lawful (responses.Delete r) l = tt

reply_lawful : (pdu : MmsPdu) → IsLawfulPdu pdu → IsReplyIfAny (reply_in pdu)
reply_lawful (pdus.Request invoke request) l = tt
reply_lawful (pdus.Response invoke response) l = response_lawful response l
reply_lawful (pdus.Error e) l = l
reply_lawful (pdus.Report r) l = tt
reply_lawful (pdus.Reject r) l = l
reply_lawful (pdus.Initiate offer) l = tt
reply_lawful (pdus.Initiated offer) l = tt
reply_lawful pdus.InitiateError l = tt
reply_lawful pdus.Conclude l = tt
reply_lawful pdus.Concluded l = tt

-- the reply of a lawful PDU keeps what replies keep
pub lawful_reply : (pdu : MmsPdu) (reply : ReplyKind) → IsLawfulPdu pdu
    → Some reply ≡ reply_in pdu → IsReply reply
lawful_reply pdu reply l e = subst IsReplyIfAny (sym e) (reply_lawful pdu l)

-- ---- there and back

spec_again : (spec : Option ReadSpec) (results : List Outcome)
    → results_reply results (option_map spec_in spec) ≡ Some (replies.Results spec results)
spec_again None results = refl
spec_again (Some (named.List names)) results = refl
spec_again (Some (named.Set name)) results = refl

pub reply_again : (invoke : ℕ) (reply : ReplyKind) → reply_in (pdu_of_reply invoke reply) ≡ Some reply
reply_again invoke replies.Identified = refl
reply_again invoke (replies.Results spec results) = spec_again spec results
reply_again invoke (replies.Written results) = refl
reply_again invoke (replies.NamesAre names more) = refl
reply_again invoke (replies.TypeIs shape) = refl
reply_again invoke replies.Defined = refl
reply_again invoke (replies.MembersAre names) = refl
reply_again invoke (replies.Deleted matched deleted) = refl
reply_again invoke (replies.Error class code) = refl
reply_again invoke (replies.Reject kind code) = refl

pub number_again : (invoke : ℕ) (reply : ReplyKind) → answered_number (pdu_of_reply invoke reply) ≡ Some invoke
number_again invoke replies.Identified = refl
number_again invoke (replies.Results spec results) = refl
number_again invoke (replies.Written results) = refl
number_again invoke (replies.NamesAre names more) = refl
number_again invoke (replies.TypeIs shape) = refl
number_again invoke replies.Defined = refl
number_again invoke (replies.MembersAre names) = refl
number_again invoke (replies.Deleted matched deleted) = refl
number_again invoke (replies.Error class code) = refl
number_again invoke (replies.Reject kind code) = refl

-- what a reply that was found is written as
abbrev WrittenAs : ℕ → MmsPdu → Option ReplyKind → Type 0
WrittenAs invoke pdu reply = IfSome reply (λ r. pdu_of_reply invoke r ≡ pdu)

results_written : (invoke : ℕ) (results : List Outcome) (spec : Option Spec)
    → WrittenAs invoke
    (pdus.Response invoke (responses.Read (record { spec = spec; results = results })))
    (results_reply results spec)
results_written invoke results None = refl
results_written invoke results (Some (specs.List names)) = refl
results_written invoke results (Some (specs.Set name)) = refl

response_written : (invoke : ℕ) (response : Response)
    → WrittenAs invoke (pdus.Response invoke response) (reply_in_response response)
response_written invoke (responses.NameList r) = refl
response_written invoke responses.Identify = refl
response_written invoke (responses.Read r) = results_written invoke r.results r.spec
response_written invoke (responses.Write r) = refl
response_written invoke (responses.TypeIs r) = refl
response_written invoke responses.Define = refl
response_written invoke (responses.MembersOf r) = refl
response_written invoke (responses.Delete r) = refl

-- by its number
abbrev WrittenBy : Option ℕ → MmsPdu → Type 0
WrittenBy number pdu = IfSome number (λ invoke. WrittenAs invoke pdu (reply_in pdu))

reject_written : (number : Option ℕ) (kind code : ℕ)
    → WrittenBy number (pdus.Reject (record { invoke = number; kind = kind; code = code }))
reject_written None kind code = tt
reject_written (Some invoke) kind code = refl

pdu_written : (pdu : MmsPdu) → WrittenBy (answered_number pdu) pdu
pdu_written (pdus.Request invoke request) = tt
pdu_written (pdus.Response invoke response) = response_written invoke response
pdu_written (pdus.Error e) = refl
pdu_written (pdus.Report r) = tt
pdu_written (pdus.Reject r) = reject_written r.invoke r.kind r.code
pdu_written (pdus.Initiate offer) = tt
pdu_written (pdus.Initiated offer) = tt
pdu_written pdus.InitiateError = tt
pdu_written pdus.Conclude = tt
pdu_written pdus.Concluded = tt

pub pdu_again : (pdu : MmsPdu) (invoke : ℕ) (reply : ReplyKind) → reply_in pdu ≡ Some reply
    → answered_number pdu ≡ Some invoke → pdu_of_reply invoke reply ≡ pdu
pdu_again pdu invoke reply r n =
    subst (WrittenAs invoke pdu) r
    (subst (λ number. IfSome number (λ i. WrittenAs i pdu (reply_in pdu))) n (pdu_written pdu))
