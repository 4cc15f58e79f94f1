-- Replies and reports of the node as PDUs of MMS, and PDUs as these (IEC 60870-6-503 on ISO
-- 9506-2): data sets are named variable lists.
use Rattle.std.specs.Prelude.{ℕ, List, Option, Some, None, option_map}
use Rattle.mms_data.specs.declared.outcome.Outcome.{Outcome}
use Rattle.mms_services.specs.declared.access.spec.Spec.{Spec}
use Rattle.mms_services.specs.declared.access.spec.Spec.TheVariants as specs
use Rattle.mms_services.specs.declared.response.Response.{Response}
use Rattle.mms_services.specs.declared.response.Response.TheVariants as responses
use Rattle.mms_services.specs.declared.pdu.MmsPdu.{MmsPdu}
use Rattle.mms_services.specs.declared.pdu.MmsPdu.TheVariants as pdus
use Rattle.tase_views.specs.declared.reply.ReadSpec.{ReadSpec}
use Rattle.tase_views.specs.declared.reply.ReadSpec.TheVariants as named
use Rattle.tase_views.specs.declared.reply.ReplyKind.{ReplyKind}
use Rattle.tase_views.specs.declared.reply.ReplyKind.TheVariants as replies
use Rattle.tase_views.specs.declared.reply.ReportKind.{ReportKind}
use Rattle.tase_views.specs.declared.reply.ReportKind.TheVariants as reports

-- what a read named, as the variables of a service
abbrev pub spec_in : ReadSpec → Spec
spec_in (named.List names) = specs.List names
spec_in (named.Set name) = specs.Set name

-- the PDU that a reply to the request with this number is
abbrev pub pdu_of_reply : ℕ → ReplyKind → MmsPdu
pdu_of_reply invoke replies.Identified = pdus.Response invoke responses.Identify
pdu_of_reply invoke (replies.Results spec results) =
    pdus.Response invoke
    (responses.Read (record { spec = option_map spec_in spec; results = results }))
pdu_of_reply invoke (replies.Written results) =
    pdus.Response invoke (responses.Write (record { results = results }))
pdu_of_reply invoke (replies.NamesAre names more) =
    pdus.Response invoke (responses.NameList (record { names = names; more = more }))
pdu_of_reply invoke (replies.TypeIs shape) =
    pdus.Response invoke (responses.TypeIs (record { shape = shape }))
pdu_of_reply invoke replies.Defined = pdus.Response invoke responses.Define
pdu_of_reply invoke (replies.MembersAre names) =
    pdus.Response invoke (responses.MembersOf (record { members = names }))
pdu_of_reply invoke (replies.Deleted matched deleted) =
    pdus.Response invoke (responses.Delete (record { matched = matched; deleted = deleted }))
pdu_of_reply invoke (replies.Error class code) =
    pdus.Error (record { invoke = invoke; class = class; code = code })
pdu_of_reply invoke (replies.Reject kind code) =
    pdus.Reject (record { invoke = Some invoke; kind = kind; code = code })

-- the results of a read that named these variables or this data set, or doesn't repeat them
abbrev pub results_reply : List Outcome → Option Spec → Option ReplyKind
results_reply results None = Some (replies.Results None results)
results_reply results (Some (specs.List names)) =
    Some (replies.Results (Some (named.List names)) results)
results_reply results (Some (specs.Set name)) =
    Some (replies.Results (Some (named.Set name)) results)

abbrev pub reply_in_response : Response → Option ReplyKind
reply_in_response (responses.NameList r) = Some (replies.NamesAre r.names r.more)
reply_in_response responses.Identify = Some replies.Identified
reply_in_response (responses.Read r) = results_reply r.results r.spec
reply_in_response (responses.Write r) = Some (replies.Written r.results)
reply_in_response (responses.TypeIs r) = Some (replies.TypeIs r.shape)
reply_in_response responses.Define = Some replies.Defined
reply_in_response (responses.MembersOf r) = Some (replies.MembersAre r.members)
reply_in_response (responses.Delete r) = Some (replies.Deleted r.matched r.deleted)

-- the reply that a PDU is, whatever the number of its request: a response, an error or a reject
abbrev pub reply_in : MmsPdu → Option ReplyKind
reply_in (pdus.Response invoke response) = reply_in_response response
reply_in (pdus.Error e) = Some (replies.Error e.class e.code)
reply_in (pdus.Reject r) = Some (replies.Reject r.kind r.code)
reply_in pdu = None

-- the number of the request that a PDU answers, where it tells one
abbrev pub answered_number : MmsPdu → Option ℕ
answered_number (pdus.Response invoke response) = Some invoke
answered_number (pdus.Error e) = Some e.invoke
answered_number (pdus.Reject r) = r.invoke
answered_number pdu = None

-- the PDU that a report is: it reports the variables by their names, or by that of a data set
abbrev pub pdu_of_report : ReportKind → MmsPdu
pdu_of_report (reports.Set set results) =
    pdus.Report (record { spec = specs.Set set; results = results })
pdu_of_report (reports.Variables names results) =
    pdus.Report (record { spec = specs.List names; results = results })

abbrev pub report_with : List Outcome → Spec → ReportKind
report_with results (specs.Set name) = reports.Set name results
report_with results (specs.List names) = reports.Variables names results

-- the report that a PDU is, if it is one
abbrev pub report_in : MmsPdu → Option ReportKind
report_in (pdus.Report r) = Some (report_with r.results r.spec)
report_in pdu = None
