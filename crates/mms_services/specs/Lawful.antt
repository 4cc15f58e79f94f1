-- PDUs with lawful parts: what is read has them, and they are a condition of what is written.
use Rattle.std.specs.Prelude.{◌≤◌}
use Rattle.mms_services.specs.declared.request.Request.{Request}
use Rattle.mms_services.specs.declared.request.Request.TheVariants as requests
use Rattle.mms_services.specs.declared.response.Response.{Response}
use Rattle.mms_services.specs.declared.response.Response.TheVariants as responses
use Rattle.mms_services.specs.declared.error.ErrorPdu.{ErrorPdu}
use Rattle.mms_services.specs.declared.reject.RejectPdu.{RejectPdu}
use Rattle.mms_services.specs.declared.pdu.MmsPdu.{MmsPdu}
use Rattle.mms_services.specs.declared.pdu.MmsPdu.TheVariants as pdus
use Rattle.mms_services.specs.Names.NameLists.{IsNamedRequest, IsNamedResponse}
use Rattle.mms_services.specs.Access.Reads.{IsReadRequest, IsReadResponse}
use Rattle.mms_services.specs.Access.Writes.{IsWriteRequest}
use Rattle.mms_services.specs.Access.TypesOf.{IsTyped}
use Rattle.mms_services.specs.Names.Defines.{IsDefine}
use Rattle.mms_services.specs.Names.MemberLists.{IsMembers}
use Rattle.mms_services.specs.Names.Deletes.{IsDelete}
use Rattle.mms_services.specs.Access.Reports.{IsReport}

-- lists and names have lengths that they may have, and data and types are lawful
abbrev pub IsLawfulRequest : Request → Type 0
IsLawfulRequest (requests.NameList r) = IsNamedRequest r
IsLawfulRequest requests.Identify = Unit {0}
IsLawfulRequest (requests.Read r) = IsReadRequest r
IsLawfulRequest (requests.Write r) = IsWriteRequest r
IsLawfulRequest (requests.TypeOf r) = Unit {0}
IsLawfulRequest (requests.Define r) = IsDefine r
IsLawfulRequest (requests.MembersOf r) = Unit {0}
IsLawfulRequest (requests.Delete r) = IsDelete r
IsLawfulRequest requests.Unknown = Unit {0}

abbrev pub IsLawfulResponse : Response → Type 0
IsLawfulResponse (responses.NameList r) = IsNamedResponse r
IsLawfulResponse responses.Identify = Unit {0}
IsLawfulResponse (responses.Read r) = IsReadResponse r
IsLawfulResponse (responses.Write r) = Unit {0}
IsLawfulResponse (responses.TypeIs r) = IsTyped r
IsLawfulResponse responses.Define = Unit {0}
IsLawfulResponse (responses.MembersOf r) = IsMembers r
IsLawfulResponse (responses.Delete r) = Unit {0}

-- a class from 0 to 15
abbrev pub IsClassed : ErrorPdu → Type 0
IsClassed e = e.class ≤ 15

-- a kind from 1 to 15
abbrev pub IsOfKind : RejectPdu → Type 0
IsOfKind r = (1 ≤ r.kind) × (r.kind ≤ 15)

abbrev pub IsLawfulPdu : MmsPdu → Type 0
IsLawfulPdu (pdus.Request invoke request) = IsLawfulRequest request
IsLawfulPdu (pdus.Response invoke response) = IsLawfulResponse response
IsLawfulPdu (pdus.Error e) = IsClassed e
IsLawfulPdu (pdus.Report r) = IsReport r
IsLawfulPdu (pdus.Reject r) = IsOfKind r
IsLawfulPdu (pdus.Initiate offer) = Unit {0}
IsLawfulPdu (pdus.Initiated offer) = Unit {0}
IsLawfulPdu pdus.InitiateError = Unit {0}
IsLawfulPdu pdus.Conclude = Unit {0}
IsLawfulPdu pdus.Concluded = Unit {0}
