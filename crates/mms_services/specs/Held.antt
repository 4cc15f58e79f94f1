-- What the types of PDUs keep of their numbers and names.
use Rattle.std.specs.Prelude.{◌<◌, ◌^◌, IfSome}
use Rattle.std.specs.Int.{w64}
use Rattle.std.specs.Int.RustNames.{FitsSigned}
use Rattle.mms_services.specs.declared.request.Request.{Request}
use Rattle.mms_services.specs.declared.request.Request.TheVariants as requests
use Rattle.mms_services.specs.declared.response.Response.{Response}
use Rattle.mms_services.specs.declared.response.Response.TheVariants as responses
use Rattle.mms_services.specs.declared.pdu.MmsPdu.{MmsPdu}
use Rattle.mms_services.specs.declared.pdu.MmsPdu.TheVariants as pdus
use Rattle.mms_services.specs.Access.Specifications.{IsNamedSpec}
use Rattle.mms_services.specs.Access.Reads.{IsHeldReadResponse}
use Rattle.mms_services.specs.Access.Writes.{IsHeldWriteRequest}
use Rattle.mms_services.specs.Access.TypesOf.{IsNamedType}
use Rattle.mms_services.specs.Names.Defines.{IsNamedDefine}
use Rattle.mms_services.specs.Names.MemberLists.{IsNamedSet, IsNamedMembers}
use Rattle.mms_services.specs.Names.Deletes.{IsNamedDelete, IsCounted}
use Rattle.mms_services.specs.Access.Reports.{IsHeldReport}
use Rattle.mms_services.specs.Initiates.{IsHeldInitiate}

abbrev pub IsHeldRequest : Request → Type 0
IsHeldRequest (requests.NameList r) = FitsSigned w64 r.class
IsHeldRequest requests.Identify = Unit {0}
IsHeldRequest (requests.Read r) = IsNamedSpec r.spec
IsHeldRequest (requests.Write r) = IsHeldWriteRequest r
IsHeldRequest (requests.TypeOf r) = IsNamedType r
IsHeldRequest (requests.Define r) = IsNamedDefine r
IsHeldRequest (requests.MembersOf r) = IsNamedSet r
IsHeldRequest (requests.Delete r) = IsNamedDelete r
IsHeldRequest requests.Unknown = Unit {0}

abbrev pub IsHeldResponse : Response → Type 0
IsHeldResponse (responses.NameList r) = Unit {0}
IsHeldResponse responses.Identify = Unit {0}
IsHeldResponse (responses.Read r) = IsHeldReadResponse r
IsHeldResponse (responses.Write r) = Unit {0}
IsHeldResponse (responses.TypeIs r) = Unit {0}
IsHeldResponse responses.Define = Unit {0}
IsHeldResponse (responses.MembersOf r) = IsNamedMembers r
IsHeldResponse (responses.Delete r) = IsCounted r

abbrev pub IsHeldPdu : MmsPdu → Type 0
IsHeldPdu (pdus.Request invoke request) = (invoke < 2 ^ 32) × IsHeldRequest request
IsHeldPdu (pdus.Response invoke response) = (invoke < 2 ^ 32) × IsHeldResponse response
IsHeldPdu (pdus.Error e) = e.invoke < 2 ^ 32
IsHeldPdu (pdus.Report r) = IsHeldReport r
IsHeldPdu (pdus.Reject r) = IfSome r.invoke (λ invoke. invoke < 2 ^ 32)
IsHeldPdu (pdus.Initiate offer) = IsHeldInitiate offer
IsHeldPdu (pdus.Initiated offer) = IsHeldInitiate offer
IsHeldPdu pdus.InitiateError = Unit {0}
IsHeldPdu pdus.Conclude = Unit {0}
IsHeldPdu pdus.Concluded = Unit {0}
