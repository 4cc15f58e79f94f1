-- The written forms of PDUs.
use Rattle.std.specs.Prelude.{ℕ, List, [], ◌++◌, length, pos}
use Rattle.ber_values.specs.Lengths.{capped}
use Rattle.ber_values.specs.Writing.{written, integer_octets}
use Rattle.mms_services.specs.declared.request.Request.{Request}
use Rattle.mms_services.specs.declared.request.Request.TheVariants as requests
use Rattle.mms_services.specs.declared.response.Response.{Response}
use Rattle.mms_services.specs.declared.response.Response.TheVariants as responses
use Rattle.mms_services.specs.declared.pdu.MmsPdu.{MmsPdu}
use Rattle.mms_services.specs.declared.pdu.MmsPdu.TheVariants as pdus
use Rattle.mms_services.specs.Names.NameLists.{name_list_request_octets, name_list_response_octets}
use Rattle.mms_services.specs.Identities.{identify_response_octets}
use Rattle.mms_services.specs.Access.Reads.{read_request_octets, read_response_octets}
use Rattle.mms_services.specs.Access.Writes.{write_request_octets, write_response_octets}
use Rattle.mms_services.specs.Access.TypesOf.{type_request_octets, type_response_octets}
use Rattle.mms_services.specs.Names.Defines.{define_request_octets}
use Rattle.mms_services.specs.Names.MemberLists.{members_request_octets, members_response_octets}
use Rattle.mms_services.specs.Names.Deletes.{delete_request_octets, delete_response_octets}
use Rattle.mms_services.specs.Errors.{error_pdu_octets}
use Rattle.mms_services.specs.Access.Reports.{report_pdu_octets}
use Rattle.mms_services.specs.Rejects.{reject_pdu_octets}
use Rattle.mms_services.specs.Initiates.{initiate_octets, IsFullInitiate}
use Rattle.mms_services.specs.Lawful.{IsLawfulRequest, IsLawfulPdu}

-- ---- requests

-- the tag of a service; of one that isn't known none is written
abbrev pub request_tag : Request → ℕ
request_tag (requests.NameList r) = 161
request_tag requests.Identify = 130
request_tag (requests.Read r) = 164
request_tag (requests.Write r) = 165
request_tag (requests.TypeOf r) = 166
request_tag (requests.Define r) = 171
request_tag (requests.MembersOf r) = 172
request_tag (requests.Delete r) = 173
request_tag requests.Unknown = 128

abbrev pub request_contents : Request → List ℕ
request_contents (requests.NameList r) = name_list_request_octets r
request_contents requests.Identify = []
request_contents (requests.Read r) = read_request_octets r
request_contents (requests.Write r) = write_request_octets r
request_contents (requests.TypeOf r) = type_request_octets r
request_contents (requests.Define r) = define_request_octets r
request_contents (requests.MembersOf r) = members_request_octets r
request_contents (requests.Delete r) = delete_request_octets r
request_contents requests.Unknown = []

unfoldable pub request_octets : Request → List ℕ
request_octets request = written (request_tag request) (request_contents request)

-- ---- responses

abbrev pub response_tag : Response → ℕ
response_tag (responses.NameList r) = 161
response_tag responses.Identify = 162
response_tag (responses.Read r) = 164
response_tag (responses.Write r) = 165
response_tag (responses.TypeIs r) = 166
response_tag responses.Define = 139
response_tag (responses.MembersOf r) = 172
response_tag (responses.Delete r) = 173

abbrev pub response_contents : Response → List ℕ
response_contents (responses.NameList r) = name_list_response_octets r
response_contents responses.Identify = identify_response_octets
response_contents (responses.Read r) = read_response_octets r
response_contents (responses.Write r) = write_response_octets r
response_contents (responses.TypeIs r) = type_response_octets r
response_contents responses.Define = []
response_contents (responses.MembersOf r) = members_response_octets r
response_contents (responses.Delete r) = delete_response_octets r

unfoldable pub response_octets : Response → List ℕ
response_octets response = written (response_tag response) (response_contents response)

-- ---- PDUs

-- the number of a request
unfoldable pub invoke_octets : ℕ → List ℕ
invoke_octets invoke = written 2 (integer_octets (pos invoke))

abbrev pub pdu_tag : MmsPdu → ℕ
pdu_tag (pdus.Request invoke request) = 160
pdu_tag (pdus.Response invoke response) = 161
pdu_tag (pdus.Error e) = 162
pdu_tag (pdus.Report r) = 163
pdu_tag (pdus.Reject r) = 164
pdu_tag (pdus.Initiate offer) = 168
pdu_tag (pdus.Initiated offer) = 169
pdu_tag pdus.InitiateError = 170
pdu_tag pdus.Conclude = 139
pdu_tag pdus.Concluded = 140

abbrev pub pdu_contents : MmsPdu → List ℕ
pdu_contents (pdus.Request invoke request) = invoke_octets invoke ++ request_octets request
pdu_contents (pdus.Response invoke response) = invoke_octets invoke ++ response_octets response
pdu_contents (pdus.Error e) = error_pdu_octets e
pdu_contents (pdus.Report r) = report_pdu_octets r
pdu_contents (pdus.Reject r) = reject_pdu_octets r
pdu_contents (pdus.Initiate offer) = initiate_octets offer
pdu_contents (pdus.Initiated offer) = initiate_octets offer
pdu_contents pdus.InitiateError = []
pdu_contents pdus.Conclude = []
pdu_contents pdus.Concluded = []

unfoldable pub pdu_octets : MmsPdu → List ℕ
pdu_octets p = written (pdu_tag p) (pdu_contents p)

-- how many octets are written, or the most that a length is said to be
abbrev pub pdu_len : MmsPdu → ℕ
pdu_len p = capped (length (pdu_octets p))

-- a request that may be written: its service is known
abbrev pub IsWritableRequest : Request → Type 0
IsWritableRequest requests.Unknown = ⊥
IsWritableRequest request = IsLawfulRequest request

-- a PDU that may be written: an initiate has version 1 and lacks nothing, a service is known, and
-- it doesn't say that no association begins
abbrev pub IsWritablePdu : MmsPdu → Type 0
IsWritablePdu (pdus.Request invoke request) = IsWritableRequest request
IsWritablePdu (pdus.Initiate offer) = IsFullInitiate offer
IsWritablePdu (pdus.Initiated offer) = IsFullInitiate offer
IsWritablePdu pdus.InitiateError = ⊥
IsWritablePdu p = IsLawfulPdu p
