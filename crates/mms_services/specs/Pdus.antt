-- PDUs (ISO 9506-2, MMSpdu), and the number of a request in whose service a rule is broken.
use Rattle.std.specs.Prelude.{◌≡◌, ℕ, List, [], Option, Some, Result, Ok, Err, ◌↔◌}
use Rattle.ber_values.specs.declared.fault.BerFault.{BerFault}
use Rattle.ber_values.specs.Faults.{fault_at}
use Rattle.ber_values.specs.Reading.{Taken}
use Rattle.ber_values.specs.Grammars.{Grammar, then_in, map_in}
use Rattle.ber_values.specs.Parts.{Contents, Parted, BeginsPart, part_in, choose_in, contents_as}
use Rattle.ber_values.specs.Parts.{all_in, whole_in}
use Rattle.ber_values.specs.Leaves.{unsigned, raw, fixed}
use Rattle.mms_services.specs.declared.fault.MmsFault.{MmsFault}
use Rattle.mms_services.specs.declared.request.Request.{Request}
use Rattle.mms_services.specs.declared.response.Response.{Response}
use Rattle.mms_services.specs.declared.pdu.MmsPdu.{MmsPdu}
use Rattle.mms_services.specs.declared.pdu.MmsPdu.TheVariants as pdus
use Rattle.mms_services.specs.Requests.{one_request}
use Rattle.mms_services.specs.Responses.{one_response}
use Rattle.mms_services.specs.Errors.{error_pdu}
use Rattle.mms_services.specs.Access.Reports.{report_pdu}
use Rattle.mms_services.specs.Rejects.{reject_pdu}
use Rattle.mms_services.specs.Initiates.{initiate}

abbrev pub requested : ℕ → Request → MmsPdu
requested invoke request = pdus.Request invoke request

abbrev pub responded : ℕ → Response → MmsPdu
responded invoke response = pdus.Response invoke response

-- the number of a request
unfoldable pub invoke_in : Grammar ℕ
invoke_in = part_in 2 unsigned

-- a number and a service
unfoldable pub confirmed_request : Contents MmsPdu
confirmed_request = all_in (then_in invoke_in (λ invoke. map_in (requested invoke) one_request))

unfoldable pub confirmed_response : Contents MmsPdu
confirmed_response =
    all_in (then_in invoke_in (λ invoke. map_in (responded invoke) one_response))

-- what begins an association, or ends it; what says that none begins isn't looked at
unfoldable pub frame_pdu : Grammar MmsPdu
frame_pdu =
    choose_in 168 (contents_as pdus.Initiate initiate)
    (choose_in 169 (contents_as pdus.Initiated initiate)
    (choose_in 170 (contents_as (λ u. pdus.InitiateError) raw)
    (choose_in 139 (contents_as (λ u. pdus.Conclude) (fixed []))
    (part_in 140 (contents_as (λ u. pdus.Concluded) (fixed []))))))

-- a PDU, by its tag
unfoldable pub one_pdu : Grammar MmsPdu
one_pdu =
    choose_in 160 confirmed_request
    (choose_in 161 confirmed_response
    (choose_in 162 (contents_as pdus.Error error_pdu)
    (choose_in 163 (contents_as pdus.Report report_pdu)
    (choose_in 164 (contents_as pdus.Reject reject_pdu)
    frame_pdu))))

-- a PDU, which no octet follows
unfoldable pub pdu : Grammar MmsPdu
pdu = whole_in one_pdu

-- octets are one confirmed request with this number, whatever stands in the place of its service
pub record HasInvoke (octets : List ℕ) (invoke : ℕ) : Type 0 where
  -- an element with the tag of a confirmed request,
  pub request : Parted
  pub begun : BeginsPart 160 0 octets request
  -- which no octet follows,
  pub sole : request.rest ≡ []
  -- and whose contents begin with the number
  pub number : Taken ℕ
  pub numbered : invoke_in.begins request.head.body request.contents number
  pub is : number.value ≡ invoke

-- a number was found just where octets are a request with it
abbrev pub IsInvokeOf : List ℕ → Option ℕ → Type 0
IsInvokeOf octets found = (invoke : ℕ) → (found ≡ Some invoke) ↔ HasInvoke octets invoke

-- the same answer, without the number of the request
abbrev pub without_invoke : Result MmsPdu MmsFault → Result MmsPdu BerFault
without_invoke (Ok p) = Ok p
without_invoke (Err f) = Err (fault_at f.place f.why)
