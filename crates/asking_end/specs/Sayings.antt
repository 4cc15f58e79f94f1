-- What a calling end says, in octets.
use Rattle.std.specs.Prelude.{◌≡◌, ℕ, ◌≤◌, false, List, [], Option, Some, None}
use Rattle.tpkt_cotp.specs.Written.{wire}
use Rattle.mms_services.specs.declared.pdu.MmsPdu.{MmsPdu}
use Rattle.mms_services.specs.declared.pdu.MmsPdu.TheVariants as pdus
use Rattle.mms_services.specs.PduOctets.{pdu_len, IsWritablePdu}
use Rattle.stack_assoc.specs.declared.wire.setup.AssociationSetup.{AssociationSetup}
use Rattle.stack_assoc.specs.Wire.Tsdus.{finish_tsdu}
use Rattle.tase_views.specs.declared.call.CallKind.{CallKind}
use Rattle.tase_conn.specs.Map.Asked.{request_in, is_odd}
use Rattle.tase_conn.specs.Map.Out.{said}
use Rattle.asking_end.specs.declared.limits.TheConstants.{LAST_INVOKE, REQUEST_LIMIT}

-- the request of a call, with this number
abbrev pub request_pdu : ℕ → CallKind → MmsPdu
request_pdu number call = pdus.Request number (request_in call)

-- a PDU that may be said: it may be written, and isn't longer than the calling end offers
pub record IsSayable (pdu : MmsPdu) : Type 0 where
  pub writable : IsWritablePdu pdu
  pub few : pdu_len pdu ≤ REQUEST_LIMIT

-- a call that is short enough by whichever number it is asked
abbrev pub IsShort : CallKind → Type 0
IsShort call = pdu_len (request_pdu LAST_INVOKE call) ≤ REQUEST_LIMIT

-- a call that may be asked: a service of the profile, and short enough
pub record IsAskable (call : CallKind) : Type 0 where
  pub service : is_odd call ≡ false
  pub short : IsShort call

abbrev pub pdu_said : AssociationSetup → Option MmsPdu → List ℕ
pdu_said setup None = []
pdu_said setup (Some pdu) = said setup pdu

-- the finish, which asks for the release
abbrev pub finish_said : AssociationSetup → List ℕ
finish_said setup = wire setup.size (finish_tsdu setup.acse)
