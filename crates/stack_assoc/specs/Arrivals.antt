-- What the messages of a stream tell, and the end that reads them.
use Rattle.std.specs.Prelude.{ℕ, Bool, true, false, List, [], ◌∷◌, Option, Some, None}
use Rattle.tpkt_cotp.specs.declared.tpdu.ConnectRequest.{ConnectRequest}
use Rattle.tpkt_cotp.specs.declared.tpdu.ConnectConfirm.{ConnectConfirm}
use Rattle.tpkt_cotp.specs.declared.turn.Role as transport
use Rattle.tpkt_cotp.specs.declared.turn.Role.TheVariants as ends
use Rattle.mms_services.specs.declared.pdu.MmsPdu.{MmsPdu}
use Rattle.mms_services.specs.declared.pdu.MmsPdu.TheVariants as pdus
use Rattle.stack_assoc.specs.declared.messages.expecting.Side.{Side}
use Rattle.stack_assoc.specs.declared.messages.expecting.Side.TheVariants as sides
use Rattle.stack_assoc.specs.declared.messages.heard.Connecting.{Connecting}
use Rattle.stack_assoc.specs.declared.messages.heard.Accepting.{Accepting}
use Rattle.stack_assoc.specs.declared.messages.heard.Heard.{Heard}
use Rattle.stack_assoc.specs.declared.messages.heard.Heard.TheVariants as heards

-- what has come in one message
pub data Arrival : Type 0 where
  -- a connect request and a connect confirm of the transport
  asked : ConnectRequest → Arrival
  confirmed : ConnectConfirm → Arrival
  -- the transport has ended
  gone : Arrival
  -- a message of the association
  heard : Heard → Arrival

-- the end that reads
pub data Role : Type 0 where
  called : Role
  -- its title, if it has one, and after how many messages it first said conclude, if it did
  calling : Option (List ℕ) → Option ℕ → Role

-- the end that reads, as the transport names it, and as the layers above it do
abbrev pub end_of : Role → transport.Role
end_of called = ends.Called
end_of (calling title said) = ends.Calling

abbrev pub side_of : Role → Side
side_of called = sides.Called
side_of (calling title said) = sides.Calling

-- ---- searches

-- the first value that is found among items
abbrev pub or_else : {A : Type 0} → Option A → Option A → Option A
or_else None other = other
or_else (Some x) other = Some x

abbrev pub first_in : {A B : Type 0} → (A → Option B) → List A → Option B
first_in f [] = None
first_in f (x ∷ xs) = or_else (f x) (first_in f xs)

-- what a connect request or confirm says of the size of TPDUs
abbrev pub size_in : Arrival → Option (Option ℕ)
size_in (asked r) = Some r.parameters.size
size_in (confirmed c) = Some c.parameters.size
size_in _ = None

abbrev pub confirm_in : Arrival → Option ConnectConfirm
confirm_in (confirmed c) = Some c
confirm_in _ = None

abbrev pub connect_heard : Heard → Option Connecting
connect_heard (heards.Connect c) = Some c
connect_heard _ = None

abbrev pub connect_in : Arrival → Option Connecting
connect_in (heard h) = connect_heard h
connect_in _ = None

abbrev pub accept_heard : Heard → Option Accepting
accept_heard (heards.Accept a) = Some a
accept_heard _ = None

abbrev pub accept_in : Arrival → Option Accepting
accept_in (heard h) = accept_heard h
accept_in _ = None

abbrev pub pdu_heard : Heard → Option MmsPdu
pdu_heard (heards.Pdu p) = Some p
pdu_heard _ = None

abbrev pub pdu_in : Arrival → Option MmsPdu
pdu_in (heard h) = pdu_heard h
pdu_in _ = None

abbrev pub is_refuse_heard : Heard → Bool
is_refuse_heard heards.Refuse = true
is_refuse_heard _ = false

abbrev pub is_refuse : Arrival → Bool
is_refuse (heard h) = is_refuse_heard h
is_refuse _ = false

abbrev pub is_conclude_pdu : Option MmsPdu → Bool
is_conclude_pdu (Some pdus.Conclude) = true
is_conclude_pdu _ = false

abbrev pub is_concluded_pdu : Option MmsPdu → Bool
is_concluded_pdu (Some pdus.Concluded) = true
is_concluded_pdu _ = false

abbrev pub is_conclude : Arrival → Bool
is_conclude t = is_conclude_pdu (pdu_in t)

abbrev pub is_concluded : Arrival → Bool
is_concluded t = is_concluded_pdu (pdu_in t)
