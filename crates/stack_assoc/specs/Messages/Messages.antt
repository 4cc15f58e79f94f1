-- What a message says: one TSDU through session, presentation, ACSE and MMS.
use Rattle.std.specs.Prelude.{◌≡◌, ℕ, Bool, true, false, List, ◌⊎◌, Result, Ok, Err}
use Rattle.std.specs.Prelude.{if◌then◌else◌}
use Rattle.ber_values.specs.declared.fault.BerFault.{BerFault}
use Rattle.ber_values.specs.declared.fault.Span.{Span}
use Rattle.ber_values.specs.Reading.{Taken}
use Rattle.session_profile.specs.declared.spdu.Spdu.{Spdu}
use Rattle.session_profile.specs.declared.spdu.Spdu.TheVariants as spdus
use Rattle.presentation_profile.specs.declared.expected.Expected.TheVariants as expects
use Rattle.presentation_profile.specs.declared.ppdu.Ppdu.{Ppdu}
use Rattle.presentation_profile.specs.declared.ppdu.Ppdu.TheVariants as ppdus
use Rattle.mms_services.specs.declared.pdu.MmsPdu.{MmsPdu}
use Rattle.mms_services.specs.Pdus.{HasInvoke}
use Rattle.mms_services.specs.Numbered.{numbered_request}
use Rattle.stack_assoc.specs.declared.messages.expecting.Expecting.{Expecting}
use Rattle.stack_assoc.specs.declared.messages.fault.Layer.TheVariants as layers
use Rattle.stack_assoc.specs.declared.messages.fault.StackFault.{StackFault}
use Rattle.stack_assoc.specs.declared.messages.heard.Heard.{Heard}
use Rattle.stack_assoc.specs.declared.messages.heard.Heard.TheVariants as heard
use Rattle.stack_assoc.specs.Messages.Meanings.{Meaning, says_just, says_nothing, inside, where_allowed}
use Rattle.stack_assoc.specs.Messages.Layers.{out_of_order, octets_at, spdu_of, ppdu_at, pdu_at}
use Rattle.stack_assoc.specs.Messages.Setting.{connect_at, accept_at}
use Rattle.stack_assoc.specs.Messages.Turns.{spdu_may_come, pdu_may_come, may_ask}

-- ---- data

-- a request may come, and these octets are one with this number, in which a rule is broken
pub record IsBadRequest (e : Expecting) (tsdu : List ℕ) (body : Span) (invoke : ℕ) : Type 0 where
  pub may : may_ask e.side e.phase ≡ true
  pub number : HasInvoke (octets_at tsdu body) invoke
  pub broken : (f : StackFault) × (pdu_at tsdu body).breaks f

-- what is heard where a PDU has a fault: its number, where a request may come and the octets are
-- one with a number; else the fault
abbrev pub bad_request_read : Bool → StackFault → Result (Taken ℕ) BerFault
    → Result Heard StackFault
bad_request_read true fault (Ok number) = Ok (heard.BadRequest number.value)
bad_request_read true fault (Err other) = Err fault
bad_request_read false fault number = Err fault

-- what is heard of a PDU that was read of these octets
abbrev pub heard_of_pdu : Expecting → List ℕ → Result MmsPdu StackFault → Result Heard StackFault
heard_of_pdu e octets (Ok p) =
    if pdu_may_come e p then Ok (heard.Pdu p) else Err (out_of_order layers.Mms)
heard_of_pdu e octets (Err fault) =
    bad_request_read (may_ask e.side e.phase) fault (numbered_request.reading 0 octets)

-- a PDU that may come now, or a faulty request that may be answered; else the fault of the PDU
unfoldable pub data_at : Expecting → List ℕ → Span → Meaning Heard
data_at e tsdu body = record {
  says = λ h.
      ((p : MmsPdu) × (pdu_at tsdu body).says p × (pdu_may_come e p ≡ true) × (h ≡ heard.Pdu p))
      ⊎ ((invoke : ℕ) × IsBadRequest e tsdu body invoke × (h ≡ heard.BadRequest invoke));
  breaks = λ f.
      ((p : MmsPdu) × (pdu_at tsdu body).says p × (pdu_may_come e p ≡ false)
      × (f ≡ out_of_order layers.Mms))
      ⊎ (((invoke : ℕ) → IsBadRequest e tsdu body invoke → ⊥) × (pdu_at tsdu body).breaks f);
  reading = heard_of_pdu e (octets_at tsdu body) (pdu_at tsdu body).reading;
}

-- user data in a data transfer of the session
abbrev pub user_data_in : Expecting → List ℕ → Ppdu → Meaning Heard
user_data_in e tsdu (ppdus.Carry id body) = data_at e tsdu body
user_data_in e tsdu _ = says_nothing (out_of_order layers.Presentation)

unfoldable pub carry_at : Expecting → List ℕ → Span → Meaning Heard
carry_at e tsdu body =
    inside (ppdu_at (expects.Carry e.mms) tsdu body) (user_data_in e tsdu)

-- ---- the whole

-- what an SPDU says
abbrev pub said_by : Expecting → List ℕ → Spdu → Meaning Heard
said_by e tsdu (spdus.Connect called body) = connect_at tsdu called body
said_by e tsdu (spdus.Accept called body) = accept_at e tsdu body
said_by e tsdu spdus.Refuse = says_just heard.Refuse
said_by e tsdu (spdus.Carry body) = carry_at e tsdu body
said_by e tsdu spdus.Finish = says_just heard.Finish
said_by e tsdu spdus.Disconnect = says_just heard.Disconnect
said_by e tsdu spdus.Abort = says_just heard.Abort
said_by e tsdu spdus.AbortAccept = says_just heard.AbortAccept

-- what an SPDU says, where it may come
abbrev pub said_in_turn : Expecting → List ℕ → Spdu → Meaning Heard
said_in_turn e tsdu spdu = where_allowed (spdu_may_come e.side e.phase spdu)
    (out_of_order layers.Session) (said_by e tsdu spdu)

-- what a TSDU says
unfoldable pub message : Expecting → List ℕ → Meaning Heard
message e tsdu = inside (spdu_of tsdu) (said_in_turn e tsdu)
