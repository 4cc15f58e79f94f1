-- A calling end that asks an agenda: what it says and shows, and how it ends, over the agenda that
-- it began with and all octets that its peer has given.
use Rattle.std.specs.Prelude.{◌≡◌, ℕ, List, [], ◌∷◌, ◌++◌, Option, Some, None, Result, Ok, Err}
use Rattle.tpkt_cotp.specs.Places.{Stream, messages_of, stream_in}
use Rattle.tpkt_cotp.specs.Streams.{Message, asks, confirms, tsdu}
use Rattle.tpkt_cotp.specs.Streams as transport
use Rattle.tpkt_cotp.specs.Written.{connection_request_octets}
use Rattle.tpkt_cotp.specs.declared.turn.Role.TheVariants.{Calling}
use Rattle.stack_assoc.specs.declared.messages.fault.StackFault.{StackFault}
use Rattle.stack_assoc.specs.Messages.Messages.{message}
use Rattle.stack_assoc.specs.Arrivals.{Arrival, asked, confirmed, gone, Role, calling}
use Rattle.stack_assoc.specs.Expectations.{setup_after, expecting_after}
use Rattle.stack_assoc.specs.Handing.{answer_to, stack_in}
use Rattle.stack_assoc.specs.Saying.{role_concluding}
use Rattle.stack_assoc.specs.declared.input.StackIn.{StackIn}
use Rattle.tase_conn.specs.Map.Readings.{arrival_heard, broken_at_end}
use Rattle.asking_end.specs.declared.end.AskEnd.{AskEnd}
use Rattle.asking_end.specs.declared.end.AskEnd.TheVariants as ends
use Rattle.asking_end.specs.declared.asker.Awaiting.{Awaiting}
use Rattle.asking_end.specs.declared.asker.Awaiting.TheVariants as awaits
use Rattle.asking_end.specs.declared.asker.AskMove.{AskMove}
use Rattle.asking_end.specs.declared.asker.AskMove.TheVariants as moves
use Rattle.asking_end.specs.declared.asker.Asker.{Asker}
use Rattle.asking_end.specs.Agendas.{AgendaActs}
use Rattle.asking_end.specs.Asking.{AskTurn, at_call, awaited_said}
use Rattle.asking_end.specs.Hearings.{input_heeded, input_shown}

-- how its agenda is asked, its end of the association, the messages that it has heard, and how it
-- has ended, if it has
pub record AskerState (A E : Type 0) : Type 0 where
  pub asker : Asker A
  pub role : Role
  pub told : List Arrival
  pub end : Option (AskEnd E)

-- what it says and shows, and how it stands behind that
pub record AskerStep (A E I : Type 0) : Type 0 where
  pub state : AskerState A E
  pub said : List ℕ
  pub shown : List I

-- nothing is said and shown
abbrev pub silent : {A E I : Type 0} → AskerState A E → AskerStep A E I
silent s = record { state = s; said = []; shown = [] }

-- a step, and then others
abbrev pub step_then : {A E I : Type 0} → AskerStep A E I → (AskerState A E → AskerStep A E I)
    → AskerStep A E I
step_then r next = record {
  state = (next r.state).state;
  said = r.said ++ (next r.state).said;
  shown = r.shown ++ (next r.state).shown;
}

-- where it has ended nothing more is heard
abbrev pub unless_ended : {A E I : Type 0} → Option (AskEnd E) → AskerState A E → AskerStep A E I
    → AskerStep A E I
unless_ended None s goes = goes
unless_ended (Some end) s goes = silent s

-- ---- a message

-- once conclude is said its response is awaited
abbrev pub role_awaiting : {A E : Type 0} → Awaiting → AskerState A E → Role
role_awaiting awaits.Conclusion s = role_concluding s.role s.told
role_awaiting awaiting s = s.role

-- the agenda is asked so, and the calling end does this
abbrev pub moved : {A E I : Type 0} → AgendaActs A E I → Asker A → AskMove E → AskerState A E
    → AskerStep A E I
moved acts p moves.Wait s = silent (record s { asker = p })
moved acts p moves.Say s = record {
  state = record s { asker = p; role = role_awaiting p.awaiting s };
  said = awaited_said acts (setup_after s.told) p.awaiting p;
  shown = [];
}
moved acts p (moves.End end) s = silent (record s { asker = p; end = Some end })

abbrev pub moved_by : {A E I : Type 0} → AgendaActs A E I → AskTurn A E → AskerState A E
    → AskerStep A E I
moved_by acts m s = moved acts m.0 m.1 s

-- what the stack hands out is heard
abbrev pub input_step : {A E I : Type 0} → AgendaActs A E I → StackIn → AskerState A E
    → AskerStep A E I
input_step acts input s = record (moved_by acts (input_heeded acts input s.asker) s) {
  shown = input_shown acts input s.asker;
}

abbrev pub handed_step : {A E I : Type 0} → AgendaActs A E I → Option StackIn → AskerState A E
    → AskerStep A E I
handed_step acts None s = silent s
handed_step acts (Some input) s = input_step acts input s

-- a message more was heard
abbrev pub with_told : {A E : Type 0} → Arrival → AskerState A E → AskerState A E
with_told t s = record s { told = s.told ++ t ∷ [] }

-- a message is heard: the connect answers the connect confirm of the transport at once
abbrev pub asker_step : {A E I : Type 0} → AgendaActs A E I → Arrival → AskerState A E
    → AskerStep A E I
asker_step acts t s = record (handed_step acts (stack_in t) (with_told t s)) {
  said = answer_to s.role t ++ (handed_step acts (stack_in t) (with_told t s)).said;
}

-- messages are heard, one after another, until it has ended
abbrev pub asker_steps : {A E I : Type 0} → AgendaActs A E I → List Arrival → AskerState A E
    → AskerStep A E I
asker_steps acts [] s = silent s
asker_steps acts (t ∷ told) s =
    unless_ended s.end s (step_then (asker_step acts t s) (asker_steps acts told))

-- before anything has come. It calls by this title
abbrev pub asker_start : {A E I : Type 0} → AgendaActs A E I → Option (List ℕ) → A
    → AskerState A E
asker_start acts title agenda =
    record { asker = at_call agenda; role = calling title None; told = []; end = None }

-- one that has heard these messages, one after another, stands so
pub record HasHeard {A E I : Type 0} (acts : AgendaActs A E I) (title : Option (List ℕ))
    (agenda : A) (told : List Arrival) (step : AskerStep A E I) : Type 0 where
  pub is : asker_steps acts told (asker_start acts title agenda) ≡ step
  -- it hadn't ended before the last of them
  pub told_is : step.state.told ≡ told

-- a rule is broken
abbrev pub broken_step : {A E I : Type 0} → StackFault → AskerState A E → AskerStep A E I
broken_step f s = silent (record s { end = Some (ends.Refused f) })

-- ---- all octets

-- what has come in a message of the transport behind these, or the rule that it breaks first
abbrev pub arrival_by : Role → List Arrival → Message → Result Arrival StackFault
arrival_by role before (asks request) = Ok (asked request)
arrival_by role before (confirms confirm) = Ok (confirmed confirm)
arrival_by role before transport.gone = Ok gone
arrival_by role before (tsdu place octets) =
    arrival_heard (message (expecting_after role before) octets).reading

-- a message, and then others; or the rule that it breaks
abbrev pub message_step : {A E I : Type 0} → AgendaActs A E I
    → (AskerState A E → AskerStep A E I) → AskerState A E → Result Arrival StackFault
    → AskerStep A E I
message_step acts next s (Ok t) = step_then (asker_step acts t s) next
message_step acts next s (Err f) = broken_step f s

-- behind all messages a rule may be broken
abbrev pub end_step : {A E I : Type 0} → Option StackFault → AskerState A E → AskerStep A E I
end_step None s = silent s
end_step (Some f) s = broken_step f s

-- messages of the transport are heard, where this rule, if any, is broken behind all of them, until
-- it has ended
abbrev pub asker_from : {A E I : Type 0} → AgendaActs A E I → Option StackFault → List Message
    → AskerState A E → AskerStep A E I
asker_from acts broken [] s = unless_ended s.end s (end_step broken s)
asker_from acts broken (m ∷ ms) s = unless_ended s.end s
    (message_step acts (asker_from acts broken ms) s (arrival_by s.role s.told m))

abbrev pub asker_over : {A E I : Type 0} → AgendaActs A E I → Option (List ℕ) → A → Stream
    → AskerStep A E I
asker_over acts title agenda stream =
    asker_from acts (broken_at_end stream.end) (messages_of stream.messages)
    (asker_start acts title agenda)

-- what all octets that have come make of a calling end behind its connect request
unfoldable pub asker_behind : {A E I : Type 0} → AgendaActs A E I → Option (List ℕ) → A → List ℕ
    → AskerStep A E I
asker_behind acts title agenda octets = asker_over acts title agenda (stream_in Calling octets)

-- all that a calling end says and shows over all octets that have come, and how it stands: the
-- connect request of the transport, and all behind it
abbrev pub asker_of : {A E I : Type 0} → AgendaActs A E I → Option (List ℕ) → A → List ℕ
    → AskerStep A E I
asker_of acts title agenda octets = record (asker_behind acts title agenda octets) {
  said = connection_request_octets 1 ++ (asker_behind acts title agenda octets).said;
}
