-- Which message may come: of which kind of SPDU (ISO 8327-1), and with which PDU (ISO 9506-2).
use Rattle.std.specs.Prelude.{ℕ, Bool, true, false, Option, Some, None}
use Rattle.session_profile.specs.declared.spdu.Spdu.{Spdu}
use Rattle.session_profile.specs.declared.spdu.Spdu.TheVariants as spdus
use Rattle.mms_services.specs.declared.pdu.MmsPdu.{MmsPdu}
use Rattle.mms_services.specs.declared.pdu.MmsPdu.TheVariants as pdus
use Rattle.stack_assoc.specs.declared.messages.expecting.Expecting.{Expecting}
use Rattle.stack_assoc.specs.declared.messages.expecting.Phase.{Phase}
use Rattle.stack_assoc.specs.declared.messages.expecting.Phase.TheVariants as phases
use Rattle.stack_assoc.specs.declared.messages.expecting.Side.{Side}
use Rattle.stack_assoc.specs.declared.messages.expecting.Side.TheVariants as sides

-- ---- phases

-- no association stands yet
abbrev pub is_before : Phase → Bool
is_before phases.Unassociated = true
is_before _ = false

-- an association stands, concluded or not
abbrev pub is_held : Phase → Bool
is_held phases.Associated = true
is_held phases.Concluded = true
is_held _ = false

-- an association stands, and isn't concluded
abbrev pub is_open : Phase → Bool
is_open phases.Associated = true
is_open _ = false

-- other messages than aborts may come
abbrev pub is_going : Phase → Bool
is_going phases.Ending = false
is_going _ = true

-- ---- SPDUs

-- a connect may come
abbrev pub may_connect : Side → Phase → Bool
may_connect sides.Called phase = is_before phase
may_connect sides.Calling phase = false
may_connect sides.Either phase = is_going phase

-- an answer to a connect may come
abbrev pub may_answer : Side → Phase → Bool
may_answer sides.Called phase = false
may_answer sides.Calling phase = is_before phase
may_answer sides.Either phase = is_going phase

-- data may come
abbrev pub may_carry : Side → Phase → Bool
may_carry sides.Called phase = is_held phase
may_carry sides.Calling phase = is_held phase
may_carry sides.Either phase = is_going phase

-- a finish may come
abbrev pub may_finish : Side → Phase → Bool
may_finish sides.Called phase = is_held phase
may_finish sides.Calling phase = false
may_finish sides.Either phase = is_going phase

-- a disconnect may come
abbrev pub may_disconnect : Side → Phase → Bool
may_disconnect sides.Called phase = false
may_disconnect sides.Calling phase = is_held phase
may_disconnect sides.Either phase = is_going phase

-- an SPDU of this kind may come
abbrev pub spdu_may_come : Side → Phase → Spdu → Bool
spdu_may_come side phase (spdus.Connect called body) = may_connect side phase
spdu_may_come side phase (spdus.Accept called body) = may_answer side phase
spdu_may_come side phase spdus.Refuse = may_answer side phase
spdu_may_come side phase (spdus.Carry body) = may_carry side phase
spdu_may_come side phase spdus.Finish = may_finish side phase
spdu_may_come side phase spdus.Disconnect = may_disconnect side phase
spdu_may_come side phase spdus.Abort = true
spdu_may_come side phase spdus.AbortAccept = true

-- ---- PDUs

-- what the calling end sends may come: a request, also a faulty one, and a conclude
abbrev pub may_ask : Side → Phase → Bool
may_ask sides.Called phase = is_open phase
may_ask sides.Calling phase = false
may_ask sides.Either phase = true

-- what the called end answers may come: a response and an error
abbrev pub may_reply : Side → Phase → Bool
may_reply sides.Called phase = false
may_reply sides.Calling phase = is_open phase
may_reply sides.Either phase = true

-- what either end sends may come: a report and a reject
abbrev pub may_tell : Side → Phase → Bool
may_tell sides.Called phase = is_open phase
may_tell sides.Calling phase = is_open phase
may_tell sides.Either phase = true

-- the answer to a conclude may come: where it is awaited
abbrev pub may_be_concluded : Side → Phase → Bool → Bool
may_be_concluded sides.Called phase awaited = false
may_be_concluded sides.Calling phase true = is_open phase
may_be_concluded sides.Calling phase false = false
may_be_concluded sides.Either phase awaited = true

-- a PDU of this kind may come in data; what begins an association never does
abbrev pub pdu_may_come : Expecting → MmsPdu → Bool
pdu_may_come e (pdus.Request invoke request) = may_ask e.side e.phase
pdu_may_come e (pdus.Response invoke response) = may_reply e.side e.phase
pdu_may_come e (pdus.Error error) = may_reply e.side e.phase
pdu_may_come e (pdus.Report report) = may_tell e.side e.phase
pdu_may_come e (pdus.Reject reject) = may_tell e.side e.phase
pdu_may_come e (pdus.Initiate initiate) = false
pdu_may_come e (pdus.Initiated initiate) = false
pdu_may_come e pdus.InitiateError = false
pdu_may_come e pdus.Conclude = may_ask e.side e.phase
pdu_may_come e pdus.Concluded = may_be_concluded e.side e.phase e.awaited

-- ---- ids

-- the id of a context that this end offered, so that an answer has to have it
abbrev pub offered_by : Side → ℕ → Option ℕ
offered_by sides.Calling id = Some id
offered_by _ id = None
