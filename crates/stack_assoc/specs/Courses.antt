-- An end of an association as contracts see it, and where it stands in its stream.
use Rattle.std.specs.Prelude.{◌≡◌, ℕ, ◌+◌, ◌≤◌, Bool, true, false, List, [], ◌∷◌, ◌++◌, length}
use Rattle.std.specs.Prelude.{Option, Some, None, MatchOption, Result, Ok, Err}
use Rattle.std.specs.Prelude.{MatchBool, ◌⊎◌}
use Rattle.tpkt_cotp.specs.Streams.{Message, tsdu}
use Rattle.tpkt_cotp.specs.Sound.{IsSoundMessage}
use Rattle.tpkt_cotp.specs.Lines.{Line}
use Rattle.tpkt_cotp.specs.Lines as transport
use Rattle.stack_assoc.specs.declared.messages.fault.StackFault.{StackFault}
use Rattle.stack_assoc.specs.declared.messages.heard.Heard.{Heard}
use Rattle.stack_assoc.specs.declared.messages.heard.Heard.TheVariants as heards
use Rattle.stack_assoc.specs.declared.wire.setup.AssociationSetup.{AssociationSetup}
use Rattle.stack_assoc.specs.declared.input.StackIn.{StackIn}
use Rattle.stack_assoc.specs.declared.input.StackIn.TheVariants as inputs
use Rattle.stack_assoc.specs.declared.input.StackState.{StackState}
use Rattle.stack_assoc.specs.declared.input.StackState.TheVariants as states
use Rattle.stack_assoc.specs.declared.milestones.Milestones.{Milestones}
use Rattle.stack_assoc.specs.declared.taken.Opening.{Opening}
use Rattle.stack_assoc.specs.declared.end_state.EndState.{EndState}
use Rattle.stack_assoc.specs.declared.end_state.EndState.TheVariants as standings
use Rattle.stack_assoc.specs.Arrivals.{Arrival, asked, confirmed, heard, Role, called, calling}
use Rattle.stack_assoc.specs.Arrivals.{end_of}
use Rattle.stack_assoc.specs.Arrivals as told
use Rattle.stack_assoc.specs.Expectations.{setup_after}
use Rattle.stack_assoc.specs.Tellings.{Tell, Tells, StopsTelling}
use Rattle.stack_assoc.specs.Handing.{is_offer, handed_out, answers_to}
use Rattle.stack_assoc.specs.Knowing.{Knows}
use Rattle.stack_assoc.specs.Taking.{opened, opening_listed}

pub record Course : Type 0 where
  -- its title, at the calling end
  pub title : Option (List ℕ)
  -- the transport
  pub line : Line
  -- what the transport gave that isn't told yet: a connect request or confirm whose answer is owed,
  -- and the message behind it
  pub owed : Option Opening
  pub held : Option Message
  -- what has come
  pub known : Milestones
  -- what the connect fixed
  pub setup : AssociationSetup
  -- the offer and the association
  pub standing : EndState
  -- the rule that was broken
  pub fault : Option StackFault

abbrev pub next_listed : Option Message → List Message
next_listed None = []
next_listed (Some m) = m ∷ []

abbrev pub messages_taken : Course → List Message
messages_taken v = opening_listed v.owed ++ next_listed v.held

-- ---- where it stands in its stream

-- the messages of the transport tell these; then come those that aren't told yet
pub record ReadsMessages (role : Role) (octets : List ℕ) (told : List Arrival)
    (v : Course) : Type 0 where
  pub messages : List Message
  pub tell : Tell role told messages
  pub stands : transport.Stands (end_of role) octets (messages ++ messages_taken v) v.line

abbrev pub role_title_of : Role → Option (List ℕ)
role_title_of called = None
role_title_of (calling title said) = title

-- conclude was said after so many of these messages
abbrev pub IsSince : Role → List Arrival → Type 0
IsSince called told = Unit {0}
IsSince (calling title None) told = Unit {0}
IsSince (calling title (Some n)) told = n ≤ length told

-- fed these octets, and these messages told; what is owed an answer counts as come already
pub record CourseStands (role : Role) (octets : List ℕ) (told : List Arrival)
    (v : Course) : Type 0 where
  pub title : v.title ≡ role_title_of role
  pub knows : Knows role (told ++ opened v.owed) v.known
  pub since : IsSince role told
  pub setup : v.setup ≡ setup_after (told ++ opened v.owed)
  pub reads : MatchOption v.fault (ReadsMessages role octets told v)
      (λ f. StopsTelling role octets told f)

-- all that the octets tell was told: they leave a rest, or break a rule behind it
pub record HasToldAll (role : Role) (octets : List ℕ) (told : List Arrival) (v : Course) :
    Type 0 where
  pub stands : CourseStands role octets told v
  pub all : MatchOption v.fault ((rest : List ℕ) × Tells role octets told rest) (λ f. Unit {0})

-- ---- what it holds

-- the octets of a message
abbrev pub message_octets_in : Option Message → List ℕ
message_octets_in (Some (tsdu place octets)) = octets
message_octets_in _ = []

-- so many octets of the stream are held
abbrev pub count_held : Course → ℕ
count_held v = length (message_octets_in v.held) + (length v.line.held + length v.line.unread)

-- a message that is held is within the limit, and beside it nothing is held of another one
abbrev pub IsAlone : Option Message → Line → Type 0
IsAlone None line = Unit {0}
IsAlone (Some m) line = IsSoundMessage m × (line.held ≡ [])

-- ---- the offer and the association

abbrev pub standing_offered : Bool → EndState
standing_offered true = standings.Offered
standing_offered false = standings.BadlyOffered

abbrev pub finishing : EndState → EndState
finishing standings.Accepted = standings.Finishing
finishing s = s

abbrev pub standing_heard : EndState → Heard → EndState
standing_heard s (heards.Connect c) = standing_offered (is_offer c)
standing_heard s (heards.Accept a) = standings.Accepted
standing_heard s heards.Refuse = standings.Closed
standing_heard s heards.Finish = finishing s
standing_heard s heards.Disconnect = standings.Closed
standing_heard s heards.Abort = standings.Closed
standing_heard s heards.AbortAccept = standings.Closed
standing_heard s (heards.Pdu p) = s
standing_heard s (heards.BadRequest invoke) = s

-- a message makes an offer, the association or its end
abbrev pub standing_with : EndState → Arrival → EndState
standing_with s (asked r) = s
standing_with s (confirmed c) = s
standing_with s told.gone = standings.Closed
standing_with s (heard h) = standing_heard s h

abbrev pub standing_behind : EndState → List Arrival → EndState
standing_behind s [] = s
standing_behind s (t ∷ told) = standing_behind (standing_with s t) told

-- an offer stands unanswered
abbrev pub is_offered : EndState → Bool
is_offered standings.Offered = true
is_offered standings.BadlyOffered = true
is_offered _ = false

-- the association stands, unless the stream has broken a rule
abbrev pub is_accepted : EndState → Bool
is_accepted standings.Accepted = true
is_accepted standings.Finishing = true
is_accepted _ = false

abbrev pub state_by : EndState → StackState
state_by standings.Waiting = states.Waiting
state_by standings.Offered = states.Offered
state_by standings.BadlyOffered = states.Offered
state_by standings.Accepted = states.Accepted
state_by standings.Finishing = states.Accepted
state_by standings.Closed = states.Ended

abbrev pub state_with : Option StackFault → EndState → StackState
state_with None s = state_by s
state_with (Some f) s = states.Ended

abbrev pub stack_state_of : Course → StackState
stack_state_of v = state_with v.fault v.standing

-- ---- what is taken next

-- no whole message is left unread, or the stream has stopped
abbrev pub IsCourseSettled : Course → Type 0
IsCourseSettled v = MatchOption v.fault (transport.IsLineSettled v.line) (λ f. Unit {0})

-- these messages more were taken, and answered
pub record GoesFurther (role : Role) (octets : List ℕ) (told later : List Arrival) (old : Course)
    (out : List ℕ) (new : Course) (written : List ℕ) : Type 0 where
  pub stands : CourseStands role octets (told ++ later) new
  pub standing : new.standing ≡ standing_behind old.standing later
  pub answered : written ≡ out ++ answers_to role later

-- nothing is handed out: an offer stands unanswered, so that nothing is taken; or all whole
-- messages were taken
abbrev pub NothingLeft : Role → List ℕ → List Arrival → List Arrival → Course → Course → Type 0
NothingLeft role octets told later old new =
    MatchBool (is_offered old.standing) (later ≡ [])
    (((rest : List ℕ) × Tells role octets (told ++ later) rest) × IsCourseSettled new)

-- the message that hands something out is the last of those that were taken, and what the connect
-- fixed is known
pub record IsLast (told later : List Arrival) (new : Course) : Type 0 where
  pub passed : List Arrival
  pub last : Arrival
  pub is : later ≡ passed ++ last ∷ []
  pub quiet : handed_out passed ≡ []
  pub setup : new.setup ≡ setup_after (told ++ later)

-- an answer is right: what the next message hands out; or none; or the rule that is broken
abbrev pub IsNextAnswer : Role → List ℕ → List Arrival → Course → List ℕ
    → Result (Option StackIn) StackFault → Course → List ℕ → Type 0
IsNextAnswer role octets told old out (Ok (Some input)) new written = (later : List Arrival)
    × GoesFurther role octets told later old out new written × (handed_out later ≡ input ∷ [])
    × IsLast told later new
IsNextAnswer role octets told old out (Ok None) new written = (later : List Arrival)
    × GoesFurther role octets told later old out new written × (handed_out later ≡ [])
    × NothingLeft role octets told later old new
IsNextAnswer role octets told old out (Err f) new written = (later : List Arrival)
    × GoesFurther role octets told later old out new written × (handed_out later ≡ [])
    × StopsTelling role octets (told ++ later) f

-- ---- behind an answer

-- how an end stands behind what was handed out
abbrev pub EndStandsBehind : StackIn → EndState → EndState → Type 0
EndStandsBehind (inputs.Offer title initiate) old new = new ≡ standings.Offered
EndStandsBehind inputs.BadOffer old new = new ≡ standings.BadlyOffered
EndStandsBehind (inputs.Accepted initiate) old new = new ≡ standings.Accepted
EndStandsBehind (inputs.Pdu pdu) old new = new ≡ old
EndStandsBehind (inputs.BadRequest invoke) old new = new ≡ old
EndStandsBehind inputs.Released old new = (new ≡ finishing old) ⊎ (new ≡ standings.Closed)
EndStandsBehind inputs.Aborted old new = new ≡ standings.Closed
EndStandsBehind inputs.Refused old new = new ≡ standings.Closed

-- how an end stands behind an answer: by what was handed out; where nothing was, as before the
-- answer
abbrev pub FollowsAnswer : Result (Option StackIn) StackFault → EndState → EndState → Type 0
FollowsAnswer (Ok (Some input)) old new = EndStandsBehind input old new
FollowsAnswer (Ok None) old new = new ≡ old
FollowsAnswer (Err f) old new = new ≡ old

-- the rule that is broken
abbrev pub fault_in : Result (Option StackIn) StackFault → Option StackFault
fault_in (Ok input) = None
fault_in (Err f) = Some f
