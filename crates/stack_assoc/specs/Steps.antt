-- One step of an end: it takes from the transport, reads, and tells.
use Rattle.std.specs.Prelude.{◌≡◌, ℕ, ◌+◌, ◌≤◌, List, [], ◌++◌, length, ◌⊎◌}
use Rattle.std.specs.Prelude.{Option, Some, None, IsSome, Result, Ok, Err}
use Rattle.tpkt_cotp.specs.declared.fault.CotpFault.{CotpFault}
use Rattle.tpkt_cotp.specs.declared.turn.Role as tpkt
use Rattle.tpkt_cotp.specs.Streams as transport
use Rattle.tpkt_cotp.specs.Streams.{Message}
use Rattle.tpkt_cotp.specs.Lines as lines
use Rattle.presentation_profile.specs.declared.offers.TheConstants.{MOST_OFFERS}
use Rattle.presentation_profile.specs.Agreements.{acse_of}
use Rattle.stack_assoc.specs.declared.messages.expecting.Side.{Side}
use Rattle.stack_assoc.specs.declared.messages.fault.StackFault.{StackFault}
use Rattle.stack_assoc.specs.declared.messages.heard.Heard.{Heard}
use Rattle.stack_assoc.specs.declared.messages.heard.Heard.TheVariants as heards
use Rattle.stack_assoc.specs.declared.input.StackIn.{StackIn}
use Rattle.stack_assoc.specs.declared.input.StackIn.TheVariants as inputs
use Rattle.stack_assoc.specs.declared.end_state.EndState.TheVariants as standings
use Rattle.stack_assoc.specs.declared.taken.Opening.{Opening}
use Rattle.stack_assoc.specs.declared.taken.Came.{Came}
use Rattle.stack_assoc.specs.declared.taken.Came.TheVariants as cames
use Rattle.stack_assoc.specs.declared.taken.Said.{Said}
use Rattle.stack_assoc.specs.declared.taken.Said.TheVariants as saids
use Rattle.stack_assoc.specs.Arrivals.{Arrival, heard, Role, end_of}
use Rattle.stack_assoc.specs.Expectations.{setup_by, id_or}
use Rattle.stack_assoc.specs.Tellings.{Tell, transport_fault}
use Rattle.stack_assoc.specs.Handing.{input_heard}
use Rattle.stack_assoc.specs.Knowing.{nothing_known, known_with, setup_with}
use Rattle.stack_assoc.specs.Taking.{opening_told, results_heard}
use Rattle.stack_assoc.specs.Courses.{Course, messages_taken, CourseStands, standing_with}

-- at the start of a stream
pub record IsNew (side : Side) (end : tpkt.Role) (own : Option (List ℕ)) (v : Course) : Type 0 where
  pub title : v.title ≡ own
  pub line : lines.Stands end [] [] v.line
  pub settled : lines.IsLineSettled v.line
  pub owed : v.owed ≡ None
  pub held : v.held ≡ None
  pub known : v.known ≡ nothing_known side
  pub setup : v.setup ≡ setup_by 1024 None
  pub standing : v.standing ≡ standings.Waiting
  pub fault : v.fault ≡ None

-- an opening more
abbrev pub opened_with : Opening → Course → Course
opened_with o v = record v {
  owed = Some o;
  known = known_with v.known (opening_told o);
  setup = setup_with v.known v.setup (opening_told o);
}

-- octets and messages that are left, to be read
abbrev pub one_if : Option Message → ℕ
one_if None = 0
one_if (Some m) = 1

abbrev pub left_of : Course → ℕ
left_of v = length v.line.unread + one_if v.held

-- nothing was told
pub record Untold (old new : Course) : Type 0 where
  pub title : new.title ≡ old.title
  pub side : new.known.side ≡ old.known.side
  pub standing : new.standing ≡ old.standing
  pub fault : new.fault ≡ old.fault

-- where a message came, no more is left to be read
abbrev pub FewerLeft : Came → Course → Course → Type 0
FewerLeft cames.Message old new = left_of new ≤ left_of old
FewerLeft _ old new = Unit {0}

-- where none came, there is none to be read
abbrev pub IsEmpty : Came → Course → Type 0
IsEmpty cames.Message v = Unit {0}
IsEmpty _ v = v.held ≡ None

-- all messages so far were taken, and then there is a rest
pub record HasRest (role : Role) (octets : List ℕ) (told : List Arrival) (v : Course) : Type 0 where
  pub messages : List Message
  pub rest : List ℕ
  pub tell : Tell role told messages
  pub says : transport.Says (end_of role) octets (messages ++ messages_taken v) rest
  pub settled : lines.IsLineSettled v.line

-- all messages so far were taken, and then this rule is broken
pub record HasBroken (role : Role) (octets : List ℕ) (told : List Arrival) (fault : StackFault)
    (v : Course) : Type 0 where
  pub messages : List Message
  pub broken : CotpFault
  pub tell : Tell role told messages
  pub stops : transport.Stops (end_of role) octets (messages ++ messages_taken v) broken
  pub is : fault ≡ transport_fault broken

abbrev pub LeavesOff : Role → List ℕ → List Arrival → Came → Course → Type 0
LeavesOff role octets told cames.Message v = Unit {0}
LeavesOff role octets told cames.Nothing v = HasRest role octets told v
LeavesOff role octets told (cames.Fault f) v = HasBroken role octets told f v

-- one message of the transport was taken: one to be read, or the opening
abbrev pub IsTaken : Course → Came → Course → Type 0
IsTaken old cames.Message new = IsSome new.held ⊎ ((old.owed ≡ None) × IsSome new.owed)
IsTaken old _ new = Unit {0}

pub record TakesOne (role : Role) (octets : List ℕ) (told : List Arrival) (old : Course)
    (came : Came) (new : Course) : Type 0 where
  pub stands : CourseStands role octets told new
  pub leaves : LeavesOff role octets told came new
  pub taken : IsTaken old came new

-- a message was taken: one to be read, or the opening
abbrev pub IsBegun : Course → Type 0
IsBegun v = IsSome v.held ⊎ IsSome v.owed

-- the next message to be read was taken
abbrev pub IsNextTaken : Came → Course → Type 0
IsNextTaken cames.Message v = IsSome v.held
IsNextTaken _ v = v.held ≡ None

pub record TakesNext (role : Role) (octets : List ℕ) (told : List Arrival) (came : Came)
    (new : Course) : Type 0 where
  pub stands : CourseStands role octets told new
  pub leaves : LeavesOff role octets told came new
  pub there : IsNextTaken came new

-- ---- telling

-- a connect has at most sixteen offers, with ids of 16 bits
abbrev pub IsModest : Heard → Type 0
IsModest (heards.Connect c) = (length c.contexts ≤ MOST_OFFERS)
    × (id_or 1 (acse_of c.contexts) ≤ 65535)
IsModest _ = Unit {0}

-- what is said of a message is fit to be told
abbrev pub IsTellable : Said → Type 0
IsTellable (saids.Heard h results) = IsModest h × (results ≡ results_heard h)
IsTellable _ = Unit {0}

abbrev pub told_heard : Heard → Course → Course
told_heard h v = record v {
  held = None;
  known = known_with v.known (heard h);
  setup = setup_with v.known v.setup (heard h);
  standing = standing_with v.standing (heard h);
}

abbrev pub left_with : Came → Course → Course
left_with (cames.Fault f) v = record v { fault = Some f }
left_with _ v = v

abbrev pub told_with : Came → Said → Course → Course
told_with came saids.Nothing v = left_with came v
told_with came saids.Gone v = record v { held = None; standing = standings.Closed }
told_with came (saids.Heard h results) v = told_heard h v
told_with came (saids.Broken f) v = record v { held = None; fault = Some f }

abbrev pub left_answer : Came → Result (Option StackIn) StackFault
left_answer (cames.Fault f) = Err f
left_answer _ = Ok None

abbrev pub told_answer : Came → Said → Result (Option StackIn) StackFault
told_answer came saids.Nothing = left_answer came
told_answer came saids.Gone = Ok (Some inputs.Aborted)
told_answer came (saids.Heard h results) = Ok (Some (input_heard h))
told_answer came (saids.Broken f) = Err f
