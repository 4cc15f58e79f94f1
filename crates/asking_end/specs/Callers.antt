-- A calling end as contracts see it, and where it stands in the octets that have come.
use Rattle.std.specs.Prelude.{◌≡◌, ℕ, Bool, true, false, List, [], ◌++◌, Option, Some, None}
use Rattle.std.specs.Prelude.{MatchOption}
use Rattle.mms_services.specs.declared.pdu.MmsPdu.{MmsPdu}
use Rattle.mms_services.specs.declared.pdu.MmsPdu.TheVariants as pdus
use Rattle.stack_assoc.specs.declared.messages.expecting.Side.TheVariants as sides
use Rattle.stack_assoc.specs.declared.end_state.EndState.{EndState}
use Rattle.stack_assoc.specs.declared.end_state.EndState.TheVariants as standings
use Rattle.stack_assoc.specs.Arrivals.{Arrival}
use Rattle.stack_assoc.specs.Courses.{Course, CourseStands, IsCourseSettled}
use Rattle.stack_assoc.specs.Saying.{with_said, course_released}
use Rattle.asking_end.specs.declared.asker.Awaiting.{Awaiting}
use Rattle.asking_end.specs.declared.asker.Awaiting.TheVariants as awaits
use Rattle.asking_end.specs.declared.asker.AskMove.{AskMove}
use Rattle.asking_end.specs.declared.asker.AskMove.TheVariants as moves
use Rattle.asking_end.specs.declared.asker.Asker.{Asker}
use Rattle.asking_end.specs.declared.calling.CallingEnd.{CallingEnd}
use Rattle.asking_end.specs.Agendas.{AgendaActs}
use Rattle.asking_end.specs.Asking.{HasNumber, request_awaited, awaited_said}
use Rattle.asking_end.specs.Askers.{AskerStep, HasHeard, asker_behind, asker_of}

-- ---- where it stands

-- how the end of the association stands to a calling end that awaits this
abbrev pub standing_for : Awaiting → EndState
standing_for awaits.Association = standings.Waiting
standing_for awaiting = standings.Accepted

-- fed these octets, it has heard messages of them that brought it here, and hasn't ended
pub record Hears {A E I : Type 0} (acts : AgendaActs A E I) (title : Option (List ℕ)) (agenda : A)
    (octets : List ℕ) (step : AskerStep A E I) (c : CallingEnd A E) : Type 0 where
  pub told : List Arrival
  pub heard : HasHeard acts title agenda told step
  pub asker : c.asker ≡ step.state.asker
  pub lasts : step.state.end ≡ None
  pub end : c.end ≡ None
  pub stands : CourseStands step.state.role octets told c.stack
  pub number : HasNumber c.asker
  pub fault : c.stack.fault ≡ None
  pub standing : c.stack.standing ≡ standing_for c.asker.awaiting

-- so it stands somewhere
pub record IsHearing {A E I : Type 0} (acts : AgendaActs A E I) (c : CallingEnd A E) : Type 0 where
  pub title : Option (List ℕ)
  pub agenda : A
  pub octets : List ℕ
  pub step : AskerStep A E I
  pub hears : Hears acts title agenda octets step c

-- it has heard all that they tell, and may be fed more
pub record HasHeardAll {A E I : Type 0} (acts : AgendaActs A E I) (title : Option (List ℕ))
    (agenda : A) (octets : List ℕ) (c : CallingEnd A E) : Type 0 where
  pub hears : Hears acts title agenda octets (asker_behind acts title agenda octets) c
  pub settled : IsCourseSettled c.stack

-- it has ended: whatever follows changes nothing
abbrev pub IsOver : {A E I : Type 0} → AgendaActs A E I → Option (List ℕ) → A → List ℕ → Type 0
IsOver acts title agenda octets = (more : List ℕ)
    → asker_behind acts title agenda (octets ++ more) ≡ asker_behind acts title agenda octets

-- a calling end that calls by this title and began with this agenda, over all octets that have come
pub record AskerStands {A E I : Type 0} (acts : AgendaActs A E I) (title : Option (List ℕ))
    (agenda : A) (octets : List ℕ) (c : CallingEnd A E) : Type 0 where
  pub asker : c.asker ≡ (asker_of acts title agenda octets).state.asker
  pub end : c.end ≡ (asker_of acts title agenda octets).state.end
  pub goes : MatchOption c.end (HasHeardAll acts title agenda octets c)
      (λ end. IsOver acts title agenda octets)

-- one that hasn't ended stands somewhere, and may be fed more
pub record MayBeFed {A E I : Type 0} (acts : AgendaActs A E I) (c : CallingEnd A E) : Type 0 where
  pub hearing : IsHearing acts c
  pub settled : IsCourseSettled c.stack

abbrev pub IsCaller : {A E I : Type 0} → AgendaActs A E I → CallingEnd A E → Type 0
IsCaller acts c = MatchOption c.end (MayBeFed acts c) (λ end. Unit {0})

-- ---- what it says and shows

-- what is appended to items is what these have more than those
pub record AddsMore {I : Type 0} (before after old new : List I) : Type 0 where
  pub added : List I
  pub is : after ≡ before ++ added
  pub appended : new ≡ old ++ added

-- what is said and shown in one step more than in the other is appended to what was said and shown
pub record SaysMore {A E I : Type 0} (before after : AskerStep A E I) (out written : List ℕ)
    (lines behind : List I) : Type 0 where
  pub said : AddsMore before.said after.said out written
  pub shown : AddsMore before.shown after.shown lines behind

-- a message more was heard, and it goes on; or all that the octets tell was
abbrev pub HeardOn : {A E I : Type 0} → Bool → AgendaActs A E I → Option (List ℕ) → A → List ℕ
    → AskerStep A E I → List ℕ → List ℕ → List I → List I → CallingEnd A E → Type 0
HeardOn {A = A} {E = E} {I = I} true acts title agenda octets step out written shown behind c =
    (next : AskerStep A E I) × Hears acts title agenda octets next c
    × SaysMore step next out written shown behind
HeardOn false acts title agenda octets step out written shown behind c =
    AskerStands acts title agenda octets c
    × SaysMore step (asker_behind acts title agenda octets) out written shown behind

-- a piece is taken: what is said and shown over all octets with it is appended to what was said and
-- shown
pub record TakesPiece {A E I : Type 0} (acts : AgendaActs A E I) (title : Option (List ℕ))
    (agenda : A) (octets piece : List ℕ) (out written : List ℕ) (shown behind : List I)
    (c : CallingEnd A E) : Type 0 where
  pub stands : AskerStands acts title agenda (octets ++ piece) c
  pub says : SaysMore (asker_of acts title agenda octets)
      (asker_of acts title agenda (octets ++ piece)) out written shown behind

-- ---- what it does

-- the end of the association, once this PDU was said over it
abbrev pub course_saying : Option MmsPdu → Course → Course
course_saying None v = v
course_saying (Some pdu) v = with_said pdu v

-- once that was said whose answer is awaited
abbrev pub course_awaiting : {A E I : Type 0} → AgendaActs A E I → Awaiting → Asker A → Course
    → Course
course_awaiting acts awaits.Association p v = v
course_awaiting acts awaits.Nothing p v = v
course_awaiting acts awaits.Conclusion p v = with_said pdus.Conclude v
course_awaiting acts awaits.Release p v = course_released v
course_awaiting acts awaits.Reply p v = course_saying (request_awaited acts p) v

-- a calling end that has said what it now awaits an answer to
abbrev pub awaiting_answer : {A E I : Type 0} → AgendaActs A E I → CallingEnd A E → CallingEnd A E
awaiting_answer acts c =
    record c { stack = course_awaiting acts c.asker.awaiting c.asker c.stack }

abbrev pub moved_on : {A E I : Type 0} → AgendaActs A E I → AskMove E → CallingEnd A E
    → CallingEnd A E
moved_on acts moves.Wait c = c
moved_on acts moves.Say c = awaiting_answer acts c
moved_on acts (moves.End end) c = record c { end = Some end }

abbrev pub move_said : {A E I : Type 0} → AgendaActs A E I → AskMove E → CallingEnd A E → List ℕ
move_said acts moves.Say c = awaited_said acts c.stack.setup c.asker.awaiting c.asker
move_said acts move c = []

-- it goes on behind a move
abbrev pub goes_on : {E : Type 0} → AskMove E → Bool
goes_on (moves.End end) = false
goes_on move = true

-- what is to be said may be said
pub record MaySay {A E : Type 0} (c : CallingEnd A E) : Type 0 where
  pub number : HasNumber c.asker
  pub side : c.stack.known.side ≡ sides.Calling
  pub fault : c.stack.fault ≡ None
  pub standing : c.stack.standing ≡ standing_for c.asker.awaiting

abbrev pub MayMove : {A E : Type 0} → AskMove E → CallingEnd A E → Type 0
MayMove moves.Say c = MaySay c
MayMove move c = Unit {0}
