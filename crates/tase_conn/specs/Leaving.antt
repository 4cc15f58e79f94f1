-- What a connection is that is given up, or whose association is closed.
use Rattle.std.specs.Prelude.{◌≡◌, ◌++◌, ℕ, List, Bool, true, false, None, MatchBool}
use Rattle.mms_services.specs.declared.pdu.MmsPdu.TheVariants as pdus
use Rattle.stack_assoc.specs.declared.messages.expecting.Side.TheVariants as sides
use Rattle.stack_assoc.specs.declared.input.StackState.TheVariants as states
use Rattle.stack_assoc.specs.Courses.{Course, stack_state_of}
use Rattle.stack_assoc.specs.Saying.{with_said, may_release}
use Rattle.tase_conn.specs.Map.Out.{said, release_wire}
use Rattle.tase_conn.specs.declared.stage.Cause.{Cause}
use Rattle.tase_conn.specs.declared.stage.Cause.TheVariants as causes
use Rattle.tase_conn.specs.declared.stage.Behind.TheVariants as behinds
use Rattle.tase_conn.specs.declared.stage.ConnEnd.{ConnEnd}
use Rattle.tase_conn.specs.declared.stage.ConnEnd.TheVariants as conn_ends
use Rattle.tase_conn.specs.declared.stage.PendingEvent.TheVariants as askeds
use Rattle.tase_conn.specs.declared.stage.Progress.{Progress}
use Rattle.tase_conn.specs.declared.stage.Progress.TheVariants as progresses
use Rattle.tase_conn.specs.Talking.{Talking, is_open_stage}
use Rattle.tase_conn.specs.Places.{HasAbortRoom}
use Rattle.tase_conn.specs.Answering.{parting_octets}

-- nothing more is read
abbrev pub finished : Progress → Talking → Talking
finished progress v = record v {
  held = None;
  behind = behinds.Nothing;
  progress = progress;
}

-- it ends so, and octets were said behind all others
pub record Parts (progress : Progress) (octets : List ℕ) (old new : Talking) : Type 0 where
  pub is : new
      ≡ record (finished progress old) { course = new.course; farewell = new.farewell }
  pub said_is : new.farewell.items ≡ old.farewell.items ++ octets

-- an open association is still to be closed; else it ends at once
abbrev pub IsLeft : ConnEnd → Talking → Talking → Type 0
IsLeft end old new = MatchBool (is_open_stage old.stage)
    (new ≡ record old { progress = progresses.Leaving end false })
    (Parts (progresses.Cut end) (parting_octets old.course end) old new)

-- ---- the answer to a close

-- conclude and release are answered over an association that stands
abbrev pub MayAnswer : Cause → Course → Type 0
MayAnswer causes.Concluded course = stack_state_of course ≡ states.Accepted
MayAnswer causes.Released course =
    (course.known.side ≡ sides.Called) × (may_release course ≡ true)
MayAnswer _ course = Unit {0}

-- the octets of an answer stand behind those before them
pub record AddsAnswer (octets : List ℕ) (old new : Talking) : Type 0 where
  pub is : new ≡ record old { course = new.course; out = new.out }
  pub said_is : new.out ≡ old.out ++ octets

-- conclude is answered, and the connection goes on; else it ends
abbrev pub EndsFor : Cause → Talking → Talking → Type 0
EndsFor causes.Concluded old new = AddsAnswer (said old.course.setup pdus.Concluded)
    (record old { progress = progresses.Running askeds.Nothing }) new
    × (new.course ≡ with_said pdus.Concluded old.course)
EndsFor causes.Released old new = AddsAnswer (release_wire old.course.setup)
    (finished (progresses.Ended conn_ends.Finished) old) new
EndsFor causes.Aborted old new = new ≡ finished (progresses.Ended conn_ends.PeerEnd) old
EndsFor causes.LinkEnd old new = new ≡ finished (progresses.Ended conn_ends.PeerEnd) old
EndsFor (causes.Broken fault) old new =
    Parts (progresses.Ended (conn_ends.Refused fault))
    (parting_octets old.course (conn_ends.Refused fault)) old new

-- no memory is taken for it
abbrev pub is_quick : Cause → Bool
is_quick causes.Concluded = false
is_quick causes.Released = false
is_quick _ = true

-- where no association is open, none is concluded
abbrev pub IsNoConclude : Cause → Type 0
IsNoConclude causes.Concluded = ⊥
IsNoConclude cause = Unit {0}

pub record MayEnd (cause : Cause) (v : Talking) : Type 0 where
  pub other : IsNoConclude cause
  pub answer : MayAnswer cause v.course
  pub room : HasAbortRoom v
