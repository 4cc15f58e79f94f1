-- A connection as contracts see it.
use Rattle.std.specs.Prelude.{◌≡◌, ℕ, Bool, true, false, List, [], ◌∷◌, ◌++◌, Vec}
use Rattle.std.specs.Prelude.{Option, Some, None}
use Rattle.std.specs.declared.alloc.Global.{Global}
use Rattle.bilateral.specs.Rows.{CentreRows}
use Rattle.stack_assoc.specs.Courses.{Course}
use Rattle.tase_conn.specs.declared.stage.ConnEnd.{ConnEnd}
use Rattle.tase_conn.specs.declared.stage.Stage.{Stage}
use Rattle.tase_conn.specs.declared.stage.Stage.TheVariants as stages
use Rattle.tase_conn.specs.declared.stage.Behind.{Behind}
use Rattle.tase_conn.specs.declared.stage.Behind.TheVariants as behinds
use Rattle.tase_conn.specs.declared.stage.Coming.{Coming}
use Rattle.tase_conn.specs.declared.stage.PendingEvent.TheVariants as askeds
use Rattle.tase_conn.specs.declared.stage.Progress.{Progress}
use Rattle.tase_conn.specs.declared.stage.Progress.TheVariants as progresses

pub record Talking : Type 0 where
  -- the centre
  pub rows : CentreRows
  -- the end of the association, as its stream has come
  pub course : Course
  -- what was read and wasn't acted on yet
  pub held : Option Coming
  -- what comes behind the messages that are being read
  pub behind : Behind
  -- how far the association has come
  pub stage : Stage
  -- whether the connection goes on
  pub progress : Progress
  -- the octets that are still to be sent, and behind them those of an abort
  pub out : List ℕ
  pub farewell : Vec ℕ Global

-- all octets that are still to be sent
abbrev pub pending_of : Talking → List ℕ
pending_of v = v.out ++ v.farewell.items

abbrev pub first_filled : List ℕ → List ℕ → List ℕ
first_filled [] others = others
first_filled (x ∷ xs) others = x ∷ xs

-- those that are to be sent next: all of them, or all but those of an abort
abbrev pub next_pending : Talking → List ℕ
next_pending v = first_filled v.out v.farewell.items

-- the end, once it has come
abbrev pub conn_end_in : Progress → Option ConnEnd
conn_end_in (progresses.Ended end) = Some end
conn_end_in (progresses.Cut end) = Some end
conn_end_in _ = None

-- no event waits for its answer, and no answer was refused for want of memory
abbrev pub IsFree : Progress → Type 0
IsFree (progresses.Running askeds.Nothing) = Unit {0}
IsFree (progresses.Leaving end false) = Unit {0}
IsFree (progresses.Ended end) = Unit {0}
IsFree (progresses.Cut end) = Unit {0}
IsFree _ = ⊥

-- it may be given up: it hasn't ended, and no event waits, but for one whose answer was refused
abbrev pub MayLeave : Progress → Type 0
MayLeave (progresses.Running askeds.Nothing) = Unit {0}
MayLeave progresses.Refused = Unit {0}
MayLeave (progresses.Leaving end false) = Unit {0}
MayLeave _ = ⊥

-- more may be taken in: all that was taken in was acted on, and no event waits for its answer
pub record IsResting (v : Talking) : Type 0 where
  pub read : v.behind ≡ behinds.Nothing
  pub acted : v.held ≡ None
  pub free : IsFree v.progress

-- whether the association is open
abbrev pub is_open_stage : Stage → Bool
is_open_stage stages.Early = false
is_open_stage (stages.Open peer detail) = true
is_open_stage (stages.Closed peer) = false

-- whose association it is or was
abbrev pub stage_peer : Stage → Option ℕ
stage_peer stages.Early = None
stage_peer (stages.Open peer detail) = Some peer
stage_peer (stages.Closed peer) = Some peer

-- whether the peer's streams and the node's answers are still acted on
abbrev pub is_running : Progress → Bool
is_running (progresses.Running asked) = true
is_running _ = false

-- whether it was left, and its association is still to be closed
abbrev pub is_leaving : Progress → Bool
is_leaving (progresses.Leaving end asked) = true
is_leaving _ = false
