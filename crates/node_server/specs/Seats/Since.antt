-- A seat as one of its connections has it: what the seat did before is no act of the connection's.
use Rattle.std.specs.Prelude.{◌≡◌, ℕ, ◌≤◌, ◌==◌, if◌then◌else◌, [], ◌++◌, map, take, drop}
use Rattle.std.specs.Prelude.{length, None}
use Rattle.share_turn.specs.Entries.{own}
use Rattle.tase_views.specs.declared.event.EventKind.{EventKind}
use Rattle.tase_views.specs.History.{association_in}
use Rattle.node_server.specs.Turn.Logged.{past_in}
use Rattle.node_server.specs.NodeCalls.{NodeLog, NodeSeat}

-- where a connection began: the number of its seat, how many entries the seat had seen then, and
-- another number, to which what the seat had done is put down
pub record Since : Type 0 where
  pub who : ℕ
  pub count : ℕ
  pub other : ℕ

-- an entry of one number as one of another
abbrev pub put_down : ℕ → ℕ → ℕ × EventKind → ℕ × EventKind
put_down who other entry = (if entry.0 == who then other else entry.0, entry.1)

-- The log as the connection has it. But for the numbers of these entries it is the same, and so is
-- all that a node answers over it.
abbrev pub log_since : Since → NodeLog → NodeLog
log_since since log =
    map (put_down since.who since.other) (take since.count log) ++ drop since.count log

-- a log may be taken so: no association of the seat was open then, and of the other number nothing
-- was seen
pub record IsSince (since : Since) (log : NodeLog) : Type 0 where
  pub seen : since.count ≤ length log
  pub closed : association_in (past_in (take since.count log)) since.who ≡ None
  pub unused : own since.other (take since.count log) ≡ []

-- a connection begins where its seat stands
abbrev pub since_here : NodeSeat → ℕ → Since
since_here seat other =
    record { who = seat.number; count = length seat.front; other = other }

-- it holds of the log as from some beginning
abbrev pub SomeSince : NodeLog → (NodeLog → Type 0) → Type 0
SomeSince log P = (since : Since) × IsSince since log × P (log_since since log)

-- it holds of a log and of a longer one as from whatever beginning
abbrev pub EachSince : NodeLog → NodeLog → (NodeLog → NodeLog → Type 0) → Type 0
EachSince log longer P =
    (since : Since) → IsSince since log → P (log_since since log) (log_since since longer)
