-- What a node's log keeps of its weight and of the room in it.
use Rattle.std.specs.Prelude.{◌≡◌, ℕ, ◌+◌, ◌*◌, ◌^◌, ◌≤◌, List, length, reverse, Option, Some}
use Rattle.std.specs.Prelude.{None}
use Rattle.tase_views.specs.declared.event.EventKind.{EventKind}
use Rattle.tase_views.specs.declared.event.EventKind.TheVariants.{Open, Close, Stop}
use Rattle.tase_views.specs.History.{Past, stop_in}
use Rattle.tase_views.specs.Weights.{weight, weight_of}
use Rattle.texts.specs.Journal.Journals.{entry_text}
use Rattle.node_core.specs.declared.node.log.TheConstants.{LONGEST_ENDING}
use Rattle.node_core.specs.LogState.{LogState}

-- the entries of a log, the newest first
abbrev pub past_of : LogState → Past
past_of log = reverse log.entries

-- the line of an event of a seat
abbrev pub line_of : ℕ → EventKind → List ℕ
line_of who event = entry_text (record { who = who; event = event })

-- how many stops may still be taken
abbrev pub stops_left : Option ℕ → ℕ
stops_left None = 1
stops_left (Some place) = 0

-- The weight and the place of the stop are those of the entries; there is room for the close of
-- each of so many seats that have an association and for the stop; and the weight is bounded with
-- these closes and this stop, which are taken whatever the entries weigh.
pub record HasRoom (log : LogState) (seats : ℕ) : Type 0 where
  pub bounded : log.limit ≤ 2 ^ 31
  pub weighs : log.weight ≡ weight_of (past_of log)
  pub stopped : log.stop ≡ stop_in (past_of log)
  pub lines : seats + stops_left log.stop ≤ log.spare_lines
  pub octets : LONGEST_ENDING * (seats + stops_left log.stop) ≤ log.spare_octets
  pub opened : 5 * seats ≤ log.weight
  pub light : log.weight + 5 * seats + 4 * stops_left log.stop ≤ 2 * log.limit + 4

-- the line of an event of a seat is spelled, and there is room for it, and behind it for the close
-- of each of so many seats and for a stop
pub record IsReserved (log : LogState) (seats who : ℕ) (event : EventKind) : Type 0 where
  pub drafted : log.draft ≡ line_of who event
  pub lines : seats + 2 ≤ log.spare_lines
  pub octets : length (line_of who event) + LONGEST_ENDING * (seats + 1) ≤ log.spare_octets

-- how many seats have an association behind an event, where so many had one before it
abbrev pub LeavesSeats : EventKind → ℕ → ℕ → Type 0
LeavesSeats (Open peer) before behind = behind ≡ before + 1
LeavesSeats Close before behind = behind + 1 ≡ before
LeavesSeats event before behind = behind ≡ before

-- an event of a seat may be appended, behind which so many seats have an association: a close; a
-- stop, where there was none; and another event within the limit, for which room is reserved
abbrev pub MayAppend : LogState → ℕ → EventKind → ℕ → Type 0
MayAppend log who Close seats = Unit {0}
MayAppend log who Stop seats = stop_in (past_of log) ≡ None
MayAppend log who event seats =
    (weight_of (past_of log) + weight event ≤ log.limit) × IsReserved log seats who event
