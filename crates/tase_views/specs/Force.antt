-- Which of a peer's tables is in force: another one comes into force only while the peer has no
-- open association.
use Rattle.std.specs.Prelude.{ℕ, ◌+◌, ◌-◌, ◌==◌, if◌then◌else◌, List, [], ◌∷◌, Option, Some, None}
use Rattle.std.specs.Prelude.{filter_map}
use Rattle.tase_views.specs.Moves.{opens, closes, Move, acts, chooses}

-- what bears on the table of a peer in force: an association of the peer is opened or closed; the
-- table with a number is chosen
pub data TableMove : Type 0 where
  opened : TableMove
  closed : TableMove
  chosen : ℕ → TableMove

-- how many associations are open
abbrev pub open_count : List TableMove → ℕ
open_count [] = 0
open_count (opened ∷ moves) = 1 + open_count moves
open_count (closed ∷ moves) = open_count moves - 1
open_count (chosen variant ∷ moves) = open_count moves

-- the table that was chosen last; before any, the first
abbrev pub last_chosen : List TableMove → ℕ
last_chosen [] = 0
last_chosen (chosen variant ∷ moves) = variant
last_chosen (_ ∷ moves) = last_chosen moves

-- the table in force: where no association is open, the one that was chosen last; else that which
-- was in force before
abbrev pub force_of : List TableMove → ℕ
force_of [] = 0
force_of (move ∷ moves) =
    if open_count (move ∷ moves) == 0 then last_chosen (move ∷ moves) else force_of moves

-- what a move of the node is so for the peer with this number
abbrev pub table_move : ℕ → Move → Option TableMove
table_move peer (acts key opens) = if key.peer == peer then Some opened else None
table_move peer (acts key closes) = if key.peer == peer then Some closed else None
table_move peer (chooses chooser variant) =
    if chooser == peer then Some (chosen variant) else None
table_move peer _ = None

-- the number of the peer's table in force behind these moves
abbrev pub force_in : List Move → ℕ → ℕ
force_in moves peer = force_of (filter_map (table_move peer) moves)
