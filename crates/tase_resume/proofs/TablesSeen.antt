-- A peer sees of its tables and its associations what all moves have.
use Rattle.std.proofs.Common.{◌≡◌, ℕ, ◌==◌, Bool, true, false, if◌then◌else◌, List, [], ◌∷◌, Option}
use Rattle.std.proofs.Common.{Some, None, refl, ap, ◌∙◌}
use Rattle.std.specs.Prelude.{filter_map, option_and_then}
use Rattle.std.specs.List.{cons_option}
use Rattle.bilateral.specs.Rows.{CentreRows, table_of}
use Rattle.sbo_device.specs.declared.key.Key.{Key}
use Rattle.tase_views.specs.Moves.{Act, opens, takes, closes, reads, writes, defines, deletes}
use Rattle.tase_views.specs.Moves.{calls, Move, acts, updates, tags, ticks, asks, chooses}
use Rattle.tase_views.specs.Moves.{takes_orders, stops}
use Rattle.tase_views.specs.OwnTables.{OwnTable, OwnTables, Owns}
use Rattle.tase_views.specs.Force.{TableMove, chosen, table_move}
use Rattle.tase_views.specs.Devices.{Deed, deed_of}
use Rattle.tase_views.specs.View.{Seen, own, chose, deed_seen, other_seen, held_in, seen_by}
use Rattle.tase_views.specs.View.{view_by, table_seen}

filter_map-cons : {A B : Type 0} (f : A → Option B) (o : Option A) (xs : List A)
    → filter_map f (cons_option o xs) ≡ cons_option (option_and_then f o) (filter_map f xs)
filter_map-cons f None xs = refl
filter_map-cons f (Some x) xs = refl

unseen_if : (b : Bool) (seen : Seen) → table_seen seen ≡ None
    → option_and_then table_seen (if b then Some seen else None) ≡ None
unseen_if true seen e = e
unseen_if false seen e = refl

deed_table : (tables : OwnTables) (key : List ℕ) (ordinal : ℕ) (deed : Option Deed)
    → option_and_then table_seen (option_and_then (deed_seen tables key ordinal) deed) ≡ None
deed_table tables key ordinal None = refl
deed_table tables key ordinal (Some deed) = unseen_if _ _ refl

other_table : (tables : OwnTables) (key : List ℕ) (table : OwnTable) (ordinal : ℕ) (act : Act)
    → option_and_then table_seen (other_seen tables key table ordinal act) ≡ None
other_table tables key table ordinal closes = unseen_if _ _ refl
other_table tables key table ordinal opens = refl
other_table tables key table ordinal takes = refl
other_table tables key table ordinal (reads name) =
    deed_table tables key ordinal (deed_of table (reads name))
other_table tables key table ordinal (writes name value) =
    deed_table tables key ordinal (deed_of table (writes name value))
other_table tables key table ordinal (defines set members) = refl
other_table tables key table ordinal (deletes set) = refl
other_table tables key table ordinal (calls call) = refl

-- what an act is to the table in force, where it is the peer's own or not
act_table : (b : Bool) (ordinal : ℕ) (act : Act) (other : Option Seen) (peer : ℕ) (key : Key)
    → (key.peer == peer) ≡ b → option_and_then table_seen other ≡ None
    → option_and_then table_seen (if b then Some (own ordinal act) else other)
    ≡ table_move peer (acts key act)
act_table true ordinal opens other peer key e none = rw e refl
act_table true ordinal closes other peer key e none = rw e refl
act_table true ordinal takes other peer key e none = refl
act_table true ordinal (reads name) other peer key e none = refl
act_table true ordinal (writes name value) other peer key e none = refl
act_table true ordinal (defines set members) other peer key e none = refl
act_table true ordinal (deletes set) other peer key e none = refl
act_table true ordinal (calls call) other peer key e none = refl
act_table false ordinal opens other peer key e none = rw e none
act_table false ordinal closes other peer key e none = rw e none
act_table false ordinal takes other peer key e none = none
act_table false ordinal (reads name) other peer key e none = none
act_table false ordinal (writes name value) other peer key e none = none
act_table false ordinal (defines set members) other peer key e none = none
act_table false ordinal (deletes set) other peer key e none = none
act_table false ordinal (calls call) other peer key e none = none

chosen_if : (b : Bool) (variant : ℕ)
    → option_and_then table_seen (if b then Some (chose variant) else None)
    ≡ (if b then Some (chosen variant) else None)
chosen_if true variant = refl
chosen_if false variant = refl

move_table : (rows : CentreRows) (owns : Owns) (peer : ℕ) (before : List Move) (move : Move)
    → option_and_then table_seen (seen_by rows owns peer before move) ≡ table_move peer move
move_table rows owns peer before (acts key act) =
    act_table (key.peer == peer) key.ordinal act _ peer key refl
    (other_table (owns peer) (table_of rows key.peer).key
    (held_in rows owns before key.peer) key.ordinal act)
move_table rows owns peer before (updates point value) = unseen_if _ _ refl
move_table rows owns peer before (tags device tag) = unseen_if _ _ refl
move_table rows owns peer before (ticks now) = refl
move_table rows owns peer before (asks asker slot) = unseen_if _ _ refl
move_table rows owns peer before (chooses chooser variant) = chosen_if (chooser == peer) variant
move_table rows owns peer before takes_orders = refl
move_table rows owns peer before stops = refl

-- a view has of a peer's tables what all moves have
pub table_moves-seen : (rows : CentreRows) (owns : Owns) (peer : ℕ) (moves : List Move)
    → filter_map table_seen (view_by rows owns peer moves) ≡ filter_map (table_move peer) moves
table_moves-seen rows owns peer [] = refl
table_moves-seen rows owns peer (move ∷ before) =
    filter_map-cons table_seen (seen_by rows owns peer before move) (view_by rows owns peer before)
    ∙ ap (λ (o : Option TableMove). cons_option o (filter_map table_seen
    (view_by rows owns peer before))) (move_table rows owns peer before move)
    ∙ ap (λ (l : List TableMove). cons_option (table_move peer move) l)
    (table_moves-seen rows owns peer before)
