-- What a peer sees of moves that come behind others, and of one more entry of a history.
use Rattle.std.proofs.Common.{◌≡◌, ℕ, List, [], ◌∷◌, ◌++◌, map, Option, Some, None}
use Rattle.std.proofs.Common.{refl, ap, ◌∙◌}
use Rattle.std.specs.List.{cons_option}
use Rattle.std.proofs.lemmas.Bool.{eq-eqb}
use Rattle.bilateral.specs.Rows.{CentreRows}
use Rattle.sbo_device.specs.declared.key.Key.{Key}
use Rattle.tase_views.specs.declared.event.Entry.{Entry}
use Rattle.tase_views.specs.Moves.{Act, Move, acts, sort_of, moves_of}
use Rattle.tase_views.specs.History.{Past, key_at}
use Rattle.tase_views.specs.OwnTables.{Owns, own_tables}
use Rattle.tase_views.specs.View.{own, seen_by, view_by, moves_in, View, view_of, seen_in}

pub cons_append : {A : Type 0} (x : Option A) (xs ys : List A)
    → cons_option x (xs ++ ys) ≡ cons_option x xs ++ ys
cons_append None xs ys = refl
cons_append (Some x) xs ys = refl

pub view_by-append : (rows : CentreRows) (owns : Owns) (peer : ℕ) (moves before : List Move)
    → view_by rows owns peer (moves ++ before)
    ≡ seen_in rows owns peer before moves ++ view_by rows owns peer before
view_by-append rows owns peer [] before = refl
view_by-append rows owns peer (move ∷ moves) before =
    ap (λ (v : View). cons_option (seen_by rows owns peer (moves ++ before) move) v)
    (view_by-append rows owns peer moves before)
    ∙ cons_append (seen_by rows owns peer (moves ++ before) move)
    (seen_in rows owns peer before moves) (view_by rows owns peer before)

-- what is seen of an entry stands before what is seen of the past
pub view_of-entry : (rows : CentreRows) (peer : ℕ) (past : Past) (entry : Entry)
    → view_of rows peer (entry ∷ past)
    ≡ seen_in rows (own_tables rows) peer (moves_in past)
    (moves_of (sort_of entry.event) (key_at entry.event past entry.who)) ++ view_of rows peer past
view_of-entry rows peer past entry =
    view_by-append rows (own_tables rows) peer
    (moves_of (sort_of entry.event) (key_at entry.event past entry.who)) (moves_in past)

-- a peer sees each act of its own associations
pub seen_own : (rows : CentreRows) (owns : Owns) (key : Key) (before : List Move)
    (these : List Act)
    → seen_in rows owns key.peer before (map (acts key) these) ≡ map (own key.ordinal) these
seen_own rows owns key before [] = refl
seen_own rows owns key before (act ∷ these) =
    rw (eq-eqb key.peer key.peer refl, seen_own rows owns key before these) refl
