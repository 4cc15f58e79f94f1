-- While an association of a peer is open, the peer's table in force stays.
use Rattle.std.proofs.Common.{◌≡◌, ℕ, ◌+◌, ◌≤◌, ◌==◌, Bool, true, false, ◌&&◌}
use Rattle.std.proofs.Common.{◌||◌, if◌then◌else◌, List, [], ◌∷◌, length, Option, Some, None}
use Rattle.std.proofs.Common.{refl, sym, ap, ◌∙◌, arith}
use Rattle.std.specs.Prelude.{filter_map}
use Rattle.std.specs.List.{cons_option}
use Rattle.std.proofs.lemmas.Bool.{false≢true, eqb-true, eq-eqb, ne_eqb}
use Rattle.bilateral.specs.Rows.{CentreRows}
use Rattle.sbo_device.specs.declared.key.Key.{Key}
use Rattle.sbo_device.specs.States.{same_key}
use Rattle.tase_views.specs.Moves.{opens, takes, closes, reads, writes, defines, deletes, calls}
use Rattle.tase_views.specs.Moves.{Move, acts, updates, tags, ticks, asks, chooses, takes_orders}
use Rattle.tase_views.specs.Moves.{stops}
use Rattle.tase_views.specs.OwnTables.{Owns, table_in}
use Rattle.tase_views.specs.Force.{TableMove, opened, closed, chosen, open_count, force_of}
use Rattle.tase_views.specs.Force.{table_move}
use Rattle.tase_views.specs.View.{held_in}

-- whether a number is among some, and these without it
abbrev pub among : ℕ → List ℕ → Bool
among n [] = false
among n (x ∷ xs) = (x == n) || among n xs

abbrev pub without : ℕ → List ℕ → List ℕ
without n [] = []
without n (x ∷ xs) = if x == n then without n xs else x ∷ without n xs

-- the ordinals of a peer's open associations
abbrev pub open_of : ℕ → List Move → List ℕ
open_of peer [] = []
open_of peer (acts key opens ∷ moves) =
    if key.peer == peer then key.ordinal ∷ open_of peer moves else open_of peer moves
open_of peer (acts key closes ∷ moves) =
    if key.peer == peer then without key.ordinal (open_of peer moves) else open_of peer moves
open_of peer (_ ∷ moves) = open_of peer moves

abbrev pub is_open : List Move → Key → Bool
is_open moves key = among key.ordinal (open_of key.peer moves)

-- no association acts but between its open and its close
abbrev pub AreOrderly : List Move → Type 0
AreOrderly [] = Unit {0}
AreOrderly (acts key opens ∷ moves) = AreOrderly moves
AreOrderly (acts key act ∷ moves) = (is_open moves key ≡ true) × AreOrderly moves
AreOrderly (_ ∷ moves) = AreOrderly moves

no_more : (n : ℕ) (xs : List ℕ) → length (without n xs) ≤ length xs
no_more n [] = omega arith
no_more n (x ∷ xs) = by (x == n) (no_more n xs)
  where
    by : (b : Bool) → length (without n xs) ≤ length xs
        → length (if b then without n xs else x ∷ without n xs) ≤ length (x ∷ xs)
    by true h = omega (arith, h)
    by false h = omega (arith, h)

one_less : (n : ℕ) (xs : List ℕ) → among n xs ≡ true → length (without n xs) + 1 ≤ length xs
one_less n [] there = absurd (false≢true there)
one_less n (x ∷ xs) there = by (x == n) there (no_more n xs) (one_less n xs)
  where
    by : (b : Bool) → (b || among n xs) ≡ true → length (without n xs) ≤ length xs
        → (among n xs ≡ true → length (without n xs) + 1 ≤ length xs)
        → length (if b then without n xs else x ∷ without n xs) + 1 ≤ length (x ∷ xs)
    by true there most less = omega (arith, most)
    by false there most less = let h = less there in omega (arith, h)

some : (n : ℕ) (xs : List ℕ) → among n xs ≡ true → 1 ≤ length xs
some n [] there = absurd (false≢true there)
some n (x ∷ xs) there = omega arith

-- another number stays
stays : (n k : ℕ) (xs : List ℕ) → (k == n) ≡ false → among k xs ≡ true
    → among k (without n xs) ≡ true
stays n k [] apart there = there
stays n k (x ∷ xs) apart there =
    by (x == n) refl (x == k) refl there (stays n k xs apart)
  where
    by : (b : Bool) → (x == n) ≡ b → (t : Bool) → (x == k) ≡ t → (t || among k xs) ≡ true
        → (among k xs ≡ true → among k (without n xs) ≡ true)
        → among k (if b then without n xs else x ∷ without n xs) ≡ true
    by true e true f there others =
        absurd (false≢true (sym apart ∙ eq-eqb k n (sym (eqb-true x k f) ∙ eqb-true x n e)))
    by true e false f there others = others there
    by false e true f there others = rw f refl
    by false e false f there others = rw f (others there)

-- as many associations count as open as are

opens_count : (b : Bool) (n : ℕ) (xs : List ℕ) (moves : List TableMove)
    → length xs ≤ open_count moves
    → length (if b then n ∷ xs else xs)
    ≤ open_count (cons_option (if b then Some opened else None) moves)
opens_count true n xs moves h = omega (arith, h)
opens_count false n xs moves h = h

closes_count : (b : Bool) (n : ℕ) (xs : List ℕ) (moves : List TableMove)
    → (b ≡ true → among n xs ≡ true) → length xs ≤ open_count moves
    → length (if b then without n xs else xs)
    ≤ open_count (cons_option (if b then Some closed else None) moves)
closes_count true n xs moves there h =
    let less = one_less n xs (there refl) in omega (arith, h, less)
closes_count false n xs moves there h = h

chooses_count : (b : Bool) (variant count : ℕ) (moves : List TableMove)
    → count ≤ open_count moves
    → count ≤ open_count (cons_option (if b then Some (chosen variant) else None) moves)
chooses_count true variant count moves h = h
chooses_count false variant count moves h = h

counted : (peer : ℕ) (moves : List Move) → AreOrderly moves
    → length (open_of peer moves) ≤ open_count (filter_map (table_move peer) moves)
counted peer [] orderly = omega arith
counted peer (acts key opens ∷ moves) orderly =
    opens_count (key.peer == peer) key.ordinal (open_of peer moves)
    (filter_map (table_move peer) moves) (counted peer moves orderly)
counted peer (acts key closes ∷ moves) orderly =
    closes_count (key.peer == peer) key.ordinal (open_of peer moves)
    (filter_map (table_move peer) moves)
    (λ same. sym (ap (λ p. among key.ordinal (open_of p moves)) (eqb-true key.peer peer same))
    ∙ orderly.0)
    (counted peer moves orderly.1)
counted peer (acts key takes ∷ moves) orderly = counted peer moves orderly.1
counted peer (acts key (reads name) ∷ moves) orderly = counted peer moves orderly.1
counted peer (acts key (writes name value) ∷ moves) orderly = counted peer moves orderly.1
counted peer (acts key (defines set members) ∷ moves) orderly = counted peer moves orderly.1
counted peer (acts key (deletes set) ∷ moves) orderly = counted peer moves orderly.1
counted peer (acts key (calls call) ∷ moves) orderly = counted peer moves orderly.1
counted peer (updates point value ∷ moves) orderly = counted peer moves orderly
counted peer (tags device tag ∷ moves) orderly = counted peer moves orderly
counted peer (ticks now ∷ moves) orderly = counted peer moves orderly
counted peer (asks asker slot ∷ moves) orderly = counted peer moves orderly
counted peer (chooses chooser variant ∷ moves) orderly =
    chooses_count (chooser == peer) variant (length (open_of peer moves))
    (filter_map (table_move peer) moves) (counted peer moves orderly)
counted peer (takes_orders ∷ moves) orderly = counted peer moves orderly
counted peer (stops ∷ moves) orderly = counted peer moves orderly

force_stays : (move : Option TableMove) (moves : List TableMove)
    → 1 ≤ open_count (cons_option move moves)
    → force_of (cons_option move moves) ≡ force_of moves
force_stays None moves some_open = refl
force_stays (Some move) moves some_open =
    let none : (open_count (move ∷ moves) == 0) ≡ false =
    ne_eqb (open_count (move ∷ moves)) 0 (λ e. omega (arith, some_open, e)) in
    rw none refl

-- behind one move more the table of a peer with an open association is that before
pub held_stays : (rows : CentreRows) (owns : Owns) (before : List Move) (move : Move) (key : Key)
    → AreOrderly (move ∷ before) → is_open (move ∷ before) key ≡ true
    → held_in rows owns (move ∷ before) key.peer ≡ held_in rows owns before key.peer
held_stays rows owns before move key orderly there =
    let one = some key.ordinal (open_of key.peer (move ∷ before)) there in
    let most = counted key.peer (move ∷ before) orderly in
    ap (λ (n : ℕ). table_in (owns key.peer) n)
    (force_stays (table_move key.peer move) (filter_map (table_move key.peer) before)
    (omega (arith, one, most)))

-- an association is open behind the open of any, and behind the close of another

pub open_behind_open : (by key : Key) (before : List Move) → is_open before key ≡ true
    → is_open (acts by opens ∷ before) key ≡ true
open_behind_open by key before there =
    one (by.peer == key.peer) (by.ordinal == key.ordinal)
  where
    or : (a b : Bool) → b ≡ true → (a || b) ≡ true
    or true b e = refl
    or false b e = e

    one : (b t : Bool)
        → among key.ordinal
        (if b then by.ordinal ∷ open_of key.peer before else open_of key.peer before) ≡ true
    one true t = or (by.ordinal == key.ordinal) (among key.ordinal (open_of key.peer before)) there
    one false t = there

pub open_behind_close : (by key : Key) (before : List Move) → same_key key by ≡ false
    → is_open before key ≡ true → is_open (acts by closes ∷ before) key ≡ true
open_behind_close by key before apart there = one (by.peer == key.peer) refl
  where
    other : (by.peer == key.peer) ≡ true → (key.ordinal == by.ordinal) ≡ false
    other same =
        sym (ap (λ t. t && (key.ordinal == by.ordinal))
        (eq-eqb key.peer by.peer (sym (eqb-true by.peer key.peer same)))) ∙ apart

    one : (b : Bool) → (by.peer == key.peer) ≡ b
        → among key.ordinal
        (if b then without by.ordinal (open_of key.peer before) else open_of key.peer before) ≡ true
    one true e = stays by.ordinal key.ordinal (open_of key.peer before) (other e) there
    one false e = there
