-- In a history that a node takes each association that is open is some seat's, and as many count as
-- open as there are. In its base no seat has one, and none counts as open.
use Rattle.std.proofs.Common.{◌≡◌, ◌==◌, ℕ, Bool, true, false, ◌||◌, ◌&&◌, ◌⊎◌}
use Rattle.std.proofs.Common.{if◌then◌else◌, List, [], ◌∷◌, ◌++◌, Option, Some, None, is_some, refl}
use Rattle.std.proofs.Common.{sym, ap, subst, ◌∙◌, ⊎_elim, inl, inr}
use Rattle.std.proofs.lemmas.Bool.{false≢true, eqb-true, eq-eqb, ne_eqb, cases_eq}
use Rattle.std.proofs.lemmas.Option.{same_Some, none-some}
use Rattle.bilateral.specs.Rows.{CentreRows}
use Rattle.sbo_device.specs.declared.key.Key.{Key}
use Rattle.tase_views.specs.declared.event.Entry.{Entry}
use Rattle.tase_views.specs.declared.fault.StepFault.TheVariants.{NoAssociation, Already}
use Rattle.tase_views.specs.Moves.{EventSort, sort_of, opening, requesting, taking, closing}
use Rattle.tase_views.specs.Moves.{taking_orders, feeding, Move, acts, updates, tags, ticks, asks}
use Rattle.tase_views.specs.Moves.{chooses, takes_orders, stops, opens, closes, moves_of}
use Rattle.tase_views.specs.Moves.{acts_of_call}
use Rattle.tase_views.specs.History.{Past, next_key, association_by, association_in, key_by}
use Rattle.tase_views.specs.Outcomes.{stop_refusal, seat_refusal, seat_refusal_by, own_refusal}
use Rattle.tase_views.specs.Outcomes.{name_refusal, clock_refusal}
use Rattle.tase_views.specs.View.{moves_in}
use Rattle.tase_views.proofs.OpenKeys.{among, without, open_of, is_open}
use Rattle.tase_views.specs.Lived.{IsLived}
use Rattle.tase_resume.proofs.QuietActs.{call_quiet, quiet_open, IsCentres, fed}
use Rattle.tase_resume.proofs.Calm.{three_none, two_none}

-- what the seat of an entry of a lived history had
pub seat_allows : (rows : CentreRows) (entry : Entry) (past : Past) → IsLived rows (entry ∷ past)
    → seat_refusal_by (association_in past entry.who) (sort_of entry.event) ≡ None
seat_allows rows entry past lived =
    (two_none (seat_refusal (association_in past entry.who) entry.event)
    (name_refusal rows entry.event)
    (three_none (stop_refusal past entry.event) (own_refusal rows past entry.who entry.event)
    (clock_refusal past entry.event) lived.0).1).0

none_had : (seat : Option Key)
    → (if is_some seat then Some Already else None) ≡ None → seat ≡ None
none_had None e = refl
none_had (Some key) e = absurd (none-some Already (sym e))

one_had : (seat : Option Key) → (if is_some seat then None else Some NoAssociation) ≡ None
    → (key : Key) × (seat ≡ Some key)
one_had None e = absurd (none-some NoAssociation (sym e))
one_had (Some key) e = (key, refl)

-- the association of the entry's own seat, and of another

if_is : (b : Bool) (x y : Option Key) → b ≡ true → (if b then x else y) ≡ x
if_is true x y e = refl
if_is false x y e = absurd (false≢true e)

if_isnt : (b : Bool) (x y : Option Key) → b ≡ false → (if b then x else y) ≡ y
if_isnt true x y e = absurd (false≢true (sym e))
if_isnt false x y e = refl

pub at_seat : (entry : Entry) (past : Past) (who : ℕ) → entry.who ≡ who
    → association_in (entry ∷ past) who
    ≡ association_by (sort_of entry.event) past (association_in past who)
at_seat entry past who same =
    if_is (entry.who == who) (association_by (sort_of entry.event) past (association_in past who))
    (association_in past who) (eq-eqb entry.who who same)

pub at_other : (entry : Entry) (past : Past) (who : ℕ) → (entry.who ≡ who → ⊥)
    → association_in (entry ∷ past) who ≡ association_in past who
at_other entry past who other =
    if_isnt (entry.who == who)
    (association_by (sort_of entry.event) past (association_in past who))
    (association_in past who) (ne_eqb entry.who who other)

-- whose association an open key is

abbrev pub HasSeat : Past → Key → Type 0
HasSeat past key = (who : ℕ) × (association_in past who ≡ Some key)

-- it has it still where the entry's seat had none, or another
kept_by_other : (entry : Entry) (past : Past) (key : Key)
    → (association_in past entry.who ≡ Some key → ⊥) → HasSeat past key
    → HasSeat (entry ∷ past) key
kept_by_other entry past key apart seat = (
  seat.0,
  at_other entry past seat.0
      (λ same. apart (ap (association_in past) same ∙ seat.1)) ∙ seat.1,
)

kept_by_all : (entry : Entry) (past : Past) (key : Key)
    → ((before : Option Key) → association_by (sort_of entry.event) past before ≡ before)
    → HasSeat past key → HasSeat (entry ∷ past) key
kept_by_all entry past key same seat = (
  seat.0,
  ⊎_elim
      (λ mine. at_seat entry past seat.0 mine ∙ same (association_in past seat.0) ∙ seat.1)
      (λ other. at_other entry past seat.0 other ∙ seat.1) (cases_eq entry.who seat.0),
)

both : (a b : Bool) → (a && b) ≡ true → (a ≡ true) × (b ≡ true)
both true b e = (refl, e)
both false b e = absurd (false≢true e)

same_key_is : (a b : Key) → a.peer ≡ b.peer → a.ordinal ≡ b.ordinal → a ≡ b
same_key_is a b p o =
    let P : ℕ → Type 0 = λ n. a ≡ record { peer = b.peer; ordinal = n } in
    subst P o (ap (λ (n : ℕ). let k : Key = record { peer = n; ordinal = a.ordinal } in k) p)

-- a key open behind an open is that which was opened, or was open before
pub behind_open : (by key : Key) (before : List Move) → is_open (acts by opens ∷ before) key ≡ true
    → (by ≡ key) ⊎ (is_open before key ≡ true)
behind_open by key before there = peer (by.peer == key.peer) refl there
  where
    ordinal : (b : Bool) → by.peer ≡ key.peer → (by.ordinal == key.ordinal) ≡ b
        → (b || is_open before key) ≡ true → (by ≡ key) ⊎ (is_open before key ≡ true)
    ordinal true same e t = inl (same_key_is by key same (eqb-true by.ordinal key.ordinal e))
    ordinal false same e t = inr t

    peer : (b : Bool) → (by.peer == key.peer) ≡ b
        → among key.ordinal
        (if b then by.ordinal ∷ open_of key.peer before else open_of key.peer before) ≡ true
        → (by ≡ key) ⊎ (is_open before key ≡ true)
    peer true e t =
        ordinal (by.ordinal == key.ordinal) (eqb-true by.peer key.peer e) refl t
    peer false e t = inr t

-- a number among those without another one is another one, and among them
pub among_left : (n k : ℕ) (xs : List ℕ) → among k (without n xs) ≡ true
    → (among k xs ≡ true) × (n ≡ k → ⊥)
among_left n k [] there = absurd (false≢true there)
among_left n k (x ∷ xs) there = by (x == n) refl there (among_left n k xs)
  where
    or : (a b : Bool) → b ≡ true → (a || b) ≡ true
    or true b e = refl
    or false b e = e

    here : (b : Bool) → (x == k) ≡ b → (x == n) ≡ false
        → (b || among k (without n xs)) ≡ true
        → (among k (without n xs) ≡ true → (among k xs ≡ true) × (n ≡ k → ⊥))
        → ((b || among k xs) ≡ true) × (n ≡ k → ⊥)
    here true e other t rest =
        (refl, λ same. false≢true (sym other ∙ eq-eqb x n (eqb-true x k e ∙ sym same)))
    here false e other t rest = rest t

    by : (b : Bool) → (x == n) ≡ b
        → among k (if b then without n xs else x ∷ without n xs) ≡ true
        → (among k (without n xs) ≡ true → (among k xs ≡ true) × (n ≡ k → ⊥))
        → (((x == k) || among k xs) ≡ true) × (n ≡ k → ⊥)
    by true e t rest = let r = rest t in (or (x == k) (among k xs) r.0, r.1)
    by false e t rest = here (x == k) refl e t rest

-- a key open behind a close was open before, and is another one
pub behind_close : (by key : Key) (before : List Move)
    → is_open (acts by closes ∷ before) key ≡ true
    → (is_open before key ≡ true) × (by ≡ key → ⊥)
behind_close by key before there = peer (by.peer == key.peer) refl there
  where
    peer : (b : Bool) → (by.peer == key.peer) ≡ b
        → among key.ordinal
        (if b then without by.ordinal (open_of key.peer before) else open_of key.peer before)
        ≡ true
        → (is_open before key ≡ true) × (by ≡ key → ⊥)
    peer true e t =
        let left = among_left by.ordinal key.ordinal (open_of key.peer before) t in
        (left.0, λ same. left.1 (ap (λ (k : Key). k.ordinal) same))
    peer false e t =
        (t, λ same. false≢true (sym e ∙ eq-eqb by.peer key.peer (ap (λ (k : Key). k.peer) same)))

other_seat : (past : Past) (who : ℕ) (by key : Key) → association_in past who ≡ Some by
    → (by ≡ key → ⊥) → association_in past who ≡ Some key → ⊥
other_seat past who by key has apart e = apart (same_Some by key (sym has ∙ e))

open_kept : (rows : CentreRows) (entry : Entry) (past : Past) (key : Key) (sort : EventSort)
    → sort_of entry.event ≡ sort → IsCentres sort
    → seat_refusal_by (association_in past entry.who) sort ≡ None
    → (is_open (moves_in past) key ≡ true → HasSeat past key)
    → is_open (moves_of sort (key_by sort past (association_in past entry.who)) ++ moves_in past)
    key ≡ true → HasSeat (entry ∷ past) key
open_kept rows entry past key (opening peer) is centres allowed before there =
    ⊎_elim
    (λ same. (
      entry.who,
      at_seat entry past entry.who refl
          ∙ ap (λ (s : EventSort). association_by s past (association_in past entry.who)) is
          ∙ ap (λ (k : Key). Some k) same,
    ))
    (λ old. kept_by_other entry past key
    (λ e. none-some key (sym (none_had (association_in past entry.who) allowed) ∙ e)) (before old))
    (behind_open (next_key past peer) key (moves_in past) there)
open_kept rows entry past key (requesting call) is centres allowed before there =
    let had = one_had (association_in past entry.who) allowed in
    let was : is_open (moves_in past) key ≡ true =
    sym (ap (among key.ordinal) (quiet_open key.peer had.0 (acts_of_call call) (moves_in past)
    (call_quiet call)))
    ∙ sym (ap (λ (k : Option Key).
    is_open (moves_of (requesting call) k ++ moves_in past) key) had.1) ∙ there in
    kept_by_all entry past key
    (λ seat. ap (λ (s : EventSort). association_by s past seat) is) (before was)
open_kept rows entry past key taking is centres allowed before there =
    let had = one_had (association_in past entry.who) allowed in
    let was : is_open (moves_in past) key ≡ true =
    sym (ap (λ (k : Option Key). is_open (moves_of taking k ++ moves_in past) key) had.1)
    ∙ there in
    kept_by_all entry past key
    (λ seat. ap (λ (s : EventSort). association_by s past seat) is) (before was)
open_kept rows entry past key closing is centres allowed before there =
    let had = one_had (association_in past entry.who) allowed in
    let left = behind_close had.0 key (moves_in past)
    (sym (ap (λ (k : Option Key). is_open (moves_of closing k ++ moves_in past) key) had.1)
    ∙ there) in
    kept_by_other entry past key (other_seat past entry.who had.0 key had.1 left.1)
    (before left.0)
open_kept rows entry past key taking_orders is centres allowed before there =
    kept_by_all entry past key
    (λ seat. ap (λ (s : EventSort). association_by s past seat) is) (before there)
open_kept rows entry past key (feeding move) is centres allowed before there =
    kept_by_all entry past key
    (λ seat. ap (λ (s : EventSort). association_by s past seat) is)
    (before (moved move centres there))
  where
    moved : (m : Move) → IsCentres (feeding m) → is_open (m ∷ moves_in past) key ≡ true
        → is_open (moves_in past) key ≡ true
    moved (acts by act) none t = absurd none
    moved (updates point value) none t = t
    moved (tags device tag) none t = t
    moved (ticks now) none t = t
    moved (asks asker slot) none t = t
    moved (chooses peer variant) none t = t
    moved takes_orders none t = t
    moved stops none t = t

-- in a lived history each open association is some seat's
pub open_seat : (rows : CentreRows) (past : Past) (key : Key) → IsLived rows past
    → is_open (moves_in past) key ≡ true → HasSeat past key
open_seat rows [] key lived there = absurd (false≢true there)
open_seat rows (entry ∷ past) key lived there =
    open_kept rows entry past key (sort_of entry.event) refl (fed entry.event)
    (seat_allows rows entry past lived)
    (open_seat rows past key lived.1) there
