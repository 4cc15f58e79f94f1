-- The base of a history: a node takes it, and no seat has an association behind it.
use Rattle.std.proofs.Common.{◌≡◌, ◌==◌, ℕ, ◌+◌, ◌<◌, ◌≤◌, Bool, true, false, ◌||◌, if◌then◌else◌}
use Rattle.std.proofs.Common.{List, [], ◌∷◌, ◌++◌, map, reverse, length, Option, Some, None}
use Rattle.std.proofs.Common.{is_some, refl, sym, ap, subst, ◌∙◌, ⊎_elim, inl, inr, ◌⊎◌, arith}
use Rattle.std.specs.Prelude.{filter_map, filter, nat_lt}
use Rattle.std.proofs.lemmas.Bool.{false≢true, ltb-true, ltb-false, eqb-true, eq-eqb, cases_eq}
use Rattle.std.proofs.lemmas.Option.{none-some}
use Rattle.std.proofs.lemmas.List.{reverse-append, append_assoc}
use Rattle.bilateral.specs.Rows.{CentreRows}
use Rattle.sbo_device.specs.declared.key.Key.{Key}
use Rattle.tase_views.specs.declared.event.Entry.{Entry}
use Rattle.tase_views.specs.History.{Past, association_in, stop_in}
use Rattle.tase_views.specs.Force.{open_count, table_move}
use Rattle.tase_views.specs.View.{moves_in}
use Rattle.tase_views.proofs.OpenKeys.{among, open_of}
use Rattle.tase_views.specs.Lived.{IsLived}
use Rattle.tase_resume.specs.Bases.{with_seat, seats_in, open_seats, close_of, without_stops}
use Rattle.tase_resume.specs.Bases.{settled_past}
use Rattle.tase_resume.proofs.Calm.{calm_association, calm_stop, calm_lived}
use Rattle.tase_resume.proofs.Closing.{at_seat, at_other, open_seat}
use Rattle.tase_resume.proofs.OpenCounts.{count_open}

-- the closes of seats one after another behind a past
abbrev pub closed_behind : List ℕ → Past → Past
closed_behind [] past = past
closed_behind (who ∷ seats) past = closed_behind seats (close_of who ∷ past)

closes_are : (seats : List ℕ) (past : Past)
    → reverse (map close_of seats) ++ past ≡ closed_behind seats past
closes_are [] past = refl
closes_are (who ∷ seats) past =
    ap (λ (l : List Entry). l ++ past)
    (reverse-append (close_of who ∷ []) (map close_of seats))
    ∙ append_assoc (reverse (map close_of seats)) (close_of who ∷ []) past
    ∙ closes_are seats (close_of who ∷ past)

pub settled_is : (past : Past)
    → settled_past past ≡ closed_behind (open_seats past) (without_stops past)
settled_is past = closes_are (open_seats past) (without_stops past)

-- each stands above a number, and above the one before it
abbrev pub Rising : ℕ → List ℕ → Type 0
Rising low [] = Unit {0}
Rising low (x ∷ xs) = (low ≤ x) × Rising (x + 1) xs

rising_less : (low high : ℕ) (xs : List ℕ) → low ≤ high → Rising high xs → Rising low xs
rising_less low high [] le rising = tt
rising_less low high (x ∷ xs) le rising =
    let first : high ≤ x = rising.0 in (omega (arith, first, le), rising.1)

with_seat_rising : (low who : ℕ) (xs : List ℕ) → low ≤ who → Rising low xs
    → Rising low (with_seat who xs)
with_seat_rising low who [] le rising = (le, tt)
with_seat_rising low who (x ∷ xs) le rising =
    by (nat_lt who x) refl (who == x) refl (with_seat_rising (x + 1) who xs)
  where
    by : (b : Bool) → nat_lt who x ≡ b → (c : Bool) → (who == x) ≡ c
        → (x + 1 ≤ who → Rising (x + 1) xs → Rising (x + 1) (with_seat who xs))
        → Rising low (if b then who ∷ x ∷ xs else if c then x ∷ xs else x ∷ with_seat who xs)
    by true e c f rest =
        let below : who < x = ltb-true who x e in (le, (omega (arith, below), rising.1))
    by false e true f rest = rising
    by false e false f rest =
        let least : x ≤ who = ltb-false who x e in
        (rising.0, rest (omega (arith, least, ne_of who x f)) rising.1)
      where
        ne_of : (a b : ℕ) → (a == b) ≡ false → a ≡ b → ⊥
        ne_of a b e same = false≢true (sym e ∙ eq-eqb a b same)

pub seats_rising : (past : Past) → Rising 0 (seats_in past)
seats_rising [] = tt
seats_rising (entry ∷ past) =
    with_seat_rising 0 entry.who (seats_in past) (omega arith) (seats_rising past)

pub filter_rising : (test : ℕ → Bool) (low : ℕ) (xs : List ℕ) → Rising low xs
    → Rising low (filter test xs)
filter_rising test low [] rising = tt
filter_rising test low (x ∷ xs) rising = by (test x) (filter_rising test (x + 1) xs rising.1)
  where
    by : (b : Bool) → Rising (x + 1) (filter test xs)
        → Rising low (if b then x ∷ filter test xs else filter test xs)
    by true rest = (rising.0, rest)
    by false rest =
        let first : low ≤ x = rising.0 in
        rising_less low (x + 1) (filter test xs) (omega (arith, first)) rest

-- each of these seats has an association
abbrev AreSeated : Past → List ℕ → Type 0
AreSeated past [] = Unit {0}
AreSeated past (x ∷ xs) = (is_some (association_in past x) ≡ true) × AreSeated past xs

filter_seated : (past other : Past) (xs : List ℕ)
    → ((who : ℕ) → association_in other who ≡ association_in past who)
    → AreSeated other (filter (λ who. is_some (association_in past who)) xs)
filter_seated past other [] same = tt
filter_seated past other (x ∷ xs) same =
    by (is_some (association_in past x)) refl (filter_seated past other xs same)
  where
    by : (b : Bool) → is_some (association_in past x) ≡ b
        → AreSeated other (filter (λ who. is_some (association_in past who)) xs)
        → AreSeated other
        (if b then x ∷ filter (λ who. is_some (association_in past who)) xs
        else filter (λ who. is_some (association_in past who)) xs)
    by true e rest = (ap is_some (same x) ∙ e, rest)
    by false e rest = rest

seated_behind : (past : Past) (who low : ℕ) (xs : List ℕ) → who < low → Rising low xs
    → AreSeated past xs → AreSeated (close_of who ∷ past) xs
seated_behind past who low [] above rising seated = tt
seated_behind past who low (x ∷ xs) above rising seated =
    let first : low ≤ x = rising.0 in (
      ap is_some (at_other (close_of who) past x (λ e. omega (arith, first, above, e)))
          ∙ seated.0,
      seated_behind past who (x + 1) xs (omega (arith, first, above)) rising.1 seated.1,
    )

closed_lived : (rows : CentreRows) (low : ℕ) (seats : List ℕ) (past : Past) → Rising low seats
    → AreSeated past seats → IsLived rows past → IsLived rows (closed_behind seats past)
closed_lived rows low [] past rising seated lived = lived
closed_lived rows low (who ∷ seats) past rising seated lived =
    closed_lived rows (who + 1) seats (close_of who ∷ past) rising.1
    (seated_behind past who (who + 1) seats (omega arith) rising.1 seated.1)
    (rw seated.0 refl, lived)

-- a node takes the base
pub settled_lived : (rows : CentreRows) (past : Past) → IsLived rows past
    → IsLived rows (settled_past past)
settled_lived rows past lived =
    subst (IsLived rows) (sym (settled_is past))
    (closed_lived rows 0 (open_seats past) (without_stops past)
    (filter_rising (λ who. is_some (association_in past who)) 0 (seats_in past)
    (seats_rising past))
    (filter_seated past (without_stops past) (seats_in past) (calm_association past))
    (calm_lived rows past lived))

-- no seat has an association behind it

closed_free : (seats : List ℕ) (past : Past) (who : ℕ) → association_in past who ≡ None
    → association_in (closed_behind seats past) who ≡ None
closed_free [] past who none = none
closed_free (x ∷ seats) past who none =
    closed_free seats (close_of x ∷ past) who
    (⊎_elim (λ same. at_seat (close_of x) past who same)
    (λ other. at_other (close_of x) past who other ∙ none) (cases_eq x who))

closed_among : (seats : List ℕ) (past : Past) (who : ℕ) → among who seats ≡ true
    → association_in (closed_behind seats past) who ≡ None
closed_among [] past who there = absurd (false≢true there)
closed_among (x ∷ seats) past who there =
    by (x == who) refl there (closed_among seats (close_of x ∷ past) who)
  where
    by : (b : Bool) → (x == who) ≡ b → (b || among who seats) ≡ true
        → (among who seats ≡ true
        → association_in (closed_behind seats (close_of x ∷ past)) who ≡ None)
        → association_in (closed_behind seats (close_of x ∷ past)) who ≡ None
    by true e t rest =
        closed_free seats (close_of x ∷ past) who
        (at_seat (close_of x) past who (eqb-true x who e))
    by false e t rest = rest t

or : (a b : Bool) → b ≡ true → (a || b) ≡ true
or true b e = refl
or false b e = e

seat_among : (who other : ℕ) (xs : List ℕ) → (who ≡ other) ⊎ (among other xs ≡ true)
    → among other (with_seat who xs) ≡ true
seat_among who other [] there =
    ⊎_elim (λ same. rw (eq-eqb who other same) refl) (λ t. absurd (false≢true t)) there
seat_among who other (x ∷ xs) there =
    by (nat_lt who x) (who == x) refl (seat_among who other xs)
  where
    front : among other (who ∷ x ∷ xs) ≡ true
    front =
        ⊎_elim (λ same. rw (eq-eqb who other same) refl)
        (λ t. or (who == other) (among other (x ∷ xs)) t) there

    by : (b c : Bool) → (who == x) ≡ c
        → ((who ≡ other) ⊎ (among other xs ≡ true) → among other (with_seat who xs) ≡ true)
        → among other (if b then who ∷ x ∷ xs else if c then x ∷ xs else x ∷ with_seat who xs)
        ≡ true
    by true c e rest = front
    by false true e rest =
        ⊎_elim
        (λ same. rw (eq-eqb x other (sym (eqb-true who x e) ∙ same)) refl)
        (λ t. t) there
    by false false e rest =
        ⊎_elim (λ same. or (x == other) (among other (with_seat who xs)) (rest (inl same)))
        (λ t. later (x == other) t) there
      where
        later : (d : Bool) → (d || among other xs) ≡ true
            → (d || among other (with_seat who xs)) ≡ true
        later true t = refl
        later false t = rest (inr t)

pub seat_listed : (past : Past) (who : ℕ) → is_some (association_in past who) ≡ true
    → among who (seats_in past) ≡ true
seat_listed [] who there = absurd (false≢true there)
seat_listed (entry ∷ past) who there =
    seat_among entry.who who (seats_in past)
    (⊎_elim (λ same. inl same)
    (λ other. inr (seat_listed past who
    (sym (ap is_some (at_other entry past who other)) ∙ there))) (cases_eq entry.who who))

pub among_filter : (test : ℕ → Bool) (who : ℕ) (xs : List ℕ) → test who ≡ true
    → among who xs ≡ true → among who (filter test xs) ≡ true
among_filter test who [] passes there = absurd (false≢true there)
among_filter test who (x ∷ xs) passes there =
    by (test x) refl (x == who) refl there (among_filter test who xs passes)
  where
    by : (b : Bool) → test x ≡ b → (c : Bool) → (x == who) ≡ c
        → (c || among who xs) ≡ true
        → (among who xs ≡ true → among who (filter test xs) ≡ true)
        → among who (if b then x ∷ filter test xs else filter test xs) ≡ true
    by true e true f t rest = rw f refl
    by true e false f t rest = or (x == who) (among who (filter test xs)) (rest t)
    by false e true f t rest =
        absurd (false≢true (sym e ∙ ap test (eqb-true x who f) ∙ passes))
    by false e false f t rest = rest t

pub settled_free : (past : Past) (who : ℕ) → association_in (settled_past past) who ≡ None
settled_free past who =
    ap (λ (p : Past). association_in p who) (settled_is past)
    ∙ by (is_some (association_in past who)) refl
  where
    none_of : (seat : Option Key) → is_some seat ≡ false → seat ≡ None
    none_of None e = refl
    none_of (Some key) e = absurd (false≢true (sym e))

    by : (b : Bool) → is_some (association_in past who) ≡ b
        → association_in (closed_behind (open_seats past) (without_stops past)) who ≡ None
    by true e =
        closed_among (open_seats past) (without_stops past) who
        (among_filter (λ w. is_some (association_in past w)) who (seats_in past) e
        (seat_listed past who e))
    by false e =
        closed_free (open_seats past) (without_stops past) who
        (calm_association past who ∙ none_of (association_in past who) e)

-- it has no stop
closed_going : (seats : List ℕ) (past : Past) → stop_in past ≡ None
    → stop_in (closed_behind seats past) ≡ None
closed_going [] past none = none
closed_going (who ∷ seats) past none = closed_going seats (close_of who ∷ past) none

pub settled_going : (past : Past) → stop_in (settled_past past) ≡ None
settled_going past =
    ap stop_in (settled_is past)
    ∙ closed_going (open_seats past) (without_stops past) (calm_stop past)

-- none is open, and none counts as open

pub none_open : (rows : CentreRows) (past : Past) → IsLived rows past
    → ((who : ℕ) → association_in past who ≡ None) → (peer : ℕ) → open_of peer (moves_in past) ≡ []
none_open rows past lived free peer = by (open_of peer (moves_in past)) refl
  where
    by : (l : List ℕ) → open_of peer (moves_in past) ≡ l → open_of peer (moves_in past) ≡ []
    by [] e = e
    by (n ∷ l) e =
        let key : Key = record { peer = peer; ordinal = n } in
        let first : among n (n ∷ l) ≡ true = rw (eq-eqb n n refl) refl in
        let seat = open_seat rows past key lived (ap (among n) e ∙ first) in
        absurd (none-some key (sym (free seat.0) ∙ seat.1))

pub none_counts : (rows : CentreRows) (past : Past) → IsLived rows past
    → ((who : ℕ) → association_in past who ≡ None) → (peer : ℕ)
    → open_count (filter_map (table_move peer) (moves_in past)) ≡ 0
none_counts rows past lived free peer =
    count_open past peer ∙ ap length (none_open rows past lived free peer)
