-- The bases of the same entries behind two histories: the same seats are closed.
use Rattle.std.proofs.Common.{◌≡◌, ◌==◌, ℕ, ◌+◌, ◌<◌, ◌≤◌, Bool, true, false, not, ◌||◌}
use Rattle.std.proofs.Common.{if◌then◌else◌, List, [], ◌∷◌, ◌++◌, map, reverse, Option, Some, None}
use Rattle.std.proofs.Common.{is_some, refl, sym, ap, subst, ◌∙◌, ⊎_elim, arith, length}
use Rattle.std.specs.Prelude.{filter, option_map}
use Rattle.std.proofs.lemmas.Bool.{false≢true, eqb-true, eq-eqb, ne_eqb, cases_order}
use Rattle.std.proofs.lemmas.Option.{none-some}
use Rattle.std.proofs.lemmas.List.{append_assoc}
use Rattle.std.proofs.lemmas.List.Elements.{filter-append}
use Rattle.sbo_device.specs.declared.key.Key.{Key}
use Rattle.tase_views.specs.declared.event.Entry.{Entry}
use Rattle.tase_views.specs.History.{Past, association_in, is_stop, stop_in}
use Rattle.tase_views.proofs.OpenKeys.{among}
use Rattle.tase_resume.specs.Bases.{seats_in, open_seats, close_of, without_stops, settled_past}
use Rattle.tase_resume.proofs.RaisedHolds.{Offsets, raised_key}
use Rattle.tase_resume.proofs.KeysAlike.{AreBoth, seat_more}
use Rattle.tase_resume.proofs.Settled.{Rising, seats_rising, filter_rising, seat_listed}
use Rattle.tase_resume.proofs.Settled.{among_filter, settled_free, settled_going}

-- numbers that rise are the same where the same are among them

below_none : (low n : ℕ) (xs : List ℕ) → n < low → Rising low xs → among n xs ≡ false
below_none low n [] below rising = refl
below_none low n (x ∷ xs) below rising =
    let first : low ≤ x = rising.0 in
    rw (ne_eqb x n (λ e. omega (arith, first, below, e)))
    (below_none (x + 1) n xs (omega (arith, first, below)) rising.1)

self_among : (x : ℕ) (xs : List ℕ) → among x (x ∷ xs) ≡ true
self_among x xs = rw (eq-eqb x x refl) refl

rising_same : (low : ℕ) (xs ys : List ℕ) → Rising low xs → Rising low ys
    → ((n : ℕ) → low ≤ n → among n xs ≡ among n ys) → xs ≡ ys
rising_same low [] [] one other same = refl
rising_same low [] (y ∷ ys) one other same =
    absurd (false≢true (same y other.0 ∙ self_among y ys))
rising_same low (x ∷ xs) [] one other same =
    absurd (false≢true (sym (same x one.0) ∙ self_among x xs))
rising_same low (x ∷ xs) (y ∷ ys) one other same =
    ⊎_elim
    (λ equal. both equal
    (rising_same (x + 1) xs ys one.1 (subst (λ n. Rising (n + 1) ys) (sym equal) other.1)
    (λ n above.
    let first : x ≤ n = omega (arith, above) in
    let low_first : low ≤ x = one.0 in
    sym (left n x xs above) ∙ same n (omega (arith, first, low_first))
    ∙ left n y ys (omega (arith, above, equal)))))
    (λ apart. ⊎_elim
    (λ below. absurd (false≢true
    (sym (below_first x y ys below other.1) ∙ sym (same x one.0) ∙ self_among x xs)))
    (λ above. absurd (false≢true
    (sym (below_first y x xs above one.1) ∙ same y other.0 ∙ self_among y ys))) apart)
    (cases_order x y)
  where
    below_first : (n z : ℕ) (zs : List ℕ) → n < z → Rising (z + 1) zs → among n (z ∷ zs) ≡ false
    below_first n z zs below rising =
        below_none z n (z ∷ zs) below (omega arith, rising)

    left : (n z : ℕ) (zs : List ℕ) → z + 1 ≤ n → among n (z ∷ zs) ≡ among n zs
    left n z zs above = rw (ne_eqb z n (λ e. omega (arith, above, e))) refl

    both : x ≡ y → xs ≡ ys → x ∷ xs ≡ y ∷ ys
    both equal rest =
        ap (λ (n : ℕ). n ∷ xs) equal ∙ ap (λ (l : List ℕ). y ∷ l) rest

-- the seats that are closed

among_passes : (test : ℕ → Bool) (who : ℕ) (xs : List ℕ) → among who (filter test xs) ≡ true
    → test who ≡ true
among_passes test who [] there = absurd (false≢true there)
among_passes test who (x ∷ xs) there =
    by (test x) refl there (among_passes test who xs)
  where
    by : (b : Bool) → test x ≡ b
        → among who (if b then x ∷ filter test xs else filter test xs) ≡ true
        → (among who (filter test xs) ≡ true → test who ≡ true) → test who ≡ true
    by true e t rest = one (x == who) refl t
      where
        one : (c : Bool) → (x == who) ≡ c → (c || among who (filter test xs)) ≡ true
            → test who ≡ true
        one true f u = ap test (sym (eqb-true x who f)) ∙ e
        one false f u = rest u
    by false e t rest = rest t

among_open : (past : Past) (who : ℕ)
    → among who (open_seats past) ≡ is_some (association_in past who)
among_open past who =
    by (is_some (association_in past who)) refl (among who (open_seats past)) refl
  where
    by : (b : Bool) → is_some (association_in past who) ≡ b → (c : Bool)
        → among who (open_seats past) ≡ c → c ≡ b
    by true e true f = refl
    by false e false f = refl
    by true e false f =
        absurd (false≢true (sym f
        ∙ among_filter (λ w. is_some (association_in past w)) who (seats_in past) e
        (seat_listed past who e)))
    by false e true f =
        absurd (false≢true (sym e
        ∙ among_passes (λ w. is_some (association_in past w)) who (seats_in past) f))

open_rising : (past : Past) → Rising 0 (open_seats past)
open_rising past =
    filter_rising (λ who. is_some (association_in past who)) 0 (seats_in past) (seats_rising past)

some_raised : (off : Offsets) (key : Option Key)
    → is_some (option_map (raised_key off) key) ≡ is_some key
some_raised off None = refl
some_raised off (Some key) = refl

pub open_same : (off : Offsets) (one other : Past) → AreBoth off one other → (later : Past)
    → open_seats (later ++ one) ≡ open_seats (later ++ other)
open_same off one other both later =
    rising_same 0 (open_seats (later ++ one)) (open_seats (later ++ other))
    (open_rising (later ++ one)) (open_rising (later ++ other))
    (λ n any. among_open (later ++ one) n
    ∙ ap (λ (k : Option Key). is_some k) (seat_more off one other both later n)
    ∙ some_raised off (association_in (later ++ other) n)
    ∙ sym (among_open (later ++ other) n))

-- a history that has no stop is without stops
pub going_calm : (past : Past) → stop_in past ≡ None → without_stops past ≡ past
going_calm [] none = refl
going_calm (entry ∷ past) none = by (is_stop entry.event) refl none (going_calm past)
  where
    by : (b : Bool) → is_stop entry.event ≡ b
        → (if b then Some (length past) else stop_in past) ≡ None
        → (stop_in past ≡ None → without_stops past ≡ past)
        → (if not b then entry ∷ without_stops past else without_stops past) ≡ entry ∷ past
    by true e n rest = absurd (none-some (length past) (sym n))
    by false e n rest = ap (λ (p : Past). entry ∷ p) (rest n)

-- the further entries with the closes of these seats behind them
abbrev pub closed_later : List ℕ → Past → Past
closed_later seats later = reverse (map close_of seats) ++ without_stops later

pub settled_later : (later one : Past) → stop_in one ≡ None
    → settled_past (later ++ one) ≡ closed_later (open_seats (later ++ one)) later ++ one
settled_later later one going =
    let closes = reverse (map close_of (open_seats (later ++ one))) in
    ap (λ (p : Past). closes ++ p)
    (filter-append (λ (entry : Entry). not (is_stop entry.event)) later one
    ∙ ap (λ (p : Past). without_stops later ++ p) (going_calm one going))
    ∙ sym (append_assoc closes (without_stops later) one)

-- a base is its own base

no_seats : (past : Past) (seats : List ℕ) → ((who : ℕ) → association_in past who ≡ None)
    → filter (λ who. is_some (association_in past who)) seats ≡ []
no_seats past [] free = refl
no_seats past (who ∷ seats) free =
    rw (ap (λ (k : Option Key). is_some k) (free who)) (no_seats past seats free)

pub settled_twice : (past : Past) → settled_past (settled_past past) ≡ settled_past past
settled_twice past =
    ap (λ (l : List ℕ). reverse (map close_of l) ++ without_stops (settled_past past))
    (no_seats (settled_past past) (seats_in (settled_past past)) (settled_free past))
    ∙ going_calm (settled_past past) (settled_going past)
