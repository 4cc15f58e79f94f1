-- In a history that a node takes as many associations of a peer count as open as are.
use Rattle.std.proofs.Common.{◌≡◌, ◌==◌, ℕ, ◌+◌, ◌<◌, ◌≤◌, Bool, true, false, ◌||◌}
use Rattle.std.proofs.Common.{if◌then◌else◌, List, [], ◌∷◌, ◌++◌, length, Option, Some, None, refl}
use Rattle.std.proofs.Common.{sym, ap, subst, ◌∙◌, arith}
use Rattle.std.specs.Prelude.{filter_map}
use Rattle.std.specs.List.{cons_option}
use Rattle.std.proofs.lemmas.Bool.{false≢true, eqb-true, ne_eqb}
use Rattle.sbo_device.specs.declared.key.Key.{Key}
use Rattle.tase_views.specs.Moves.{EventSort, sort_of, opening, requesting, taking, closing}
use Rattle.tase_views.specs.Moves.{taking_orders, feeding, acts, updates, tags, ticks, asks}
use Rattle.tase_views.specs.Moves.{chooses, takes_orders, stops, moves_of, acts_of_call}
use Rattle.tase_views.specs.History.{Past, counts_opening, opens_in, association_in, key_by}
use Rattle.tase_views.specs.Force.{opened, closed, chosen, open_count, table_move}
use Rattle.tase_views.specs.View.{moves_in}
use Rattle.tase_views.proofs.OpenKeys.{among, without, open_of, is_open}
use Rattle.tase_views.proofs.Seated.{seat_open}
use Rattle.tase_resume.proofs.QuietActs.{call_quiet, quiet_open, quiet_tables, IsCentres, fed}

-- the first is below a number, and each below the one before it
abbrev pub Falling : ℕ → List ℕ → Type 0
Falling high [] = Unit {0}
Falling high (x ∷ xs) = (x < high) × Falling x xs

pub falling_more : (low high : ℕ) (xs : List ℕ) → low ≤ high → Falling low xs → Falling high xs
falling_more low high [] le falling = tt
falling_more low high (x ∷ xs) le falling =
    let first : x < low = falling.0 in (omega (arith, first, le), falling.1)

falling_without : (n high : ℕ) (xs : List ℕ) → Falling high xs → Falling high (without n xs)
falling_without n high [] falling = tt
falling_without n high (x ∷ xs) falling =
    by (x == n) (falling_without n x xs falling.1)
  where
    by : (b : Bool) → Falling x (without n xs)
        → Falling high (if b then without n xs else x ∷ without n xs)
    by true rest =
        let first : x < high = falling.0 in
        falling_more x high (without n xs) (omega (arith, first)) rest
    by false rest = (falling.0, rest)

-- what isn't among them isn't taken away
same_without : (n high : ℕ) (xs : List ℕ) → high ≤ n → Falling high xs → without n xs ≡ xs
same_without n high [] le falling = refl
same_without n high (x ∷ xs) le falling =
    let first : x < high = falling.0 in
    let apart : (x == n) ≡ false = ne_eqb x n (λ e. omega (arith, first, le, e)) in
    rw apart (ap (λ (l : List ℕ). x ∷ l)
    (same_without n x xs (omega (arith, first, le)) falling.1))

-- what is among them is so once
one_less : (n high : ℕ) (xs : List ℕ) → Falling high xs → among n xs ≡ true
    → length (without n xs) + 1 ≡ length xs
one_less n high [] falling there = absurd (false≢true there)
one_less n high (x ∷ xs) falling there =
    by (x == n) refl there (one_less n x xs falling.1)
  where
    by : (b : Bool) → (x == n) ≡ b → (b || among n xs) ≡ true
        → (among n xs ≡ true → length (without n xs) + 1 ≡ length xs)
        → length (if b then without n xs else x ∷ without n xs) + 1 ≡ length (x ∷ xs)
    by true e t rest =
        let is : x ≡ n = eqb-true x n e in
        let same : without n xs ≡ xs = same_without n x xs (omega (arith, is)) falling.1 in
        let long : length (without n xs) ≡ length xs = ap length same in
        omega (arith, long)
    by false e t rest = let less = rest t in omega (arith, less)

-- the ordinals of a peer's open associations stand newest first, each below the next one's

no_open_more : (count high : ℕ) (xs : List ℕ) → count ≡ 0 → Falling high xs
    → Falling (count + high) xs
no_open_more count high xs none falling =
    falling_more high (count + high) xs (omega (arith, none)) falling

falling_sort : (past : Past) (peer : ℕ) (sort : EventSort) (seat : Option Key) → IsCentres sort
    → Falling (opens_in past peer) (open_of peer (moves_in past))
    → Falling (counts_opening sort peer + opens_in past peer)
    (open_of peer (moves_of sort (key_by sort past seat) ++ moves_in past))
falling_sort past peer (opening opener) seat centres falling = by (opener == peer) refl
  where
    by : (b : Bool) → (opener == peer) ≡ b
        → Falling ((if b then 1 else 0) + opens_in past peer)
        (if b then opens_in past opener ∷ open_of peer (moves_in past)
        else open_of peer (moves_in past))
    by true e =
        let same : opens_in past opener ≡ opens_in past peer =
        ap (opens_in past) (eqb-true opener peer e) in (
          omega (arith, same),
          subst (λ n. Falling n (open_of peer (moves_in past))) (sym same)
              falling,
        )
    by false e =
        falling_more (opens_in past peer) (0 + opens_in past peer) (open_of peer (moves_in past))
        (omega arith) falling
falling_sort past peer (requesting call) None centres falling =
    no_open_more 0 (opens_in past peer) (open_of peer (moves_in past)) refl falling
falling_sort past peer (requesting call) (Some key) centres falling =
    subst (λ (l : List ℕ). Falling (0 + opens_in past peer) l)
    (sym (quiet_open peer key (acts_of_call call) (moves_in past) (call_quiet call)))
    (no_open_more 0 (opens_in past peer) (open_of peer (moves_in past)) refl falling)
falling_sort past peer taking None centres falling =
    no_open_more 0 (opens_in past peer) (open_of peer (moves_in past)) refl falling
falling_sort past peer taking (Some key) centres falling =
    no_open_more 0 (opens_in past peer) (open_of peer (moves_in past)) refl falling
falling_sort past peer closing None centres falling =
    no_open_more 0 (opens_in past peer) (open_of peer (moves_in past)) refl falling
falling_sort past peer closing (Some key) centres falling =
    no_open_more 0 (opens_in past peer)
    (open_of peer (moves_of closing (Some key) ++ moves_in past)) refl (by (key.peer == peer))
  where
    by : (b : Bool)
        → Falling (opens_in past peer)
        (if b then without key.ordinal (open_of peer (moves_in past))
        else open_of peer (moves_in past))
    by true =
        falling_without key.ordinal (opens_in past peer) (open_of peer (moves_in past)) falling
    by false = falling
falling_sort past peer taking_orders seat centres falling =
    no_open_more 0 (opens_in past peer) (open_of peer (moves_in past)) refl falling
falling_sort past peer (feeding (acts key act)) seat centres falling = absurd centres
falling_sort past peer (feeding (updates point value)) seat centres falling =
    no_open_more 0 (opens_in past peer) (open_of peer (moves_in past)) refl falling
falling_sort past peer (feeding (tags device tag)) seat centres falling =
    no_open_more 0 (opens_in past peer) (open_of peer (moves_in past)) refl falling
falling_sort past peer (feeding (ticks now)) seat centres falling =
    no_open_more 0 (opens_in past peer) (open_of peer (moves_in past)) refl falling
falling_sort past peer (feeding (asks asker slot)) seat centres falling =
    no_open_more 0 (opens_in past peer) (open_of peer (moves_in past)) refl falling
falling_sort past peer (feeding (chooses chooser variant)) seat centres falling =
    no_open_more 0 (opens_in past peer) (open_of peer (moves_in past)) refl falling
falling_sort past peer (feeding takes_orders) seat centres falling =
    no_open_more 0 (opens_in past peer) (open_of peer (moves_in past)) refl falling
falling_sort past peer (feeding stops) seat centres falling =
    no_open_more 0 (opens_in past peer) (open_of peer (moves_in past)) refl falling

pub falling_open : (past : Past) (peer : ℕ)
    → Falling (opens_in past peer) (open_of peer (moves_in past))
falling_open [] peer = tt
falling_open (entry ∷ past) peer =
    falling_sort past peer (sort_of entry.event) (association_in past entry.who) (fed entry.event)
    (falling_open past peer)

-- as many count as open

count_sort : (past : Past) (peer : ℕ) (sort : EventSort) (seat : Option Key) → IsCentres sort
    → ((key : Key) → seat ≡ Some key → is_open (moves_in past) key ≡ true)
    → open_count (filter_map (table_move peer) (moves_in past))
    ≡ length (open_of peer (moves_in past))
    → open_count (filter_map (table_move peer)
    (moves_of sort (key_by sort past seat) ++ moves_in past))
    ≡ length (open_of peer (moves_of sort (key_by sort past seat) ++ moves_in past))
count_sort past peer (opening opener) seat centres there same = by (opener == peer)
  where
    by : (b : Bool)
        → open_count (cons_option (if b then Some opened else None)
        (filter_map (table_move peer) (moves_in past)))
        ≡ length (if b then opens_in past opener ∷ open_of peer (moves_in past)
        else open_of peer (moves_in past))
    by true = omega (arith, same)
    by false = same
count_sort past peer (requesting call) None centres there same = same
count_sort past peer (requesting call) (Some key) centres there same =
    ap open_count (quiet_tables peer key (acts_of_call call) (moves_in past) (call_quiet call))
    ∙ same
    ∙ sym (ap length (quiet_open peer key (acts_of_call call) (moves_in past) (call_quiet call)))
count_sort past peer taking None centres there same = same
count_sort past peer taking (Some key) centres there same = same
count_sort past peer closing None centres there same = same
count_sort past peer closing (Some key) centres there same = by (key.peer == peer) refl
  where
    by : (b : Bool) → (key.peer == peer) ≡ b
        → open_count (cons_option (if b then Some closed else None)
        (filter_map (table_move peer) (moves_in past)))
        ≡ length (if b then without key.ordinal (open_of peer (moves_in past))
        else open_of peer (moves_in past))
    by true e =
        let mine : among key.ordinal (open_of peer (moves_in past)) ≡ true =
        ap (λ p. among key.ordinal (open_of p (moves_in past))) (sym (eqb-true key.peer peer e))
        ∙ there key refl in
        let less = one_less key.ordinal (opens_in past peer) (open_of peer (moves_in past))
        (falling_open past peer) mine in
        omega (arith, same, less)
    by false e = same
count_sort past peer taking_orders seat centres there same = same
count_sort past peer (feeding (acts key act)) seat centres there same = absurd centres
count_sort past peer (feeding (updates point value)) seat centres there same = same
count_sort past peer (feeding (tags device tag)) seat centres there same = same
count_sort past peer (feeding (ticks now)) seat centres there same = same
count_sort past peer (feeding (asks asker slot)) seat centres there same = same
count_sort past peer (feeding (chooses chooser variant)) seat centres there same =
    by (chooser == peer)
  where
    by : (b : Bool)
        → open_count (cons_option (if b then Some (chosen variant) else None)
        (filter_map (table_move peer) (moves_in past)))
        ≡ length (open_of peer (moves_in past))
    by true = same
    by false = same
count_sort past peer (feeding takes_orders) seat centres there same = same
count_sort past peer (feeding stops) seat centres there same = same

pub count_open : (past : Past) (peer : ℕ)
    → open_count (filter_map (table_move peer) (moves_in past))
    ≡ length (open_of peer (moves_in past))
count_open [] peer = refl
count_open (entry ∷ past) peer =
    count_sort past peer (sort_of entry.event) (association_in past entry.who) (fed entry.event)
    (seat_open past entry.who) (count_open past peer)
