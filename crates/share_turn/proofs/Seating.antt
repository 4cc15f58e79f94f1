-- Drawing a seat number, splitting and joining keep the rule.
use Rattle.std.proofs.Common.{◌≡◌, ℕ, zero, suc, ◌+◌, ◌≤◌, ◌≢◌, ◌⊎◌, eqb, ltb, List, [], ◌∷◌}
use Rattle.std.proofs.Common.{◌++◌, length, set, get_or, refl, ap, sym, ◌∙◌, subst, inl, inr}
use Rattle.std.proofs.Common.{⊎_elim, arith, le_refl, Option, Bool, true, false}
use Rattle.std.proofs.lemmas.List.{append-nil}
use Rattle.std.proofs.lemmas.Bool.Decides.{nat_tests}
use mathlib.Core.Option.{none, some, some-injective}
use prog.Atomic.{either}
use lib.ListN.{get_elem?}
use Rattle.atomic_table.specs.Table.{State, Me, step, Act, keeps, Valid, homes_after}
use Rattle.atomic_table.specs.Table.{carried_after, Allows, Splits, Joins}
use Rattle.atomic_table.proofs.Lists.{exchanged, set_else, at_snoc, at_longer, at_set}
use Rattle.share_turn.specs.declared.seat_view.SeatView.{SeatView}
use Rattle.share_turn.specs.declared.seat_view.Phase.{Phase}
use Rattle.share_turn.specs.declared.seat_view.Phase.TheVariants.{Idle, Holding}
use Rattle.share_turn.specs.declared.seat_view.Phase.TheVariants.{AtTurn, Spent}
use Rattle.share_turn.specs.Entries.{own, Claims, AllDiffer}
use Rattle.share_turn.specs.Turns.{claims, Stands, FitsLog, Apart, IsKept}
use Rattle.share_turn.specs.Steps.{at_phase, fresh, drawn, spent, longer, joined, drew_number}
use Rattle.share_turn.proofs.Owned.{each_map, each_append, stands_on, below, fresh_none, none_both}
use Rattle.share_turn.proofs.Views.{seats, pairs, apart_sym, fits_at, apart_at, place_stays}
use Rattle.share_turn.proofs.Views.{changes, stays, LeadsTo}

module _ {E T : Type 0} where
  -- another view comes behind the others
  seats_snoc : (F : SeatView E T → Type 0) (vs : List (SeatView E T)) (w : SeatView E T) → F w
      → ((j : ℕ) (k : SeatView E T) → get_elem? vs j ≡ some k → F k) → (j : ℕ) (k : SeatView E T)
      → get_elem? (vs ++ w ∷ []) j ≡ some k → F k
  seats_snoc F vs w mine others j k e = ⊎_elim (others j k) (λ (t : w ≡ k). subst F t mine)
      (at_snoc vs w k j e)

  -- where it stands among the others, or as the last one
  snoc_at : (vs : List (SeatView E T)) (w k : SeatView E T) (j : ℕ) → get_elem? (vs ++ w ∷ []) j ≡ some k
      → (get_elem? vs j ≡ some k) ⊎ ((j ≡ length vs) × (w ≡ k))
  snoc_at [] w k zero e = inr (refl, some-injective w k e)
  snoc_at [] w k (suc j) e = absurd (cc e)
  snoc_at (v ∷ vs) w k zero e = inl e
  snoc_at (v ∷ vs) w k (suc j) e = ⊎_elim inl (λ (t : (j ≡ length vs) × (w ≡ k)). inr
      (ap suc t.0, t.1)) (snoc_at vs w k j e)

  pairs_snoc : (vs : List (SeatView E T)) (w : SeatView E T)
      → ((j : ℕ) (l : SeatView E T) → get_elem? vs j ≡ some l → Apart w l)
      → ((i j : ℕ) (k l : SeatView E T) → i ≢ j → get_elem? vs i ≡ some k → get_elem? vs j ≡ some l
      → Apart k l)
      → (i j : ℕ) (k l : SeatView E T) → i ≢ j → get_elem? (vs ++ w ∷ []) i ≡ some k
      → get_elem? (vs ++ w ∷ []) j ≡ some l → Apart k l
  pairs_snoc vs w mine all i j k l ne a b = ⊎_elim
      (λ (t : get_elem? vs i ≡ some k). ⊎_elim (λ (u : get_elem? vs j ≡ some l). all i j k l ne t u)
      (λ (u : (j ≡ length vs) × (w ≡ l)). apart_sym l k
      (subst (λ (z : SeatView E T). Apart z k) u.1 (mine i k t))) (snoc_at vs w l j b))
      (λ (t : (i ≡ length vs) × (w ≡ k)). ⊎_elim
      (λ (u : get_elem? vs j ≡ some l). subst (λ (z : SeatView E T). Apart z l) t.1 (mine j l u))
      (λ (u : (j ≡ length vs) × (w ≡ l)). absurd (ne (t.0 ∙ sym u.0))) (snoc_at vs w l j b))
      (snoc_at vs w k i a)

module _ {E : Type 0} where
  -- of two fronts of one log the longer goes on from the other
  ahead : (xs ys log : List (ℕ × E)) (p q : List (ℕ × E)) → xs ++ p ≡ log → ys ++ q ≡ log
      → length xs ≤ length ys → (m : List (ℕ × E)) × (xs ++ m ≡ ys) × (m ++ q ≡ p)
  ahead [] ys log p q a b le = (ys, refl, b ∙ sym a)
  ahead (x ∷ xs) [] log p q a b le = absurd (omega (arith, le))
  ahead (x ∷ xs) (y ∷ ys) [] p q a b le = absurd (cc a)
  ahead (x ∷ xs) (y ∷ ys) (z ∷ log) p q a b le =
      let rec = ahead xs ys log p q (cc a) (cc b) (omega (arith, le)) in
      let same : x ≡ y = cc (a, b) in
      (rec.0, cc (same, rec.1), rec.2)

  longest : (xs ys log : List (ℕ × E)) (p q : List (ℕ × E)) → xs ++ p ≡ log → ys ++ q ≡ log
      → (b : Bool) → ltb (length xs) (length ys) ≡ b
      → (rest : List (ℕ × E)) × (longer xs ys ++ rest ≡ log)
      × ((m : List (ℕ × E)) × (xs ++ m ≡ longer xs ys) × (m ++ rest ≡ p))
      × ((m : List (ℕ × E)) × (ys ++ m ≡ longer xs ys) × (m ++ rest ≡ q))
  longest xs ys log p q a b true is = let le : length xs ≤ length ys = grind (arith, nat_tests) in
      rw is (q, b, ahead xs ys log p q a b le, ([], append-nil ys, refl))
  longest xs ys log p q a b false is = let le : length ys ≤ length xs = grind (arith, nat_tests) in
      rw is (p, a, ([], append-nil xs, refl), ahead ys xs log q p b a le)

  claims_append : (ps qs : List (ℕ × List (ℕ × E))) (n : ℕ) → Claims (ps ++ qs) n → Claims ps n
      ⊎ Claims qs n
  claims_append [] qs n c = inr c
  claims_append (p ∷ ps) qs n c = ⊎_elim (λ (is : p.0 ≡ n). inl (inl is))
      (λ (t : Claims (ps ++ qs) n). ⊎_elim (λ (u : Claims ps n). inl (inr u))
      (λ (u : Claims qs n). inr u) (claims_append ps qs n t)) c

  differ_append : (ps qs : List (ℕ × List (ℕ × E))) → AllDiffer ps → AllDiffer qs
      → ((n : ℕ) → Claims ps n → Claims qs n → ⊥) → AllDiffer (ps ++ qs)
  differ_append [] qs a b away = b
  differ_append (p ∷ ps) qs a b away = (
    (λ c. ⊎_elim (λ (h : Claims ps p.0). a.0 h)
        (λ (h : Claims qs p.0). away p.0 (inl refl) h) (claims_append ps qs p.0 c)),
    differ_append ps qs a.1 b (λ n c d. away n (inr c) d),
  )

set_swap : {A : Type 0} (l : List A) (i j : ℕ) (a b : A) → j ≢ i
    → set (set l i a) j b ≡ set (set l j b) i a
set_swap [] i j a b ne = refl
set_swap (x ∷ xs) zero zero a b ne = absurd (ne refl)
set_swap (x ∷ xs) zero (suc j) a b ne = refl
set_swap (x ∷ xs) (suc i) zero a b ne = refl
set_swap (x ∷ xs) (suc i) (suc j) a b ne = ap (λ l. x ∷ l)
    (set_swap xs i j a b (λ e. ne (ap suc e)))

module _ {O E T : Type 0} (setup_of : O → T) (history_of : O → List (ℕ × E)) (setup : T) where
  abbrev K : Type 0
  K = SeatView E T

  abbrev M : Type 0
  M = Me (Option O) K

  abbrev St : Type 0
  St = State (Option O) K

  abbrev Rule : St → Type 0
  Rule s = IsKept setup_of history_of setup s

  pub numbers : (slots id : ℕ) (me : M) (t : ℕ) → me.0.phase ≡ Idle
      → Allows Rule slots id me 2 (λ n. either (eqb n t) (t + 1) n)
      (drew_number (step slots 2 t (t + 1) none) me)
  numbers slots id me t idle s r _ at _ =
      let k : K = me.0 in
      let w : K = at_phase (Holding r.count) k in
      let f = fits_at setup r.log r.next r.turn r.count k Idle idle (r.each_seat id k at) in
      let Goal : ℕ → List ℕ → Type 0 = λ x ws. LeadsTo setup_of history_of setup s.views id
      (set ws 2 x) s.homes me.1 (drew_number (step slots 2 t (t + 1) none) me (get_or ws 2 0)) in
      let none_there : own r.count r.log ≡ [] = fresh_none r.count r.log r.logged in
      let two = none_both r.count k.front f.rest (ap (own r.count) f.seen ∙ none_there) in
      let alive : k.setup ≡ setup ∷ [] = ⊎_elim (λ (is : Idle ≡ Spent). absurd (cc is))
      (λ (is : k.setup ≡ setup ∷ []). is) f.setup_is in
      let free : Claims ((k.number, k.before) ∷ k.ended) r.count
      → ⊥ = λ c. let b = below r.count k.front f.rest
      ((k.number, k.before) ∷ k.ended) f.stands r.count c in absurd (omega (arith, b)) in
      subst (λ (ws : List ℕ). Goal (either (eqb (get_or ws 2 0) t) (t + 1) (get_or ws 2 0)) ws)
      (sym r.words)
      (exchanged r.count t (t + 1) (λ x. Goal x (r.next ∷ r.turn ∷ r.count ∷ []))
      (λ e. (
        w,
        keeps,
        tt,
        changes setup_of history_of setup s r id k w r.next (t + 1) at (le_refl r.next)
            (omega (arith, e)) (λ u is. absurd (cc (idle, is)))
            record {
              setup_is = inr alive;
              rest = f.rest;
              seen = f.seen;
              stands = (
                (omega (arith, e), (k.front, refl, two.0), two.1),
                each_map (Stands r.count k.front f.rest) (Stands (t + 1) k.front f.rest)
                    (λ p st. (let l = st.0 in omega (arith, l, e), st.1, st.2))
                    ((k.number, k.before) ∷ k.ended) f.stands,
              );
              differ = (free, f.differ);
              in_turn = tt;
            }
            (λ n c. ⊎_elim (λ (is : r.count ≡ n). inr (omega (arith, is)))
            (λ (h : Claims ((k.number, k.before) ∷ k.ended) n). inl
            (subst (λ (p : Phase). Claims (claims (at_phase p k)) n) (sym idle) h)) c)
            (λ n c. absurd c),
        (λ _. (refl, free, two.0), λ ne. absurd (ne e)),
      ))
      (λ ne. (
        k,
        keeps,
        tt,
        stays setup_of history_of setup s r id k at,
        (λ e. absurd (ne e), λ _. refl),
      )))

  pub splits : (id : ℕ) (k : K) (n : ℕ) → k.phase ≡ Holding n
      → Splits Rule id k (at_phase Idle k) (fresh k.setup (drawn k.phase) k.front)
  splits id k n holds s r at =
      let w : K = at_phase Idle k in
      let v : K = fresh k.setup n k.front in
      let f = fits_at setup r.log r.next r.turn r.count k (Holding n) holds (r.each_seat id k at) in
      let alive : k.setup ≡ setup ∷ [] = ⊎_elim (λ (is : Holding n ≡ Spent). absurd (cc is))
      (λ (is : k.setup ≡ setup ∷ []). is) f.setup_is in
      let vs : List K = set s.views id w in
      let away : (j : ℕ) (l : K) → j ≢ id → get_elem? s.views j ≡ some l
      → Apart (at_phase (Holding n) k) l = λ j l ne there. apart_at k l (Holding n) holds
      (r.each_pair id j k l (λ is. ne (sym is)) at there) in
      let left : FitsLog setup r.log r.next r.turn r.count w = record {
        setup_is = inr alive;
        rest = f.rest;
        seen = f.seen;
        stands = f.stands.1;
        differ =
            f.differ.1;
        in_turn = tt;
      } in
      let right : FitsLog setup r.log r.next r.turn r.count v = record {
        setup_is = inr alive;
        rest = f.rest;
        seen = f.seen;
        stands = (f.stands.0, tt);
        differ =
            ((λ c. c), tt);
        in_turn = tt;
      } in
      let each : (j : ℕ) (l : K) → get_elem? vs j ≡ some l
      → FitsLog setup r.log r.next r.turn r.count l = seats
      (FitsLog setup r.log r.next r.turn r.count) s.views id w left
      (λ j l _ there. r.each_seat j l there) in
      let pair : (i j : ℕ) (x y : K) → i ≢ j → get_elem? vs i ≡ some x → get_elem? vs j ≡ some y
      → Apart x y = pairs s.views id w (λ j l ne there. let a = away j l ne there in
      record { numbers = λ m c d. a.numbers m (inr c) d; tickets = λ m c. absurd c })
      r.each_pair in
      let mine : (j : ℕ) (l : K) → get_elem? vs j ≡ some l
      → Apart v l = seats (λ l. Apart v l) s.views id w
      record {
        numbers = λ m c d. ⊎_elim (λ (is : n ≡ m). f.differ.0
            (subst (Claims ((k.number, k.before) ∷ k.ended)) (sym is) d))
            (λ (h : ⊥). h) c;
        tickets = λ m c. absurd c;
      }
      (λ j l ne there. let a = away j l ne there in
      record {
        numbers = λ m c d. ⊎_elim (λ (is : n ≡ m). a.numbers m (inl is) d)
            (λ (h : ⊥). absurd h) c;
        tickets = λ m c. absurd c;
      }) in
      let rule : Rule record { words = s.words; homes = s.homes; views = vs ++ v ∷ [] } = record {
        next = r.next;
        turn = r.turn;
        count = r.count;
        log = r.log;
        words = r.words;
        order = r.order;
        logged = r.logged;
        place = ⊎_elim inl (λ (out : (s.homes ≡ none ∷ [])
            × ((j : ℕ) × (l : K) × (t : ℕ) × (get_elem? vs j ≡ some l) × (l.phase ≡ AtTurn t))).
            let who = out.1 in inr (
              out.0,
              (
                who.0,
                who.1,
                who.2,
                at_longer vs (v ∷ []) who.0 who.1 who.3,
                who.4,
              ),
            ))
            (place_stays setup_of history_of setup s r.log id k w s.words at
            (λ t is. absurd (cc (holds, is))) r.place);
        each_seat = seats_snoc (FitsLog setup r.log r.next r.turn r.count) vs v right each;
        each_pair = pairs_snoc vs v mine pair;
      } in
      subst (λ (p : Phase). Rule record {
        words = s.words;
        homes = s.homes;
        views = vs ++ fresh
            k.setup (drawn p) k.front ∷ [];
      }) (sym holds) rule

  pub joins : (id : ℕ) (k : K) (other : ℕ) (l : K) → k.phase ≡ Idle → l.phase ≡ Idle
      → Joins Rule id k other l (joined k l) spent
  joins id k other l idle idle' s r at apart there =
      let w : K = at_phase Idle (joined k l) in
      let at_other : get_elem? s.views other ≡ some l = sym
      (set_else s.views id other (joined k l) apart) ∙ there in
      let f = fits_at setup r.log r.next r.turn r.count k Idle idle (r.each_seat id k at) in
      let g = fits_at setup r.log r.next r.turn r.count l Idle idle'
      (r.each_seat other l at_other) in
      let both = apart_sym l (at_phase Idle k)
      (apart_sym (at_phase Idle k) l (apart_at k l Idle idle
      (r.each_pair id other k l (λ is. apart (sym is)) at at_other))) in
      let both' : Apart (at_phase Idle l) (at_phase Idle k) = apart_at l
      (at_phase Idle k) Idle idle' (apart_sym (at_phase Idle k) l both) in
      let alive : k.setup ≡ setup ∷ [] = ⊎_elim (λ (is : Idle ≡ Spent). absurd (cc is))
      (λ (is : k.setup ≡ setup ∷ []). is) f.setup_is in
      let far = longest k.front l.front r.log f.rest g.rest f.seen g.seen
      (ltb (length k.front) (length l.front)) refl in
      let front : List (ℕ × E) = longer k.front l.front in
      let mine = far.2 in
      let theirs = far.3 in
      let on : (p : ℕ × List (ℕ × E)) → Stands r.count k.front f.rest p
      → Stands r.count front far.0 p = stands_on r.count r.count
      (le_refl r.count) k.front f.rest mine.0 front far.0 mine.1 mine.2 in
      let on' : (p : ℕ × List (ℕ × E)) → Stands r.count l.front g.rest p
      → Stands r.count front far.0 p = stands_on r.count r.count
      (le_refl r.count) l.front g.rest theirs.0 front far.0 theirs.1 theirs.2 in
      let fits : FitsLog setup r.log r.next r.turn r.count w = record {
        setup_is = inr alive;
        rest = far.0;
        seen = far.1;
        stands = (
          on (k.number, k.front) (f.stands.0.0, ([], append-nil k.front, refl), f.stands.0.2),
          (
            on' (l.number, l.front) (g.stands.0.0, ([], append-nil l.front, refl), g.stands.0.2),
            each_append (Stands r.count front far.0) l.ended k.ended
                (each_map (Stands r.count l.front g.rest)
                (Stands r.count front far.0) on' l.ended g.stands.1)
                (each_map (Stands r.count k.front f.rest)
                (Stands r.count front far.0) on k.ended f.stands.1),
          ),
        );
        differ = (
          (λ c. ⊎_elim (λ (is : l.number ≡ k.number). both'.numbers k.number (inl is) (inl refl))
              (λ (h : Claims (l.ended ++ k.ended) k.number). ⊎_elim
              (λ (u : Claims l.ended k.number). both'.numbers k.number (inr u) (inl refl))
              (λ (u : Claims k.ended k.number). f.differ.0 u)
              (claims_append l.ended k.ended k.number h)) c),
          (
            (λ c. ⊎_elim (λ (u : Claims l.ended l.number). g.differ.0 u)
                (λ (u : Claims k.ended l.number). both'.numbers l.number (inl refl) (inr u))
                (claims_append l.ended k.ended l.number c)),
            differ_append l.ended k.ended g.differ.1 f.differ.1
                (λ n c d. both'.numbers n (inr c) (inr d)),
          ),
        );
        in_turn = tt;
      } in
      let split_claims : (n : ℕ) → Claims (claims w) n → Claims ((k.number, k.before) ∷ k.ended) n
      ⊎ Claims ((l.number, l.before) ∷ l.ended) n = λ n c.
      ⊎_elim (λ (is : k.number ≡ n). inl (inl is))
      (λ (h : Claims ((l.number, l.front) ∷ l.ended ++ k.ended) n).
      ⊎_elim (λ (is : l.number ≡ n). inr (inl is))
      (λ (u : Claims (l.ended ++ k.ended) n). ⊎_elim (λ (x : Claims l.ended n). inr (inr x))
      (λ (x : Claims k.ended n). inl (inr x)) (claims_append l.ended k.ended n u)) h) c in
      let vs : List K = set s.views id w in
      let gone : FitsLog setup r.log r.next r.turn r.count spent = record
      { setup_is = inl refl; rest = r.log; seen = refl; stands = tt; differ = tt; in_turn = tt }
      in
      let state : St = record { words = s.words; homes = s.homes; views = vs } in
      let pair : (i j : ℕ) (x y : K) → i ≢ j → get_elem?
      (set (set s.views other spent) id w) i ≡ some x
      → get_elem? (set (set s.views other spent) id w) j ≡ some y → Apart x y =
      pairs (set s.views other spent) id w
      (λ j x ne h. ⊎_elim (λ (t : (j ≡ other) × (spent ≡ x)). subst
      (λ (z : K). Apart w z) t.1 record { numbers = λ n c d. d; tickets = λ n c. absurd c })
      (λ (t : (j ≢ other) × (get_elem? s.views j ≡ some x)).
      let a = apart_at k x Idle idle (r.each_pair id j k x (λ is. ne (sym is)) at t.1) in
      let b = apart_at l x Idle idle' (r.each_pair other j l x (λ is. t.0 (sym is)) at_other t.1) in
      record {
        numbers = λ n c d. ⊎_elim (λ (u : Claims ((k.number, k.before) ∷ k.ended) n).
            a.numbers n u d) (λ (u : Claims ((l.number, l.before) ∷ l.ended) n). b.numbers n u d)
            (split_claims n c);
        tickets = λ n c. absurd c;
      })
      (at_set s.views other j spent x h))
      (pairs s.views other spent (λ j x ne h. record {
        numbers = λ n c. absurd c;
        tickets = λ n c.
            absurd c;
      }) r.each_pair) in
      let rule : Rule record { words = s.words; homes = s.homes; views = set vs other spent } =
      record {
        next = r.next;
        turn = r.turn;
        count = r.count;
        log = r.log;
        words = r.words;
        order = r.order;
        logged = r.logged;
        place = place_stays setup_of history_of setup state r.log other l spent s.words
            (set_else s.views id other w apart ∙ at_other) (λ t is. absurd (cc (idle', is)))
            (place_stays setup_of history_of setup s r.log id k w s.words at
            (λ t is. absurd (cc (idle, is))) r.place);
        each_seat = seats (FitsLog setup r.log r.next r.turn r.count) vs other spent gone
            (λ j x _ h. seats (FitsLog setup r.log r.next r.turn r.count) s.views id w fits
            (λ i y _ q. r.each_seat i y q) j x h);
        each_pair = subst (λ (us : List K). (i j : ℕ) (x y : K) → i ≢ j → get_elem? us i ≡ some x
            → get_elem? us j ≡ some y → Apart x y)
            (sym (set_swap s.views id other w spent apart)) pair;
      } in
      subst (λ (p : Phase). Rule record {
        words = s.words;
        homes = s.homes;
        views = set
            (set s.views id (at_phase p (joined k l))) other spent;
      }) (sym idle) rule
