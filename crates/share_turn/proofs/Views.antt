-- Views after one of them has changed.
use Rattle.std.proofs.Common.{◌≡◌, ℕ, zero, suc, ◌+◌, ◌<◌, ◌≤◌, ◌≢◌, ◌⊎◌, List, [], ◌∷◌, ◌++◌}
use Rattle.std.proofs.Common.{length, set, refl, ap, sym, ◌∙◌, subst, inl, inr, ⊎_elim, arith}
use Rattle.std.proofs.Common.{append_assoc, Option}
use mathlib.Core.Option.{none, some, some-injective, some-ne-none}
use mathlib.Core.Option as maybe
use mathlib.Core.Logic.{dite}
use native.Mathlib.Decide.{ℕ_discrete}
use lib.ListN.{get_elem?}
use Rattle.atomic_table.specs.Table.{State, Me, Act, Valid, homes_after, carried_after}
use Rattle.atomic_table.proofs.Lists.{at_set, set_else, set_again}
use Rattle.share_turn.specs.declared.seat_view.SeatView.{SeatView}
use Rattle.share_turn.specs.declared.seat_view.Phase.{Phase}
use Rattle.share_turn.specs.declared.seat_view.Phase.TheVariants.{Idle, Holding, Waiting, Reached}
use Rattle.share_turn.specs.declared.seat_view.Phase.TheVariants.{AtTurn, Returned, Spent}
use Rattle.share_turn.specs.Entries.{Each, own, Behind, Keeps, Claims}
use Rattle.share_turn.specs.Turns.{claims, Stands, InTurn, HasTicket, FitsLog, Apart, IsPlaced, IsKept}
use Rattle.share_turn.specs.Steps.{at_phase, ClaimsHold}
use Rattle.share_turn.proofs.Owned.{each_keeps, each_map, stands_log, below}

pub at_lt : {A : Type 0} (l : List A) (i : ℕ) (a : A) → get_elem? l i ≡ some a → i < length l
at_lt [] i a e = absurd (some-ne-none a (sym e))
at_lt (x ∷ xs) zero a e = omega arith
at_lt (x ∷ xs) (suc i) a e = let h = at_lt xs i a e in omega (arith, h)

later : (a b : ℕ) → a ≤ b → (a + 1 ≤ b) ⊎ (b ≡ a)
later a b le = dite (ℕ_discrete b a) (λ e. inr e) (λ ne. inl (omega (arith, le, ne)))

module _ {E : Type 0} where
  in_turn_more : (next next' turn : ℕ) → next ≤ next' → (log front : List (ℕ × E)) (p : Phase)
      → InTurn next turn log front p → InTurn next' turn log front p
  in_turn_more next next' turn le log front Spent h = tt
  in_turn_more next next' turn le log front Idle h = tt
  in_turn_more next next' turn le log front (Holding n) h = tt
  in_turn_more next next' turn le log front (Waiting t) h = (h.0, omega (arith, h.1))
  in_turn_more next next' turn le log front (Reached t) h = (h.0, omega (arith, h.1))
  in_turn_more next next' turn le log front (AtTurn t) h = (h.0, omega (arith, h.1), h.2)
  in_turn_more next next' turn le log front (Returned t) h = (h.0, omega (arith, h.1), h.2)

  pub ticket_below : (next turn : ℕ) (log front : List (ℕ × E)) (p : Phase)
      → InTurn next turn log front p → (n : ℕ) → HasTicket p n → n < next
  ticket_below next turn log front Spent h n c = absurd c
  ticket_below next turn log front Idle h n c = absurd c
  ticket_below next turn log front (Holding d) h n c = absurd c
  ticket_below next turn log front (Waiting t) h n c = omega (arith, h.1, c)
  ticket_below next turn log front (Reached t) h n c = omega (arith, h.1, c)
  ticket_below next turn log front (AtTurn t) h n c = omega (arith, h.1, c)
  ticket_below next turn log front (Returned t) h n c = omega (arith, h.1, c)

  -- the turn is over
  in_turn_on : (next turn : ℕ) (log front : List (ℕ × E)) (p : Phase) → (HasTicket p turn → ⊥)
      → InTurn next turn log front p → InTurn next (turn + 1) log front p
  in_turn_on next turn log front Spent other h = tt
  in_turn_on next turn log front Idle other h = tt
  in_turn_on next turn log front (Holding n) other h = tt
  in_turn_on next turn log front (Waiting t) other h = let ne : t ≢ turn = other in
      let le : turn ≤ t = h.0 in (
        ⊎_elim (λ (l : turn + 1 ≤ t). l) (λ (e : t ≡ turn). absurd (ne e))
            (later turn t le),
        h.1,
      )
  in_turn_on next turn log front (Reached t) other h = absurd (other h.0)
  in_turn_on next turn log front (AtTurn t) other h = absurd (other h.0)
  in_turn_on next turn log front (Returned t) other h = absurd (other h.0)

  -- the log goes on at the turn of another
  in_turn_log : (next turn : ℕ) (log log' front : List (ℕ × E)) (p : Phase) → (HasTicket p turn → ⊥)
      → InTurn next turn log front p → InTurn next turn log' front p
  in_turn_log next turn log log' front Spent other h = tt
  in_turn_log next turn log log' front Idle other h = tt
  in_turn_log next turn log log' front (Holding n) other h = tt
  in_turn_log next turn log log' front (Waiting t) other h = h
  in_turn_log next turn log log' front (Reached t) other h = h
  in_turn_log next turn log log' front (AtTurn t) other h = absurd (other h.0)
  in_turn_log next turn log log' front (Returned t) other h = absurd (other h.0)

module _ {E T : Type 0} where
  pub seats : (F : SeatView E T → Type 0) (vs : List (SeatView E T)) (id : ℕ) (w : SeatView E T) → F w
      → ((j : ℕ) (k : SeatView E T) → j ≢ id → get_elem? vs j ≡ some k → F k)
      → (j : ℕ) (k : SeatView E T) → get_elem? (set vs id w) j ≡ some k → F k
  seats F vs id w mine others j k e = ⊎_elim (λ (t : (j ≡ id) × (w ≡ k)). subst F t.1 mine)
      (λ (t : (j ≢ id) × (get_elem? vs j ≡ some k)). others j k t.0 t.1) (at_set vs id j w k e)

  pub apart_sym : (k l : SeatView E T) → Apart k l → Apart l k
  apart_sym k l a = record {
    numbers = λ n c d. a.numbers n d c;
    tickets = λ n c d.
        a.tickets n d c;
  }

  pub pairs : (vs : List (SeatView E T)) (id : ℕ) (w : SeatView E T)
      → ((j : ℕ) (l : SeatView E T) → j ≢ id → get_elem? vs j ≡ some l → Apart w l)
      → ((i j : ℕ) (k l : SeatView E T) → i ≢ j → get_elem? vs i ≡ some k → get_elem? vs j ≡ some l
      → Apart k l)
      → (i j : ℕ) (k l : SeatView E T) → i ≢ j → get_elem? (set vs id w) i ≡ some k
      → get_elem? (set vs id w) j ≡ some l → Apart k l
  pairs vs id w mine all i j k l ne a b = ⊎_elim
      (λ (t : (i ≡ id) × (w ≡ k)). ⊎_elim (λ (u : (j ≡ id) × (w ≡ l)). absurd (ne (t.0 ∙ sym u.0)))
      (λ (u : (j ≢ id) × (get_elem? vs j ≡ some l)). subst (λ (z : SeatView E T). Apart z l) t.1
      (mine j l u.0 u.1)) (at_set vs id j w l b))
      (λ (t : (i ≢ id) × (get_elem? vs i ≡ some k)). ⊎_elim
      (λ (u : (j ≡ id) × (w ≡ l)). apart_sym l k
      (subst (λ (z : SeatView E T). Apart z k) u.1 (mine i k t.0 t.1)))
      (λ (u : (j ≢ id) × (get_elem? vs j ≡ some l)). all i j k l ne t.1 u.1) (at_set vs id j w l b))
      (at_set vs id i w k a)

  pub fits_more : (setup : T) (log : List (ℕ × E)) (next next' turn count count' : ℕ)
      (k : SeatView E T) → next ≤ next' → count ≤ count' → FitsLog setup log next turn count k
      → FitsLog setup log next' turn count' k
  fits_more setup log next next' turn count count' k le le' f = record {
    setup_is = f.setup_is;
    rest = f.rest;
    seen = f.seen;
    stands = each_map (Stands count k.front f.rest) (Stands count' k.front f.rest)
        (λ p s. (omega (arith, s.0), s.1, s.2)) (claims k) f.stands;
    differ = f.differ;
    in_turn = in_turn_more next next' turn le log k.front k.phase f.in_turn;
  }

  pub fits_log : (setup : T) (log more : List (ℕ × E)) (next turn count : ℕ) (k : SeatView E T)
      → ((n : ℕ) → Claims (claims k) n → own n more ≡ []) → (HasTicket k.phase turn → ⊥)
      → FitsLog setup log next turn count k → FitsLog setup (log ++ more) next turn count k
  fits_log setup log more next turn count k quiet other f = record {
    setup_is = f.setup_is;
    rest = f.rest ++ more;
    seen = sym (append_assoc k.front f.rest more) ∙ ap (λ (l : List (ℕ × E)). l ++ more) f.seen;
    stands = stands_log count k.front f.rest more (claims k) quiet f.stands;
    differ = f.differ;
    in_turn = in_turn_log next turn log (log ++ more) k.front k.phase other f.in_turn;
  }

  pub fits_turn : (setup : T) (log : List (ℕ × E)) (next turn count : ℕ) (k : SeatView E T)
      → (HasTicket k.phase turn → ⊥) → FitsLog setup log next turn count k
      → FitsLog setup log next (turn + 1) count k
  fits_turn setup log next turn count k other f = record {
    setup_is = f.setup_is;
    rest = f.rest;
    seen = f.seen;
    stands = f.stands;
    differ = f.differ;
    in_turn = in_turn_on next turn log k.front k.phase other f.in_turn;
  }

  -- the view's phase, written out
  pub fits_at : (setup : T) (log : List (ℕ × E)) (next turn count : ℕ) (k : SeatView E T) (p : Phase)
      → k.phase ≡ p → FitsLog setup log next turn count k
      → FitsLog setup log next turn count (at_phase p k)
  fits_at setup log next turn count k p e f = subst
      (λ (q : Phase). FitsLog setup log next turn count (at_phase q k)) e f

  pub apart_at : (k l : SeatView E T) (p : Phase) → k.phase ≡ p → Apart k l → Apart (at_phase p k) l
  apart_at k l p e a = subst (λ (q : Phase). Apart (at_phase q k) l) e a

  pub told_of : (setup : T) (log : List (ℕ × E)) (next turn count : ℕ) (k : SeatView E T)
      → (claims k ≡ (k.number, k.before) ∷ k.ended) → FitsLog setup log next turn count k → ClaimsHold k
  told_of setup log next turn count k e f = each_map (Stands count k.front f.rest) (Behind k.front)
      (λ p s. s.1) ((k.number, k.before) ∷ k.ended)
      (subst (λ (ps : List (ℕ × List (ℕ × E))). Each (Stands count k.front f.rest) ps) e f.stands)

module _ {E T : Type 0} where
  pub told_keeps : (k : SeatView E T) → ClaimsHold k → Each (Keeps k.front) ((k.number, k.before) ∷ k.ended)
  told_keeps k told = each_keeps k.front ((k.number, k.before) ∷ k.ended) told

module _ {O E T : Type 0} (setup_of : O → T) (history_of : O → List (ℕ × E)) (setup : T) where
  abbrev St : Type 0
  St = State (Option O) (SeatView E T)

  -- a seat whose step leaves these words takes or gives what it may, its view and the table keep
  -- the rule, and the step does what it says
  abbrev pub LeadsTo : List (SeatView E T) → ℕ → List ℕ → List (maybe.Option (Option O))
      → List (ℕ × Option O) → (Me (Option O) (SeatView E T) → Type 0) → Type 0
  LeadsTo views id words homes carried does = (v : SeatView E T) × (a : Act (Option O))
      × Valid homes carried a
      × IsKept setup_of history_of setup record {
        words = words;
        homes = homes_after homes carried a;
        views = set views id v;
      }
      × does (v, carried_after carried a)

  -- a view that isn't at the turn changes: the object is where it was
  pub place_stays : (s : St) (log : List (ℕ × E)) (id : ℕ) (k w : SeatView E T) (ws : List ℕ)
      → get_elem? s.views id ≡ some k → ((t : ℕ) → k.phase ≡ AtTurn t → ⊥)
      → IsPlaced setup_of history_of setup log s
      → IsPlaced setup_of history_of setup log record
      { words = ws; homes = s.homes; views = set s.views id w }
  place_stays s log id k w ws at not_at place = ⊎_elim inl
      (λ (out : (s.homes ≡ none ∷ []) × ((j : ℕ) × (l : SeatView E T) × (t : ℕ)
      × (get_elem? s.views j ≡ some l) × (l.phase ≡ AtTurn t))).
      let who = out.1 in
      let other : who.0 ≢ id = λ is. not_at who.2
      (ap (λ (z : SeatView E T). z.phase) (some-injective k who.1
      (sym at ∙ (ap (get_elem? s.views) (sym is) ∙ who.3))) ∙ who.4) in
      inr (out.0, (who.0, who.1, who.2, set_else s.views id who.0 w other ∙ who.3, who.4)))
      place

  -- a seat that isn't at the turn changes its view, and takes only numbers and tickets that nobody
  -- had
  pub changes : (s : St) (r : IsKept setup_of history_of setup s) (id : ℕ) (k w : SeatView E T)
      (next' count' : ℕ) → get_elem? s.views id ≡ some k → r.next ≤ next' → r.count ≤ count'
      → ((t : ℕ) → k.phase ≡ AtTurn t → ⊥) → FitsLog setup r.log next' r.turn count' w
      → ((n : ℕ) → Claims (claims w) n → Claims (claims k) n ⊎ (r.count ≤ n))
      → ((n : ℕ) → HasTicket w.phase n → HasTicket k.phase n ⊎ (r.next ≤ n))
      → IsKept setup_of history_of setup record
      { words = next' ∷ r.turn ∷ count' ∷ []; homes = s.homes; views = set s.views id w }
  changes s r id k w next' count' at more more' not_at fits numbers tickets = record {
    next = next';
    turn = r.turn;
    count = count';
    log = r.log;
    words = refl;
    order = omega (arith, r.order, more);
    logged = each_map (λ (e : ℕ × E). e.0 < r.count) (λ (e : ℕ × E). e.0 < count')
        (λ e l. omega (arith, l, more')) r.log r.logged;
    place = place_stays s r.log id k w (next' ∷ r.turn ∷ count' ∷ []) at not_at r.place;
    each_seat = seats (FitsLog setup r.log next' r.turn count') s.views id w fits
        (λ j l _ there. fits_more setup r.log r.next next' r.turn r.count count' l more more'
        (r.each_seat j l there));
    each_pair = pairs s.views id w (λ j l ne there.
        let a = r.each_pair id j k l (λ e. ne (sym e)) at there in
        let f = r.each_seat j l there in
        record {
          numbers = λ n c d. ⊎_elim (λ (h : Claims (claims k) n). a.numbers n h d)
              (λ (h : r.count ≤ n). let b = below r.count l.front f.rest (claims l) f.stands n d in
              omega (arith, b, h)) (numbers n c);
          tickets = λ n c d. ⊎_elim (λ (h : HasTicket k.phase n). a.tickets n h d)
              (λ (h : r.next ≤ n). let b = ticket_below r.next r.turn r.log l.front l.phase
              f.in_turn n d in omega (arith, b, h)) (tickets n c);
        }) r.each_pair;
  }

  -- nothing changes
  pub stays : (s : St) (r : IsKept setup_of history_of setup s) (id : ℕ) (k : SeatView E T)
      → get_elem? s.views id ≡ some k
      → IsKept setup_of history_of setup record
      { words = r.next ∷ r.turn ∷ r.count ∷ []; homes = s.homes; views = set s.views id k }
  stays s r id k at = subst (λ (ws : List ℕ). IsKept setup_of history_of setup record
      { words = ws; homes = s.homes; views = set s.views id k }) r.words
      (subst (λ (vs : List (SeatView E T)). IsKept setup_of history_of setup record
      { words = s.words; homes = s.homes; views = vs }) (sym (set_again s.views id k at)) r)
