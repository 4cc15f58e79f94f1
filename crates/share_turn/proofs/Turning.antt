-- Drawing a ticket, taking the object out at its turn and putting it back keep the rule.
use Rattle.std.proofs.Common.{◌≡◌, ℕ, zero, suc, ◌+◌, ◌<◌, ◌≢◌, eqb, List, [], ◌∷◌, ◌++◌}
use Rattle.std.proofs.Common.{length, set, get_or, refl, ap, sym, ◌∙◌, subst, inl, inr, ⊎_elim}
use Rattle.std.proofs.Common.{arith, append_assoc, le_refl, Option, Some}
use Rattle.std.proofs.lemmas.List.{append-nil}
use mathlib.Core.Option as maybe
use mathlib.Core.Option.{none, some, some-injective}
use Rattle.std.specs.Option.{unwrap_or}
use mathlib.Core.Logic.{dite}
use native.Mathlib.Decide.{ℕ_discrete}
use prog.Atomic.{either}
use lib.ListN.{get_elem?}
use Rattle.atomic_table.specs.Table.{State, Me, step, Act, keeps, takes, gives, Valid}
use Rattle.atomic_table.specs.Table.{homes_after, carried_after, Allows, opening}
use Rattle.atomic_table.proofs.Lists.{exchanged, set_here}
use Rattle.share_turn.specs.declared.seat_view.SeatView.{SeatView}
use Rattle.share_turn.specs.declared.seat_view.Phase.{Phase}
use Rattle.share_turn.specs.declared.seat_view.Phase.TheVariants.{Idle, Waiting, Reached}
use Rattle.share_turn.specs.declared.seat_view.Phase.TheVariants.{AtTurn, Returned, Spent}
use Rattle.share_turn.specs.Entries.{Each, own, Claims}
use Rattle.share_turn.specs.Turns.{claims, Stands, HasTicket, FitsLog, Apart, IsKept}
use Rattle.share_turn.specs.Steps.{starting, at_phase, at_front, ClaimsHold, drew_ticket, read_turn}
use Rattle.share_turn.specs.Steps.{IsOut, took_out, GoesOn, put_back, published}
use Rattle.share_turn.proofs.Owned.{each_map, each_append, stands_on, stands_log, not_own}
use Rattle.share_turn.proofs.Views.{at_lt, seats, pairs, fits_at, apart_at, fits_log, fits_turn}
use Rattle.share_turn.proofs.Views.{told_of, place_stays, changes, stays, LeadsTo}

only : {O : Type 0} {o : O} (hs : List (maybe.Option (Option O))) → length hs ≡ 1
    → set hs 0 (some (Some o)) ≡ some (Some o) ∷ []
only [] e = absurd (omega (arith, e))
only (x ∷ []) e = refl
only (x ∷ y ∷ hs) e = absurd (omega (arith, e))

module _ {O E T : Type 0} (setup_of : O → T) (history_of : O → List (ℕ × E)) (setup : T) where
  abbrev K : Type 0
  K = SeatView E T

  abbrev M : Type 0
  M = Me (Option O) K

  abbrev St : Type 0
  St = State (Option O) K

  abbrev Rule : St → Type 0
  Rule s = IsKept setup_of history_of setup s

  first_only : (v k : K) (j : ℕ) → get_elem? (v ∷ []) j ≡ some k → (j ≡ 0) × (v ≡ k)
  first_only v k zero e = (refl, some-injective v k e)
  first_only v k (suc j) e = absurd (cc e)

  pub opens : (o : O) → history_of o ≡ [] → setup_of o ≡ setup
      → Rule (opening (0 ∷ 0 ∷ 1 ∷ []) (Some o ∷ []) (starting setup))
  opens o empty is = record {
    next = 0;
    turn = 0;
    count = 1;
    log = [];
    words = refl;
    order = omega arith;
    logged = tt;
    place = inl (o, refl, empty, is);
    each_seat = λ j k e. subst (FitsLog setup [] 0 0 1) (first_only (starting setup) k j e).1 record {
      setup_is = inr refl;
      rest = [];
      seen = refl;
      stands = ((omega arith, ([], refl, refl), refl), tt);
      differ = ((λ c. c), tt);
      in_turn = tt;
    };
    each_pair = λ i j k l ne a b. absurd (ne ((first_only (starting setup) k i a).0
        ∙ sym (first_only (starting setup) l j b).0));
  }

  pub draws : (slots id : ℕ) (me : M) (t : ℕ) → me.0.phase ≡ Idle
      → Allows Rule slots id me 0 (λ n. either (eqb n t) (t + 1) n)
      (drew_ticket (step slots 0 t (t + 1) none) me)
  draws slots id me t idle s r _ at _ =
      let k : K = me.0 in
      let w : K = at_phase (Waiting r.next) k in
      let f = fits_at setup r.log r.next r.turn r.count k Idle idle (r.each_seat id k at) in
      let Goal : ℕ → List ℕ → Type 0 = λ x ws. LeadsTo setup_of history_of setup s.views id
      (set ws 0 x) s.homes me.1 (drew_ticket (step slots 0 t (t + 1) none) me (get_or ws 0 0)) in
      subst (λ (ws : List ℕ). Goal (either (eqb (get_or ws 0 0) t) (t + 1) (get_or ws 0 0)) ws)
      (sym r.words)
      (exchanged r.next t (t + 1) (λ x. Goal x (r.next ∷ r.turn ∷ r.count ∷ []))
      (λ e. (
        w,
        keeps,
        tt,
        changes setup_of history_of setup s r id k w (t + 1) r.count at (omega (arith, e))
            (le_refl r.count) (λ u is. absurd (cc (idle, is)))
            record {
              setup_is = ⊎_elim (λ (is : Idle ≡ Spent). absurd (cc is)) inr f.setup_is;
              rest = f.rest;
              seen = f.seen;
              stands = f.stands;
              differ = f.differ;
              in_turn = (r.order, omega (arith, e));
            }
            (λ n c. inl (subst (λ (p : Phase). Claims (claims (at_phase p k)) n) (sym idle) c))
            (λ n c. inr (omega (arith, c))),
        (λ _. refl, λ ne. absurd (ne e)),
      ))
      (λ ne. (
        k,
        keeps,
        tt,
        stays setup_of history_of setup s r id k at,
        (λ e. absurd (ne e), λ _. refl),
      )))

  pub reads_turn : (slots id : ℕ) (me : M) (t : ℕ) → me.0.phase ≡ Waiting t
      → Allows Rule slots id me 1 (λ n. n) (read_turn (step slots 1 0 0 none) me)
  reads_turn slots id me t waits s r _ at _ =
      let k : K = me.0 in
      let f = fits_at setup r.log r.next r.turn r.count k (Waiting t) waits (r.each_seat id k at) in
      let w : K = at_phase (Reached t) k in
      let Goal : List ℕ → Type 0 = λ ws. LeadsTo setup_of history_of setup s.views id
      (set ws 1 (get_or ws 1 0)) s.homes me.1
      (read_turn (step slots 1 0 0 none) me (get_or ws 1 0)) in
      subst Goal (sym r.words) (dite (ℕ_discrete r.turn t)
      (λ e. (
        w,
        keeps,
        tt,
        changes setup_of history_of setup s r id k w r.next r.count at (le_refl r.next)
            (le_refl r.count) (λ u is. absurd (cc (waits, is)))
            record {
              setup_is = ⊎_elim (λ (is : Waiting t ≡ Spent). absurd (cc is)) inr f.setup_is;
              rest = f.rest;
              seen = f.seen;
              stands = f.stands;
              differ = f.differ;
              in_turn = (sym e, f.in_turn.1);
            }
            (λ n c. inl (subst (λ (p : Phase). Claims (claims (at_phase p k)) n) (sym waits) c))
            (λ n c. inl (subst (λ (p : Phase). HasTicket p n) (sym waits) c)),
        λ t' is. let same : t ≡ t' = cc (waits, is) in (
          λ _. subst (λ (u : ℕ). let m : M = (at_phase (Reached t) k, me.1) in
              let n : M = (at_phase (Reached u) k, me.1) in m ≡ n) same refl,
          λ ne. absurd (ne (e ∙ same)),
        ),
      ))
      (λ ne. (
        k,
        keeps,
        tt,
        stays setup_of history_of setup s r id k at,
        λ t' is. (λ e. absurd (ne (e ∙ cc (waits, is))), λ _. refl),
      )))

  pub takes_out : (slots id : ℕ) (me : M) (t : ℕ) → me.0.phase ≡ Reached t → me.1 ≡ []
      → Allows Rule slots id me 1 (λ n. n) (took_out setup_of history_of (step slots 1 0 0 none) me)
  takes_out slots id me t reached empty s r _ at _ =
      let k : K = me.0 in
      let f = fits_at setup r.log r.next r.turn r.count k (Reached t) reached
      (r.each_seat id k at) in
      let Goal : List ℕ → List (maybe.Option (Option O)) → Type 0 = λ ws hs.
      LeadsTo setup_of history_of setup s.views id (set ws 1 (get_or ws 1 0)) hs me.1
      (took_out setup_of history_of (step slots 1 0 0 none) me (get_or ws 1 0)) in
      subst (λ (ws : List ℕ). Goal ws s.homes) (sym r.words) (⊎_elim
      (λ (home : (o : O) × (s.homes ≡ some (Some o) ∷ []) × (history_of o ≡ r.log)
      × (setup_of o ≡ setup)).
      let o = home.0 in
      let hist = home.2 in
      let w : K = at_front (AtTurn t) (history_of o) k in
      let seen : k.front ++ f.rest ≡ history_of o = f.seen ∙ sym hist in
      let alive : k.setup ≡ setup ∷ [] = ⊎_elim (λ (is : Reached t ≡ Spent). absurd (cc is))
      (λ (is : k.setup ≡ setup ∷ []). is) f.setup_is in
      let quiet : own k.number f.rest ≡ [] = f.stands.0.2 in
      let fits : FitsLog setup r.log r.next r.turn r.count w = record {
        setup_is = inr alive;
        rest = [];
        seen = append-nil (history_of o) ∙ hist;
        stands = (
          (f.stands.0.0, ([], append-nil (history_of o), refl), refl),
          each_map (Stands r.count k.front f.rest) (Stands r.count (history_of o) [])
              (stands_on r.count r.count (le_refl r.count) k.front f.rest f.rest
              (history_of o) [] seen (append-nil f.rest)) k.ended f.stands.1,
        );
        differ = f.differ;
        in_turn = (f.in_turn.0, f.in_turn.1, hist);
      } in
      subst (λ (hs : List (maybe.Option (Option O))). Goal (r.next ∷ r.turn ∷ r.count ∷ []) hs)
      (sym home.1) (
        w,
        takes 0 (Some o),
        refl,
        record {
          next = r.next;
          turn = r.turn;
          count = r.count;
          log = r.log;
          words = refl;
          order = r.order;
          logged = r.logged;
          place = inr (refl, (id, w, t, set_here s.views id w (at_lt s.views id k at), refl));
          each_seat = seats (FitsLog setup r.log r.next r.turn r.count) s.views id w fits
              (λ j l _ there. r.each_seat j l there);
          each_pair = pairs s.views id w (λ j l ne there.
              let a = apart_at k l (Reached t) reached
              (r.each_pair id j k l (λ is. ne (sym is)) at there) in
              record { numbers = a.numbers; tickets = a.tickets }) r.each_pair;
        },
        λ t' is. let same : t ≡ t' = cc (reached, is) in
            subst (λ (u : ℕ). IsOut setup_of history_of u k (w, (0, Some o) ∷ me.1)) same
            (subst (λ (c : List (ℕ × Option O)). IsOut setup_of history_of t k (w, (0, Some o) ∷ c))
            (sym empty) (
              o,
              refl,
              alive ∙ ap (λ (x : T). x ∷ []) (sym home.3),
              (f.rest, seen, quiet),
              told_of setup r.log r.next r.turn r.count w refl fits,
            )),
      ))
      (λ (out : (s.homes ≡ none ∷ []) × ((j : ℕ) × (l : K) × (u : ℕ)
      × (get_elem? s.views j ≡ some l) × (l.phase ≡ AtTurn u))).
      let who = out.1 in
      let l : K = who.1 in
      let g = fits_at setup r.log r.next r.turn r.count l (AtTurn who.2) who.4
      (r.each_seat who.0 l who.3) in
      let other : id ≢ who.0 = λ is. let both : l ≡ k = some-injective l k
      (sym who.3 ∙ (ap (get_elem? s.views) (sym is) ∙ at)) in
      absurd (cc (ap (λ (z : K). z.phase) both, reached, who.4)) in
      let a = apart_at k l (Reached t) reached (r.each_pair id who.0 k l other at who.3) in
      absurd (a.tickets t refl (subst (λ (p : Phase). HasTicket p t) (sym who.4)
      (g.in_turn.0 ∙ sym f.in_turn.0))))
      r.place)

  -- what is added to the history, and whose it is
  goes : (k : K) (o : O) → GoesOn setup_of history_of k o → (more : List (ℕ × E))
      × (history_of o ≡ k.front ++ more) × ((n : ℕ) → k.number ≢ n → own n more ≡ [])
      × ((c : ℕ) → k.number < c → Each (λ (e : ℕ × E). e.0 < c) more)
  goes k o g = ⊎_elim (λ (e : history_of o ≡ k.front).
      ([], e ∙ sym (append-nil k.front), λ n _. refl, λ c _. tt))
      (λ (t : (e : E) × (history_of o ≡ k.front ++ (k.number, e) ∷ [])).
      ((k.number, t.0) ∷ [], t.1, λ n ne. not_own n k.number t.0 ne, λ c l. (l, tt))) g.1

  pub puts_back : (slots id : ℕ) (me : M) (t : ℕ) (o : O) → me.1 ≡ (0, Some o) ∷ []
      → me.0.phase ≡ AtTurn t → GoesOn setup_of history_of me.0 o
      → Allows Rule slots id me 1 (λ n. n) (put_back setup_of history_of (step slots 1 0 0 none) me)
  puts_back slots id me t o out turn going s r _ at _ =
      let k : K = me.0 in
      let f = fits_at setup r.log r.next r.turn r.count k (AtTurn t) turn (r.each_seat id k at) in
      let w : K = at_front (Returned t) (history_of o) k in
      let g = goes k o going in
      let more = g.0 in
      let whole : history_of o ≡ r.log ++ more = g.1
      ∙ ap (λ (l : List (ℕ × E)). l ++ more) f.in_turn.2 in
      let now : t ≡ r.turn = f.in_turn.0 in
      let alive : k.setup ≡ setup ∷ [] = ⊎_elim (λ (is : AtTurn t ≡ Spent). absurd (cc is))
      (λ (is : k.setup ≡ setup ∷ []). is) f.setup_is in
      let same_setup : setup_of o ≡ setup = ap (λ (l : List T). get_or l 0 setup)
      (sym going.0 ∙ alive) in
      let wide : Each (Stands r.count k.front (f.rest ++ more)) k.ended = stands_log r.count k.front
      f.rest more k.ended (λ n c. g.2 n (λ is. f.differ.0 (subst (Claims k.ended) (sym is) c)))
      f.stands.1 in
      let fits : FitsLog setup (history_of o) r.next r.turn r.count w = record {
        setup_is = inr alive;
        rest = [];
        seen = append-nil (history_of o);
        stands = (
          (f.stands.0.0, ([], append-nil (history_of o), refl), refl),
          each_map (Stands r.count k.front (f.rest ++ more)) (Stands r.count (history_of o) [])
              (stands_on r.count r.count (le_refl r.count) k.front (f.rest ++ more) (f.rest ++ more)
              (history_of o) []
              (sym (append_assoc k.front f.rest more)
              ∙ (ap (λ (l : List (ℕ × E)). l ++ more) f.seen ∙ sym whole))
              (append-nil (f.rest ++ more))) k.ended wide,
        );
        differ = f.differ;
        in_turn = (now, f.in_turn.1, refl);
      } in
      let others : (j : ℕ) (l : K) → j ≢ id → get_elem? s.views j ≡ some l
      → FitsLog setup (history_of o) r.next r.turn r.count l = λ j l ne there.
      let a = apart_at k l (AtTurn t) turn (r.each_pair id j k l (λ is. ne (sym is)) at there) in
      subst (λ (h : List (ℕ × E)). FitsLog setup h r.next r.turn r.count l) (sym whole)
      (fits_log setup r.log more r.next r.turn r.count l
      (λ n c. g.2 n (λ is. a.numbers n (inl is) c)) (λ c. a.tickets r.turn now c)
      (r.each_seat j l there)) in
      let rule : (hs : List (maybe.Option (Option O))) → hs ≡ some (Some o) ∷ []
      → Rule record {
        words = r.next ∷ r.turn ∷ r.count ∷ [];
        homes = hs;
        views = set s.views id
            w;
      } = λ hs is. record {
        next = r.next;
        turn = r.turn;
        count = r.count;
        log = history_of o;
        words = refl;
        order = r.order;
        logged = subst (Each (λ (e : ℕ × E). e.0 < r.count)) (sym whole)
            (each_append (λ (e : ℕ × E). e.0 < r.count) r.log more r.logged
            (g.3 r.count f.stands.0.0));
        place = inl (o, is, refl, same_setup);
        each_seat = seats (FitsLog setup (history_of o) r.next r.turn r.count) s.views id w fits
            others;
        each_pair = pairs s.views id w (λ j l ne there.
            let a = apart_at k l (AtTurn t) turn
            (r.each_pair id j k l (λ is. ne (sym is)) at there) in
            record { numbers = a.numbers; tickets = a.tickets }) r.each_pair;
      } in
      let back : (hs : List (maybe.Option (Option O))) → length hs ≡ 1
      → set hs 0 (some (Some o)) ≡ some (Some o) ∷ [] = only in
      let long : length s.homes ≡ 1 = ⊎_elim (λ
      (h : (x : O) × (s.homes ≡ some (Some x) ∷ []) × (history_of x ≡ r.log)
      × (setup_of x ≡ setup)). ap length h.1)
      (λ (h : (s.homes ≡ none ∷ []) × ((j : ℕ) × (l : K) × (u : ℕ) × (get_elem? s.views j ≡ some l)
      × (l.phase ≡ AtTurn u))). ap length h.0) r.place in
      let Goal : List ℕ → List (ℕ × Option O) → Type 0 = λ ws c.
      LeadsTo setup_of history_of setup s.views id (set ws 1 (get_or ws 1 0)) s.homes c
      (put_back setup_of history_of (step slots 1 0 0 none) (k, c) (get_or ws 1 0)) in
      subst (λ (ws : List ℕ). Goal ws me.1) (sym r.words)
      (subst (λ (c : List (ℕ × Option O)). Goal (r.next ∷ r.turn ∷ r.count ∷ []) c) (sym out) (
        w,
        gives,
        tt,
        rule (set s.homes 0 (some (Some o))) (back s.homes long),
        λ t' o' at_turn is. let same : o ≡ o' = ap
            (λ (c : List (ℕ × Option O)). unwrap_or (get_or c 0 (0, Some o)).1 o) is in
            let now_too : t ≡ t' = cc (turn, at_turn) in
            subst (λ (u : ℕ). let m : M = (at_front (Returned t) (history_of o) k, []) in
            let n : M = (at_front (Returned u) (history_of o') k, []) in (m ≡ n)
            × ClaimsHold w) now_too
            (subst (λ (x : O). let m : M = (at_front (Returned t) (history_of o) k, []) in
            let n : M = (at_front (Returned t) (history_of x) k, []) in (m ≡ n) × ClaimsHold w) same
            (refl, told_of setup (history_of o) r.next r.turn r.count w refl fits)),
      ))

  pub publishes : (slots id : ℕ) (me : M) (t : ℕ) → me.0.phase ≡ Returned t
      → Allows Rule slots id me 1 (λ _. t + 1)
      (λ _. published (step slots 1 (t + 1) 0 none) me (t + 1))
  publishes slots id me t back s r _ at _ =
      let k : K = me.0 in
      let f = fits_at setup r.log r.next r.turn r.count k (Returned t) back (r.each_seat id k at) in
      let w : K = at_phase Idle k in
      let now : t ≡ r.turn = f.in_turn.0 in
      let away : (j : ℕ) (l : K) → j ≢ id → get_elem? s.views j ≡ some l
      → Apart (at_phase (Returned t) k) l = λ j l ne there. apart_at k l (Returned t) back
      (r.each_pair id j k l (λ is. ne (sym is)) at there) in
      let fits : FitsLog setup r.log r.next (r.turn + 1) r.count w = record {
        setup_is = ⊎_elim (λ (is : Returned t ≡ Spent). absurd (cc is)) inr f.setup_is;
        rest = f.rest;
        seen = f.seen;
        stands = f.stands;
        differ = f.differ;
        in_turn = tt;
      } in
      let Goal : List ℕ → Type 0 = λ ws. LeadsTo setup_of history_of setup s.views id
      (set ws 1 (t + 1)) s.homes me.1 (published (step slots 1 (t + 1) 0 none) me (t + 1)) in
      subst Goal (sym r.words) (
        w,
        keeps,
        tt,
        record {
          next = r.next;
          turn = r.turn + 1;
          count = r.count;
          log = r.log;
          words = ap (λ (n : ℕ). r.next ∷ (n + 1) ∷ r.count ∷ []) now;
          order = let l = f.in_turn.1 in omega (arith, l, now);
          logged = r.logged;
          place = place_stays setup_of history_of setup s r.log id k w
              (r.next ∷ (t + 1) ∷ r.count ∷ []) at (λ u is. absurd (cc (back, is))) r.place;
          each_seat = seats (FitsLog setup r.log r.next (r.turn + 1) r.count) s.views id w fits
              (λ j l ne there. fits_turn setup r.log r.next r.turn r.count l
              (λ c. let a = away j l ne there in a.tickets r.turn now c)
              (r.each_seat j l there));
          each_pair = pairs s.views id w (λ j l ne there. let a = away j l ne there in
              record { numbers = a.numbers; tickets = λ n c. absurd c }) r.each_pair;
        },
        λ t' is. refl,
      )
