-- A look at the next seat number, and what a seat that is alone knows of its history.
use Rattle.std.proofs.Common.{◌≡◌, ℕ, zero, suc, ◌<◌, ◌≤◌, ◌≢◌, ◌⊎◌, List, [], ◌∷◌}
use Rattle.std.proofs.Common.{length, set, get_or, refl, sym, subst, inl, inr, ⊎_elim}
use Rattle.std.proofs.Common.{arith, le_refl, Option}
use mathlib.Core.Option.{none}
use mathlib.Core.Logic.{dite}
use native.Mathlib.Decide.{ℕ_discrete}
use Rattle.atomic_table.specs.Table.{State, Me, step, Act, keeps, Valid, homes_after, carried_after}
use Rattle.atomic_table.specs.Table.{Allows}
use Rattle.share_turn.specs.declared.seat_view.SeatView.{SeatView}
use Rattle.share_turn.specs.declared.seat_view.Phase.{Phase}
use Rattle.share_turn.specs.declared.seat_view.Phase.TheVariants.{Idle, Holding, Waiting, Reached}
use Rattle.share_turn.specs.declared.seat_view.Phase.TheVariants.{AtTurn, Returned, Spent}
use Rattle.share_turn.specs.Entries.{Each, Behind, Claims, AllDiffer}
use Rattle.share_turn.specs.Turns.{claimed, Stands, IsKept}
use Rattle.share_turn.specs.Steps.{read_number}
use Rattle.share_turn.proofs.Owned.{each_map}
use Rattle.share_turn.proofs.Views.{fits_at, stays, LeadsTo}

module _ {E : Type 0} where
  abbrev Below : ℕ → (ℕ × List (ℕ × E)) → Type 0
  Below n p = p.0 < n

  all_below : (n : ℕ) (ps : List (ℕ × List (ℕ × E))) → (Claims ps n → ⊥) → Each (Below (suc n)) ps
      → Each (Below n) ps
  all_below n [] free b = tt
  all_below n (p ∷ ps) free b = (
    let l = b.0 in let ne : p.0 ≢ n = λ e. free (inl e) in
        omega (arith, l, ne),
    all_below n ps (λ c. free (inr c)) b.1,
  )

  -- without the claim to n, if there is one, all are below n
  without : (n : ℕ) (ps : List (ℕ × List (ℕ × E))) → AllDiffer ps → Each (Below (suc n)) ps
      → (qs : List (ℕ × List (ℕ × E))) × AllDiffer qs × Each (Below n) qs
      × (length ps ≤ suc (length qs)) × ((m : ℕ) → Claims qs m → Claims ps m)
  without n [] d b = ([], tt, tt, omega arith, λ m c. c)
  without n (p ∷ ps) d b = dite (ℕ_discrete p.0 n)
      (λ e. (
        ps,
        d.1,
        all_below n ps (λ c. d.0 (subst (Claims ps) (sym e) c)) b.1,
        le_refl (suc (length ps)),
        λ m c. inr c,
      ))
      (λ ne. let rec = without n ps d.1 b.1 in
      let less : p.0 < n = let l = b.0 in omega (arith, l, ne) in
      let short = rec.3 in (
        p ∷ rec.0,
        ((λ c. d.0 (rec.4 p.0 c)), rec.1),
        (less, rec.2),
        omega (arith, short),
        λ m c. ⊎_elim (λ (is : p.0 ≡ m). inl is) (λ (t : Claims rec.0 m). inr (rec.4 m t)) c,
      ))

  -- different numbers below n are at most n
  pub few : (n : ℕ) (ps : List (ℕ × List (ℕ × E))) → AllDiffer ps → Each (Below n) ps
      → length ps ≤ n
  few zero [] d b = omega arith
  few zero (p ∷ ps) d b = absurd (let l = b.0 in omega (arith, l))
  few (suc n) ps d b = let w = without n ps d b in let l = few n w.0 w.1 w.2 in let m = w.3 in
      omega (arith, l, m)

  has : (ps : List (ℕ × List (ℕ × E))) (n : ℕ) → Claims ps n ⊎ (Claims ps n → ⊥)
  has [] n = inr (λ c. c)
  has (p ∷ ps) n = dite (ℕ_discrete p.0 n) (λ e. inl (inl e))
      (λ ne. ⊎_elim (λ (c : Claims ps n). inl (inr c))
      (λ (free : Claims ps n → ⊥). inr (λ c. ⊎_elim ne free c)) (has ps n))

  -- where there are as many as can be, each number below is among them
  pub filled : (n : ℕ) (ps : List (ℕ × List (ℕ × E))) → AllDiffer ps → Each (Below n) ps
      → n ≤ length ps → (m : ℕ) → m < n → Claims ps m
  filled n ps d b all m l = ⊎_elim (λ (c : Claims ps m). c)
      (λ (free : Claims ps m → ⊥). let more : length ((m, []) ∷ ps) ≤ n = few n ((m, []) ∷ ps)
      (free, d) (l, b) in absurd (omega (arith, more, all))) (has ps m)

  pub lives : (p : Phase) (x : ℕ × List (ℕ × E)) (ps : List (ℕ × List (ℕ × E))) → (p ≡ Spent → ⊥)
      → (F : (ℕ × List (ℕ × E)) → Type 0) → Each F (claimed p x ps) → AllDiffer (claimed p x ps)
      → Each F (x ∷ ps) × AllDiffer (x ∷ ps)
  lives Spent x ps alive F e d = absurd (alive refl)
  lives Idle x ps alive F e d = (e, d)
  lives (Holding n) x ps alive F e d = (e.1, d.1)
  lives (Waiting t) x ps alive F e d = (e, d)
  lives (Reached t) x ps alive F e d = (e, d)
  lives (AtTurn t) x ps alive F e d = (e, d)
  lives (Returned t) x ps alive F e d = (e, d)

module _ {O E T : Type 0} (setup_of : O → T) (history_of : O → List (ℕ × E)) (setup : T) where
  abbrev K : Type 0
  K = SeatView E T

  abbrev M : Type 0
  M = Me (Option O) K

  abbrev Rule : State (Option O) K → Type 0
  Rule s = IsKept setup_of history_of setup s

  pub looks : (slots id : ℕ) (me : M) → Allows Rule slots id me 2 (λ n. n)
      (read_number (step slots 2 0 0 none) me)
  looks slots id me s r _ at _ =
      let k : K = me.0 in
      let f = r.each_seat id k at in
      let ps : List (ℕ × List (ℕ × E)) = (k.number, k.before) ∷ k.ended in
      let Goal : List ℕ → Type 0 = λ ws. LeadsTo setup_of history_of setup s.views id
      (set ws 2 (get_or ws 2 0)) s.homes me.1
      (read_number (step slots 2 0 0 none) me (get_or ws 2 0)) in
      subst Goal (sym r.words) (
        k,
        keeps,
        tt,
        stays setup_of history_of setup s r id k at,
        (
          refl,
          λ alive. let both = lives k.phase (k.number, k.before) k.ended alive
              (Stands r.count k.front f.rest) f.stands f.differ in
              let short : length ps ≤ r.count = few r.count ps both.1
              (each_map (Stands r.count k.front f.rest) (Below r.count)
              (λ p st. st.0) ps both.0) in (
                each_map (Stands r.count k.front f.rest) (Behind k.front) (λ p st. st.1) ps both.0,
                both.1,
                omega (arith, short),
              ),
          λ t turn all. let g = fits_at setup r.log r.next r.turn r.count k (AtTurn t) turn f in
              let full : r.count ≤ length ps = omega (arith, all) in
              let below : Each (Below r.count) ps = each_map (Stands r.count k.front g.rest)
              (Below r.count) (λ p st. st.0) ps g.stands in (
                g.differ,
                subst (Each (λ (e : ℕ × E). Claims ps e.0)) (sym g.in_turn.2)
                    (each_map (λ (e : ℕ × E). e.0 < r.count) (λ (e : ℕ × E). Claims ps e.0)
                    (λ e l. filled r.count ps g.differ below full e.0 l) r.log r.logged),
              ),
        ),
      )
