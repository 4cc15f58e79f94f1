-- What a call tells, by what its parts tell.
use Rattle.std.proofs.Common.{◌≡◌, ℕ, List, [], ◌∷◌, ◌++◌, get_or, ap, sym, ◌∙◌, subst}
use Rattle.std.proofs.Common.{append_assoc, Option, Some, Result, Ok, Err, IfOk, IfErr}
use Rattle.std.proofs.lemmas.List.{append-nil}
use Rattle.std.specs.Option.{unwrap_or}
use mathlib.Core.List.{IsPrefix}
use Rattle.atomic_table.specs.Table.{Me}
use Rattle.atomic_table.specs.Seated.{TableId}
use Rattle.share_turn.specs.declared.seat_view.SeatView.{SeatView}
use Rattle.share_turn.specs.declared.seat_view.Phase.{Phase}
use Rattle.share_turn.specs.declared.seat_view.Phase.TheVariants.{AtTurn}
use Rattle.share_turn.specs.Entries.{Each, own, Behind, Keeps, Claims}
use Rattle.share_turn.specs.Steps.{at_phase, at_front, IsOut, IsAlone}
use Rattle.share_turn.specs.Public.{added, sitting, numbers, Came}
use Rattle.share_turn.proofs.Owned.{own_append, is_own, keeps, each_keeps}

module _ {A F E : Type 0} where
  grows : (before after : List E) (x : E) (outcome : Result A F)
      → IfOk outcome (λ _. after ≡ before ++ x ∷ []) → IfErr outcome (λ _. after ≡ before)
      → after ≡ before ++ added outcome x
  grows before after x (Ok a) ok err = ok
  grows before after x (Err e) ok err = err ∙ sym (append-nil before)

module _ {O E T A F : Type 0} (setup_of : O → T) (history_of : O → List (ℕ × E))
    (right : T → List (ℕ × E) → ℕ → E → Result A F → Type 0) where
  pub came : (table : TableId) (k d : SeatView E T) (p : Phase) (m : Me (Option O) (SeatView E T))
      (t who : ℕ) (setup : T) (obj obj' : O) (event : E) (outcome : Result A F)
      (front : List (ℕ × E))
      → d ≡ at_phase p k → IsOut setup_of history_of t d m → m.1 ≡ (0, Some obj) ∷ []
      → k.setup ≡ setup ∷ [] → who ≡ k.number
      → right (setup_of obj) (history_of obj) who event outcome
      → IfOk outcome (λ _. history_of obj' ≡ history_of obj ++ (who, event) ∷ [])
      → IfErr outcome (λ _. history_of obj' ≡ history_of obj) → front ≡ history_of obj'
      → Came right setup (sitting table k) event outcome front
  came table k d p m t who setup obj obj' event outcome front waits out held is me told ok err seen
      =
      let out' : IsOut setup_of history_of t (at_phase p k) m = subst
      (λ (z : SeatView E T). IsOut setup_of history_of t z m) waits out in
      let o : O = out'.0 in
      let same : o ≡ obj = ap (λ (c : List (ℕ × Option O)). unwrap_or (get_or c 0 (0, Some o)).1 o)
      (sym (ap (λ (z : Me (Option O) (SeatView E T)). z.1) out'.1) ∙ held) in
      let set : setup_of obj ≡ setup = sym (ap setup_of same)
      ∙ ap (λ (l : List T). get_or l 0 setup) (sym out'.2 ∙ is) in (
        history_of obj,
        keeps (history_of obj) (k.number, k.front)
            (subst (λ (z : O). Behind (history_of z) (k.number, k.front)) same out'.3),
        subst (λ (z : T). right z (history_of obj) k.number event outcome) set
            (subst (λ (n : ℕ). right (setup_of obj) (history_of obj) n event outcome) me told),
        seen ∙ (grows (history_of obj) (history_of obj') (who, event) outcome ok err
            ∙ ap (λ (n : ℕ). history_of obj ++ added outcome (n, event)) me),
      )

module _ {O E T : Type 0} (setup_of : O → T) (history_of : O → List (ℕ × E)) where
  -- the object that is out with a seat that is alone
  pub closes : (table : TableId) (k d : SeatView E T) (p : Phase) (m : Me (Option O) (SeatView E T))
      (t : ℕ) (obj : O)
      → d ≡ at_phase p k → IsOut setup_of history_of t d m → m.1 ≡ (0, Some obj) ∷ [] → IsAlone m.0
      → Each (Keeps (history_of obj)) (numbers (sitting table k))
      × Each (λ e. Claims (numbers (sitting table k)) e.0) (history_of obj)
  closes table k d p m t obj waits out held alone =
      let ps : List (ℕ × List (ℕ × E)) = numbers (sitting table k) in
      let out' : IsOut setup_of history_of t (at_phase p k) m = subst
      (λ (z : SeatView E T). IsOut setup_of history_of t z m) waits out in
      let o : O = out'.0 in
      let same : o ≡ obj = ap (λ (c : List (ℕ × Option O)). unwrap_or (get_or c 0 (0, Some o)).1 o)
      (sym (ap (λ (z : Me (Option O) (SeatView E T)). z.1) out'.1) ∙ held) in
      let told = subst (λ (z : Me (Option O) (SeatView E T)). Each (Behind z.0.front)
      ((z.0.number, z.0.before) ∷ z.0.ended)) out'.1 out'.4 in
      let alone' : IsAlone (at_front (AtTurn t) (history_of o) k) = subst
      (λ (z : Me (Option O) (SeatView E T)). IsAlone z.0) out'.1 alone in
      subst (λ (z : O). Each (Keeps (history_of z)) ps
      × Each (λ (e : ℕ × E). Claims ps e.0) (history_of z)) same
      (each_keeps (history_of o) ps (out'.3, told.1), alone'.1)

module _ {E A F : Type 0} where
  pub own_called : (n : ℕ) (old front before : List (ℕ × E)) (event : E) (outcome : Result A F)
      → Keeps before (n, old) → front ≡ before ++ added outcome (n, event)
      → own n front ≡ own n old ++ added outcome event
  own_called n old front before event (Ok a) b f = ap (own n) f
      ∙ (own_append n before ((n, event) ∷ [])
      ∙ (ap (λ (l : List E). l ++ own n ((n, event) ∷ [])) b.1
      ∙ ap (λ (l : List E). own n old ++ l) (is_own n event)))
  own_called n old front before event (Err e) b f = ap (own n) (f ∙ append-nil before)
      ∙ (b.1 ∙ sym (append-nil (own n old)))

  pub seen_called : (n : ℕ) (old front before : List (ℕ × E)) (event : E) (outcome : Result A F)
      → Keeps before (n, old) → front ≡ before ++ added outcome (n, event) → IsPrefix old front
  seen_called n old front before event outcome b f = (
    b.0.0 ++ added outcome (n, event),
    sym (append_assoc old b.0.0 (added outcome (n, event)))
        ∙ (ap (λ (l : List (ℕ × E)). l ++ added outcome (n, event)) b.0.1 ∙ sym f),
  )
