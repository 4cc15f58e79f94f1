-- Entries behind what a seat has seen, and the events under a number.
use Rattle.std.proofs.Common.{◌≡◌, ◌≢◌, ◌==◌, ℕ, List, [], ◌∷◌, ◌++◌, map, reverse, Option}
use Rattle.std.proofs.Common.{Some, None, refl, ap, sym, ◌∙◌, subst}
use mathlib.Core.Bool.{Bool, true, false}
use Rattle.std.specs.Prelude.{if◌then◌else◌, filter_map}
use Rattle.std.specs.List.{filter, cons_option}
use Rattle.std.proofs.lemmas.List.{append-nil, reverse-append}
use Rattle.std.proofs.lemmas.List.Elements.{filter_map-append}
use Rattle.share_turn.specs.Entries.{Each, own, event_under, Keeps}
use Rattle.share_turn.proofs.Owned.{each_append, own_append, none_both, none_append, not_own}
use Rattle.share_turn.proofs.Owned.{is_own, keeps}

module _ {A : Type 0} where
  pub each_reverse : (P : A → Type 0) (xs : List A) → Each P xs → Each P (reverse xs)
  each_reverse P [] e = tt
  each_reverse P (x ∷ xs) e = subst (Each P) (sym (reverse-append (x ∷ []) xs))
      (each_append P (reverse xs) (x ∷ []) (each_reverse P xs e.1) (e.0, tt))

  none_added : (xs ys : List A) → xs ++ ys ≡ xs → ys ≡ []
  none_added [] ys e = e
  none_added (x ∷ xs) ys e = none_added xs ys (cc e)

module _ {X Y : Type 0} (h : X → Option Y) where
  filtered_back : (xs : List X) → filter_map h (reverse xs) ≡ reverse (filter_map h xs)
  filtered_back [] = refl
  filtered_back (x ∷ xs) = ap (filter_map h) (reverse-append (x ∷ []) xs)
      ∙ filter_map-append h (reverse xs) (x ∷ [])
      ∙ ap (λ (l : List Y). l ++ filter_map h (x ∷ [])) (filtered_back xs)
      ∙ by (h x)
    where
      by : (o : Option Y)
          → reverse (filter_map h xs) ++ cons_option o []
          ≡ reverse (cons_option o (filter_map h xs))
      by None = append-nil (reverse (filter_map h xs))
      by (Some y) = sym (reverse-append (y ∷ []) (filter_map h xs))

module _ {E : Type 0} (n : ℕ) where
  none_of_others : (rest : List (ℕ × E)) → Each (λ e. e.0 ≢ n) rest → own n rest ≡ []
  none_of_others [] h = refl
  none_of_others (e ∷ rest) h = none_append n (e ∷ []) rest (not_own n e.0 e.1 h.0)
      (none_of_others rest h.1)

  others_of_none : (rest : List (ℕ × E)) → own n rest ≡ [] → Each (λ e. e.0 ≢ n) rest
  others_of_none [] none = tt
  others_of_none (e ∷ rest) none =
      let both = none_both n (e ∷ []) rest none in (
        λ same. let here : e.1 ∷ [] ≡ [] = sym (is_own e.0 e.1)
            ∙ subst (λ (m : ℕ). own m (e ∷ []) ≡ []) (sym same) both.0 in absurd (cc here),
        others_of_none rest both.1,
      )

  pub behind_others : (front rest : List (ℕ × E)) → Keeps (front ++ rest) (n, front)
      → Each (λ e. e.0 ≢ n) rest
  behind_others front rest k = others_of_none rest
      (none_added (own n front) (own n rest) (sym (own_append n front rest) ∙ k.1))

  pub others_behind : (front rest : List (ℕ × E)) → Each (λ e. e.0 ≢ n) rest
      → Keeps (front ++ rest) (n, front)
  others_behind front rest h =
      keeps (front ++ rest) (n, front) (rest, refl, none_of_others rest h)

  pub own_filtered : (log : List (ℕ × E)) → own n log ≡ filter_map (event_under n) log
  own_filtered [] = refl
  own_filtered (e ∷ log) = by (e.0 == n) (own_filtered log)
    where
      by : (b : Bool) → own n log ≡ filter_map (event_under n) log
          → map (λ (x : ℕ × E). x.1)
          (if b then e ∷ filter (λ (x : ℕ × E). x.0 == n) log
          else filter (λ (x : ℕ × E). x.0 == n) log)
          ≡ cons_option (if b then Some e.1 else None) (filter_map (event_under n) log)
      by true r = ap (λ (l : List E). e.1 ∷ l) r
      by false r = r

  pub own_back : (log : List (ℕ × E))
      → filter_map (event_under n) (reverse log) ≡ reverse (own n log)
  own_back log = filtered_back (event_under n) log ∙ ap reverse (sym (own_filtered log))
