-- Entries under a number in lists that are joined, and what stands of a claim.
use Rattle.std.proofs.Common.{◌≡◌, ℕ, ◌<◌, ◌≤◌, ◌≢◌, ◌==◌, List, [], ◌∷◌, ◌++◌}
use Rattle.std.proofs.Common.{map, refl, ap, sym, ◌∙◌, subst, inl, inr, ⊎_elim, arith}
use Rattle.std.proofs.Common.{append_assoc, ne_eqb, eq-eqb}
use mathlib.Core.Bool.{Bool, cond}
use Rattle.std.specs.List.{filter}
use Rattle.std.proofs.lemmas.List.{append-nil, map-append}
use Rattle.std.proofs.lemmas.List.Elements.{filter-append}
use Rattle.share_turn.specs.Entries.{Each, own, Behind, Keeps, Claims}
use Rattle.share_turn.specs.Turns.{Stands}

module _ {A : Type 0} where
  pub each_map : (P Q : A → Type 0) → ((x : A) → P x → Q x) → (xs : List A) → Each P xs → Each Q xs
  each_map P Q f [] e = tt
  each_map P Q f (x ∷ xs) e = (f x e.0, each_map P Q f xs e.1)

  pub each_append : (P : A → Type 0) (xs ys : List A) → Each P xs → Each P ys → Each P (xs ++ ys)
  each_append P [] ys a b = b
  each_append P (x ∷ xs) ys a b = (a.0, each_append P xs ys a.1 b)

  pub nils : (xs ys : List A) → xs ++ ys ≡ [] → (xs ≡ []) × (ys ≡ [])
  nils [] ys e = (refl, e)
  nils (x ∷ xs) ys e = absurd (cc e)

module _ {E : Type 0} where
  pub own_append : (n : ℕ) (xs ys : List (ℕ × E)) → own n (xs ++ ys) ≡ own n xs ++ own n ys
  own_append n xs ys = ap (map (λ (e : ℕ × E). e.1)) (filter-append (λ (e : ℕ × E). e.0 == n) xs ys)
      ∙ map-append (λ (e : ℕ × E). e.1) (filter (λ (e : ℕ × E). e.0 == n) xs)
      (filter (λ (e : ℕ × E). e.0 == n) ys)

  pub none_both : (n : ℕ) (xs ys : List (ℕ × E)) → own n (xs ++ ys) ≡ [] → (own n xs ≡ [])
      × (own n ys ≡ [])
  none_both n xs ys e = nils (own n xs) (own n ys) (sym (own_append n xs ys) ∙ e)

  pub none_append : (n : ℕ) (xs ys : List (ℕ × E)) → own n xs ≡ [] → own n ys ≡ []
      → own n (xs ++ ys) ≡ []
  none_append n xs ys a b = own_append n xs ys ∙ (ap (λ (l : List E). l ++ own n ys) a ∙ b)

  pub not_own : (n m : ℕ) (e : E) → m ≢ n → own n ((m, e) ∷ []) ≡ []
  not_own n m e other = ap (λ (b : Bool). map (λ (x : ℕ × E). x.1) (cond b ((m, e) ∷ []) []))
      (ne_eqb m n other)

  pub is_own : (n : ℕ) (e : E) → own n ((n, e) ∷ []) ≡ e ∷ []
  is_own n e = ap (λ (b : Bool). map (λ (x : ℕ × E). x.1) (cond b ((n, e) ∷ []) []))
      (eq-eqb n n refl)

  -- a number that no entry reaches has none
  pub fresh_none : (n : ℕ) (log : List (ℕ × E)) → Each (λ e. e.0 < n) log → own n log ≡ []
  fresh_none n [] h = refl
  fresh_none n (e ∷ log) h = none_append n (e ∷ []) log
      (not_own n e.0 e.1 (λ (is : e.0 ≡ n). omega (arith, h.0, is))) (fresh_none n log h.1)

  pub own_behind : (log : List (ℕ × E)) (p : ℕ × List (ℕ × E)) → Behind log p
      → own p.0 log ≡ own p.0 p.1
  own_behind log p b = ap (own p.0) (sym b.1) ∙ (own_append p.0 p.1 b.0
      ∙ (ap (λ (l : List E). own p.0 p.1 ++ l) b.2 ∙ append-nil (own p.0 p.1)))

  pub keeps : (log : List (ℕ × E)) (p : ℕ × List (ℕ × E)) → Behind log p → Keeps log p
  keeps log p b = ((b.0, b.1), own_behind log p b)

  pub each_keeps : (log : List (ℕ × E)) (ps : List (ℕ × List (ℕ × E))) → Each (Behind log) ps
      → Each (Keeps log) ps
  each_keeps log ps h = each_map (Behind log) (Keeps log) (keeps log) ps h

  -- seen further by m, of what was left
  pub stands_on : (c c' : ℕ) → c ≤ c' → (front rest m front' rest' : List (ℕ × E))
      → front ++ m ≡ front' → m ++ rest' ≡ rest → (p : ℕ × List (ℕ × E)) → Stands c front rest p
      → Stands c' front' rest' p
  stands_on c c' le front rest m front' rest' e1 e2 p s =
      let two = none_both p.0 m rest' (ap (own p.0) e2 ∙ s.2) in
      let b = s.1 in (
        omega (arith, s.0),
        (
          b.0 ++ m,
          sym (append_assoc p.1 b.0 m)
              ∙ (ap (λ (l : List (ℕ × E)). l ++ m) b.1 ∙ e1),
          none_append p.0 b.0 m b.2 two.0,
        ),
        two.1,
      )

  -- the log goes on by entries under none of these numbers
  pub stands_log : (c : ℕ) (front rest more : List (ℕ × E)) (ps : List (ℕ × List (ℕ × E)))
      → ((n : ℕ) → Claims ps n → own n more ≡ []) → Each (Stands c front rest) ps
      → Each (Stands c front (rest ++ more)) ps
  stands_log c front rest more [] quiet s = tt
  stands_log c front rest more (p ∷ ps) quiet s = let one = s.0 in (
    (one.0, one.1, none_append p.0 rest more one.2 (quiet p.0 (inl refl))),
    stands_log c front rest more ps (λ n h. quiet n (inr h)) s.1,
  )

  pub below : (c : ℕ) (front rest : List (ℕ × E)) (ps : List (ℕ × List (ℕ × E)))
      → Each (Stands c front rest) ps → (n : ℕ) → Claims ps n → n < c
  below c front rest [] s n h = absurd h
  below c front rest (p ∷ ps) s n h = ⊎_elim (λ (e : p.0 ≡ n). subst (λ (z : ℕ). z < c) e s.0.0)
      (λ (t : Claims ps n). below c front rest ps s.1 n t) h
