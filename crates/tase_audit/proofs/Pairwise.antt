-- Two lists that are compared element by element, from a place on.
use Rattle.std.proofs.Common.{◌≡◌, ℕ, ◌+◌, ◌<◌, ◌≤◌, ◌&&◌, Bool, true, false, List, [], ◌∷◌, length}
use Rattle.std.proofs.Common.{drop, map, get_or, refl, sym, ap, ◌∙◌}
use Rattle.std.specs.Cmp.Lexicographic.{pointwise}
use Rattle.std.proofs.Math.ListN.{drop_of_length-le}
use Rattle.std.proofs.lemmas.List.{drop_more}
use Rattle.std.proofs.lemmas.Option.{get_or_from_slice_get, slice_get-get_or}

-- elements that stand for others are compared as these
pub mapped : {A B C : Type 0} (E : C → C → Bool) (f : A → C) (g : B → C) (xs : List A) (ys : List B)
    → pointwise (λ x y. E (f x) (g y)) xs ys ≡ pointwise E (map f xs) (map g ys)
mapped E f g [] [] = refl
mapped E f g [] (y ∷ ys) = refl
mapped E f g (x ∷ xs) [] = refl
mapped E f g (x ∷ xs) (y ∷ ys) = ap (λ b. E (f x) (g y) && b) (mapped E f g xs ys)

-- an element of a list is there, whatever stands where there is none
pub read_at : {A : Type 0} (xs : List A) (i : ℕ) (none : A) → i < length xs
    → get_or xs i none ≡ get_or xs i (get_or xs i none)
read_at xs i none h =
    let x = get_or xs i none in sym (get_or_from_slice_get xs i x x (slice_get-get_or xs i none h))

module _ {A B : Type 0} (P : A → B → Bool) where
  -- what is left from a place on decides
  pub record Decided (xs : List A) (ys : List B) (place : ℕ) : Type 0 where
    pub rest : pointwise P (drop place xs) (drop place ys) ≡ pointwise P xs ys

  pub at_start : (xs : List A) (ys : List B) → Decided xs ys 0
  at_start xs ys = record { rest = refl }

  at_place : (xs : List A) (ys : List B) (i : ℕ) (x : A) (y : B) → i < length xs → i < length ys
      → x ≡ get_or xs i x → y ≡ get_or ys i y
      → pointwise P (drop i xs) (drop i ys)
      ≡ (P x y && pointwise P (drop (i + 1) xs) (drop (i + 1) ys))
  at_place xs ys i x y h k is are =
      let one : drop i xs ≡ x ∷ drop (i + 1) xs =
      drop_more xs i x h ∙ ap (λ z. z ∷ drop (i + 1) xs) (sym is) in
      let other : drop i ys ≡ y ∷ drop (i + 1) ys =
      drop_more ys i y k ∙ ap (λ z. z ∷ drop (i + 1) ys) (sym are) in
      λ j. pointwise P (one j) (other j)

  pub apart_here : (xs : List A) (ys : List B) (i : ℕ) (x : A) (y : B) → i < length xs
      → i < length ys → x ≡ get_or xs i x → y ≡ get_or ys i y → P x y ≡ false
      → Decided xs ys i → false ≡ pointwise P xs ys
  apart_here xs ys i x y h k is are apart so =
      sym (at_place xs ys i x y h k is are
      ∙ ap (λ b. b && pointwise P (drop (i + 1) xs) (drop (i + 1) ys)) apart) ∙ so.rest

  pub same_here : (xs : List A) (ys : List B) (i : ℕ) (x : A) (y : B) → i < length xs
      → i < length ys → x ≡ get_or xs i x → y ≡ get_or ys i y → P x y ≡ true
      → Decided xs ys i → Decided xs ys (i + 1)
  same_here xs ys i x y h k is are same so = record {
    rest = sym (at_place xs ys i x y h k is are
        ∙ ap (λ b. b && pointwise P (drop (i + 1) xs) (drop (i + 1) ys)) same) ∙ so.rest;
  }

  pub all_same : (xs : List A) (ys : List B) (i : ℕ) → length xs ≤ i → length ys ≤ i
      → Decided xs ys i → true ≡ pointwise P xs ys
  all_same xs ys i h k so =
      let one = drop_of_length-le xs h in
      let other = drop_of_length-le ys k in
      sym (λ j. pointwise P (one j) (other j)) ∙ so.rest
