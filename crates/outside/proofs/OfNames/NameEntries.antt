-- What stands under a name, before and after a place changes.
use Rattle.std.proofs.Common.{◌≡◌, ℕ, zero, suc, ◌<◌, ◌≤◌, Bool, true, false, cond, List, [], ◌∷◌, ◌++◌, length, get_or, set, Option, Some, None, ◌⊎◌, refl, sym, ◌∙◌, ap, subst, inl, inr, arith}
use Rattle.std.specs.Prelude.{position, bytes_eq}
use Rattle.std.specs.Option.{IfSome}
use Rattle.std.specs.List.{position_or_len}
use Rattle.std.proofs.lemmas.Bool.{cases_Bool}
use Rattle.std.proofs.lemmas.Bool.Decides.{nat_tests}
use Rattle.std.proofs.lemmas.List.Quantifiers.{position-Some}
use Rattle.std.proofs.lemmas.List.Sums.{fails_before_first}
use Rattle.std.proofs.lemmas.Slice.Eq.{bytes_eq-Decides}
use Rattle.outside.specs.Names.Outside.{NameEntry, untold, missing, lent, there, Changes, lent_from, put_back_at}
use Rattle.outside.specs.Names.Places.{at_place, standing, object_there, PutsUnder, AllNamed}

-- the places with this at the name, where the name is there
abbrev pub placed : {X : Type 0} → List (List ℕ × Option X) → List ℕ → Option X
    → List (List ℕ × Option X)
placed [] name object = []
placed (place ∷ places) name object =
    cond (bytes_eq name place.0) ((place.0, object) ∷ places) (place ∷ placed places name object)

cases_Option : {Y : Type 0} (o : Option Y) → (o ≡ None) ⊎ ((y : Y) × (o ≡ Some y))
cases_Option None = inl refl
cases_Option (Some y) = inr (y, refl)

none_passes : {X : Type 0} (p : X → Bool) (xs : List X) → position p xs ≡ None
    → length xs ≤ position_or_len p xs
none_passes p xs none = grind (arith, nat_tests)

-- what stands under the name then
abbrev over : {X : Type 0} → Option X → NameEntry X → NameEntry X
over {X} object untold = untold
over {X} object missing = missing
over {X} object lent = at_place object
over {X} object (there x) = at_place object

over-none : {X : Type 0} (s : NameEntry X) → over None s ≡ lent_from s
over-none untold = refl
over-none missing = refl
over-none lent = refl
over-none (there x) = refl

over-some : {X : Type 0} (object : X) (s : NameEntry X) → over (Some object) s ≡ put_back_at s object
over-some object untold = refl
over-some object missing = refl
over-some object lent = refl
over-some object (there x) = refl

at_place_over : {X : Type 0} (object before : Option X)
    → over object (at_place before) ≡ at_place object
at_place_over object None = refl
at_place_over object (Some x) = refl

at_no_place : {X : Type 0} (object : Option X) → at_place object ≡ missing → ⊥
at_no_place None none = cc
at_no_place (Some x) none = cc

pub object_at_place : {X : Type 0} (object : Option X) → object_there (at_place object) ≡ object
object_at_place None = refl
object_at_place (Some x) = refl

module _ {X : Type 0} (name : List ℕ) where
  -- the write at the first place with the name
  set_at : (places : List (List ℕ × Option X)) (i : ℕ) (here after : List ℕ × Option X)
      (object : Option X)
      → i < length places → bytes_eq name (get_or places i here).0 ≡ true
      → ((k : ℕ) → k < i → bytes_eq name (get_or places k here).0 ≡ false)
      → after ≡ ((get_or places i here).0, object) → set places i after ≡ placed places name object
  set_at [] i here after object within is before new = absurd (omega (arith, within))
  set_at (place ∷ places) zero here after object within is before new = rw (is, new) refl
  set_at (place ∷ places) (suc i) here after object within is before new =
      rw (before 0 (omega arith)) (ap (λ (l : List (List ℕ × Option X)). place ∷ l)
      (set_at places i here after object (omega arith) is
      (λ k lt. before (suc k) (omega arith)) new))

  standing_at : (places : List (List ℕ × Option X)) (i : ℕ) (here : List ℕ × Option X)
      → i < length places → bytes_eq name (get_or places i here).0 ≡ true
      → ((k : ℕ) → k < i → bytes_eq name (get_or places k here).0 ≡ false)
      → standing places name ≡ at_place (get_or places i here).1
  standing_at [] i here within is before = absurd (omega (arith, within))
  standing_at (place ∷ places) zero here within is before = rw is refl
  standing_at (place ∷ places) (suc i) here within is before = rw (before 0 (omega arith))
      (standing_at places i here (omega arith) is (λ k lt. before (suc k) (omega arith)))

  not_standing : (places : List (List ℕ × Option X))
      → ((k : ℕ) (d : List ℕ × Option X) → k < length places
      → bytes_eq name (get_or places k d).0 ≡ false) → standing places name ≡ missing
  not_standing [] none = refl
  not_standing (place ∷ places) none =
      rw (none 0 place (omega arith)) (not_standing places (λ k d lt. none (suc k) d (omega arith)))

  -- nothing changes where the name isn't there
  pub placed_none : (places : List (List ℕ × Option X)) (object : Option X)
      → standing places name ≡ missing → placed places name object ≡ places
  placed_none [] object none = refl
  placed_none (place ∷ places) object none = elim (cases_Bool (bytes_eq name place.0)) [
    | inl is ↦ absurd (at_no_place place.1 (let h = rw is at none in h))
    | inr not_it ↦ rw not_it (ap (λ (l : List (List ℕ × Option X)). place ∷ l)
        (placed_none places object (rw not_it at none)))
  ]

  -- what a look for the name found
  pub set_placed : (places : List (List ℕ × Option X)) (i : ℕ) (here after : List ℕ × Option X)
      (object : Option X)
      → position (λ place. bytes_eq name place.0) places ≡ Some i → here ≡ get_or places i here
      → after ≡ (here.0, object) → set places i after ≡ placed places name object
  set_placed places i here after object found is new =
      let first = position-Some (λ place. bytes_eq name place.0) places i here found in
      set_at places i here after object first.0 first.1 first.2
      (new ∙ ap (λ (p : List ℕ × Option X). (p.0, object)) is)

  pub standing_found : (places : List (List ℕ × Option X)) (i : ℕ) (here : List ℕ × Option X)
      → position (λ place. bytes_eq name place.0) places ≡ Some i → here ≡ get_or places i here
      → standing places name ≡ at_place here.1
  standing_found places i here found is =
      let first = position-Some (λ place. bytes_eq name place.0) places i here found in
      standing_at places i here first.0 first.1 first.2
      ∙ ap (λ (p : List ℕ × Option X). at_place p.1) (sym is)

  pub standing_none : (places : List (List ℕ × Option X))
      → position (λ place. bytes_eq name place.0) places ≡ None → standing places name ≡ missing
  standing_none places none =
      let past = none_passes (λ place. bytes_eq name place.0) places none in
      not_standing places (λ k d lt. fails_before_first (λ place. bytes_eq name place.0) places k d
      (omega arith))

bytes_are : (xs ys : List ℕ) → bytes_eq xs ys ≡ true → xs ≡ ys
bytes_are xs ys = (bytes_eq-Decides xs ys).0

bytes_same : (xs : List ℕ) → bytes_eq xs xs ≡ true
bytes_same xs = (bytes_eq-Decides xs xs).1 refl

-- two names that differ from each other aren't both this one
not_both : (n name other : List ℕ) → bytes_eq name other ≡ false → bytes_eq n other ≡ true
    → bytes_eq n name ≡ true → ⊥
not_both n name other differ is other_is =
    let same : name ≡ other = sym (bytes_are n name other_is) ∙ bytes_are n other is in
    let yes = (bytes_eq-Decides name other).1 same in
    let no : true ≡ false = sym yes ∙ differ in
    cc

module _ {X : Type 0} (name : List ℕ) where
  -- what stands under each name after a place changes
  pub standing-placed : (places : List (List ℕ × Option X)) (object : Option X) (n : List ℕ)
      → standing (placed places name object) n
      ≡ cond (bytes_eq n name) (over object (standing places n)) (standing places n)
  standing-placed [] object n =
      elim (cases_Bool (bytes_eq n name)) [ inl is ↦ rw is refl | inr not_it ↦ rw not_it refl ]
  standing-placed (place ∷ places) object n = elim (cases_Bool (bytes_eq name place.0)) [
    | inl here ↦ rw here (at_the_place (bytes_are name place.0 here))
    | inr elsewhere ↦ rw elsewhere (past_the_place elsewhere (standing-placed places object n))
  ]
    where
      at_the_place : name ≡ place.0 → standing ((place.0, object) ∷ places) n
          ≡ cond (bytes_eq n name) (over object (standing (place ∷ places) n))
          (standing (place ∷ places) n)
      at_the_place same = elim (cases_Bool (bytes_eq n place.0)) [
        | inl is ↦ rw (same, is) (sym (at_place_over object place.1))
        | inr not_it ↦ rw
            (same, not_it) refl
      ]

      past_the_place : bytes_eq name place.0 ≡ false
          → standing (placed places name object) n
          ≡ cond (bytes_eq n name) (over object (standing places n)) (standing places n)
          → standing (place ∷ placed places name object) n
          ≡ cond (bytes_eq n name) (over object (standing (place ∷ places) n))
          (standing (place ∷ places) n)
      past_the_place elsewhere rest = elim (cases_Bool (bytes_eq n place.0)) [
        | inl is ↦ elim (cases_Bool (bytes_eq n name)) [
          | inl both ↦ absurd (not_both n name place.0 elsewhere is both)
          | inr other ↦ rw
              (is, other) refl
        ]
        | inr not_it ↦ rw not_it rest
      ]

  standing-push : (places : List (List ℕ × Option X)) (object : X) (n : List ℕ)
      → standing places name ≡ missing → standing (places ++ (name, Some object) ∷ []) n
      ≡ cond (bytes_eq n name) (there object) (standing places n)
  standing-push [] object n none = refl
  standing-push (place ∷ places) object n none = elim (cases_Bool (bytes_eq name place.0)) [
    | inl here ↦ absurd (at_no_place place.1 (let h = rw here at none in h))
    | inr elsewhere ↦ elim (cases_Bool (bytes_eq n place.0)) [
      | inl is ↦ elim (cases_Bool (bytes_eq n name)) [
        | inl both ↦ absurd (not_both n name place.0 elsewhere is both)
        | inr other ↦ rw
            (is, other) refl
      ]
      | inr not_it ↦ rw not_it (standing-push places object n (rw elsewhere at none))
    ]
  ]

  -- the names stay those of the places
  pub AllNamed-placed : (name_of : X → List ℕ) (places : List (List ℕ × Option X))
      (object : Option X)
      → AllNamed name_of places → IfSome object (λ x. name_of x ≡ name)
      → AllNamed name_of (placed places name object)
  AllNamed-placed name_of [] object named bears = tt
  AllNamed-placed name_of (place ∷ places) object named bears =
      elim (cases_Bool (bytes_eq name place.0)) [
        | inl here ↦ rw here (
          subst (λ (n : List ℕ). IfSome object (λ x. name_of x ≡ n))
              (bytes_are name place.0 here) bears,
          named.1,
        )
        | inr elsewhere ↦ rw elsewhere (named.0, AllNamed-placed name_of places object named.1 bears)
      ]

  pub AllNamed-push : (name_of : X → List ℕ) (places : List (List ℕ × Option X)) (object : X)
      → AllNamed name_of places → name_of object ≡ name
      → AllNamed name_of (places ++ (name, Some object) ∷ [])
  AllNamed-push name_of [] object named bears = (bears, tt)
  AllNamed-push name_of (place ∷ places) object named bears =
      (named.0, AllNamed-push name_of places object named.1 bears)

  -- what stands under a name bears it
  pub named_at : (name_of : X → List ℕ) (places : List (List ℕ × Option X))
      → AllNamed name_of places → IfSome (object_there (standing places name))
      (λ object. name_of object ≡ name)
  named_at name_of [] named = tt
  named_at name_of (place ∷ places) named = elim (cases_Bool (bytes_eq name place.0)) [
    | inl here ↦ rw (here, object_at_place)
        (subst (λ (n : List ℕ). IfSome place.1 (λ x. name_of x ≡ n))
        (sym (bytes_are name place.0 here)) named.0)
    | inr elsewhere ↦ rw elsewhere (named_at name_of places named.1)
  ]

  -- what an open, a close and a put leave
  pub changes_placed : (change : NameEntry X → NameEntry X) (places after : List (List ℕ × Option X))
      (object : Option X)
      → ((s : NameEntry X) → over object s ≡ change s) → after ≡ placed places name object
      → Changes change (standing places) (standing after) name
  changes_placed change places after object same is =
      λ n. ap (λ (l : List (List ℕ × Option X)). standing l n) is ∙ standing-placed places object n
      ∙ ap (λ (s : NameEntry X). cond (bytes_eq n name) s (standing places n))
      (same (standing places n))

  pub lends_found : (places : List (List ℕ × Option X)) (i : ℕ) (here after : List ℕ × Option X)
      → position (λ place. bytes_eq name place.0) places ≡ Some i → here ≡ get_or places i here
      → after ≡ (here.0, None)
      → Changes lent_from (standing places) (standing (set places i after)) name
  lends_found places i here after found is new =
      changes_placed lent_from places (set places i after) None over-none
      (set_placed name places i here after None found is new)

  pub lends_nothing : (places : List (List ℕ × Option X))
      → position (λ place. bytes_eq name place.0) places ≡ None
      → Changes lent_from (standing places) (standing places) name
  lends_nothing places none = changes_placed lent_from places places None over-none
      (sym (placed_none name places None (standing_none name places none)))

  pub closes_found : (places : List (List ℕ × Option X)) (i : ℕ) (here after : List ℕ × Option X)
      (object : X)
      → position (λ place. bytes_eq name place.0) places ≡ Some i → here ≡ get_or places i here
      → after ≡ (here.0, Some object)
      → Changes (λ s. put_back_at s object) (standing places) (standing (set places i after)) name
  closes_found places i here after object found is new =
      changes_placed (λ s. put_back_at s object) places (set places i after) (Some object)
      (over-some object) (set_placed name places i here after (Some object) found is new)

  pub closes_nowhere : (places : List (List ℕ × Option X)) (object : X)
      → position (λ place. bytes_eq name place.0) places ≡ None
      → Changes (λ s. put_back_at s object) (standing places) (standing places) name
  closes_nowhere places object none =
      changes_placed (λ s. put_back_at s object) places places (Some object) (over-some object)
      (sym (placed_none name places (Some object) (standing_none name places none)))

  pub puts_found : (places : List (List ℕ × Option X)) (i : ℕ) (here after : List ℕ × Option X)
      (object : X)
      → position (λ place. bytes_eq name place.0) places ≡ Some i → here ≡ get_or places i here
      → after ≡ (here.0, Some object)
      → PutsUnder places (set places i after) name object
  puts_found places i here after object found is new = λ n.
      ap (λ (l : List (List ℕ × Option X)). standing l n)
      (set_placed name places i here after (Some object) found is new)
      ∙ standing-placed places (Some object) n ∙ there_then n
    where
      there_then : (n : List ℕ) → cond (bytes_eq n name) (over (Some object) (standing places n))
          (standing places n) ≡ cond (bytes_eq n name) (there object) (standing places n)
      there_then n = elim (cases_Bool (bytes_eq n name)) [
        | inl same ↦ rw same (rw (
          bytes_are n name same,
          standing_found name places i here found
              is,
        ) (at_place_over (Some object) here.1))
        | inr other ↦ rw other refl
      ]

  pub puts_nowhere : (places new : List (List ℕ × Option X)) (object : X)
      → position (λ place. bytes_eq name place.0) places ≡ None
      → new ≡ places ++ (name, Some object) ∷ [] → PutsUnder places new name object
  puts_nowhere places new object none is = λ n. ap (λ (l : List (List ℕ × Option X)). standing l n)
      is ∙ standing-push places object n (standing_none name places none)

  pub named_found : (name_of : X → List ℕ) (places : List (List ℕ × Option X)) (i : ℕ)
      (here after : List ℕ × Option X) (object : Option X)
      → position (λ place. bytes_eq name place.0) places ≡ Some i → here ≡ get_or places i here
      → after ≡ (here.0, object)
      → IfSome object (λ x. name_of x ≡ name) → AllNamed name_of places
      → AllNamed name_of (set places i after)
  named_found name_of places i here after object found is new bears named =
      rw (set_placed name places i here after object found is new)
      (AllNamed-placed name_of places object named bears)
