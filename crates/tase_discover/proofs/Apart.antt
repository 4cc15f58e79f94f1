-- Lists of names: that they differ, and that none of some is one of others.
use Rattle.std.proofs.Common.{◌≡◌, ◌≢◌, ℕ, suc, Bool, true, false, not, ◌&&◌}
use Rattle.std.proofs.Common.{List, [], ◌∷◌, ◌++◌, All, AllPairs, bytes_eq, sym, ap, ◌∙◌}
use Rattle.std.proofs.Common.{arith}
use Rattle.std.specs.List.{list_all}
use Rattle.std.proofs.lemmas.Bool.{true≢false, and_parts}
use Rattle.std.proofs.lemmas.Slice.Eq.{bytes_eq-Decides}
use Rattle.tase_discover.specs.SelfListings.{Apart, Differ}
use Rattle.tase_discover.proofs.Typed.{Every}

pub every-so : {A : Type 0} (P Q : A → Type 0) → ((x : A) → P x → Q x) → (xs : List A)
    → Every P xs → Every Q xs
every-so P Q so [] e = tt
every-so P Q so (x ∷ xs) e = (so x e.0, every-so P Q so xs e.1)

-- none of these is one of those
abbrev pub AllApart : List (List ℕ) → List (List ℕ) → Type 0
AllApart [] ys = Unit {0}
AllApart (x ∷ xs) ys = Apart x ys × AllApart xs ys

-- ---- one list behind another

pub Apart-append : (x : List ℕ) (ys zs : List (List ℕ)) → Apart x ys → Apart x zs
    → Apart x (ys ++ zs)
Apart-append x [] zs a b = b
Apart-append x (y ∷ ys) zs a b = (a.0, Apart-append x ys zs a.1 b)

pub AllApart-append : (xs ys zs : List (List ℕ)) → AllApart xs zs → AllApart ys zs
    → AllApart (xs ++ ys) zs
AllApart-append [] ys zs a b = b
AllApart-append (x ∷ xs) ys zs a b = (a.0, AllApart-append xs ys zs a.1 b)

pub Differ-append : (xs ys : List (List ℕ)) → Differ xs → Differ ys → AllApart xs ys
    → Differ (xs ++ ys)
Differ-append [] ys d e a = e
Differ-append (x ∷ xs) ys d e a = (Apart-append x xs ys d.0 a.0, Differ-append xs ys d.1 e a.1)

-- a name that is none of two lists
pub record ApartParts (x : List ℕ) (ys zs : List (List ℕ)) : Type 0 where
  pub first : Apart x ys
  pub second : Apart x zs

Apart-parts : (x : List ℕ) (ys zs : List (List ℕ)) → Apart x (ys ++ zs) → ApartParts x ys zs
Apart-parts x [] zs a = record { first = tt; second = a }
Apart-parts x (y ∷ ys) zs a =
    let more = Apart-parts x ys zs a.1 in
    record { first = (a.0, more.first); second = more.second }

-- two lists, each of names that differ, of which none is one of the other
pub record DifferParts (xs ys : List (List ℕ)) : Type 0 where
  pub first : Differ xs
  pub second : Differ ys
  pub apart : AllApart xs ys

pub Differ-parts : (xs ys : List (List ℕ)) → Differ (xs ++ ys) → DifferParts xs ys
Differ-parts [] ys d = record { first = tt; second = d; apart = tt }
Differ-parts (x ∷ xs) ys d =
    let here = Apart-parts x xs ys d.0 in
    let more = Differ-parts xs ys d.1 in
    record {
      first = (here.first, more.first);
      second = more.second;
      apart = (here.second, more.apart);
    }

-- ---- the other way round

apart-heads : (xs : List (List ℕ)) (y : List ℕ) (ys : List (List ℕ)) → AllApart xs (y ∷ ys)
    → Apart y xs
apart-heads [] y ys a = tt
apart-heads (x ∷ xs) y ys a = (λ e. a.0.0 (sym e), apart-heads xs y ys a.1)

apart-tails : (xs : List (List ℕ)) (y : List ℕ) (ys : List (List ℕ)) → AllApart xs (y ∷ ys)
    → AllApart xs ys
apart-tails [] y ys a = tt
apart-tails (x ∷ xs) y ys a = (a.0.1, apart-tails xs y ys a.1)

pub AllApart-back : (xs ys : List (List ℕ)) → AllApart xs ys → AllApart ys xs
AllApart-back xs [] a = tt
AllApart-back xs (y ∷ ys) a =
    (apart-heads xs y ys a, AllApart-back xs ys (apart-tails xs y ys a))

-- ---- by what a function says of them

module _ {V : Type 0} (f : List ℕ → V) (v : V) where
  pub Apart-by : (x : List ℕ) (ys : List (List ℕ)) → f x ≡ v → Every (λ y. f y ≢ v) ys
      → Apart x ys
  Apart-by x [] is other = tt
  Apart-by x (y ∷ ys) is other = (λ e. other.0 (ap f e ∙ is), Apart-by x ys is other.1)

  pub AllApart-by : (xs ys : List (List ℕ)) → Every (λ x. f x ≡ v) xs → Every (λ y. f y ≢ v) ys
      → AllApart xs ys
  AllApart-by [] ys is other = tt
  AllApart-by (x ∷ xs) ys is other = (Apart-by x ys is.0 other, AllApart-by xs ys is.1 other)

-- those pass a test, and these don't
pub AllApart-test : (test : List ℕ → Bool) (xs ys : List (List ℕ)) → Every (λ x. test x ≡ false) xs
    → Every (λ y. test y ≡ true) ys → AllApart xs ys
AllApart-test test xs ys fails passes =
    AllApart-by test false xs ys fails
    (every-so (λ y. test y ≡ true) (λ y. test y ≢ false) (λ y e f. true≢false (sym e ∙ f)) ys
    passes)

-- ---- by places

Apart-all : (x : List ℕ) (ys : List (List ℕ)) → All (λ y. x ≢ y) ys → Apart x ys
Apart-all x [] a = tt
Apart-all x (y ∷ ys) a =
    (λ e. a 0 [] (omega arith) (sym e), Apart-all x ys (λ k d below. a (suc k) d (omega arith)))

pub Differ-all : (xs : List (List ℕ)) → AllPairs (λ a b. a ≢ b) xs → Differ xs
Differ-all [] pairs = tt
Differ-all (x ∷ xs) pairs = (
  Apart-all x xs (λ k d below. pairs 0 (suc k) d (omega arith) (omega arith)),
  Differ-all xs (λ i j d before below. pairs (suc i) (suc j) d (omega arith) (omega arith)),
)

pub every-all : (P : List ℕ → Type 0) (xs : List (List ℕ)) → All P xs → Every P xs
every-all P [] a = tt
every-all P (x ∷ xs) a =
    (a 0 [] (omega arith), every-all P xs (λ k d below. a (suc k) d (omega arith)))

-- ---- by a test of the lists

abbrev pub are_different : List (List ℕ) → Bool
are_different [] = true
are_different (x ∷ xs) = list_all (λ y. not (bytes_eq y x)) xs && are_different xs

apart-tested : (x : List ℕ) (ys : List (List ℕ)) → list_all (λ y. not (bytes_eq y x)) ys ≡ true
    → Apart x ys
apart-tested x [] e = tt
apart-tested x (y ∷ ys) e =
    let both = and_parts (not (bytes_eq y x)) (list_all (λ z. not (bytes_eq z x)) ys) e in (
      λ same. true≢false (sym both.0 ∙ ap not ((bytes_eq-Decides y x).1 same)),
      apart-tested x ys both.1,
    )

pub Differ-tested : (xs : List (List ℕ)) → are_different xs ≡ true → Differ xs
Differ-tested [] e = tt
Differ-tested (x ∷ xs) e =
    let both = and_parts (list_all (λ y. not (bytes_eq y x)) xs) (are_different xs) e in
    (apart-tested x xs both.0, Differ-tested xs both.1)

pub every-tested : (test : List ℕ → Bool) (xs : List (List ℕ)) → list_all test xs ≡ true
    → Every (λ x. test x ≡ true) xs
every-tested test [] e = tt
every-tested test (x ∷ xs) e =
    let both = and_parts (test x) (list_all test xs) e in
    (both.0, every-tested test xs both.1)

pub record EveryParts (P : List ℕ → Type 0) (xs ys : List (List ℕ)) : Type 0 where
  pub first : Every P xs
  pub second : Every P ys

pub every-parts : (P : List ℕ → Type 0) (xs ys : List (List ℕ)) → Every P (xs ++ ys)
    → EveryParts P xs ys
every-parts P [] ys e = record { first = tt; second = e }
every-parts P (x ∷ xs) ys e =
    let more = every-parts P xs ys e.1 in
    record { first = (e.0, more.first); second = more.second }
