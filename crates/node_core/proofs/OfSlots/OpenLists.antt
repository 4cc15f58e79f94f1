-- Lists of open associations.
use Rattle.std.proofs.Common.{◌≡◌, ◌==◌, ℕ, zero, suc, ◌<◌, ◌+◌, Bool, true, false, List, [], ◌∷◌}
use Rattle.std.proofs.Common.{◌++◌, map, take, drop, set, length, get_or, refl, sym, ap, ◌∙◌}
use Rattle.std.proofs.Common.{Some, arith}
use Rattle.std.specs.Prelude.{if◌then◌else◌, find}
use Rattle.std.specs.Option.{option_map_or}
use Rattle.std.proofs.lemmas.List.{at_drop_more}
use Rattle.node_core.specs.Slots.Associations.{OpenAssociation, made_for}

-- an item that shows as the one before it leaves what the list shows
pub map_set_same : {X Y : Type 0} (f : X → Y) (xs : List X) (i : ℕ) (y d : X)
    → f y ≡ f (get_or xs i d) → map f (set xs i y) ≡ map f xs
map_set_same f [] i y d same = refl
map_set_same f (x ∷ xs) zero y d same = ap (λ z. z ∷ map f xs) same
map_set_same f (x ∷ xs) (suc i) y d same = ap (λ zs. f x ∷ zs) (map_set_same f xs i y d same)

-- of a list of which the last items have become others, one more from the end
module _ (f : OpenAssociation → OpenAssociation) where
  abbrev pub behind : ℕ → List OpenAssociation → List OpenAssociation
  behind place xs = take place xs ++ map f (drop place xs)

  pub item_before : (xs : List OpenAssociation) (i : ℕ) (d : OpenAssociation) → i < length xs
      → get_or (behind (suc i) xs) i d ≡ get_or xs i d
  item_before [] i d within = absurd (omega (arith, within))
  item_before (x ∷ xs) zero d within = refl
  item_before (x ∷ xs) (suc i) d within = item_before xs i d (omega (arith, within))

  pub one_more : (xs : List OpenAssociation) (i : ℕ) (y d : OpenAssociation) → i < length xs
      → y ≡ f (get_or xs i d) → set (behind (suc i) xs) i y ≡ behind i xs
  one_more [] i y d within is = absurd (omega (arith, within))
  one_more (x ∷ xs) zero y d within is = ap (λ z. z ∷ map f xs) is
  one_more (x ∷ xs) (suc i) y d within is =
      ap (λ zs. x ∷ zs) (one_more xs i y d (omega (arith, within)) is)

-- what was made for the association that is found from an item on
pub made_for-more : (ordinal : ℕ) (xs : List OpenAssociation) (i : ℕ) (x : OpenAssociation)
    → i < length xs → x ≡ get_or xs i x
    → (if x.ordinal == ordinal then x.made else made_for ordinal (drop (i + 1) xs))
    ≡ made_for ordinal (drop i xs)
made_for-more ordinal xs i x within here =
    by (x.ordinal == ordinal)
    ∙ ap (λ (y : OpenAssociation). made_for ordinal (y ∷ drop (i + 1) xs)) here
    ∙ sym (at_drop_more (made_for ordinal) xs i x within)
  where
    by : (b : Bool) → (if b then x.made else made_for ordinal (drop (i + 1) xs))
        ≡ option_map_or (λ (a : OpenAssociation). a.made) (if b then Some x
        else find (λ (a : OpenAssociation). a.ordinal == ordinal) (drop (i + 1) xs)) []
    by true = refl
    by false = refl
