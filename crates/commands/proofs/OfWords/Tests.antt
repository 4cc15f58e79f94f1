-- What a test says of the values that it joins.
use Rattle.std.proofs.Common.{◌≡◌, ◌⊎◌, inl, inr, Bool, true, false, ◌&&◌, refl, ap, true≢false}
use Rattle.std.proofs.Common.{Option, Some, None, is_some, option_map, option_and_then, sym}
use Rattle.std.proofs.Common.{if◌then◌else◌}
use Rattle.std.specs.Option.{unwrap_or}

pub both : (a b : Bool) → (a && b) ≡ true → (a ≡ true) × (b ≡ true)
both true b e = (refl, e)
both false b e = absurd (true≢false (sym e))

module _ {A : Type 0} where
  pub some_is : (x y : A) → Some x ≡ Some y → x ≡ y
  some_is x y e = ap (λ (o : Option A). unwrap_or o x) e

  pub not_none : (x : A) → None ≡ Some x → ⊥
  not_none x e = true≢false (sym (ap (λ (o : Option A). is_some o) e))

  -- the value of a choice comes of one of both
  pub chosen : (b : Bool) (first second : Option A) (x : A)
      → (if b then first else second) ≡ Some x
      → ((b ≡ true) × (first ≡ Some x)) ⊎ ((b ≡ false) × (second ≡ Some x))
  chosen true first second x e = inl (refl, e)
  chosen false first second x e = inr (refl, e)

module _ {A B : Type 0} where
  -- what a mapped value was made of
  pub mapped : (o : Option A) (f : A → B) (y : B) → option_map f o ≡ Some y
      → (x : A) × (o ≡ Some x) × (f x ≡ y)
  mapped None f y e = absurd (not_none y e)
  mapped (Some x) f y e = (x, refl, some_is (f x) y e)

  pub followed : (o : Option A) (f : A → Option B) (y : B) → option_and_then f o ≡ Some y
      → (x : A) × (o ≡ Some x) × (f x ≡ Some y)
  followed None f y e = absurd (not_none y e)
  followed (Some x) f y e = (x, refl, e)
