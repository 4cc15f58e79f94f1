-- Where enough is offered, something is granted.
use Rattle.std.proofs.Common.{◌≡◌, Bool, true, false, Option, Some, None, ℤ, pos, int_lt, ◌<ℤ◌}
use Rattle.std.proofs.Common.{arith, refl, sym, inl, inr}
use Rattle.std.specs.Prelude.{◌||◌}
use Rattle.std.proofs.lemmas.Bool.{false≢true}
use Rattle.std.proofs.lemmas.Int.{ints}
use Rattle.mms_services.specs.Negotiations.{IsTooLittle, IsBelow}
use Rattle.mms_services.specs.declared.initiate.TheConstants.{LEAST_DETAIL}
use Rattle.mms_services.specs.declared.initiate.Initiate.{Initiate}
use Rattle.stack_assoc.specs.Handing.{is_offered_below, is_too_little}

pub or_left : (a b : Bool) → (a || b) ≡ false → a ≡ false
or_left true b e = e
or_left false b e = refl

pub or_right : (a b : Bool) → (a || b) ≡ false → b ≡ false
or_right true b e = absurd (false≢true (sym e))
or_right false b e = e

no_less : (a b : ℤ) → int_lt a b ≡ false → a <ℤ b → ⊥
no_less a b e h = omega (arith, ints)

no_below : (least : ℤ) (number : Option ℤ) → is_offered_below least number ≡ false
    → IsBelow least number → ⊥
no_below least None e h = h
no_below least (Some number) e h = no_less number least e h

-- where enough is offered something is granted
pub is_enough : (i : Initiate) → is_too_little i ≡ false → IsTooLittle i → ⊥
is_enough i e h = elim h [
  | inl h ↦ no_less i.version (pos 1) (or_left version (calling || (called || rest)) e) h
  | inr (inl h) ↦ no_less i.calling (pos 1) (or_left calling (called || rest) more) h
  | inr (inr (inl h)) ↦ no_less i.called (pos 1) (or_left called rest most) h
  | inr (inr (inr (inl h))) ↦ no_below LEAST_DETAIL i.detail (or_left detail nesting last) h
  | inr (inr (inr (inr h))) ↦ no_below (pos 1) i.nesting (or_right detail nesting last) h
]
  where
    version : Bool
    version = int_lt i.version (pos 1)

    calling : Bool
    calling = int_lt i.calling (pos 1)

    called : Bool
    called = int_lt i.called (pos 1)

    detail : Bool
    detail = is_offered_below LEAST_DETAIL i.detail

    nesting : Bool
    nesting = is_offered_below (pos 1) i.nesting

    rest : Bool
    rest = detail || nesting

    more : (calling || (called || rest)) ≡ false
    more = or_right version (calling || (called || rest)) e

    most : (called || rest) ≡ false
    most = or_right calling (called || rest) more

    last : rest ≡ false
    last = or_right called rest most
