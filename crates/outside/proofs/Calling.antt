-- Calls of an object, some after others.
use Rattle.std.proofs.Common.{◌≡◌, Bool, true, false, Option, Some, None, inl, inr, refl, ap, ◌∙◌}
use Rattle.std.specs.Prelude.{option_map}
use Rattle.outside.specs.Calls.{Calls, called, GoesOn}

-- a call after one that went on came no later than that
pub called-called : (stops : Bool) (calls : Option Calls)
    → option_map (called stops) (option_map (called false) calls) ≡ option_map (called stops) calls
called-called stops None = refl
called-called stops (Some calls) = refl

-- no call
pub GoesOn-none : (calls : Option Calls) → GoesOn calls calls false
GoesOn-none calls = inl refl

-- a call, which stops or not
pub GoesOn-call : (before after : Option Calls) (stops : Bool)
    → after ≡ option_map (called stops) before → GoesOn before after stops
GoesOn-call before after true is = is
GoesOn-call before after false is = inr is

-- calls that went on, and then others
pub GoesOn-then : (before mid after : Option Calls) (stops : Bool) → GoesOn before mid false
    → GoesOn mid after stops → GoesOn before after stops
GoesOn-then before mid after true (inl none) then = then ∙ ap (option_map (called true)) none
GoesOn-then before mid after true (inr one) then =
    then ∙ ap (option_map (called true)) one ∙ called-called true before
GoesOn-then before mid after false first (inl none) = GoesOn-same first none
  where
    GoesOn-same : GoesOn before mid false → after ≡ mid → GoesOn before after false
    GoesOn-same (inl is) same = inl (same ∙ is)
    GoesOn-same (inr is) same = inr (same ∙ is)
GoesOn-then before mid after false (inl none) (inr two) =
    inr (two ∙ ap (option_map (called false)) none)
GoesOn-then before mid after false (inr one) (inr two) =
    inr (two ∙ ap (option_map (called false)) one ∙ called-called false before)
