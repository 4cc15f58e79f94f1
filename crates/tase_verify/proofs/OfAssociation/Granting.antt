-- What is granted of an offer.
use Rattle.std.proofs.Common.{◌≡◌, false, Option, Some, None, refl, ap}
use Rattle.std.specs.Prelude.{IfSome, ◌↔◌}
use Rattle.mms_services.specs.declared.initiate.Initiate.{Initiate}
use Rattle.mms_services.specs.Negotiations.{IsTooLittle, granted}
use Rattle.stack_assoc.specs.Handing.{is_too_little}
use Rattle.stack_assoc.proofs.Enough.{is_enough}

-- where enough is offered, something is granted
pub enough_granted : (offer : Initiate) (answer : Option Initiate)
    → ((answer ≡ None) ↔ IsTooLittle offer)
    → IfSome answer (λ (given : Initiate). given ≡ granted offer)
    → is_too_little offer ≡ false → answer ≡ Some (granted offer)
enough_granted offer None refused given enough = absurd (is_enough offer enough (refused.0 refl))
enough_granted offer (Some answer) refused given enough = ap (λ (i : Initiate). Some i) given
