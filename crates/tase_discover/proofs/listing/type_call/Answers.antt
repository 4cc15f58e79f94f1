use Rattle.std.proofs.Common.{sym, subst}
use Rattle.mms_data.specs.ObjectName.{ObjectName}
use Rattle.tase_views.specs.declared.call.CallKind.TheVariants as calls
use Rattle.asking_end.specs.Sayings.{IsAskable}
use Rattle.tase_discover.proofs.ShortCalls.{type_askable}
use Rattle.tase_discover.proofs.listing.type_call.Goals as goal

pub returns-in_ok-clone-in-Some-clause-askable : goal.returns-in_ok-clone-in-Some-clause-askable
returns-in_ok-clone-in-Some-clause-askable c =
    subst IsAskable (sym c.new.ensures)
    (subst (λ (n : ObjectName). IsAskable (calls.TypeOf n))
    (sym c.in_ok-clone-in-Some.ensures.cases)
    (type_askable c.in-Some.name.now c.item-named.ensures.named))
