use Rattle.std.proofs.Common.{sym, subst}
use Rattle.mms_data.specs.declared.object_name.Scope.{Scope}
use Rattle.tase_views.specs.declared.call.CallKind.TheVariants as calls
use Rattle.tase_views.specs.declared.call.TheConstants.{NAMED_VARIABLES}
use Rattle.asking_end.specs.Sayings.{IsAskable}
use Rattle.tase_discover.proofs.ShortCalls.{names_askable}
use Rattle.tase_discover.proofs.listing.names_call.Goals as goal

pub returns-clause-askable : goal.returns-clause-askable
returns-clause-askable c =
    subst IsAskable (sym c.new-call.ensures)
    (subst (λ (s : Scope). IsAskable (calls.NameList NAMED_VARIABLES s c.in_ok-after.after))
    (sym c.in_ok-clone.ensures.cases)
    (names_askable c.args.scope.now c.in_ok-after.after c.requires c.in_ok-after.ensures.named))
