-- The updates of a history by its events are those by what these are.
use Rattle.std.proofs.Common.{◌≡◌, [], ◌∷◌, Option, refl, ap, ◌∙◌}
use Rattle.std.specs.List.{cons_option}
use Rattle.point_db.specs.Updates.{Update as PointUpdate}
use Rattle.tase_views.specs.declared.event.EventKind.{EventKind}
use Rattle.tase_views.specs.declared.event.EventKind.TheVariants.{Open, Request, Take, Close}
use Rattle.tase_views.specs.declared.event.EventKind.TheVariants.{Update, Table, Tick, Ask}
use Rattle.tase_views.specs.declared.event.EventKind.TheVariants as events
use Rattle.tase_views.specs.declared.event.EventKind.TheVariants.{TakeOrders, Stop}
use Rattle.tase_views.specs.Moves.{sort_of}
use Rattle.tase_views.specs.History.{Past}
use Rattle.tase_views.specs.Given.{update_by, updates_of}
use Rattle.node_core.specs.LastValues.{update_in, updates_in}

update_is : (event : EventKind) → update_in event ≡ update_by (sort_of event)
update_is (Open peer) = refl
update_is (Request call) = refl
update_is Take = refl
update_is Close = refl
update_is (Update point value) = refl
update_is (Table peer variant) = refl
update_is (events.Tag device tag) = refl
update_is (Tick now) = refl
update_is (Ask peer slot) = refl
update_is TakeOrders = refl
update_is Stop = refl

pub updates_are : (past : Past) → updates_in past ≡ updates_of past
updates_are [] = refl
updates_are (entry ∷ past) =
    ap (λ (one : Option PointUpdate). cons_option one (updates_in past)) (update_is entry.event)
    ∙ ap (cons_option (update_by (sort_of entry.event))) (updates_are past)
