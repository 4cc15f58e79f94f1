-- Calls and requests by what they do.
use Rattle.tase_views.specs.declared.event.EventKind.{EventKind}
use Rattle.tase_views.specs.declared.event.EventKind.TheVariants.{Open, Request, Take, Close}
use Rattle.tase_views.specs.declared.event.EventKind.TheVariants.{Update, Table, Tag, Tick, Ask}
use Rattle.tase_views.specs.declared.event.EventKind.TheVariants.{TakeOrders, Stop}
use Rattle.node_core.specs.Stored.{IsRequest, IsCalmRequest}

pub calm_request : (event : EventKind) → IsCalmRequest event → IsRequest event
calm_request (Request call) calm = tt
calm_request (Open peer) calm = absurd calm
calm_request Take calm = absurd calm
calm_request Close calm = absurd calm
calm_request (Update point value) calm = absurd calm
calm_request (Table peer variant) calm = absurd calm
calm_request (Tick now) calm = absurd calm
calm_request (Ask peer slot) calm = absurd calm
calm_request (Tag device tag) calm = absurd calm
calm_request TakeOrders calm = absurd calm
calm_request Stop calm = absurd calm
