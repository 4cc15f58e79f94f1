use Rattle.node_core.proofs.OfObjects.SlotItems.{item_named}
use Rattle.node_core.proofs.replies.peer_view.slot_name.Goals as goal

pub new-requires-3 : goal.new-requires-3
new-requires-3 c =
    rw (c.in_ok-item.ensures.items, c.slot_item.ensures) (item_named c.args.slot c.requires).1
