use Rattle.std.proofs.Common.{sym, subst}
use Rattle.node_core.specs.Objects.Found.{TableInForce}
use Rattle.node_core.specs.Replies.Shown.{shown_by, IsShowable}
use Rattle.node_core.proofs.node.parts.peer_view.Goals as goal

pub new-requires : goal.new-requires
new-requires c =
    subst (λ (t : TableInForce). IsShowable (shown_by c.args.peer t c.part-part.result.now.book
    c.part-part.result.now.slots c.args.plant.now)) (sym c.new-table.ensures)
    (c.requires.shown c.part-part.result.now c.part-part.ensures)
