use Rattle.std.proofs.Common.{ℕ, IfOk, subst, ap, ◌∙◌}
use Rattle.node_core.specs.Objects.Found.{TableInForce}
use Rattle.node_core.specs.Replies.Shown.{Shown, shown_of}
use Rattle.node_core.proofs.OfNode.PartLists.{IsMade}
use Rattle.node_core.proofs.node.peer.Peer.reports.Goals as goal

pub returns : goal.returns
returns c =
    let part = c.args.self.now in
    let shown : Shown = shown_of c.args.centre.now c.args.number part c.args.plant.now in
    subst (λ (ordinal : ℕ). IfOk c.reports.result (IsMade c.args.cause shown ordinal))
    c.ordinal.ensures
    (subst (λ (s : Shown). IfOk c.reports.result (IsMade c.args.cause s c.ordinal.result))
    (c.new-shown.ensures ∙ ap (λ (t : TableInForce). record shown { table = t })
    c.new-table.ensures)
    c.reports.ensures)
