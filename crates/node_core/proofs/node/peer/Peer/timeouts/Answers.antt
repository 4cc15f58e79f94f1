use Rattle.std.proofs.Common.{◌++◌, ℕ, List, subst, sym, ap, ◌∙◌}
use Rattle.tase_views.specs.declared.reply.ReportKind.{ReportKind}
use Rattle.node_core.specs.Objects.Found.{TableInForce}
use Rattle.node_core.specs.Replies.Shown.{Shown, IsShown, shown_of}
use Rattle.node_core.proofs.OfReplies.ReportsShown.{ended_at}
use Rattle.node_core.proofs.node.peer.Peer.timeouts.Goals as goal

pub returns : goal.returns
returns c = λ updates tables view s.
    let shown : Shown = shown_of c.args.centre.now c.args.number c.args.self.now c.args.plant.now in
    let same = c.new-shown.ensures ∙ ap (λ (t : TableInForce). record shown { table = t })
    c.new-table.ensures in
    c.in_ok-add_timeouts.ensures updates tables view
    (subst (λ (x : Shown). IsShown updates tables view x) (sym same) s)
    ∙ ap (λ (made : List ReportKind). made ++ ended_at tables view c.ordinal.result c.args.to)
    c.new-made.ensures
    ∙ ap (λ (ordinal : ℕ). ended_at tables view ordinal c.args.to) c.ordinal.ensures
