use Rattle.std.proofs.Common.{◌≡◌, reverse, refl, ap, subst, ◌∙◌}
use Rattle.std.specs.Arc.{arc_value}
use Rattle.tase_views.specs.Moves.{sort_of}
use Rattle.tase_views.specs.Outcomes.{seat_refusal, name_refusal, clock_refusal_by, refusal_of}
use Rattle.tase_views.specs.Setup.{Setup}
use Rattle.node_core.specs.NodeState.{NodeState}
use Rattle.node_core.specs.Room.{past_of}
use Rattle.node_core.proofs.OfNode.Causes.{refusal_of-parts}
use Rattle.node_core.proofs.node.Node.refusal.Goals as goal

pub returns : goal.returns
returns c =
    let log = c.self.inside.log in
    let rows = arc_value c.self.inside.centre in
    let past = past_of log in
    let setup : Setup = record { centre = rows; limit = log.limit } in
    let event = c.args.event.now in
    let found = c.association.ensures ∙ c.self.invariant.0.common.seated c.args.who in
    let P : NodeState → Type 0 = λ node.
    c.first_refusal.result ≡ refusal_of node.setup (reverse node.history) c.args.who event in
    let first : c.first_refusal.result ≡ refusal_of setup past c.args.who event =
    c.first_refusal.ensures ∙ refusal_of-parts setup past c.args.who event _ _ _ _ _
    (c.stop_refusal.ensures _ c.self.invariant.1)
    (c.seat_refusal.ensures ∙ ap (λ key. seat_refusal key event) found)
    (c.name_refusal.ensures ∙ ap (λ those. name_refusal those event) c.deref.ensures)
    (c.clock_refusal.ensures
    ∙ ap (λ last. clock_refusal_by last (sort_of event))
    (c.last_tick.ensures ∙ c.self.invariant.0.clock))
    (c.weight_refusal.ensures setup _ refl c.self.invariant.1) in
    subst P c.self.view_is first
