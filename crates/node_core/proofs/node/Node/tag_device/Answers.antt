use Rattle.std.proofs.Common.{ℕ, List, refl, sym, ap, ◌∙◌}
use Rattle.std.specs.Arc.{arc_value}
use Rattle.sbo_device.specs.Moves.{Tag, tagged}
use Rattle.sbo_device.specs.Banks.{with_move}
use Rattle.node_core.proofs.OfNode.Causes.{named-tag, tagging_is}
use Rattle.node_core.proofs.OfNode.NodeAnswers.{light_enough, free_at, unlogged, logged}
use Rattle.node_core.proofs.OfNode.NodeSteps.{IsNode-tagged}
use Rattle.node_core.proofs.node.Node.tag_device.Goals as goal

pub invariant_of-self : goal.invariant_of-self
invariant_of-self c =
    unlogged c.self.inside c.self.invariant c.reserve.new.self c.reserve.ensures.entries
    c.reserve.ensures.room refl c.self.invariant.0

pub append-requires-clause-light : goal.append-requires-clause-light
append-requires-clause-light c = light_enough (c.in_ok-reserve.ensures.room _ c.self.invariant.1)

pub invariant_of-self-2 : goal.invariant_of-self-2
invariant_of-self-2 c =
    let rows = arc_value c.self.inside.centre in
    let its : Tag = c.in-Tag.tag in
    let called = tagging_is c.args.device c.in-Tag.device its c.args.event (sym c.kind.ensures ∙ c.in-Tag.is)
    c.requires.tag in
    let free = free_at c.self.inside c.args.who c.self.view_is called c.requires.free in
    logged c.self.inside c.self.invariant c.args.who c.reserve.new.self c.append.new.self
    c.open_count.result c.self.view_is called c.requires.free refl
    c.in_ok-reserve.ensures c.append.ensures refl c.open_count.ensures.count
    (IsNode-tagged _ _ _ _ c.self.invariant.0 c.args.who _ c.self.inside.parts c.args.device its
    (named-tag rows c.args.device its free.named) refl
    (c.tag-2.ensures ∙ ap (λ (n : ℕ). with_move c.args.device
    (tagged (record { tag = n; reason = c.in_ok-reason.reason })) c.self.inside.hub.plant.devices)
    c.tag.ensures.value
    ∙ ap (λ (reason : List ℕ). with_move c.args.device
    (tagged (record { tag = its.tag; reason = reason })) c.self.inside.hub.plant.devices)
    (c.in_ok-reason.ensures.cases ∙ c.reason.ensures)) refl refl refl)
