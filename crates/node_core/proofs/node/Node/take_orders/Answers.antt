use Rattle.std.proofs.Common.{refl, ◌∙◌}
use Rattle.node_core.specs.Room.{past_of}
use Rattle.node_core.proofs.OfNode.NodeAnswers.{seen_as, light_enough, unlogged, logged}
use Rattle.node_core.proofs.OfNode.Outcomes.{IsAnswer-orders}
use Rattle.node_core.proofs.OfNode.NodeSteps.{IsNode-orders}
use Rattle.node_core.proofs.node.Node.take_orders.Goals as goal

pub invariant_of-self : goal.invariant_of-self
invariant_of-self c =
    unlogged c.self.inside c.self.invariant c.reserve.new.self c.reserve.ensures.entries
    c.reserve.ensures.room refl c.self.invariant.0

pub append-requires-clause-light : goal.append-requires-clause-light
append-requires-clause-light c = light_enough (c.in_ok-reserve.ensures.room _ c.self.invariant.1)

pub invariant_of-self-2 : goal.invariant_of-self-2
invariant_of-self-2 c =
    logged c.self.inside c.self.invariant c.args.who c.reserve.new.self c.append.new.self
    c.open_count.result c.self.view_is c.requires.orders c.requires.free refl
    c.in_ok-reserve.ensures c.append.ensures refl c.open_count.ensures.count
    (IsNode-orders _ _ _ _ c.self.invariant.0 c.args.who _ c.self.inside.parts refl
    c.take_orders-orders.ensures.left refl refl refl)

pub returns-clause-answer : goal.returns-clause-answer
returns-clause-answer c =
    rw (← c.self.view_is) (IsAnswer-orders (seen_as c.self.inside).setup
    (past_of c.self.inside.log) c.args.who c.args.event c.from_vec.result c.requires.orders
    (c.from_vec.ensures ∙ c.take_orders-orders.ensures.orders
    ∙ c.self.invariant.0.common.devices.orders))
