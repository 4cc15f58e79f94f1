use Rattle.std.proofs.Common.{refl, arith}
use Rattle.node_core.specs.Room.{past_of}
use Rattle.node_core.proofs.OfNode.NodeAnswers.{IsSeated, seen_as, light_enough, seated_by}
use Rattle.node_core.proofs.OfNode.NodeAnswers.{unlogged, logged}
use Rattle.node_core.proofs.OfNode.Outcomes.{IsAnswer-take}
use Rattle.node_core.proofs.OfNode.NodeSteps.{IsNode-take, made_is}
use Rattle.node_core.proofs.node.Node.take.Goals as goal
use Rattle.node_core.proofs.node.Node.take.Goals.{After-unwrap-key}

seat : (c : After-unwrap-key) → IsSeated c.self.inside c.args.who c.unwrap-key.result
seat c =
    seated_by c.self.inside c.self.invariant c.args.who c.association.ensures c.unwrap-key.ensures

pub invariant_of-self : goal.invariant_of-self
invariant_of-self c =
    unlogged c.self.inside c.self.invariant c.reserve.new.self c.reserve.ensures.entries
    c.reserve.ensures.room refl c.self.invariant.0

pub append-requires-clause-light : goal.append-requires-clause-light
append-requires-clause-light c = light_enough (c.in_ok-reserve.ensures.room _ c.self.invariant.1)

pub take-reports-requires : goal.take-reports-requires
take-reports-requires c =
    let known = (seat (goal.at.take-reports-requires c).After-unwrap-key).1 in
    omega (arith, known, c.self.invariant.0.peers.many, c.self.inside.parts.peers.ok)

pub invariant_of-self-2 : goal.invariant_of-self-2
invariant_of-self-2 c =
    logged c.self.inside c.self.invariant c.args.who c.reserve.new.self c.append.new.self
    c.open_count.result c.self.view_is c.requires.take c.requires.free refl
    c.in_ok-reserve.ensures c.append.ensures refl c.open_count.ensures.count
    (IsNode-take _ _ _ _ c.self.invariant.0 c.args.who c.self.inside.hub c.take-reports.new.self
    c.take-reports.ensures.indexes c.unwrap-key.result
    (seat (goal.at.invariant_of-self-2 c).After-unwrap-key).0 refl
    c.take-reports.ensures.left)

pub returns-clause-answer : goal.returns-clause-answer
returns-clause-answer c =
    let seated = (seat (goal.at.returns-clause-answer c).After-unwrap-key).0 in
    rw (← c.self.view_is) (IsAnswer-take (seen_as c.self.inside).setup (past_of c.self.inside.log)
    c.args.who c.args.event c.unwrap-key.result c.take-reports.result c.requires.take seated
    (made_is _ _ _ _ c.self.invariant.0 c.args.who c.unwrap-key.result c.take-reports.result
    seated c.take-reports.ensures.made))
