use Rattle.std.proofs.Common.{reverse}
use Rattle.node_core.proofs.OfNode.Outcomes.{few_same}
use Rattle.node_core.proofs.node.Node.step.Goals as goal

pub returns-in-Some-clause-looks : goal.returns-in-Some-clause-looks
returns-in-Some-clause-looks c =
    few_same c.args.self.now.setup.centre (reverse c.args.self.now.history) c.args.event
    c.args.looks.now
