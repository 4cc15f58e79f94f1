use Rattle.node_server.proofs.OfTurn.Paired.{right_paired, setup_kept, entry_added, none_added}
use Rattle.node_server.proofs.turn.turn_node.TurnNodeObject.step.Goals as goal

pub returns-clause-right : goal.returns-clause-right
returns-clause-right c = right_paired c.args.self.now.node.setup c.args.self.now.node.history
    c.args.who c.args.event c.step.result c.step.ensures.right

pub returns-clause-setup : goal.returns-clause-setup
returns-clause-setup c = setup_kept c.args.self.now.node c.step.new.self c.args.who c.args.event
    c.step.result c.step.ensures.ok c.step.ensures.err

pub returns-clause-added : goal.returns-clause-added
returns-clause-added c = entry_added c.args.self.now.node c.step.new.self c.args.who c.args.event
    c.step.result c.step.ensures.ok

pub returns-clause-refused : goal.returns-clause-refused
returns-clause-refused c = none_added c.args.self.now.node c.step.new.self c.args.who c.args.event
    c.step.result c.step.ensures.err
