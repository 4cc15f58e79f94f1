use Rattle.transfer_sets.proofs.DueTrees.{root_is_first}
use Rattle.transfer_sets.proofs.due_tree.first_in.Goals as goal

pub returns : goal.returns
returns c = rw c.node_at.ensures
    (root_is_first c.args.moments.now c.args.firsts.now c.requires.tree)
