use Rattle.std.proofs.Common.{◌∙◌, refl, arith, length-set}
use Rattle.transfer_sets.proofs.DueTrees.{renewed}
use Rattle.transfer_sets.proofs.due_tree.renew.Goals as goal

pub loop-node-preserved : goal.loop-node-preserved
loop-node-preserved c =
    let l = length-set c.loop-node.firsts c.loop-node.node c.first_of.result in
    let within = c.loop-node.invariant.within in record {
      many = l ∙ c.loop-node.invariant.many;
      within = omega (arith, l, within);
      others = renewed c.args.moments.now c.loop-node.firsts c.loop-node.node c.first_of.result
          (omega (arith, c.loop-node-test.true)) within
          (c.first_of.ensures ∙ (rw (c.node_at-lower.ensures, c.node_at-higher.ensures) refl))
          c.loop-node.invariant.others;
    }
