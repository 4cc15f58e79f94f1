use Rattle.std.proofs.Common.{◌≡◌, ◌<◌, length}
use Rattle.transfer_sets.specs.DueTree.{AreFirstsBut}
use Rattle.transfer_sets.proofs.due_tree.renew.Given as goal

abbrev pub invariant-loop-node : goal.invariant-loop-node
invariant-loop-node l = record {
  many : length l.firsts ≡ length l.moments;
  within : l.node < length l.firsts;
  others : AreFirstsBut l.node l.moments l.firsts;
}

abbrev pub decreases-loop-node : goal.decreases-loop-node
decreases-loop-node l = l.node
