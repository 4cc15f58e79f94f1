use Rattle.std.proofs.Common.{sym, ◌∙◌}
use Rattle.node_core.proofs.OfNode.LogLines.{length-entries}
use Rattle.node_core.proofs.node.log.Log.len.Goals as goal

pub returns : goal.returns
returns c =
    rw (← c.self.view_is) (c.len.ensures
    ∙ sym (length-entries c.self.inside.pages.lines c.self.invariant))
