use Rattle.std.proofs.Common.{◌∙◌}
use Rattle.node_core.proofs.OfNode.LogLines.{text_at}
use Rattle.node_core.proofs.node.log.Log.line.Goals as goal

pub returns : goal.returns
returns c =
    rw (← c.self.view_is) (c.line.ensures
    ∙ text_at c.self.inside.pages.lines c.self.invariant c.args.place
    c.entries_are_their_text.ensures)
