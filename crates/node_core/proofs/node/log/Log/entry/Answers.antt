use Rattle.std.proofs.Common.{sym}
use Rattle.node_core.proofs.OfNode.LogLines.{entry_at, no_entry_at}
use Rattle.node_core.proofs.node.log.Log.entry.Goals as goal

pub returns-in-Some : goal.returns-in-Some
returns-in-Some c =
    rw (
      ← c.self.view_is,
      ← entry_at c.self.inside.pages.lines c.self.invariant c.args.place
          c.in-Some.line.now (sym c.in-Some.ensures),
    ) c.read_entry.ensures

pub returns-in-None : goal.returns-in-None
returns-in-None c =
    rw (← c.self.view_is) (sym (no_entry_at c.self.inside.pages.lines c.self.invariant c.args.place
    (sym c.in-None.ensures)))
