use Rattle.std.proofs.Common.{Some, sym, subst}
use Rattle.outside.specs.Links.ScriptStates.{AllNewLinks}
use Rattle.outside.proofs.OfLinks.NewLinks.{AllNewLinks-push}
use Rattle.case_runner.proofs.text.network.Listening.links_of.Goals as goal

pub loop-node-preserved : goal.loop-node-preserved
loop-node-preserved c =
    subst AllNewLinks (sym c.in_ok-push.ensures.items)
    (AllNewLinks-push _ (Some c.in_ok-link.link) c.loop-node.invariant c.in_ok-link.ensures)
