use Rattle.outside.specs.Links.ScriptStates.{AllNewLinks}
use Rattle.case_runner.proofs.text.network.Listening.links_of.Given as goal

-- the links so far are new
abbrev pub invariant-loop-node : goal.invariant-loop-node
invariant-loop-node l = AllNewLinks l.links.items
