use Rattle.std.proofs.Common.{◌≡◌, take}
use Rattle.tase_resume.proofs.resuming.resume.Given as goal

abbrev pub invariant-loop-entry : goal.invariant-loop-entry
invariant-loop-entry l =
    l.node ≡ record l.initial.node { history = take l.entry-index l.entries }
