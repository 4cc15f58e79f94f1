use Rattle.std.proofs.Common.{arith}
use Rattle.node_journal.proofs.LinesCut.{sum-lines}
use Rattle.node_journal.proofs.pages.Pages.weight.Goals as goal

pub returns : goal.returns
returns c =
    let its = c.self.inside in
    let all = sum-lines 0 its.text.items its.ends.items (rw (← its.text.ok.0) c.self.invariant) in
    rw (← c.self.view_is) (omega (arith, c.len.ensures, its.text.ok.0, all))
