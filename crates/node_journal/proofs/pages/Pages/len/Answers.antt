use Rattle.std.proofs.Common.{arith}
use Rattle.node_journal.proofs.LinesCut.{length-lines}
use Rattle.node_journal.proofs.pages.Pages.len.Goals as goal

pub returns : goal.returns
returns c =
    let its = c.self.inside in
    rw (← c.self.view_is) (omega (
      arith,
      c.len.ensures,
      its.ends.ok,
      length-lines 0 its.text.items its.ends.items,
    ))
