use Rattle.std.proofs.Common.{arith}
use Rattle.node_journal.proofs.LinesCut.{length-lines}
use Rattle.node_journal.proofs.pages.Pages.reserve_lines.Goals as goal

pub returns-clause-ok_few : goal.returns-clause-ok_few
returns-clause-ok_few c =
    omega (
      arith,
      length-lines 0 c.reserve.new.self.items c.reserve-2.new.self.items,
      c.reserve-2.new.self.ok,
      c.reserve-2.new.self.small,
    )
