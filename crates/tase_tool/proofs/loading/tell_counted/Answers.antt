use Rattle.std.proofs.Common.{true, sym, subst}
use Rattle.commands.specs.Io.Saying.{duty_to_say}
use Rattle.commands.specs.Io.Runs.{IsRun}
use Rattle.tase_tool.specs.Saying.{counted_at}
use Rattle.tase_tool.proofs.Counting.{IsRun-counted}
use Rattle.tase_tool.proofs.loading.tell_counted.Goals as goal

pub returns-in-Done : goal.returns-in-Done
returns-in-Done g c played kept =
    IsRun-counted played c.args.node.now.history c.args.shown.now
    (g.O.Outside.told c.args.outside.now) (g.O.Outside.told c.print_summary.new.outside)
    c.print_summary.result c.history_len.result c.text.result.now (rw c.in-Done.is at kept)
    c.history_len.ensures c.text.ensures c.print_summary.ensures

pub returns-in-BadLine : goal.returns-in-BadLine
returns-in-BadLine g c played kept =
    subst (λ end. IsRun (duty_to_say true (counted_at played end))
    (g.O.Outside.told c.args.outside.now) (g.O.Outside.told c.refuse.new.outside) c.refuse.result)
    (sym (rw c.in-BadLine.is at kept).0) c.refuse.ensures.runs

pub returns-in-Full : goal.returns-in-Full
returns-in-Full g c played kept =
    subst (λ end. IsRun (duty_to_say true (counted_at played end))
    (g.O.Outside.told c.args.outside.now) (g.O.Outside.told c.print_full.new.outside)
    c.print_full.result)
    (sym (rw c.in-Full.is at kept).0) c.print_full.ensures
