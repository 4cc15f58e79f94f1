-- What was said, and what is to come.
use Rattle.std.proofs.Common.{◌≡◌, ◌++◌, drop}
use Rattle.tase_conn.specs.Map.Out.{reports_said}
use Rattle.tase_verify.proofs.association.saying.Terms.reports.Given as goal

abbrev pub invariant-loop-report : goal.invariant-loop-report
invariant-loop-report l =
    l.out.items ++ reports_said l.self.stack.setup l.self.detail (drop l.report-index l.reports)
    ≡ l.initial.out.items ++ reports_said l.self.stack.setup l.self.detail l.reports
