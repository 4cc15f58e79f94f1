use Rattle.std.proofs.Common.{◌≡◌, ◌++◌, drop, take, length}
use Rattle.tase_conn.specs.Map.Out.{reports_said, first_too_long}
use Rattle.tase_conn.specs.Answering.{detail_at}
use Rattle.tase_conn.proofs.conn.Conn.say_reports.Given as goal

abbrev pub invariant-loop-report : goal.invariant-loop-report
invariant-loop-report l = record {
  same : l.self ≡ record l.initial.self { out = l.self.out };
  long : first_too_long (detail_at l.initial.self.stage) l.reports
      ≡ first_too_long (detail_at l.initial.self.stage) (drop l.report-index l.reports);
  said : l.initial.self.out
      ++ reports_said l.initial.self.course.setup (detail_at l.initial.self.stage) l.reports
      ≡ l.self.out ++ reports_said l.initial.self.course.setup (detail_at l.initial.self.stage)
      (drop l.report-index l.reports);
  front : take (length l.initial.self.out) l.self.out ≡ l.initial.self.out;
}
