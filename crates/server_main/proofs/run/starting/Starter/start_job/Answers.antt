use Rattle.std.proofs.Common.{rules}
use Rattle.server_main.proofs.run.starting.Starter.start_job.Goals as goal

pub returns-in-Started : goal.returns-in-Started
returns-in-Started g c = (
  c.split-other.ensures.same,
  (
    c.job_on-job.result,
    record { works_on = c.job_on-job.ensures.input; fresh = search rules },
    c.in-Started.ensures,
  ),
)
