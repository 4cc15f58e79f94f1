use Rattle.server_main.proofs.OfRun.Whole.{all-claimed}
use Rattle.server_main.proofs.run.laws.jobs_are_claimed.Goals as goal

pub returns : goal.returns
returns c = λ node own after feed ticks served of jobs.
    all-claimed node own after feed ticks served of jobs
