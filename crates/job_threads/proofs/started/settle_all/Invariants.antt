use Rattle.std.proofs.Common.{◌≡◌, length}
use Rattle.job_threads.proofs.Settling.{SoFar}
use Rattle.job_threads.proofs.started.settle_all.Given as goal

abbrev pub invariant-loop-at : goal.invariant-loop-at
invariant-loop-at g l = record {
  so_far : SoFar g.T.Running.over l.at l.threads l.initial.jobs.items l.jobs.items;
  many : length l.jobs.items ≡ length l.initial.jobs.items;
}
