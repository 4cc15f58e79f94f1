use Rattle.std.proofs.Common.{sym, ◌∙◌, ap, subst, ℕ, ◌+◌, cond, arith, length-set}
use Rattle.std.proofs.Common.{set, take_all}
use Rattle.job_threads.specs.Threading.{threads_of}
use Rattle.job_threads.proofs.Settling.{SoFar, SoFar-more, FirstSettle-each, SettleEach-jobs}
use Rattle.job_threads.proofs.started.settle_all.Goals.{then-is_in_thread, else-is_in_thread}
use Rattle.job_threads.proofs.started.settle_all.Goals as goal

pub loop-at-preserved : goal.loop-at-preserved
loop-at-preserved g c =
    let over = g.T.Running.over in
    let at = c.loop-at.at in
    let threads = c.loop-at.threads in
    let old = c.args.jobs.now.items in
    let now = c.loop-at.jobs.items in
    let x = c.index_mut-job.result.now in
    let y = c.settle.new.self in
    let more = λ (n : ℕ). SoFar-more over at threads old now x y n
    c.loop-at.invariant.so_far (omega arith) (sym c.index_mut-job.ensures.value)
    c.settle.ensures in
    record {
      so_far = elim c.if-is_in_thread.branch [
        | then-is_in_thread w ↦
            subst (λ (n : ℕ). SoFar over (at + 1) n old (set now at y)) (sym w.threads-is)
            (more 1 (ap (λ b. cond b 1 0) (sym w.if-is_in_thread.true ∙ c.is_in_thread.ensures))
            (omega arith))
        | else-is_in_thread w ↦
            subst (λ (n : ℕ). SoFar over (at + 1) n old (set now at y)) (omega (arith, w.threads-is))
            (more 0 (ap (λ b. cond b 1 0) (sym w.if-is_in_thread.false ∙ c.is_in_thread.ensures))
            (omega arith))
      ];
      many = length-set now at y ∙ c.loop-at.invariant.many;
    }

pub returns-clause-settles : goal.returns-clause-settles
returns-clause-settles g c =
    FirstSettle-each g.T.Running.over c.loop-at.at c.args.jobs.now.items c.loop-at.jobs.items
    c.loop-at.invariant.so_far.settled (omega arith)

pub returns-clause-same : goal.returns-clause-same
returns-clause-same g c =
    SettleEach-jobs g.T.Running.over c.args.jobs.now.items c.loop-at.jobs.items
    (returns-clause-settles g c)

pub returns-clause-counts : goal.returns-clause-counts
returns-clause-counts g c =
    c.loop-at.invariant.so_far.counted
    ∙ ap (λ l. threads_of l) (take_all c.loop-at.at c.loop-at.jobs.items (omega arith))
