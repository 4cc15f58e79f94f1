use Rattle.std.proofs.Common.{sym, ◌∙◌}
use Rattle.job_threads.specs.Starting as own
use Rattle.job_threads.proofs.Settling.{MakesRoom-due, MakesRoom-none}
use Rattle.job_threads.proofs.spawner.make_room.Goals.{then-is_due, else-is_due}
use Rattle.job_threads.proofs.spawner.make_room.Goals as goal

pub returns-clause-makes : goal.returns-clause-makes
returns-clause-makes g c =
    let old = c.args.jobs.now.items in
    let due = own.is_due c.args.starts c.args.threads.now in
    elim c.if-is_due.branch [
      | then-is_due w ↦ MakesRoom-due g.T.Running.over due old c.if-is_due.jobs.items
          w.settle_all.new.jobs.items (sym c.is_due.ensures ∙ w.if-is_due.true) (cc)
          w.settle_all.ensures.settles
      | else-is_due w ↦ MakesRoom-none g.T.Running.over due old c.if-is_due.jobs.items
          (sym c.is_due.ensures ∙ w.if-is_due.false) (cc)
    ]
