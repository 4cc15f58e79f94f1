use Rattle.std.proofs.Common.{refl, sym, subst, Some, inl}
use Rattle.tase_tool.specs.Running.{RunsTask, waits_for}
use Rattle.tase_tool.proofs.running.run_waiting.Goals as goal

pub returns-in-Serve-clause-runs : goal.returns-in-Serve-clause-runs
returns-in-Serve-clause-runs g c =
    subst (λ waiting. RunsTask (Some (waits_for waiting)) (g.O.Outside.told c.args.outside.now)
    (g.O.Outside.told c.run_serve.new.outside) c.args.spawner.now.told.faults
    c.run_serve.new.spawner.told.faults c.run_serve.result)
    (sym c.in-Serve.is) (inl c.run_serve.ensures.serves)

pub returns-in-Client-clause-runs : goal.returns-in-Client-clause-runs
returns-in-Client-clause-runs g c =
    subst (λ waiting. RunsTask (Some (waits_for waiting)) (g.O.Outside.told c.args.outside.now)
    (g.O.Outside.told c.run_client_command.new.outside) c.args.spawner.now.told.faults
    c.args.spawner.now.told.faults c.run_client_command.result)
    (sym c.in-Client.is) (inl c.run_client_command.ensures, refl)

pub returns-in-Discover-clause-runs : goal.returns-in-Discover-clause-runs
returns-in-Discover-clause-runs g c =
    subst (λ waiting. RunsTask (Some (waits_for waiting)) (g.O.Outside.told c.args.outside.now)
    (g.O.Outside.told c.run_discover_command.new.outside) c.args.spawner.now.told.faults
    c.args.spawner.now.told.faults c.run_discover_command.result)
    (sym c.in-Discover.is) (inl c.run_discover_command.ensures, refl)
