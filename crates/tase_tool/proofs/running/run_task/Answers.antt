use Rattle.std.proofs.Common.{refl, sym, subst, Some, Ok, Err}
use Rattle.commands.specs.Words.Words.{task_of, IsLimited}
use Rattle.tase_tool.specs.Running.{RunsTexts}
use Rattle.tase_tool.specs.Lacking.{LacksFor}
use Rattle.tase_tool.specs.declared.running.Waiting.TheVariants.{Serve, Client, Discover}
use Rattle.tase_tool.proofs.running.run_task.Goals as goal

pub returns-in-Replay-clause-runs : goal.returns-in-Replay-clause-runs
returns-in-Replay-clause-runs g c =
    subst (λ command. RunsTexts (Some (task_of command)) (g.O.Outside.told c.args.outside.now)
    (g.O.Outside.told c.run_replay.new.outside) (Ok c.run_replay.result))
    (sym c.in-Replay.is) c.run_replay.ensures.runs

pub returns-in-Serve-clause-runs : goal.returns-in-Serve-clause-runs
returns-in-Serve-clause-runs g c =
    subst (λ command. RunsTexts (Some (task_of command)) (g.O.Outside.told c.args.outside.now)
    (g.O.Outside.told c.args.outside.now) (Err (Serve c.in-Serve.words)))
    (sym c.in-Serve.is) (refl, refl)

pub returns-in-Serve-clause-limited : goal.returns-in-Serve-clause-limited
returns-in-Serve-clause-limited g c = subst IsLimited c.in-Serve.is c.requires

pub returns-in-Client-clause-runs : goal.returns-in-Client-clause-runs
returns-in-Client-clause-runs g c =
    subst (λ command. RunsTexts (Some (task_of command)) (g.O.Outside.told c.args.outside.now)
    (g.O.Outside.told c.args.outside.now) (Err (Client c.in-Client.words)))
    (sym c.in-Client.is) (refl, refl)

pub returns-in-Discover-clause-runs : goal.returns-in-Discover-clause-runs
returns-in-Discover-clause-runs g c =
    subst (λ command. RunsTexts (Some (task_of command)) (g.O.Outside.told c.args.outside.now)
    (g.O.Outside.told c.args.outside.now) (Err (Discover c.in-Discover.words)))
    (sym c.in-Discover.is) (refl, refl)

pub returns-in-Replay-clause-memory : goal.returns-in-Replay-clause-memory
returns-in-Replay-clause-memory g c =
    λ lack. subst (λ command. LacksFor (Some (task_of command))
    (g.O.Outside.told c.args.outside.now) (g.O.Outside.told c.run_replay.new.outside))
    (sym c.in-Replay.is) tt

pub returns-in-Decode-clause-memory : goal.returns-in-Decode-clause-memory
returns-in-Decode-clause-memory g c =
    λ lack. subst (λ command. LacksFor (Some (task_of command))
    (g.O.Outside.told c.args.outside.now) (g.O.Outside.told c.run_listing.new.outside))
    (sym c.in-Decode.is) (c.run_listing.ensures.memory lack)

pub returns-in-DecodePdu-clause-memory : goal.returns-in-DecodePdu-clause-memory
returns-in-DecodePdu-clause-memory g c =
    λ lack. subst (λ command. LacksFor (Some (task_of command))
    (g.O.Outside.told c.args.outside.now) (g.O.Outside.told c.run_decode.new.outside))
    (sym c.in-DecodePdu.is) (c.run_decode.ensures.memory lack)

pub returns-in-Load-clause-memory : goal.returns-in-Load-clause-memory
returns-in-Load-clause-memory g c =
    λ lack. subst (λ command. LacksFor (Some (task_of command))
    (g.O.Outside.told c.args.outside.now) (g.O.Outside.told c.run_load.new.outside))
    (sym c.in-Load.is) tt

pub returns-in-Verify-clause-memory : goal.returns-in-Verify-clause-memory
returns-in-Verify-clause-memory g c =
    λ lack. subst (λ command. LacksFor (Some (task_of command))
    (g.O.Outside.told c.args.outside.now) (g.O.Outside.told c.run_verify.new.outside))
    (sym c.in-Verify.is) (c.run_verify.ensures.memory lack)
