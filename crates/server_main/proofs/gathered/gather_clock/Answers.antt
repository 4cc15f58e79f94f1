use Rattle.std.proofs.Common.{subst}
use Rattle.server_main.specs.Run.Gathering.{TicksStarted}
use Rattle.server_main.proofs.gathered.gather_clock.Goals as goal

pub returns-in-None-clause-gathers : goal.returns-in-None-clause-gathers
returns-in-None-clause-gathers g c = λ given started. c.gather_ticks.ensures.gathers given
    (subst (λ o. TicksStarted g.C.Clock.told c.args.gatherer.now.shared.now given o
    c.args.spawner.now.told.pending) c.in-None.is started)
