use Rattle.std.specs.Arc.{arc_value}
use Rattle.server_main.proofs.OfRun.JobsBegun.{both_begun, none_begun, none_refused}
use Rattle.server_main.proofs.run.starting.Starter.begin_jobs.Goals as goal

pub returns-in-Started : goal.returns-in-Started
returns-in-Started g c =
    both_begun g.S.Source.told g.C.Clock.told (arc_value c.args.self.now.shared.now) c.args.feed
    c.args.clock c.args.seat.now c.start_feed.new.seat c.start_ticks-start.new.seat
    c.args.spawner.now.told c.start_feed.new.spawner.told
    c.start_ticks-start.new.spawner.told c.start_ticks-start.result
    c.end_beginning.result c.requires.of c.requires.none c.in-Started.ensures
    c.start_ticks-start.ensures c.end_beginning.ensures

pub returns-in-Memory : goal.returns-in-Memory
returns-in-Memory g c =
    none_begun g.S.Source.told g.C.Clock.told (arc_value c.args.self.now.shared.now) c.args.feed
    c.in-Memory.feed c.args.clock c.args.seat.now c.start_feed.new.seat
    c.args.spawner.now.told c.start_feed.new.spawner.told
    c.requires.none c.in-Memory.ensures

pub returns-in-Refused : goal.returns-in-Refused
returns-in-Refused g c =
    none_refused g.S.Source.told g.C.Clock.told (arc_value c.args.self.now.shared.now) c.args.feed
    c.in-Refused.feed c.args.clock c.args.seat.now c.start_feed.new.seat
    c.args.spawner.now.told c.start_feed.new.spawner.told
    c.requires.none c.in-Refused.ensures
