use Rattle.std.proofs.Common.{◌≡◌, rules, refl, ap, ◌∙◌}
use Rattle.std.specs.Arc.{arc_value}
use Rattle.outside.specs.Links.Jobs.{SpawnerTold}
use Rattle.node_server.specs.Turn.Logged.{turn_log}
use Rattle.server_main.specs.Run.Accepting.{accepting}
use Rattle.server_main.specs.Run.Gathering.{SharedNode}
use Rattle.server_main.specs.Working.{telling, inputs_told}
use Rattle.server_main.proofs.GatheredJobs.{of-fed, of-ticked, of-own, feed-started, ticks-started}
use Rattle.server_main.proofs.GatheredJobs.{left-jobs, left-rooms, left-out, left-faults}
use Rattle.server_main.proofs.GatheredJobs.{gathers-all}
use Rattle.server_main.proofs.node_run.NodeRun.gather.Goals as goal

pub gather_feed-feed-requires-clause-of : goal.gather_feed-feed-requires-clause-of
gather_feed-feed-requires-clause-of g c κs within =
    let told = telling g.N.Link.Link.told g.S.Source.told g.C.Clock.told in
    let node = arc_value c.args.self.now.shared.now in
    let got = c.deref.result.now in
    let same : got ≡ node = search rules in
    let now = accepting c.args.seat (g.N.Listener.told c.args.listener.now)
    c.args.spawner.now.told c.args.worked.links in
    let feed = c.args.worked.feed in
    let clock = c.args.worked.clock in
    let given = c.requires.started.0 in
    let to = c.requires.started.1 in
    of-own told node got given feed clock now same to

pub gather_feed-feed-requires-clause-started : goal.gather_feed-feed-requires-clause-started
gather_feed-feed-requires-clause-started g c κs within =
    let told = telling g.N.Link.Link.told g.S.Source.told g.C.Clock.told in
    let node = arc_value c.args.self.now.shared.now in
    let got = c.deref.result.now in
    let same : got ≡ node = search rules in
    let now = accepting c.args.seat (g.N.Listener.told c.args.listener.now)
    c.args.spawner.now.told c.args.worked.links in
    let feed = c.args.worked.feed in
    let clock = c.args.worked.clock in
    let given = c.requires.started.0 in
    let to = c.requires.started.1 in
    (given.feed, feed-started told node got given feed clock now same to)

pub gather_clock-clock-requires-clause-of : goal.gather_clock-clock-requires-clause-of
gather_clock-clock-requires-clause-of g c κs within =
    let told = telling g.N.Link.Link.told g.S.Source.told g.C.Clock.told in
    let node = arc_value c.args.self.now.shared.now in
    let got = c.deref.result.now in
    let same : got ≡ node = search rules in
    let now = accepting c.args.seat (g.N.Listener.told c.args.listener.now)
    c.args.spawner.now.told c.args.worked.links in
    let feed = c.args.worked.feed in
    let clock = c.args.worked.clock in
    let given = c.requires.started.0 in
    let to = c.requires.started.1 in
    of-fed got c.args.seat c.gather_feed-feed.new.seat given.feed
    (g.S.Source.told c.gather_feed-feed.result.0) c.gather_feed-feed.result.1
    (of-own told node got given feed clock now same to)
    (c.gather_feed-feed.ensures.gathers given.feed
    (feed-started told node got given feed clock now same to))

pub gather_clock-clock-requires-clause-started : goal.gather_clock-clock-requires-clause-started
gather_clock-clock-requires-clause-started g c κs within =
    let told = telling g.N.Link.Link.told g.S.Source.told g.C.Clock.told in
    let node = arc_value c.args.self.now.shared.now in
    let got = c.deref.result.now in
    let same : got ≡ node = search rules in
    let now = accepting c.args.seat (g.N.Listener.told c.args.listener.now)
    c.args.spawner.now.told c.args.worked.links in
    let feed = c.args.worked.feed in
    let clock = c.args.worked.clock in
    let given = c.requires.started.0 in
    let to = c.requires.started.1 in (
      given.clock,
      ticks-started told node got given feed clock now same to
          c.gather_feed-feed.new.spawner.told c.gather_feed-feed.ensures.left,
    )

pub finish_links-requires-clause-of : goal.finish_links-requires-clause-of
finish_links-requires-clause-of g c κs within =
    let told = telling g.N.Link.Link.told g.S.Source.told g.C.Clock.told in
    let node = arc_value c.args.self.now.shared.now in
    let got = c.deref.result.now in
    let same : got ≡ node = search rules in
    let now = accepting c.args.seat (g.N.Listener.told c.args.listener.now)
    c.args.spawner.now.told c.args.worked.links in
    let feed = c.args.worked.feed in
    let clock = c.args.worked.clock in
    let given = c.requires.started.0 in
    let to = c.requires.started.1 in
    of-ticked got c.gather_feed-feed.new.seat c.gather_clock-clock.new.seat given.clock
    (g.C.Clock.told c.gather_clock-clock.result.0) c.gather_clock-clock.result.1
    (of-fed got c.args.seat c.gather_feed-feed.new.seat given.feed
    (g.S.Source.told c.gather_feed-feed.result.0) c.gather_feed-feed.result.1
    (of-own told node got given feed clock now same to)
    (c.gather_feed-feed.ensures.gathers given.feed
    (feed-started told node got given feed clock now same to)))
    (c.gather_clock-clock.ensures.gathers given.clock
    (ticks-started told node got given feed clock now same to
    c.gather_feed-feed.new.spawner.told c.gather_feed-feed.ensures.left))

pub finish_links-requires-clause-jobs : goal.finish_links-requires-clause-jobs
finish_links-requires-clause-jobs g c κs within =
    let told = telling g.N.Link.Link.told g.S.Source.told g.C.Clock.told in
    let node = arc_value c.args.self.now.shared.now in
    let got = c.deref.result.now in
    let same : got ≡ node = search rules in
    let now = accepting c.args.seat (g.N.Listener.told c.args.listener.now)
    c.args.spawner.now.told c.args.worked.links in
    let feed = c.args.worked.feed in
    let clock = c.args.worked.clock in
    let given = c.requires.started.0 in
    let to = c.requires.started.1 in
    left-jobs told node got given feed clock now same to c.gather_feed-feed.new.spawner.told
    c.gather_feed-feed.ensures.left c.gather_clock-clock.new.spawner.told
    c.gather_clock-clock.ensures.left

pub finish_links-requires-clause-rooms : goal.finish_links-requires-clause-rooms
finish_links-requires-clause-rooms g c κs within =
    let told = telling g.N.Link.Link.told g.S.Source.told g.C.Clock.told in
    let node = arc_value c.args.self.now.shared.now in
    let got = c.deref.result.now in
    let same : got ≡ node = search rules in
    let now = accepting c.args.seat (g.N.Listener.told c.args.listener.now)
    c.args.spawner.now.told c.args.worked.links in
    let feed = c.args.worked.feed in
    let clock = c.args.worked.clock in
    let given = c.requires.started.0 in
    let to = c.requires.started.1 in
    left-rooms told node got given feed clock now same to c.gather_feed-feed.new.spawner.told
    c.gather_feed-feed.ensures.left c.gather_clock-clock.new.spawner.told
    c.gather_clock-clock.ensures.left

pub finish_links-requires-clause-out : goal.finish_links-requires-clause-out
finish_links-requires-clause-out g c κs within =
    let told = telling g.N.Link.Link.told g.S.Source.told g.C.Clock.told in
    let node = arc_value c.args.self.now.shared.now in
    let got = c.deref.result.now in
    let same : got ≡ node = search rules in
    let now = accepting c.args.seat (g.N.Listener.told c.args.listener.now)
    c.args.spawner.now.told c.args.worked.links in
    let feed = c.args.worked.feed in
    let clock = c.args.worked.clock in
    let given = c.requires.started.0 in
    let to = c.requires.started.1 in
    left-out told node got given feed clock now same to c.gather_feed-feed.new.spawner.told
    c.gather_feed-feed.ensures.left c.gather_clock-clock.new.spawner.told
    c.gather_clock-clock.ensures.left

pub take_node-node-requires-clause-of : goal.take_node-node-requires-clause-of
take_node-node-requires-clause-of g c κs within = c.finish_links.ensures.finishes.gathers.of

pub returns-clause-gathers : goal.returns-clause-gathers
returns-clause-gathers g c = λ given to.
    let told = telling g.N.Link.Link.told g.S.Source.told g.C.Clock.told in
    let node = arc_value c.args.self.now.shared.now in
    let got = c.deref.result.now in
    let same : got ≡ node = search rules in
    let now = accepting c.args.seat (g.N.Listener.told c.args.listener.now)
    c.args.spawner.now.told c.args.worked.links in
    let feed = c.args.worked.feed in
    let clock = c.args.worked.clock in
    let second = c.gather_feed-feed.new.spawner.told in
    let third = c.gather_clock-clock.new.spawner.told in
    gathers-all told node got given feed clock now same to second c.gather_feed-feed.ensures.left
    third c.gather_clock-clock.ensures.left
    (inputs_told (g.S.Source.told c.gather_feed-feed.result.0)
    (g.C.Clock.told c.gather_clock-clock.result.0))
    c.gather_feed-feed.new.seat c.gather_clock-clock.new.seat c.finish_links.new.seat
    (g.N.Listener.told c.finish_links.new.listener) c.finish_links.new.links
    (record {
      own = c.number-own.result;
      feed = c.gather_feed-feed.result.1;
      ticks = c.gather_clock-clock.result.1;
      links = c.finish_links.new.links;
    })
    (turn_log c.take_node-node.result.history) c.jobs_are_claimed.ensures
    c.take_node-node.ensures.over
    (c.gather_feed-feed.ensures.gathers given.feed
    (feed-started told node got given feed clock now same to))
    (c.gather_clock-clock.ensures.gathers given.clock
    (ticks-started told node got given feed clock now same to second
    c.gather_feed-feed.ensures.left))
    c.finish_links.ensures.finishes c.number-own.ensures.number refl

pub returns-clause-faults : goal.returns-clause-faults
returns-clause-faults g c =
    let told = telling g.N.Link.Link.told g.S.Source.told g.C.Clock.told in
    let node = arc_value c.args.self.now.shared.now in
    let got = c.deref.result.now in
    let same : got ≡ node = search rules in
    let now = accepting c.args.seat (g.N.Listener.told c.args.listener.now)
    c.args.spawner.now.told c.args.worked.links in
    ap (λ (t : SpawnerTold _). t.faults) c.finish_links.ensures.left
    ∙ left-faults told node got c.requires.started.0 c.args.worked.feed c.args.worked.clock now same
    c.requires.started.1 c.gather_feed-feed.new.spawner.told c.gather_feed-feed.ensures.left
    c.gather_clock-clock.new.spawner.told c.gather_clock-clock.ensures.left

pub returns-clause-setup : goal.returns-clause-setup
returns-clause-setup g c =
    let same : c.deref.result.now ≡ arc_value c.args.self.now.shared.now = search rules in
    c.take_node-node.ensures.setup ∙ ap (λ (n : SharedNode). n.setup) same
