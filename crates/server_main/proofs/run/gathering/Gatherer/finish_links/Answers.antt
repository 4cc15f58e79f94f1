use Rattle.std.proofs.Common.{arith}
use Rattle.server_main.specs.Run.Gathering.{gathering}
use Rattle.server_main.proofs.OfRun.LinksDone.{jobs-left, out-left, same-left, pending-more, takes-of}
use Rattle.server_main.proofs.OfRun.LinksDone.{goes-on, all-done}
use Rattle.server_main.proofs.run.gathering.Gatherer.finish_links.Goals as goal

pub loop-done-preserved : goal.loop-done-preserved
loop-done-preserved g c =
    let node = c.args.self.now.shared.now in
    let told = c.loop-done.spawner.told in
    let later = c.finish_thread.new.spawner.told in
    let done = c.in-Some.done in
    let back = c.take_link-link.result.0 in
    let linked = c.take_link-link.result.1 in
    let more = pending-more g.N.Link.Link.told g.S.Source.told g.C.Clock.told node told later done
    c.in-Some.ensures in
    record {
      of = takes-of g.N.Link.Link.told g.S.Source.told g.C.Clock.told node c.loop-done.seat
          c.take_link-link.new.seat done back linked c.take_link-link.ensures;
      jobs = jobs-left g.N.Link.Link.told g.S.Source.told g.C.Clock.told node told later done
          c.in-Some.ensures c.loop-done.invariant.jobs;
      rooms = omega (arith, more, c.loop-done.invariant.rooms, c.note.ensures.rooms);
      out = out-left g.N.Link.Link.told g.S.Source.told g.C.Clock.told node told later done
          (g.N.Link.Link.told back) (g.N.Listener.told c.loop-done.listener)
          (g.N.Listener.told c.retire.new.self) c.in-Some.ensures c.retire.ensures.retires
          c.loop-done.invariant.out;
      same = same-left g.N.Link.Link.told g.S.Source.told g.C.Clock.told node
          c.args.spawner.now.told told later done c.in-Some.ensures
          c.loop-done.invariant.same;
      goes = λ after rest. c.loop-done.invariant.goes after
          (goes-on g.N.Link.Link.told g.S.Source.told g.C.Clock.told node told later done
          (gathering c.loop-done.seat (g.N.Listener.told c.loop-done.listener) c.loop-done.links)
          c.take_link-link.new.seat back linked (g.N.Listener.told c.retire.new.self)
          c.note.new.self.seats after c.in-Some.ensures c.loop-done.invariant.jobs
          c.take_link-link.ensures c.retire.ensures.retires c.note.ensures.seats rest);
    }

pub returns-clause-finishes : goal.returns-clause-finishes
returns-clause-finishes g c =
    let now = gathering c.loop-done.seat (g.N.Listener.told c.loop-done.listener)
    c.loop-done.links in
    c.loop-done.invariant.goes now
    (all-done g.N.Link.Link.told g.S.Source.told g.C.Clock.told c.args.self.now.shared.now
    c.loop-done.spawner.told now c.in_default.ensures.0
    c.loop-done.invariant.of)
