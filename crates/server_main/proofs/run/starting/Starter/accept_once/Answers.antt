use Rattle.std.proofs.Common.{rules, ◌≡◌, ◌+◌}
use Rattle.std.specs.Arc.{arc_value}
use Rattle.server_main.proofs.OfRun.Settled.{accepted-link}
use Rattle.server_main.proofs.run.starting.Starter.accept_once.Goals as goal

pub returns-in-Link : goal.returns-in-Link
returns-in-Link g c =
    let taken : c.take_room.new.self
    ≡ record c.args.links.now { rooms = c.args.links.now.rooms + 1 } = search rules in
    record {
      accepts = accepted-link g.N.Link.Link.told (arc_value c.args.self.now.shared.now)
          c.args.seat.now c.start_link-start.new.seat (g.N.Listener.told c.args.listener.now)
          (g.N.Listener.told c.accept.new.self) (g.N.Listener.told c.settle_link.new.listener)
          c.args.spawner.now.told c.start_link-start.new.spawner.told
          c.args.links.now c.take_room.new.self c.settle_link.new.links c.in-Link.link
          c.start_link-start.result c.settle_link.result c.in-Link.ensures.accepts taken
          c.start_link-start.ensures c.settle_link.ensures;
    }
