use Rattle.std.proofs.Common.{rules, ◌≡◌, ◌∙◌}
use Rattle.std.specs.Arc.{arc_value}
use Rattle.server_main.proofs.OfRun.RoundsOn.{told-orders}
use Rattle.server_main.proofs.run.starting.Starter.tell_orders.Goals as goal

pub returns : goal.returns
returns g c =
    let same : c.deref-2.result.now ≡ arc_value c.args.self.now.shared.now = search rules in
    let lent : c.deref.result.now ≡ arc_value c.args.self.now.centre.now = search rules in
    told-orders (arc_value c.args.self.now.shared.now) c.deref-2.result.now c.deref.result.now
    c.args.seat.now c.take_orders-taken.new.seat (g.K.Sink.told c.args.plant.now)
    (g.K.Sink.told c.take_orders-taken.new.plant) c.take_orders-taken.result
    c.end_by_orders.result same (lent ∙ c.requires.centre) c.take_orders-taken.ensures.takes
    c.take_orders-taken.ensures.same c.take_orders-taken.ensures.keeps c.end_by_orders.ensures
