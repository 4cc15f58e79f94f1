use Rattle.std.proofs.Common.{pos}
use Rattle.sbo_device.specs.declared.order.Order.{Order}
use Rattle.std.proofs.lemmas.Result.{err_from_is_err_and}
use Rattle.outside.proofs.Writing.{Appends-none}
use Rattle.texts.specs.Orders.PlantLines.{plant_line}
use Rattle.texts.proofs.OfOrders.Lines.{one_more, breaks_off}
use Rattle.texts.proofs.orders.plant_line.write_orders.Goals as goal

pub returns-in_err-write_order : goal.returns-in_err-write_order
returns-in_err-write_order g c =
    let p = err_from_is_err_and c.from_residual.result c.from_residual.ensures.1 in
    let none : Order = record { device = 0; value = pos 0 } in
    rw p.1 (breaks_off (plant_line c.args.centre.now) c.args.orders.now c.loop-order.order-index
    none c.loop-order-test.true (g.K.Sink.told c.args.plant.now)
    (g.K.Sink.told c.loop-order.plant) (g.K.Sink.told c.write_order.new.plant)
    c.loop-order.invariant c.in_err-write_order.ensures)

pub loop-order-preserved : goal.loop-order-preserved
loop-order-preserved g c =
    let none : Order = record { device = 0; value = pos 0 } in
    one_more (plant_line c.args.centre.now) c.args.orders.now c.loop-order.order-index none
    c.loop-order-test.true (g.K.Sink.told c.args.plant.now) (g.K.Sink.told c.loop-order.plant)
    (g.K.Sink.told c.write_order.new.plant) c.loop-order.invariant c.in_ok-write_order.ensures

pub loop-order-init : goal.loop-order-init
loop-order-init g c = Appends-none (g.K.Sink.told c.args.plant.now)
