use Rattle.server_main.proofs.LeftTold.{left-told, left-broken}
use Rattle.server_main.proofs.telling.tell_left.Goals as goal

pub returns-in-Ok : goal.returns-in-Ok
returns-in-Ok g c = left-told c.args.centre.now c.args.node.now.setup.centre
    c.args.node.now.history c.orders_left.result.now c.args.failed (g.K.Sink.told c.args.plant.now)
    (g.K.Sink.told c.write_orders.new.plant) c.requires c.orders_left.ensures c.if-failed.false
    c.in-Ok.ensures

pub returns-in-Err : goal.returns-in-Err
returns-in-Err g c = left-broken c.args.centre.now c.args.node.now.setup.centre
    c.args.node.now.history c.orders_left.result.now c.args.failed (g.K.Sink.told c.args.plant.now)
    (g.K.Sink.told c.write_orders.new.plant) c.requires c.orders_left.ensures c.if-failed.false
    c.in-Err.ensures
