use Rattle.std.proofs.Common.{flat_map, take}
use Rattle.outside.specs.Sink.{AppendsAll}
use Rattle.texts.specs.Orders.PlantLines.{plant_line}
use Rattle.texts.proofs.orders.plant_line.write_orders.Given as goal

abbrev pub invariant-loop-order : goal.invariant-loop-order
invariant-loop-order g l =
    AppendsAll (g.K.Sink.told l.fn.plant) (g.K.Sink.told l.plant)
    (flat_map (plant_line l.fn.centre) (take l.order-index l.fn.orders))
