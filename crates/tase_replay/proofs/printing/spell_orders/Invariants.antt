use Rattle.std.proofs.Common.{◌≡◌, flat_map, take}
use Rattle.tase_replay.specs.Play.{line_of_order}
use Rattle.tase_replay.proofs.printing.spell_orders.Given as goal

abbrev pub invariant-loop-order : goal.invariant-loop-order
invariant-loop-order l =
    l.text.items ≡ flat_map (line_of_order l.fn.centre) (take l.order-index l.fn.orders)
