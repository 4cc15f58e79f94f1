use Rattle.std.proofs.Common.{◌≡◌, ltb, take}
use Rattle.std.specs.List.{list_any}
use Rattle.bilateral.specs.declared.rows.Table.{Table}
use Rattle.bilateral.specs.Rows.{variants_of}
use Rattle.tase_views.proofs.slots.has_slot.Given as goal

abbrev pub invariant-loop-variant : goal.invariant-loop-variant
invariant-loop-variant l =
    l.there
    ≡ list_any (λ (table : Table). ltb l.slot table.slots)
    (take l.variant (variants_of l.centre l.peer))
