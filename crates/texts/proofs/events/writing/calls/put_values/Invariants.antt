use Rattle.std.proofs.Common.{◌≡◌, ◌++◌, flat_map, take}
use Rattle.tase_views.specs.EventTexts.{next_value}
use Rattle.texts.proofs.events.writing.calls.put_values.Given as goal

abbrev pub invariant-loop-value : goal.invariant-loop-value
invariant-loop-value l =
    l.out.items ≡ l.initial.out.items ++ flat_map next_value (take l.value-index l.values)
