use Rattle.std.proofs.Common.{◌≡◌, ◌++◌, flat_map, take}
use Rattle.tase_views.specs.EventTexts.{next_name}
use Rattle.texts.proofs.events.writing.calls.put_names.Given as goal

abbrev pub invariant-loop-name : goal.invariant-loop-name
invariant-loop-name l =
    l.out.items ≡ l.initial.out.items ++ flat_map next_name (take l.name-index l.names)
