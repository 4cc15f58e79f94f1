use Rattle.std.proofs.Common.{◌≡◌, ◌++◌, take}
use Rattle.tase_views.specs.EventTexts.{assigned_text}
use Rattle.texts.proofs.events.writing.calls.put_assigned.Given as goal

abbrev pub invariant-loop-index : goal.invariant-loop-index
invariant-loop-index l =
    l.out.items ≡ l.initial.out.items
    ++ assigned_text (take l.index l.names) (take l.index l.values)
