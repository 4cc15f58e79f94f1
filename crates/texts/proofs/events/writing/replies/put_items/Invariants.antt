use Rattle.std.proofs.Common.{◌≡◌, ◌++◌, flat_map, take}
use Rattle.texts.specs.Events.ReplyTexts.{item_text}
use Rattle.texts.proofs.events.writing.replies.put_items.Given as goal

abbrev pub invariant-loop-name : goal.invariant-loop-name
invariant-loop-name l =
    l.out.items ≡ l.initial.out.items ++ flat_map item_text (take l.name-index l.names)
