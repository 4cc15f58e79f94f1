use Rattle.std.proofs.Common.{◌≡◌, ◌++◌, flat_map, take}
use Rattle.texts.specs.Events.ReplyTexts.{written_text}
use Rattle.texts.proofs.events.writing.replies.put_written.Given as goal

abbrev pub invariant-loop-result : goal.invariant-loop-result
invariant-loop-result l =
    l.out.items ≡ l.initial.out.items ++ flat_map written_text (take l.result-index l.results)
