use Rattle.std.proofs.Common.{◌≡◌, ◌++◌, flat_map, take}
use Rattle.texts.specs.Events.ReplyTexts.{result_text}
use Rattle.texts.proofs.events.writing.replies.put_results.Given as goal

abbrev pub invariant-loop-outcome : goal.invariant-loop-outcome
invariant-loop-outcome l =
    l.out.items ≡ l.initial.out.items ++ flat_map result_text (take l.outcome-index l.outcomes)
