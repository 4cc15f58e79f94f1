-- What a history weighs.
use Rattle.std.specs.Prelude.{ℕ, ◌+◌, [], ◌∷◌, length}
use Rattle.plain_text.specs.Lengths.{capped_len}
use Rattle.tase_views.specs.declared.event.EventKind.{EventKind}
use Rattle.tase_views.specs.History.{Past}
use Rattle.tase_views.specs.EventTexts.{event_text}

-- the length of an event's text, or 2^62 where that is longer
abbrev pub weight : EventKind → ℕ
weight event = capped_len (length (event_text event))

-- the sum of the weights of a history's events
abbrev pub weight_of : Past → ℕ
weight_of [] = 0
weight_of (entry ∷ past) = weight entry.event + weight_of past
