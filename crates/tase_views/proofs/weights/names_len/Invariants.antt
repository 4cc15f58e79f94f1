use Rattle.std.proofs.Common.{◌≡◌, length, take}
use Rattle.std.specs.List.{flat_map}
use Rattle.plain_text.specs.Lengths.{capped_len}
use Rattle.tase_views.specs.EventTexts.{next_name}
use Rattle.tase_views.proofs.weights.names_len.Given as goal

abbrev pub invariant-loop-name : goal.invariant-loop-name
invariant-loop-name l = l.len ≡ capped_len (length (flat_map next_name (take l.name-index l.names)))
