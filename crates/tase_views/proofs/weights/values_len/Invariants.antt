use Rattle.std.proofs.Common.{◌≡◌, length, take}
use Rattle.std.specs.List.{flat_map}
use Rattle.plain_text.specs.Lengths.{capped_len}
use Rattle.tase_views.specs.EventTexts.{next_value}
use Rattle.tase_views.proofs.weights.values_len.Given as goal

abbrev pub invariant-loop-value : goal.invariant-loop-value
invariant-loop-value l =
    l.len ≡ capped_len (length (flat_map next_value (take l.value-index l.values)))
