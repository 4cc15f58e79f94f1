use Rattle.std.proofs.Common.{◌≡◌, length, take}
use Rattle.plain_text.specs.Lengths.{capped_len}
use Rattle.tase_views.specs.EventTexts.{assigned_text}
use Rattle.tase_views.proofs.weights.assigned_len.Given as goal

abbrev pub invariant-loop-place : goal.invariant-loop-place
invariant-loop-place l =
    l.len ≡ capped_len (length (assigned_text (take l.place l.names) (take l.place l.values)))
