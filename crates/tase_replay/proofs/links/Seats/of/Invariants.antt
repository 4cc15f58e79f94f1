use Rattle.std.proofs.Common.{◌≡◌, ℕ, take}
use Rattle.tase_replay.specs.Standing.{use_by}
use Rattle.tase_replay.proofs.Seating.{used_by}
use Rattle.tase_replay.proofs.links.Seats.of.Given as goal

abbrev pub invariant-loop-place : goal.invariant-loop-place
invariant-loop-place l =
    (who : ℕ) → use_by l.seats who ≡ used_by who (take l.place l.node.history)
