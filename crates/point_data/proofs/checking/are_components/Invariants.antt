use Rattle.std.proofs.Common.{◌≡◌, map, take}
use Rattle.point_data.specs.Shown.{shown_component}
use Rattle.point_data.proofs.checking.are_components.Given as goal

abbrev pub invariant-loop-place : goal.invariant-loop-place
invariant-loop-place l =
    map (shown_component l.value l.cov) (take l.place l.components) ≡ take l.place l.members
