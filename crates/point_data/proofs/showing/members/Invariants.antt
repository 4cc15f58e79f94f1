use Rattle.std.proofs.Common.{◌≡◌, map, take}
use Rattle.point_data.specs.Shown.{shown_component}
use Rattle.point_data.proofs.showing.members.Given as goal

abbrev pub invariant-loop-component : goal.invariant-loop-component
invariant-loop-component l =
    l.list ≡ map (shown_component l.value l.cov) (take l.component-index l.components)
