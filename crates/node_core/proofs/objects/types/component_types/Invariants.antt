use Rattle.std.proofs.Common.{◌≡◌, map, take}
use Rattle.tase_views.specs.Shapes.{component_shape}
use Rattle.node_core.proofs.objects.types.component_types.Given as goal

abbrev pub invariant-loop-component : goal.invariant-loop-component
invariant-loop-component l =
    l.list ≡ map (component_shape l.kind) (take l.component-index l.components)
