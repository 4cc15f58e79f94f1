-- A component has fewer levels than what holds it, and one more is copied.
use Rattle.std.proofs.Common.{ap, arith}
use Rattle.mms_data.specs.Types.TypeShape.{shapes_of, shape_depth, deepest_shape}
use Rattle.mms_data.proofs.OfTypes.ShapeLengths.{component_shallow}
use Rattle.tase_conn.proofs.map.shapes.+trees.Goals as goal

pub components_of-tree_of-requires : goal.components_of-tree_of-requires
components_of-tree_of-requires t c =
    let items = c.as_slice-component-items.result.now in
    let component = c.component-item.result in
    let shallow = component_shallow items c.loop-component.component-index component
    c.loop-component-test.true in (
      omega (
        arith,
        c.decreases,
        shallow,
        ap shape_depth c.component-item.is,
        ap (λ ss. deepest_shape (shapes_of ss)) c.as_slice-component-items.ensures,
      ),
      tt,
    )
