-- A structure's length, by that of its components.
use Rattle.std.proofs.Common.{◌≡◌, ◌+◌, ◌∙◌, length, take, get_or, sym, ap, arith}
use Rattle.ber_values.specs.Lengths.{capped}
use Rattle.mms_data.specs.Types.TypeShape.{structure_shape, shapes_of, shape_depth, deepest_shape}
use Rattle.mms_data.specs.Types.ShapeOf.{shape_of_kind}
use Rattle.mms_data.specs.Types.ShapeWritten.{shape_octets, components_octets, shape_len}
use Rattle.mms_data.proofs.OfTypes.ShapeLengths.{component_octets, capped-twice, capped-component}
use Rattle.mms_data.proofs.OfTypes.ShapeLengths.{component_shallow}
use Rattle.mms_data.proofs.types.octets.+lengths.Goals as goal

pub len_of-returns-in-Structure-clause-value : goal.len_of-returns-in-Structure-clause-value
len_of-returns-in-Structure-clause-value t c =
    let ss = shapes_of c.in-Structure.components in
    let e : structure_shape ss ≡ c.args.tree.now =
    sym (c.kind.ensures ∙ ap shape_of_kind c.in-Structure.is) in
    capped-twice 162 161 c.len_of_components.result c.part_len.result
    c.part_len-in-Structure.result (components_octets ss) c.len_of_components.ensures.value
    c.part_len.ensures c.part_len-in-Structure.ensures
    ∙ ap shape_len e

pub len_of_components-len_of-requires : goal.len_of_components-len_of-requires
len_of_components-len_of-requires t c =
    let items = c.as_slice-component-items.result.now in
    let component = c.component-item.result in
    let shallow = component_shallow items c.loop-component.component-index component
    c.loop-component-test.true in (
      omega (
        arith,
        c.decreases,
        shallow,
        ap shape_depth c.component-item.is,
        ap (λ ss. deepest_shape (shapes_of ss)) c.as_slice-component-items.ensures,
      ),
      tt,
    )

pub len_of_components-loop-component-preserved : goal.len_of_components-loop-component-preserved
len_of_components-loop-component-preserved t c =
    let items = c.as_slice-component-items.result.now in
    let index = c.loop-component.component-index in
    let component = c.component-item.result in
    let front = capped (length (components_octets (shapes_of (take index items)))) in
    let next = c.part_len-in-loop-component.result in
    let one : next ≡ capped (length (component_octets (get_or items index component))) =
    capped-twice 48 161 c.len_of.result c.part_len.result next (shape_octets component)
    c.len_of.ensures.value c.part_len.ensures c.part_len-in-loop-component.ensures
    ∙ ap (λ s. capped (length (component_octets s))) c.component-item.is in
    c.add_len-len.ensures
    ∙ ap (λ k. capped (k + next)) c.loop-component.invariant
    ∙ ap (λ k. capped (front + k)) one
    ∙ capped-component items index component c.loop-component-test.true
