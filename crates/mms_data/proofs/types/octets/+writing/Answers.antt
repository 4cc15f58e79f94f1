-- Each component is short enough, and one component more has been written.
use Rattle.std.proofs.Common.{◌≡◌, ◌++◌, ◌∙◌, sym, ap, length, take, get_or, append_assoc, arith}
use Rattle.ber_values.proofs.Capped.{capped-written}
use Rattle.mms_data.specs.Types.TypeShape.{shapes_of, shape_depth, deepest_shape}
use Rattle.mms_data.specs.Types.ShapeWritten.{shape_octets, components_octets}
use Rattle.mms_data.proofs.OfTypes.ShapeLengths.{component_octets, component_few}
use Rattle.mms_data.proofs.OfTypes.ShapeLengths.{component_shallow, components_octets-take}
use Rattle.mms_data.proofs.OfTypes.ShapeLengths.{twice-written}
use Rattle.mms_data.proofs.types.octets.+writing.Goals as goal

pub put_component-returns-clause-ok : goal.put_component-returns-clause-ok
put_component-returns-clause-ok t c =
    let shape = shape_octets c.args.tree.now in
    let len = c.len_of-len.result in
    twice-written 48 161 len c.part_len.result c.args.out.now.items c.write_head.new.out.items
    c.write_head-2.new.out.items c.put_tree.new.out.items shape c.len_of-len.ensures.value
    (c.part_len.ensures ∙ capped-written 161 len shape c.len_of-len.ensures.value) c.requires
    c.in_ok-write_head.ensures.ok c.in_ok-write_head-2.ensures.ok c.in_ok-put_tree.ensures.ok

pub put_structure-returns-clause-ok : goal.put_structure-returns-clause-ok
put_structure-returns-clause-ok t c =
    let components = components_octets (shapes_of c.args.components.now) in
    let len = c.len_of_components-len.result in
    twice-written 162 161 len c.part_len.result c.args.out.now.items c.write_head.new.out.items
    c.write_head-2.new.out.items c.put_components.new.out.items components
    c.len_of_components-len.ensures.value
    (c.part_len.ensures ∙ capped-written 161 len components c.len_of_components-len.ensures.value)
    c.requires c.in_ok-write_head.ensures.ok c.in_ok-write_head-2.ensures.ok
    c.in_ok-put_components.ensures.ok

pub put_components-put_component-requires : goal.put_components-put_component-requires
put_components-put_component-requires t c =
    let items = c.as_slice-component-items.result.now in
    let index = c.loop-component.component-index in
    let component = c.component-item.result in
    let all : items ≡ c.args.components.now = c.as_slice-component-items.ensures in
    let few = component_few items index component c.loop-component-test.true in
    let same : length (component_octets component)
    ≡ length (component_octets (get_or items index component)) =
    ap (λ s. length (component_octets s)) c.component-item.is in
    let whole : length (components_octets (shapes_of items))
    ≡ length (components_octets (shapes_of c.args.components.now)) =
    ap (λ ss. length (components_octets (shapes_of ss))) all in
    let shallow = component_shallow items index component c.loop-component-test.true in
    let level : shape_depth component ≡ shape_depth (get_or items index component) =
    ap shape_depth c.component-item.is in
    let levels : deepest_shape (shapes_of items) ≡ deepest_shape (shapes_of c.args.components.now) =
    ap (λ ss. deepest_shape (shapes_of ss)) all in (
      omega (arith, shallow, level, levels, c.decreases),
      omega (arith, few, same, whole, c.requires),
    )

pub put_components-loop-component-preserved : goal.put_components-loop-component-preserved
put_components-loop-component-preserved t c =
    let items = c.as_slice-component-items.result.now in
    let index = c.loop-component.component-index in
    let component = c.component-item.result in
    let old = c.args.out.now.items in
    let front = components_octets (shapes_of (take index items)) in
    c.in_ok-put_component.ensures.ok
    ∙ ap (λ os. os ++ component_octets component) c.loop-component.invariant
    ∙ append_assoc old front (component_octets component)
    ∙ ap (λ os. old ++ os) (ap (λ s. front ++ component_octets s) c.component-item.is
    ∙ sym (components_octets-take items index component c.loop-component-test.true))
