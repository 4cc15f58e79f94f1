-- One component more is written, behind a comma unless it is the first.
use Rattle.std.proofs.Common.{◌<◌, length, arith, append_assoc, ap}
use Rattle.std.proofs.lemmas.Grind.{common_steps}
use Rattle.mms_data.specs.Types.TypeShape.{shapes_of, shape_depth, deepest_shape}
use Rattle.mms_data.proofs.OfTypes.ShapesSpelled.{components_text-take_one}
use Rattle.mms_data.proofs.OfTypes.ShapesSpelled.{components_text-take_more}
use Rattle.mms_data.proofs.OfTypes.ShapeLengths.{component_shallow}
use Rattle.mms_data.proofs.types.spelling.+depth.Goals as goal
use Rattle.mms_data.proofs.types.spelling.+depth.Goals.{spell_components-then-index-gt0+in_ok-push}
use Rattle.mms_data.proofs.types.spelling.+depth.Goals.{spell_components-else-index-gt0}

pub spell_components-loop-index-preserved : goal.spell_components-loop-index-preserved
spell_components-loop-index-preserved t c =
    let components = c.args.components.now in
    let index = c.loop-index.index in
    let within : index < length components =
    omega (arith, ap length c.as_slice-component-items.ensures) in
    elim c.if-index-gt0.branch [
      | spell_components-then-index-gt0+in_ok-push w ↦
          let text = components_text-take_more components index c.component-item.result within
          (omega arith) in
          grind (arith, common_steps, text, append_assoc)
      | spell_components-else-index-gt0 w ↦
          let text = components_text-take_one components index c.component-item.result within
          (omega arith) in
          grind (arith, common_steps, text, append_assoc)
    ]

pub spell_components-spell-requires : goal.spell_components-spell-requires
spell_components-spell-requires t c =
    let items = c.as_slice-component-items.result.now in
    let component = c.component-item.result in
    let shallow = component_shallow items c.loop-index.index component c.loop-index-test.true in (
      omega (
        arith,
        c.decreases,
        shallow,
        ap shape_depth c.component-item.is,
        ap (λ ss. deepest_shape (shapes_of ss)) c.as_slice-component-items.ensures,
      ),
      tt,
    )
