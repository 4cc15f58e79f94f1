use Rattle.std.proofs.Common.{length, take_all, ap, ◌∙◌, arith}
use Rattle.std.specs.List.{flat_map}
use Rattle.plain_text.specs.Lengths.{capped_len}
use Rattle.mms_data.specs.Text.Texts.{data_text}
use Rattle.tase_views.specs.EventTexts.{next_value}
use Rattle.tase_views.proofs.TextLengths.{length-values}
use Rattle.tase_views.proofs.weights.values_len.Goals as goal

pub loop-value-preserved : goal.loop-value-preserved
loop-value-preserved c =
    omega (
      arith,
      c.add_len-len.ensures,
      c.add_len.ensures,
      c.loop-value.invariant,
      c.data_text_len.ensures,
      length-values c.args.values.now c.loop-value.value-index c.value-item.result (omega arith),
      ap (λ v. length (data_text v)) c.value-item.is,
    )

pub returns : goal.returns
returns c =
    c.loop-value.invariant
    ∙ ap (λ vs. capped_len (length (flat_map next_value vs)))
    (take_all c.loop-value.value-index c.args.values.now (omega arith))
