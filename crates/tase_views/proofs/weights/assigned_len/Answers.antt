use Rattle.std.proofs.Common.{length, take, take_all, ap, ◌∙◌, arith}
use Rattle.plain_text.specs.Lengths.{capped_len}
use Rattle.mms_data.specs.Text.Texts.{name_text, data_text}
use Rattle.tase_views.specs.EventTexts.{assigned_text}
use Rattle.tase_views.proofs.TextLengths.{length-assigned}
use Rattle.tase_views.proofs.weights.assigned_len.Goals as goal

pub loop-place-preserved : goal.loop-place-preserved
loop-place-preserved c =
    omega (
      arith,
      c.add_len-len.ensures,
      c.add_len.ensures,
      c.loop-place.invariant,
      c.name_text_len.ensures.exact,
      c.data_text_len-value.ensures,
      length-assigned c.args.names.now c.args.values.now c.loop-place.place
          c.index-names-place.result c.index-values-place.result (omega arith) (omega arith),
      ap (λ n. length (name_text n)) c.index-names-place.is,
      ap (λ v. length (data_text v)) c.index-values-place.is,
    )

pub returns : goal.returns
returns c =
    c.loop-place.invariant
    ∙ ap (λ ns. capped_len (length (assigned_text ns (take c.loop-place.place c.args.values.now))))
    (take_all c.loop-place.place c.args.names.now (omega arith))
    ∙ ap (λ vs. capped_len (length (assigned_text c.args.names.now vs)))
    (take_all c.loop-place.place c.args.values.now (omega arith))
