use Rattle.std.proofs.Common.{length, take_all, ap, ◌∙◌, arith}
use Rattle.std.specs.List.{flat_map}
use Rattle.plain_text.specs.Lengths.{capped_len}
use Rattle.mms_data.specs.Text.Texts.{name_text}
use Rattle.tase_views.specs.EventTexts.{next_name}
use Rattle.tase_views.proofs.TextLengths.{length-names}
use Rattle.tase_views.proofs.weights.names_len.Goals as goal

pub loop-name-preserved : goal.loop-name-preserved
loop-name-preserved c =
    omega (
      arith,
      c.add_len-len.ensures,
      c.loop-name.invariant,
      c.name_text_len.ensures.exact,
      length-names c.args.names.now c.loop-name.name-index c.name-item.result (omega arith),
      ap (λ n. length (name_text n)) c.name-item.is,
    )

pub returns : goal.returns
returns c =
    c.loop-name.invariant
    ∙ ap (λ ns. capped_len (length (flat_map next_name ns)))
    (take_all c.loop-name.name-index c.args.names.now (omega arith))
