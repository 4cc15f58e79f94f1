use Rattle.std.proofs.Common.{◌∷◌, ◌++◌, [], ap, arith}
use Rattle.std.specs.Prelude.{decimal, length}
use Rattle.std.proofs.lemmas.List.{length-append}
use Rattle.plain_text.specs.Octets.{hex_text}
use Rattle.plain_text.proofs.TextLengths.{length-hex_text}
use Rattle.mms_data.proofs.text.text_lengths.bits_len.Goals as goal

pub returns : goal.returns
returns c =
    let bits = c.args.bits.now in
    omega (
      arith,
      c.add_len-2.ensures,
      c.add_len.ensures,
      c.hex_len.ensures,
      c.decimal_len.ensures.exact,
      ap (λ n. length (decimal n)) c.count.ensures.value,
      ap length c.octets.ensures.value,
      length-hex_text bits.octets,
      length-append (decimal bits.count ++ 46 ∷ []) (hex_text bits.octets),
      length-append (decimal bits.count) (46 ∷ []),
    )
