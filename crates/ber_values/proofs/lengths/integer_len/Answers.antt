use Rattle.std.proofs.Common.{◌≡◌, sym, ap, ◌∙◌}
use mir.Val.{to_z}
use Rattle.std.proofs.lemmas.Int.{to_z-of_z}
use Rattle.std.specs.Int.{w64, cast_unsigned}
use Rattle.ber_values.specs.Writing.{integer_size}
use Rattle.ber_values.proofs.Written.{length-integer_octets}
use Rattle.ber_values.proofs.lengths.integer_len.Goals as goal

pub returns-clause-value : goal.returns-clause-value
returns-clause-value c =
    let same : to_z w64 (cast_unsigned w64 c.args.value) ≡ c.args.value = to_z-of_z w64 c.args.value c.ranges.value in
    c.size_of_integer.ensures.value ∙ ap integer_size same ∙ sym (length-integer_octets c.args.value)
