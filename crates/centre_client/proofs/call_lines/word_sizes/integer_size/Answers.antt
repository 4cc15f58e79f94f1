use Rattle.std.proofs.Common.{ℤ, length, FitsSigned, rules, sym, ap, ◌∙◌}
use Rattle.std.specs.Int.{w64}
use Rattle.std.proofs.lemmas.Int.{to_z-of_z}
use Rattle.ber_values.specs.Writing.{integer_octets}
use Rattle.centre_client.proofs.ValuesSized.{integer-sized}
use Rattle.centre_client.proofs.call_lines.word_sizes.integer_size.Goals as goal

pub returns : goal.returns
returns c =
    let fits : FitsSigned w64 c.in_ok-integer.integer = search rules in
    integer-sized c.args.held.now c.in_ok-integer.integer c.integer_len.result
    c.element_len.result (sym c.read_integer.ensures ∙ c.in_ok-integer.was)
    (c.integer_len.ensures.value
    ∙ ap (λ (z : ℤ). length (integer_octets z)) (to_z-of_z w64 c.in_ok-integer.integer fits))
    c.element_len.ensures
