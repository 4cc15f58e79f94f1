use Rattle.std.proofs.Common.{rules, ◌≡◌, ◌∙◌, sym, ap, length}
use Rattle.std.specs.Int.{w64}
use mir.Val.{to_z, of_z}
use Rattle.ber_values.specs.Writing.{written, integer_octets}
use Rattle.mms_services.specs.Initiates.{some_integer_octets}
use Rattle.mms_services.proofs.initiate.some_integer_len.Goals as goal

pub returns-in-Some-clause-value : goal.returns-in-Some-clause-value
returns-in-Some-clause-value c tag =
    let same : to_z w64 (of_z w64 c.in-Some.value) ≡ c.in-Some.value = search rules in
    c.integer_part_len.ensures.value tag
    ∙ ap (λ z. length (written tag (integer_octets z))) same
    ∙ ap (λ v. length (some_integer_octets tag v)) (sym c.in-Some.is)
