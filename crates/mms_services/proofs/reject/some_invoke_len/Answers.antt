use Rattle.std.proofs.Common.{ℕ, ◌∙◌, sym, ap, length, pos}
use Rattle.ber_values.specs.Writing.{integer_octets}
use Rattle.mms_services.specs.Rejects.{some_invoke_octets}
use Rattle.ber_values.proofs.Pieces.{integer-sized}
use Rattle.mms_services.proofs.reject.some_invoke_len.Goals as goal

pub returns-in-Some-clause-value : goal.returns-in-Some-clause-value
returns-in-Some-clause-value c =
    integer-sized 128 c.natural_len.result (pos c.in-Some.invoke)
    (c.natural_len.ensures.value ∙ ap (λ (n : ℕ). length (integer_octets (pos n))) c.from.ensures)
    c.natural_len.ensures.few ∙ ap (λ v. length (some_invoke_octets v)) (sym c.in-Some.is)
