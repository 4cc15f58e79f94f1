use Rattle.std.proofs.Common.{ℕ, ◌∙◌, ap, length, pos}
use Rattle.ber_values.specs.Writing.{integer_octets}
use Rattle.mms_services.proofs.ShortWritten.{error_pdu-sized}
use Rattle.mms_services.proofs.error.error_pdu_len.Goals as goal

pub returns-clause-value : goal.returns-clause-value
returns-clause-value c = error_pdu-sized c.args.error.now c.natural_len.result
    (c.natural_len.ensures.value ∙ ap (λ (n : ℕ). length (integer_octets (pos n))) c.from.ensures)
    c.natural_len.ensures.few
