use Rattle.std.proofs.Common.{◌≡◌, ℕ, ◌∙◌, length, pos, ap, arith}
use Rattle.ber_values.specs.Writing.{integer_octets}
use Rattle.ber_values.proofs.Capped.{short-sized}
use Rattle.mms_services.specs.PduOctets.{invoke_octets}
use Rattle.mms_services.proofs.pdu.invoke_len.Goals as goal

pub returns-clause-value : goal.returns-clause-value
unfolding invoke_octets
returns-clause-value c =
    let number = integer_octets (pos c.args.invoke) in
    let is : c.natural_len.result ≡ length number =
    c.natural_len.ensures.value ∙ ap (λ (n : ℕ). length (integer_octets (pos n))) c.from.ensures in
    omega (
      arith,
      is,
      c.natural_len.ensures.few,
      short-sized 2 number (omega (arith, is, c.natural_len.ensures.few)),
    )
