use Rattle.std.proofs.Common.{◌≡◌, ℕ, ◌∙◌, length, pos, ap, arith}
use Rattle.std.proofs.lemmas.List.{length-append}
use Rattle.ber_values.specs.Writing.{written, integer_octets}
use Rattle.ber_values.proofs.Capped.{short-sized}
use Rattle.mms_services.specs.Names.Deletes.{delete_response_octets}
use Rattle.mms_services.proofs.names.delete.delete_response_len.Goals as goal

pub returns-clause-value : goal.returns-clause-value
unfolding delete_response_octets
returns-clause-value c =
    let r = c.args.response.now in
    let matched = integer_octets (pos r.matched) in
    let deleted = integer_octets (pos r.deleted) in
    let one : c.natural_len.result ≡ length matched =
    c.natural_len.ensures.value ∙ ap (λ (n : ℕ). length (integer_octets (pos n))) c.from.ensures in
    let two : c.natural_len-2.result ≡ length deleted =
    c.natural_len-2.ensures.value ∙ ap (λ (n : ℕ). length (integer_octets (pos n))) c.from-2.ensures in
    omega (
      arith,
      one,
      two,
      short-sized 128 matched (omega (arith, one, c.natural_len.ensures.few)),
      short-sized 129 deleted (omega (arith, two, c.natural_len-2.ensures.few)),
      length-append (written 128 matched) (written 129 deleted),
    )
