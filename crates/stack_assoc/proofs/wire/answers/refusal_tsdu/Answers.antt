use Rattle.std.proofs.Common.{ℕ, List, [], length, ap, ◌∙◌, arith}
use Rattle.ber_values.specs.Writing.{written}
use Rattle.acse_assoc.specs.declared.apdu.Apdu.{Apdu}
use Rattle.acse_assoc.specs.Writing.{apdu_octets}
use Rattle.session_profile.specs.declared.spdu.Spdu.TheVariants.{Refuse}
use Rattle.session_profile.specs.Writing.{written_form}
use Rattle.stack_assoc.specs.Wire.Tsdus.{carried, refusal_tsdu}
use Rattle.stack_assoc.proofs.OfWire.Fits.{refused-sized, refusal-fits}
use Rattle.stack_assoc.proofs.OfWire.Layered.{fits_as}
use Rattle.stack_assoc.proofs.wire.answers.refusal_tsdu.Goals as goal

pub carried-requires-clause-short : goal.carried-requires-clause-short
carried-requires-clause-short c = omega (
  arith,
  ap (λ (a : Apdu). length (apdu_octets a [])) c.refused.ensures,
  refused-sized,
)

pub returns-clause-value : goal.returns-clause-value
unfolding refusal_tsdu
returns-clause-value c = c.in_ok-tsdu.ensures ∙ ap (λ (os : List ℕ). written_form Refuse os)
    (c.as_slice-2.ensures.value ∙ c.in_ok-body.ensures.value
    ∙ ap (λ (os : List ℕ). written 48 os) (c.as_slice.ensures.value ∙ c.in_ok-data.ensures.value
    ∙ ap (λ (a : Apdu). carried c.args.acse a) c.refused.ensures))

pub returns-clause-fits : goal.returns-clause-fits
unfolding refusal_tsdu
returns-clause-fits c = fits_as c.in_ok-tsdu.tsdu.items (refusal_tsdu c.args.acse)
    (c.in_ok-tsdu.ensures ∙ ap (λ (os : List ℕ). written_form Refuse os)
    (c.as_slice-2.ensures.value ∙ c.in_ok-body.ensures.value
    ∙ ap (λ (os : List ℕ). written 48 os) (c.as_slice.ensures.value ∙ c.in_ok-data.ensures.value
    ∙ ap (λ (a : Apdu). carried c.args.acse a) c.refused.ensures)))
    (refusal-fits c.args.acse)
