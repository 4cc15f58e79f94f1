use Rattle.std.proofs.Common.{ℕ, List, ap, ◌∙◌}
use Rattle.session_profile.specs.declared.spdu.Spdu.TheVariants.{Disconnect}
use Rattle.session_profile.specs.Writing.{written_form}
use Rattle.stack_assoc.specs.Wire.Tsdus.{release_tsdu}
use Rattle.stack_assoc.proofs.OfWire.Fits.{release-fits}
use Rattle.stack_assoc.proofs.OfWire.Layered.{fits_as}
use Rattle.stack_assoc.proofs.wire.answers.release_tsdu.Goals as goal

pub returns-clause-value : goal.returns-clause-value
unfolding release_tsdu
returns-clause-value c = c.in_ok-tsdu.ensures ∙ ap (λ (os : List ℕ). written_form Disconnect os)
    (c.as_slice.ensures.value ∙ c.in_ok-data.ensures.value)

pub returns-clause-fits : goal.returns-clause-fits
unfolding release_tsdu
returns-clause-fits c = fits_as c.in_ok-tsdu.tsdu.items (release_tsdu c.args.acse)
    (c.in_ok-tsdu.ensures ∙ ap (λ (os : List ℕ). written_form Disconnect os)
    (c.as_slice.ensures.value ∙ c.in_ok-data.ensures.value))
    (release-fits c.args.acse)
