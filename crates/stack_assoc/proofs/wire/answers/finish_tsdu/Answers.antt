use Rattle.std.proofs.Common.{ℕ, List, ap, ◌∙◌}
use Rattle.session_profile.specs.declared.spdu.Spdu.TheVariants.{Finish}
use Rattle.session_profile.specs.Writing.{written_form}
use Rattle.stack_assoc.specs.Wire.Tsdus.{finish_tsdu}
use Rattle.stack_assoc.proofs.OfWire.Fits.{finish-fits}
use Rattle.stack_assoc.proofs.OfWire.Layered.{fits_as}
use Rattle.stack_assoc.proofs.wire.answers.finish_tsdu.Goals as goal

pub returns-clause-value : goal.returns-clause-value
unfolding finish_tsdu
returns-clause-value c = c.in_ok-tsdu.ensures ∙ ap (λ (os : List ℕ). written_form Finish os)
    (c.as_slice.ensures.value ∙ c.in_ok-data.ensures.value)

pub returns-clause-fits : goal.returns-clause-fits
unfolding finish_tsdu
returns-clause-fits c = fits_as c.in_ok-tsdu.tsdu.items (finish_tsdu c.args.acse)
    (c.in_ok-tsdu.ensures ∙ ap (λ (os : List ℕ). written_form Finish os)
    (c.as_slice.ensures.value ∙ c.in_ok-data.ensures.value))
    (finish-fits c.args.acse)
