use Rattle.std.proofs.Common.{sym, ap, refl, ◌∙◌}
use Rattle.presentation_profile.specs.Agreements.{is_of}
use Rattle.presentation_profile.proofs.Agreeing.{only-twice}
use Rattle.presentation_profile.proofs.agreement.only_of.Goals as goal

pub returns-then-is_some : goal.returns-then-is_some
returns-then-is_some c = (
  only-twice c.args.name.now c.args.contexts.now c.loop-offer.offer-index c.offer-item.result
      c.loop-offer.only c.loop-offer-test.true
      (ap (is_of c.args.name.now) (sym c.offer-item.is) ∙ sym c.is_of.ensures ∙ c.if-is_of.true)
      (sym c.is_some.ensures ∙ c.if-is_some.true) c.loop-offer.invariant,
  refl,
)
