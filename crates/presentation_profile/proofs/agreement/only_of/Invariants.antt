-- The only one among the offers so far.
use Rattle.std.proofs.Common.{Ok, take}
use Rattle.presentation_profile.specs.Agreements.{IsOnly, offers_of}
use Rattle.presentation_profile.proofs.agreement.only_of.Given as goal

abbrev pub invariant-loop-offer : goal.invariant-loop-offer
invariant-loop-offer l = IsOnly (offers_of l.name (take l.offer-index l.contexts)) (Ok l.only)
