use Rattle.tase_verify.proofs.OfAssociation.Granting.{enough_granted}
use Rattle.tase_verify.proofs.association.terms.granted_of.Goals as goal

pub returns-clause-enough : goal.returns-clause-enough
returns-clause-enough c =
    enough_granted c.args.offer.now c.negotiate.result c.negotiate.ensures.refused
    c.negotiate.ensures.granted
