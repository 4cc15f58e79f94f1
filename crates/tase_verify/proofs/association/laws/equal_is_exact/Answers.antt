use Rattle.tase_verify.proofs.OfAssociation.Exactly.{equal_exactly}
use Rattle.tase_verify.proofs.association.laws.equal_is_exact.Goals as goal

pub returns : goal.returns
returns c = λ rows past key octets ended sent entered asked.
    equal_exactly rows past key octets ended sent entered asked
