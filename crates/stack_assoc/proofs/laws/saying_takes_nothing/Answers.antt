use Rattle.std.proofs.Common.{refl}
use Rattle.stack_assoc.specs.Saying.{with_standing, with_said}
use Rattle.stack_assoc.proofs.SaidMore.{stands_standing, stands_said, accepted_clear}
use Rattle.stack_assoc.proofs.laws.saying_takes_nothing.Goals as goal

pub returns-clause-standing : goal.returns-clause-standing
returns-clause-standing c = λ role octets told v standing s.
    stands_standing role octets told v (with_standing standing v) standing s refl

pub returns-clause-said : goal.returns-clause-said
returns-clause-said c = λ role octets told v pdu accepted s.
    stands_said role octets told v (with_said pdu v) pdu (accepted_clear v.fault v.standing accepted) s refl
