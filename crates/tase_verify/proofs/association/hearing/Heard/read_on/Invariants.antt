-- What was heard is some of it.
use Rattle.std.proofs.Common.{◌≡◌, ℕ, List, false}
use Rattle.stack_assoc.specs.Courses.{is_offered}
use Rattle.stack_assoc.specs.Steps.{left_of}
use Rattle.tase_verify.specs.Association.Hearing.{HearsSome}
use Rattle.tase_verify.proofs.association.hearing.Heard.read_on.Given as goal

abbrev pub invariant-loop : goal.invariant-loop
invariant-loop l = record {
  free : is_offered l.self.stack.standing ≡ false;
  hears : (octets : List ℕ) → HearsSome octets l.initial.self → HearsSome octets l.self;
}

abbrev pub decreases-loop : goal.decreases-loop
decreases-loop l = left_of l.self.stack
