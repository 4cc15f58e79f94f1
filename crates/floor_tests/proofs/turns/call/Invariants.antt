use Rattle.share_turn.specs.Public.{IsOf}
use Rattle.floor_tests.proofs.turns.call.Given as goal

abbrev pub invariant-loop : goal.invariant-loop
invariant-loop g l = IsOf l.shared l.seat
