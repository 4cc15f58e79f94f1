use Rattle.std.proofs.Common.{◌≡◌}
use Rattle.share_turn.specs.Steps.{Stays}
use Rattle.share_turn.proofs.shared.Shared.draw_ticket.Given as goal

abbrev pub invariant-loop : goal.invariant-loop
invariant-loop g l = Stays l.initial.place l.place × (l.place.me ≡ l.initial.place.me)
