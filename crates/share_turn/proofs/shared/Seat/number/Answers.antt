use Rattle.std.proofs.Common.{subst}
use Rattle.share_turn.specs.Entries.{Each, Keeps}
use Rattle.share_turn.proofs.Owned.{each_keeps}
use Rattle.share_turn.proofs.shared.Seat.number.Goals as goal

pub returns-clause-ended : goal.returns-clause-ended
returns-clause-ended g c = subst (λ s. Each (Keeps s.front) s.ended) c.self.view_is
    (each_keeps _ _ c.self.invariant.4.1)
