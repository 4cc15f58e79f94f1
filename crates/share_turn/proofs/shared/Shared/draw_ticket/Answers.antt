use Rattle.std.proofs.Common.{rules, ap, ◌∙◌}
use Rattle.share_turn.proofs.Turning.{draws}
use Rattle.share_turn.proofs.shared.Shared.draw_ticket.Goals as goal

pub compare_exchange-requires : goal.compare_exchange-requires
compare_exchange-requires g c = (
  search rules,
  search rules,
  draws g.O.Object.setup g.O.Object.history (g.O.Object.setup
      c.self.inside.table.shared.key.value) _ _ _ _
      (ap (λ m. m.0.phase) c.loop.invariant.1 ∙ c.requires.rest),
)
