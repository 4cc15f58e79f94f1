use Rattle.std.proofs.Common.{rules, ap}
use Rattle.share_turn.proofs.Seating.{splits}
use Rattle.share_turn.proofs.shared.Shared.split.Goals as goal

pub split_seat-place-requires : goal.split_seat-place-requires
split_seat-place-requires g c = (
  search rules,
  search rules,
  splits g.O.Object.setup g.O.Object.history
      (g.O.Object.setup c.self.inside.table.shared.key.value) _ _ c.draw_number-number.result
      (ap (λ m. m.0.phase) c.draw_number-number.ensures.me),
)
