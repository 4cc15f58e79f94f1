use Rattle.std.proofs.Common.{rules, ◌∷◌, ap, sym, ◌∙◌, subst}
use Rattle.share_turn.specs.Entries.{Each, Keeps}
use Rattle.share_turn.proofs.Views.{told_keeps}
use Rattle.share_turn.proofs.Seating.{joins}
use Rattle.share_turn.proofs.Looking.{looks}
use Rattle.share_turn.proofs.shared.Shared.join.Goals as goal

pub join_seat-requires : goal.join_seat-requires
join_seat-requires g c = (
  search rules,
  search rules,
  search rules,
  search rules,
  joins g.O.Object.setup g.O.Object.history (g.O.Object.setup
      c.self.inside.table.shared.key.value) _ _ _ _ c.seat.invariant.2 c.other.invariant.2,
)

pub load-requires : goal.load-requires
load-requires g c = (
  search rules,
  search rules,
  looks g.O.Object.setup g.O.Object.history (g.O.Object.setup
      c.self.inside.table.shared.key.value) _ _ _,
)

pub returns-clause-all : goal.returns-clause-all
returns-clause-all g c =
    let k = c.seat.inside.place.me.0 in
    let now = c.load.new.seat.me.0 in
    let both = c.join_seat.ensures.2 in
    let told = (c.load.ensures.2.1 (λ is. absurd
    (cc (c.seat.invariant.2, ap (λ m. m.0.phase) (sym both) ∙ is)))).0 in
    let kept = subst (λ m. Each (Keeps m.0.front) ((m.0.number, m.0.before) ∷ m.0.ended)) both
    (told_keeps c.join_seat.new.seat.me.0 told) in
    subst (λ s. Each (Keeps now.front) ((s.number, s.front) ∷ now.ended)) c.seat.view_is
    (subst (λ m. Each (Keeps m.0.front) ((k.number, k.front) ∷ m.0.ended))
    (sym (c.load.ensures.2.0 ∙ both)) kept)
