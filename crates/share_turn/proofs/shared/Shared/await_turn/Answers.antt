use Rattle.std.proofs.Common.{rules, ap, ◌∙◌}
use Rattle.share_turn.proofs.Turning.{reads_turn, takes_out}
use Rattle.share_turn.proofs.shared.Shared.await_turn.Goals as goal

pub load-found-requires : goal.load-found-requires
load-found-requires g c = (
  search rules,
  search rules,
  reads_turn g.O.Object.setup g.O.Object.history
      (g.O.Object.setup c.self.inside.table.shared.key.value) _ _ _ c.args.ticket
      (ap (λ m. m.0.phase) c.loop.invariant.1 ∙ c.requires.waits.0),
)

pub load-requires : goal.load-requires
load-requires g c =
    let now = (c.load-found.ensures.2 c.args.ticket
    (ap (λ m. m.0.phase) c.loop.invariant.1 ∙ c.requires.waits.0)).0 c.if-found-ticket.true in (
      search rules,
      search rules,
      takes_out g.O.Object.setup g.O.Object.history
          (g.O.Object.setup c.self.inside.table.shared.key.value) _ _ _ c.args.ticket
          (ap (λ m. m.0.phase) now) (ap (λ m. m.1) now
          ∙ (ap (λ m. m.1) c.loop.invariant.1 ∙ c.requires.waits.1)),
    )
