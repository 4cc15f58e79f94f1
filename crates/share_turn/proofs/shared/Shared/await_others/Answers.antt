use Rattle.std.proofs.Common.{rules, subst, arith}
use Rattle.share_turn.specs.Steps.{FindsNone}
use Rattle.share_turn.proofs.Looking.{looks}
use Rattle.share_turn.proofs.shared.Shared.await_others.Goals as goal

pub load-found-requires : goal.load-found-requires
load-found-requires g c = (
  search rules,
  search rules,
  looks g.O.Object.setup g.O.Object.history (g.O.Object.setup
      c.self.inside.table.shared.key.value) _ _ _,
)

pub returns-then-found-ended-clause-alone : goal.returns-then-found-ended-clause-alone
returns-then-found-ended-clause-alone g c = subst
    (λ m. FindsNone c.load-found.result m.0) c.loop.invariant.1 c.load-found.ensures.2.2
    c.args.ticket c.requires.turn (omega (
      arith,
      c.if-found-gt0.true,
      c.if-found-ended.true,
      c.requires.ended,
    ))
