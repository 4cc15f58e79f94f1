use Rattle.std.proofs.Common.{rules, sym, subst}
use Rattle.share_turn.specs.Steps.{ClaimsHold}
use Rattle.share_turn.proofs.Turning.{puts_back, publishes}
use Rattle.share_turn.proofs.shared.Shared.put_back.Goals as goal

pub load-requires : goal.load-requires
load-requires g c = (
  search rules,
  search rules,
  puts_back g.O.Object.setup g.O.Object.history
      (g.O.Object.setup c.self.inside.table.shared.key.value) _ _ _ c.args.ticket c.args.object
      (search rules) (search rules) (search rules),
)

pub store-requires : goal.store-requires
store-requires g c = (
  search rules,
  search rules,
  publishes g.O.Object.setup g.O.Object.history
      (g.O.Object.setup c.self.inside.table.shared.key.value) _ _ _ c.args.ticket (search rules),
)

pub returns-clause-told : goal.returns-clause-told
returns-clause-told g c = let told = (c.load.ensures.2 c.args.ticket c.args.object (search rules)
    (search rules)).1 in
    subst (λ m. ClaimsHold m.0) (sym (c.store.ensures.2 c.args.ticket (search rules))) told
