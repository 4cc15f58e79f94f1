use Rattle.std.proofs.Common.{rules, ◌≡◌, [], ◌∷◌, sym, subst, Some}
use Rattle.atomic_table.specs.Table.{opening}
use Rattle.share_turn.specs.Turns.{IsKept}
use Rattle.share_turn.specs.Steps.{starting}
use Rattle.share_turn.proofs.Turning.{opens}
use Rattle.share_turn.proofs.shared.Shared.new.Goals as goal

pub new-requires : goal.new-requires
new-requires g c =
    let setup = g.O.Object.setup c.of-about.result.value in
    let items : c.push.new.self.items ≡ Some c.args.object ∷ [] = search rules in
    let is : g.O.Object.setup c.args.object ≡ setup = search rules in
    subst (λ xs. IsKept g.O.Object.setup g.O.Object.history setup
    (opening (0 ∷ 0 ∷ 1 ∷ []) xs (starting setup))) (sym items)
    (opens g.O.Object.setup g.O.Object.history setup c.args.object c.requires is)
