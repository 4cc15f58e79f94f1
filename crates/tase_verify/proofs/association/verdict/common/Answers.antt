use Rattle.std.proofs.Common.{ℕ, List, ◌∙◌, ap, drop, arith}
use Rattle.std.proofs.lemmas.List.{drop_all}
use Rattle.tase_verify.specs.Association.Verdicts as verdicts
use Rattle.tase_verify.proofs.OfAssociation.Fronts.{common_none}
use Rattle.tase_verify.proofs.association.verdict.common.Goals as goal

pub returns-else-place-want : goal.returns-else-place-want
returns-else-place-want c =
    let place = c.loop-place.place in
    let none = ap (λ (os : List ℕ). verdicts.common (drop place c.args.got.now) os)
    (drop_all place c.args.want.now c.if-place-want.false)
    ∙ common_none (drop place c.args.got.now) in
    let same = c.loop-place.invariant.same in
    omega (arith, none, same)
