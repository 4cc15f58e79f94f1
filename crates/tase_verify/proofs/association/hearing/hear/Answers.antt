use Rattle.std.proofs.Common.{◌≡◌, ◌++◌, ◌∙◌, ℕ, List, [], sym, ap, ap₂, subst, append_assoc}
use Rattle.std.proofs.Common.{rules, length}
use Rattle.std.proofs.lemmas.List.{append-nil, take-append-drop}
use Rattle.tase_verify.specs.Association.Hearing.{HearsAll}
use Rattle.tase_verify.proofs.OfAssociation.Heard.{has_heard, none_left}
use Rattle.tase_verify.proofs.association.hearing.hear.Goals as goal

pub loop-rest-preserved : goal.loop-rest-preserved
loop-rest-preserved c =
    let i = c.loop-rest.invariant in
    record {
      fed = i.fed ++ c.split_at.result.0.now;
      whole = append_assoc i.fed c.split_at.result.0.now c.split_at.result.1.now
          ∙ ap (λ (os : List ℕ). i.fed ++ os)
          (ap₂ ◌++◌ c.split_at.ensures.front c.split_at.ensures.back ∙ take-append-drop _ _)
          ∙ i.whole;
      hears = c.in_ok-hear_piece.ensures.hears i.fed i.hears.some;
      free = c.in_ok-hear_piece.ensures.free;
    }

pub returns : goal.returns
returns c =
    let i = c.loop-rest.invariant in
    let zero : length c.loop-rest.rest.now ≡ 0 = search rules in
    let none : c.loop-rest.rest.now ≡ [] = none_left c.loop-rest.rest.now zero in
    has_heard c.args.octets.now c.loop-rest.heard
    (subst (λ (os : List ℕ). HearsAll os c.loop-rest.heard)
    (sym (append-nil i.fed) ∙ ap (λ (os : List ℕ). i.fed ++ os) (sym none) ∙ i.whole) i.hears)
