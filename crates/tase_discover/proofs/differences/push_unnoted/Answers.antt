use Rattle.std.proofs.Common.{◌++◌, Bool, not, List, ℕ, filter, sym, ap, ◌∙◌, take_all, arith}
use Rattle.std.proofs.lemmas.List.Folds.{flat_map-map}
use Rattle.plain_text.specs.Extends.{Extends}
use Rattle.tase_discover.specs.Listings.{missing_line, named_in}
use Rattle.tase_discover.specs.Noted.{is_noted}
use Rattle.tase_discover.proofs.Lines.{kept_lines}
use Rattle.tase_discover.proofs.Differing.{begins_with}
use Rattle.tase_discover.proofs.Held.{whatever}
use Rattle.tase_discover.proofs.differences.push_unnoted.Goals as goal

pub returns-in_err-push_missing_line-clause-err : goal.returns-in_err-push_missing_line-clause-err
returns-in_err-push_missing_line-clause-err c =
    whatever (Extends c.args.shown.now.items c.push_missing_line.new.shown.items)
    c.from_residual.result
    (begins_with c.args.shown.now.items c.loop-item.shown.items _
    c.push_missing_line.new.shown.items c.loop-item.invariant c.in_err-push_missing_line.ensures.err)

pub returns-clause-ok : goal.returns-clause-ok
returns-clause-ok c =
    let scope = c.args.scope.now in
    let test : List ℕ → Bool = λ item. not (is_noted c.args.noted.now item) in
    c.loop-item.invariant
    ∙ ap (λ (items : List (List ℕ)). c.args.shown.now.items
    ++ kept_lines test (λ item. missing_line (named_in scope item)) items)
    (take_all c.loop-item.item-index c.args.items.now (omega arith))
    ∙ ap (λ (os : List ℕ). c.args.shown.now.items ++ os)
    (sym (flat_map-map missing_line (named_in scope) (filter test c.args.items.now)))
