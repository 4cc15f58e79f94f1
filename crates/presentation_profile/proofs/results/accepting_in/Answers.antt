use Rattle.std.proofs.Common.{ℕ, false, length, List, [], ◌∷◌, ◌++◌, ap, subst, ◌∙◌}
use Rattle.ber_values.specs.Stops.{Answers}
use Rattle.ber_values.specs.Lists.{more_in}
use Rattle.presentation_profile.specs.Results.{one_result}
use Rattle.std.proofs.lemmas.Result.{err_from_is_err_and}
use Rattle.presentation_profile.proofs.ResultsRead.{accepting-reads, first-fails, second-fails}
use Rattle.presentation_profile.proofs.results.accepting_in.Goals as goal

pub returns-in_err-one : goal.returns-in_err-one
returns-in_err-one c =
    let p = err_from_is_err_and c.from_residual.result c.from_residual.ensures.1 in
    let part = c.args.part.now in
    rw (p.1, p.2) (first-fails part.head part.contents.now c.in_err-one.field-0.0 c.in_err-one.ensures.exact)

pub returns-in_err-two : goal.returns-in_err-two
returns-in_err-two c =
    let p = err_from_is_err_and c.from_residual-in_err-two.result c.from_residual-in_err-two.ensures.1 in
    let part = c.args.part.now in
    rw (p.1, p.2) (second-fails part.head part.contents.now c.in_ok-one.one c.in_ok-one.at c.octets_from-rest.result.now c.in_err-two.field-0.0 (rw c.octets_from-rest.ensures c.in_ok-one.ensures.exact) c.in_err-two.ensures.exact)

pub returns : goal.returns
returns c =
    let part = c.args.part.now in
    let both = c.in_ok-push-2.ensures.ok ∙ ap (λ (rs : List ℕ). rs ++ c.in_ok-two.two ∷ []) (c.in_ok-push.ensures.ok ∙ ap (λ (rs : List ℕ). rs ++ c.in_ok-one.one ∷ []) c.new-results.ensures) in
    rw (accepting-reads part.head part.contents.now c.in_ok-one.one c.in_ok-one.at c.octets_from-rest.result.now c.in_ok-two.two c.in_ok-two.next c.octets_from-rest-2.result.now (rw c.octets_from-rest.ensures c.in_ok-one.ensures.exact) (rw c.octets_from-rest-2.ensures c.in_ok-two.ensures.exact))
    (subst (λ (rs : List ℕ). Answers (λ (r : List ℕ). r) c.more_results.result (more_in (one_result false) 0 (length c.octets_from-rest-2.result.now) rs c.in_ok-two.next c.octets_from-rest-2.result.now)) both c.more_results.ensures)
