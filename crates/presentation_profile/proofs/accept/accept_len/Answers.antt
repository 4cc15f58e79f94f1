use Rattle.presentation_profile.proofs.Sizes.{accept-sized}
use Rattle.presentation_profile.proofs.accept.accept_len.Goals as goal

pub returns-clause-value : goal.returns-clause-value
returns-clause-value c =
    accept-sized c.args.called.now c.args.results.now c.args.id c.selector_len.result
    c.results_len.result c.user_len.result c.args.body.now (c.selector_len.ensures.value 131)
    c.results_len.ensures.value c.user_len.ensures.value
