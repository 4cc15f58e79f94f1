use Rattle.presentation_profile.proofs.Sizes.{connect-sized}
use Rattle.presentation_profile.proofs.connect.connect_len.Goals as goal

pub returns-clause-value : goal.returns-clause-value
returns-clause-value c =
    connect-sized c.args.called.now c.args.contexts.now c.args.id c.selector_len.result
    c.offers_len.result c.user_len.result c.args.body.now (c.selector_len.ensures.value 130)
    c.offers_len.ensures.value c.user_len.ensures.value
