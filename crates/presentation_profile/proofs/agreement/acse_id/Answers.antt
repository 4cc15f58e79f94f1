use Rattle.presentation_profile.proofs.Agreeing.{acse_agreed}
use Rattle.presentation_profile.proofs.agreement.acse_id.Goals as goal

pub returns-in-Ok : goal.returns-in-Ok
returns-in-Ok c = acse_agreed c.args.contexts.now c.in-Ok.agreed
    ((c.agree.ensures.agrees c.in-Ok.agreed).0 c.in-Ok.is)
