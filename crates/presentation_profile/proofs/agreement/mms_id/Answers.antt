use Rattle.presentation_profile.proofs.Agreeing.{mms_agreed}
use Rattle.presentation_profile.proofs.agreement.mms_id.Goals as goal

pub returns-in-Ok : goal.returns-in-Ok
returns-in-Ok c = mms_agreed c.args.contexts.now c.in-Ok.agreed
    ((c.agree.ensures.agrees c.in-Ok.agreed).0 c.in-Ok.is)
