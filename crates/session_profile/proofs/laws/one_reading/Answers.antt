use Rattle.session_profile.proofs.Spdus.{spdu_one_reading}
use Rattle.session_profile.proofs.laws.one_reading.Goals as goal

pub returns : goal.returns
returns c = spdu_one_reading
