use Rattle.session_profile.proofs.Written.{written_spelled}
use Rattle.session_profile.proofs.laws.written_is_read.Goals as goal

pub returns : goal.returns
returns c = written_spelled
