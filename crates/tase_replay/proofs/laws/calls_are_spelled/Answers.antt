use Rattle.tase_replay.proofs.CallRead.{call_in-spelled}
use Rattle.tase_replay.proofs.laws.calls_are_spelled.Goals as goal

pub returns : goal.returns
returns c = call_in-spelled
