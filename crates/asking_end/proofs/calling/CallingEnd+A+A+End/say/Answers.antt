use Rattle.asking_end.proofs.Turned.{conclude_few}
use Rattle.asking_end.proofs.calling.CallingEnd+A+A+End.say.Goals as goal

pub say-requires-clause-few : goal.say-requires-clause-few
say-requires-clause-few g c = conclude_few
