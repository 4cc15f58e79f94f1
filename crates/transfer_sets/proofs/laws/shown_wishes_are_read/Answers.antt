use Rattle.transfer_sets.proofs.Readings.{shown_read}
use Rattle.transfer_sets.proofs.laws.shown_wishes_are_read.Goals as goal

pub returns : goal.returns
returns c = shown_read
