use Rattle.stack_assoc.proofs.OfWire.Fixed.{laid_out}
use Rattle.stack_assoc.proofs.wire.laws.answers_are_laid_out.Goals as goal

pub returns : goal.returns
returns c = laid_out
