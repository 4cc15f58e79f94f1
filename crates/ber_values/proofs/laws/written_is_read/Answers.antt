use Rattle.ber_values.proofs.Written.{element_written}
use Rattle.ber_values.proofs.laws.written_is_read.Goals as goal

pub returns : goal.returns
returns c = element_written
