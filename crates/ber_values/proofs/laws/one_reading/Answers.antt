use Rattle.ber_values.proofs.Elements.{element_one_reading}
use Rattle.ber_values.proofs.laws.one_reading.Goals as goal

pub returns : goal.returns
returns c = element_one_reading
