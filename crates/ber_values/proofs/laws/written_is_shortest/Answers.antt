use Rattle.ber_values.proofs.Shortest.{length_shortest, integer_shortest}
use Rattle.ber_values.proofs.laws.written_is_shortest.Goals as goal

pub returns-clause-lengths : goal.returns-clause-lengths
returns-clause-lengths c = length_shortest

pub returns-clause-integers : goal.returns-clause-integers
returns-clause-integers c = integer_shortest
