use Rattle.std.proofs.Common.{sym, ◌∙◌, pos}
use Rattle.ber_values.proofs.Written.{length-integer_octets}
use Rattle.ber_values.proofs.lengths.natural_len.Goals as goal

pub returns-clause-value : goal.returns-clause-value
returns-clause-value c = c.size_of_number.ensures.value ∙ sym (length-integer_octets (pos c.args.value))
