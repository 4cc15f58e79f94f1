use Rattle.std.proofs.Common.{◌∙◌}
use Rattle.ber_values.proofs.Capped.{capped-element}
use Rattle.mms_data.proofs.data.octets.element_len.Goals as goal

pub returns : goal.returns
returns c = c.part_len.ensures ∙ capped-element c.min.result c.args.len c.min.ensures
