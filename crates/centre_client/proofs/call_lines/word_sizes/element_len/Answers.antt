use Rattle.std.proofs.Common.{◌∙◌}
use Rattle.ber_values.proofs.Capped.{capped-element}
use Rattle.centre_client.proofs.call_lines.word_sizes.element_len.Goals as goal

pub returns : goal.returns
returns c = c.part_len.ensures ∙ capped-element c.min.result c.args.len c.min.ensures
