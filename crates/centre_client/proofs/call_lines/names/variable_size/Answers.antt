use Rattle.centre_client.specs.ShortNames.{name_of}
use Rattle.centre_client.proofs.NamesSized.{variable-sized}
use Rattle.centre_client.proofs.call_lines.names.variable_size.Goals as goal

pub returns : goal.returns
returns c =
    variable-sized (name_of c.args.name.now) c.name_size.result c.part_len.result
    c.part_len-2.result c.name_size.ensures c.part_len.ensures c.part_len-2.ensures
