use Rattle.std.proofs.Common.{◌∙◌}
use Rattle.ber_values.specs.Writing.{written}
use Rattle.ber_values.proofs.Capped.{capped-written}
use Rattle.mms_data.specs.NameOctets.{name_octets}
use Rattle.mms_services.specs.Access.Specifications.{variable_octets}
use Rattle.mms_services.proofs.access.spec.variable_len.Goals as goal

pub returns : goal.returns
unfolding variable_octets
returns c =
    let name = name_octets c.args.name.now in
    let inner = c.part_len.ensures ∙ capped-written 160 c.name_len.result name c.name_len.ensures in
    c.part_len-2.ensures ∙ capped-written 48 c.part_len.result (written 160 name) inner
