use Rattle.std.proofs.Common.{◌∙◌}
use Rattle.ber_values.proofs.Capped.{capped-written}
use Rattle.mms_data.specs.NameOctets.{name_octets}
use Rattle.mms_services.specs.Access.Specifications.{spec_octets}
use Rattle.mms_services.proofs.access.spec.set_len.Goals as goal

pub returns : goal.returns
unfolding spec_octets
returns c =
    c.part_len.ensures
    ∙ capped-written 161 c.name_len.result (name_octets c.args.name.now) c.name_len.ensures
