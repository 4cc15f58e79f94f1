use Rattle.std.proofs.Common.{◌∙◌}
use Rattle.ber_values.proofs.Capped.{capped-written}
use Rattle.mms_data.specs.NameOctets.{name_octets}
use Rattle.mms_services.specs.Access.TypesOf.{type_request_octets}
use Rattle.mms_services.proofs.access.type_of.type_request_len.Goals as goal

pub returns : goal.returns
unfolding type_request_octets
returns c =
    c.part_len.ensures
    ∙ capped-written 160 c.name_len.result (name_octets c.args.request.now.name) c.name_len.ensures
