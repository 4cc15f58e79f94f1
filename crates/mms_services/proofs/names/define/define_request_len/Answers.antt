use Rattle.std.proofs.Common.{◌∙◌}
use Rattle.ber_values.specs.Writing.{written}
use Rattle.mms_data.specs.NameOctets.{name_octets}
use Rattle.mms_services.specs.Access.Specifications.{variables_octets}
use Rattle.mms_services.specs.Names.Defines.{define_request_octets}
use Rattle.ber_values.proofs.Pieces.{capped-both}
use Rattle.mms_services.proofs.names.define.define_request_len.Goals as goal

pub returns : goal.returns
unfolding define_request_octets
returns c =
    let r = c.args.request.now in
    c.add_len.ensures ∙ capped-both c.name_len.result c.members_len.result (name_octets r.set)
    (written 160 (variables_octets r.members)) c.name_len.ensures (c.members_len.ensures.value 160)
