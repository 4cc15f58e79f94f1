use Rattle.std.proofs.Common.{arith}
use Rattle.mms_data.specs.NameOctets.{name_octets}
use Rattle.mms_data.proofs.DataLengths.{container-written, few_contents}
use Rattle.mms_services.specs.Access.TypesOf.{type_request_octets}
use Rattle.mms_services.proofs.access.type_of.put_type_request.Goals as goal

pub returns-clause-ok : goal.returns-clause-ok
unfolding type_request_octets
returns-clause-ok c =
    let name = name_octets c.args.request.now.name in
    container-written 160 c.name_len.result c.args.out.now.items c.write_head.new.out.items
    c.write_name.new.out.items name c.name_len.ensures
    (omega (arith, c.requires, few_contents 160 name)) c.in_ok-write_head.ensures.ok
    c.in_ok-write_name.ensures.ok
