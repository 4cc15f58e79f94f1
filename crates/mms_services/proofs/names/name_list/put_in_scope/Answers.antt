use Rattle.ber_values.proofs.WrittenParts.{element-written}
use Rattle.mms_services.specs.Names.NameLists.{scope_octets, in_scope_octets}
use Rattle.mms_services.proofs.names.name_list.put_in_scope.Goals as goal

pub returns-clause-ok : goal.returns-clause-ok
unfolding in_scope_octets
returns-clause-ok c =
    element-written 161 c.scope_len.result c.args.out.now.items c.write_head.new.out.items
    c.put_scope.new.out.items (scope_octets c.args.scope.now) c.scope_len.ensures.value
    c.in_ok-write_head.ensures.ok c.in_ok-put_scope.ensures.ok
