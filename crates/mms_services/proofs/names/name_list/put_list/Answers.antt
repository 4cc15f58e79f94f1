use Rattle.std.proofs.Common.{◌++◌, length, ap, ◌∙◌, arith}
use Rattle.ber_values.specs.Lengths.{capped}
use Rattle.mms_data.proofs.DataLengths.{container-written, few_contents}
use Rattle.mms_services.specs.Names.NameLists.{names_octets, list_octets}
use Rattle.mms_services.proofs.names.name_list.put_list.Goals as goal

pub returns-clause-ok : goal.returns-clause-ok
unfolding list_octets
returns-clause-ok c =
    let names = names_octets c.args.names.now in
    container-written 160 c.names_len.result c.args.out.now.items
    c.write_head.new.out.items c.put_names.new.out.items names
    (c.names_len.ensures ∙ ap (λ xs. capped (length (names_octets xs))) c.as_slice.ensures)
    (omega (arith, c.requires, few_contents 160 names)) c.in_ok-write_head.ensures.ok
    (c.in_ok-put_names.ensures.ok
    ∙ ap (λ xs. c.write_head.new.out.items ++ names_octets xs) c.as_slice-2.ensures)
