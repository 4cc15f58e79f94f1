use Rattle.std.proofs.Common.{◌++◌, length, ap, ◌∙◌, arith}
use Rattle.ber_values.specs.Lengths.{capped}
use Rattle.mms_data.proofs.DataLengths.{container-written, few_contents}
use Rattle.mms_services.specs.Access.Specifications.{variables_octets, spec_octets}
use Rattle.mms_services.proofs.access.spec.put_list.Goals as goal

pub put_variables-requires : goal.put_variables-requires
unfolding spec_octets
put_variables-requires c =
    let names = variables_octets c.args.names.now in
    omega (
      arith,
      c.requires,
      few_contents 160 names,
      ap (λ xs. length (variables_octets xs)) c.as_slice-2.ensures,
    )

pub returns-clause-ok : goal.returns-clause-ok
unfolding spec_octets
returns-clause-ok c =
    let names = variables_octets c.args.names.now in
    container-written 160 c.variables_len.result c.args.out.now.items
    c.write_head.new.out.items c.put_variables.new.out.items names
    (c.variables_len.ensures ∙ ap (λ xs. capped (length (variables_octets xs))) c.as_slice.ensures)
    (omega (arith, c.requires, few_contents 160 names)) c.in_ok-write_head.ensures.ok
    (c.in_ok-put_variables.ensures.ok
    ∙ ap (λ xs. c.write_head.new.out.items ++ variables_octets xs) c.as_slice-2.ensures)
