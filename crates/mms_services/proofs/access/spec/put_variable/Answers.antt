use Rattle.std.proofs.Common.{◌≡◌, ◌<◌, ◌++◌, length, ◌∙◌, arith}
use Rattle.ber_values.specs.Writing.{written}
use Rattle.ber_values.specs.declared.lengths.TheConstants.{MOST_LENGTH}
use Rattle.ber_values.proofs.Capped.{capped-written}
use Rattle.mms_data.specs.NameOctets.{name_octets}
use Rattle.mms_data.proofs.DataLengths.{container-written, few_contents}
use Rattle.mms_services.specs.Access.Specifications.{variable_octets}
use Rattle.mms_services.proofs.access.spec.put_variable.Goals as goal

pub returns-clause-ok : goal.returns-clause-ok
unfolding variable_octets
returns-clause-ok c =
    let name = name_octets c.args.name.now in
    let inner = written 160 name in
    let few : length inner < MOST_LENGTH = omega (arith, c.requires, few_contents 48 inner) in
    let tail : c.write_name.new.out.items ≡ c.write_head.new.out.items ++ inner =
    container-written 160 c.name_len-2.result c.write_head.new.out.items
    c.write_head-2.new.out.items c.write_name.new.out.items name c.name_len-2.ensures
    (omega (arith, few, few_contents 160 name)) c.in_ok-write_head-2.ensures.ok
    c.in_ok-write_name.ensures.ok in
    container-written 48 c.part_len.result c.args.out.now.items c.write_head.new.out.items
    c.write_name.new.out.items inner
    (c.part_len.ensures ∙ capped-written 160 c.name_len.result name c.name_len.ensures) few
    c.in_ok-write_head.ensures.ok tail
