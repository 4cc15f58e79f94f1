use Rattle.std.proofs.Common.{◌+◌, ◌++◌, ◌∙◌, ap, length}
use Rattle.std.specs.Int.{w64}
use Rattle.std.proofs.lemmas.Int.{to_z-of_z}
use Rattle.ber_values.specs.Writing.{written, integer_octets}
use Rattle.ber_values.proofs.WrittenParts.{element-written}
use Rattle.mms_services.specs.Names.NameLists.{class_octets}
use Rattle.ber_values.proofs.Pieces.{integer-sized}
use Rattle.mms_services.proofs.names.name_list.put_class.Goals as goal

pub returns-clause-ok : goal.returns-clause-ok
unfolding class_octets
returns-clause-ok c =
    let class = c.args.class in
    let same = to_z-of_z w64 class c.ranges.class in
    let mid = c.write_head.new.out.items in
    element-written 160 (2 + c.integer_len.result) c.args.out.now.items mid
    c.write_integer.new.out.items (written 128 (integer_octets class))
    (integer-sized 128 c.integer_len.result class
    (c.integer_len.ensures.value ∙ ap (λ z. length (integer_octets z)) same)
    c.integer_len.ensures.few) c.in_ok-write_head.ensures.ok
    (c.in_ok-write_integer.ensures.ok ∙ ap (λ z. mid ++ written 128 (integer_octets z)) same)
