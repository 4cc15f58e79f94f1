use Rattle.std.proofs.Common.{length, ap, ◌∙◌}
use Rattle.ber_values.specs.Lengths.{capped}
use Rattle.ber_values.proofs.Capped.{capped-written}
use Rattle.mms_services.specs.Names.NameLists.{names_octets, list_octets}
use Rattle.mms_services.proofs.names.name_list.list_len.Goals as goal

pub returns : goal.returns
unfolding list_octets
returns c =
    c.part_len.ensures
    ∙ capped-written 160 c.names_len.result (names_octets c.args.names.now)
    (c.names_len.ensures ∙ ap (λ xs. capped (length (names_octets xs))) c.as_slice.ensures)
