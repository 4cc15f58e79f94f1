use Rattle.std.proofs.Common.{◌∙◌, sym, ap, length}
use Rattle.ber_values.specs.Writing.{written}
use Rattle.mms_data.proofs.NameWritten.{domain-len}
use Rattle.mms_data.proofs.object_name.octets.name_len.Goals as goal

pub returns-in-Domain : goal.returns-in-Domain
returns-in-Domain c = domain-len c.part_len.result c.identifier_len.result
    c.identifier_len-in-Domain.result c.args.name.now.scope c.in-Domain.domain c.args.name.now.item
    c.part_len.ensures c.identifier_len.ensures.length
    (c.identifier_len-in-Domain.ensures.length
    ∙ ap (λ os. length (written 26 os)) c.item.ensures.value)
    (sym c.scope.ensures.value ∙ c.in-Domain.is)
