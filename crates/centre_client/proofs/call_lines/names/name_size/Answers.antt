use Rattle.centre_client.proofs.NamesSized.{vmd-sized, domain-sized, association-sized}
use Rattle.centre_client.proofs.call_lines.names.name_size.Goals as goal

pub returns-in-Vmd : goal.returns-in-Vmd
returns-in-Vmd c =
    vmd-sized c.args.name.now c.text_size.result c.in-Vmd.is c.text_size.ensures.value
    c.text_size.ensures.few

pub returns-in-Domain : goal.returns-in-Domain
returns-in-Domain c =
    domain-sized c.args.name.now c.in-Domain.domain c.part_len.result
    c.text_size-in-Domain.result c.text_size-in-Domain-2.result c.in-Domain.is
    c.text_size-in-Domain.ensures.value c.text_size-in-Domain-2.ensures.value
    c.text_size-in-Domain.ensures.few c.text_size-in-Domain-2.ensures.few c.part_len.ensures

pub returns-in-Association : goal.returns-in-Association
returns-in-Association c =
    association-sized c.args.name.now c.text_size-in-Association.result c.in-Association.is
    c.text_size-in-Association.ensures.value c.text_size-in-Association.ensures.few
