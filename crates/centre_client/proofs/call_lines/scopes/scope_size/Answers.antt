use Rattle.centre_client.proofs.NamesSized.{vmd-scoped, domain-scoped, association-scoped}
use Rattle.centre_client.proofs.call_lines.scopes.scope_size.Goals as goal

pub returns-in-Vmd : goal.returns-in-Vmd
returns-in-Vmd c = vmd-scoped c.args.scope.now c.in-Vmd.is

pub returns-in-Domain : goal.returns-in-Domain
returns-in-Domain c =
    domain-scoped c.args.scope.now c.in-Domain.domain c.text_size.result c.part_len.result
    c.in-Domain.is c.text_size.ensures.value c.text_size.ensures.few c.part_len.ensures

pub returns-in-Association : goal.returns-in-Association
returns-in-Association c = association-scoped c.args.scope.now c.in-Association.is
