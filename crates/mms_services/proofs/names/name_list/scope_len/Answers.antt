use Rattle.std.proofs.Common.{◌+◌, ◌∙◌, sym, ap, length}
use Rattle.ber_values.specs.Writing.{length_octets}
use Rattle.mms_data.proofs.NameWritten.{visible-size}
use Rattle.mms_services.specs.Names.NameLists.{scope_octets}
use Rattle.mms_services.proofs.names.name_list.scope_len.Goals as goal

pub returns-in-Vmd-clause-value : goal.returns-in-Vmd-clause-value
unfolding length_octets
returns-in-Vmd-clause-value c = ap (λ s. length (scope_octets s)) (sym c.in-Vmd.is)

pub returns-in-Domain-clause-value : goal.returns-in-Domain-clause-value
returns-in-Domain-clause-value c =
    ap (λ os. 2 + length os) c.as_slice.ensures.value
    ∙ sym (visible-size 129 c.in-Domain.domain c.as_slice.ensures.visible)
    ∙ ap (λ s. length (scope_octets s)) (sym c.in-Domain.is)

pub returns-in-Association-clause-value : goal.returns-in-Association-clause-value
unfolding length_octets
returns-in-Association-clause-value c = ap (λ s. length (scope_octets s)) (sym c.in-Association.is)
