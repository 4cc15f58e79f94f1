use Rattle.std.proofs.Common.{◌+◌, ◌∙◌, sym, ap, length}
use Rattle.mms_data.proofs.NameWritten.{visible-size}
use Rattle.mms_services.specs.Names.NameLists.{after_octets}
use Rattle.mms_services.proofs.names.name_list.after_len.Goals as goal

pub returns-in-Some-clause-value : goal.returns-in-Some-clause-value
returns-in-Some-clause-value c =
    ap (λ os. 2 + length os) c.as_slice.ensures.value
    ∙ sym (visible-size 130 c.in-Some.name c.as_slice.ensures.visible)
    ∙ ap (λ a. length (after_octets a)) (sym c.in-Some.is)
