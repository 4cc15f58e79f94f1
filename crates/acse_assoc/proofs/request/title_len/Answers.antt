use Rattle.std.proofs.Common.{◌∙◌, sym, ap, length}
use Rattle.acse_assoc.specs.Writing.{title_octets}
use Rattle.acse_assoc.proofs.request.title_len.Goals as goal

pub returns-in-Some-clause-value : goal.returns-in-Some-clause-value
returns-in-Some-clause-value c =
    c.named_oid_len.ensures.value 166 ∙ ap (λ t. length (title_octets t)) (sym c.in-Some.is)
