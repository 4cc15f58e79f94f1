use Rattle.std.proofs.Common.{◌+◌, length, sym, ap, ◌∙◌}
use Rattle.presentation_profile.specs.Written.{selector_element_octets}
use Rattle.presentation_profile.proofs.Sizes.{selector-sized}
use Rattle.presentation_profile.proofs.others.selector_len.Goals as goal

pub returns-in-Some-clause-value : goal.returns-in-Some-clause-value
returns-in-Some-clause-value c tag =
    ap (λ os. 2 + length os) c.octets.ensures.value
    ∙ selector-sized tag c.in-Some.selector c.octets.ensures.sized.1
    ∙ ap (λ s. length (selector_element_octets tag s)) (sym c.in-Some.is)
