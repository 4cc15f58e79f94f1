use Rattle.std.proofs.Common.{is_lt, refl, ap, ◌∙◌}
use Rattle.std.specs.Ordering.{is_some_and}
use Rattle.std.specs.Cmp.Lexicographic.{lists_agrees}
use Rattle.tase_discover.proofs.pages.is_above.Goals as goal

pub returns-in-Some : goal.returns-in-Some
returns-in-Some c =
    rw (c.in-Some.is, ← c.as_slice.ensures.value, ← c.as_slice-in-Some.ensures.value)
    (c.lt.ensures ∙ ap (λ r. is_some_and is_lt r)
    (lists_agrees (λ x y. refl) c.as_slice.result.now c.as_slice-in-Some.result.now))
