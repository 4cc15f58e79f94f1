use Rattle.std.proofs.Common.{is_lt, refl, ap, ◌∙◌}
use Rattle.std.specs.Ordering.{is_some_and}
use Rattle.std.specs.Cmp.Lexicographic.{lists_agrees}
use Rattle.node_core.proofs.objects.listing.is_after.Goals as goal

pub returns-in-Some : goal.returns-in-Some
returns-in-Some c =
    rw (c.in-Some.is, ← c.as_slice.ensures.value)
    (c.lt.ensures ∙ ap (λ r. is_some_and is_lt r)
    (lists_agrees (λ x y. refl) c.as_slice.result.now c.args.name.now))
