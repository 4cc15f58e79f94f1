use Rattle.std.proofs.Common.{List, ap, ap₂, ◌∙◌}
use Rattle.tase_views.specs.declared.event.EventKind.{EventKind}
use Rattle.tase_conn.specs.Map.Asks.{without_takes}
use Rattle.tase_verify.specs.declared.association.spelled_event.SpelledEvent.{SpelledEvent}
use Rattle.tase_verify.specs.Association.Spelled.{events_spelled}
use Rattle.tase_verify.specs.Association.Stray as strays
use Rattle.tase_verify.proofs.association.check.stray_in.Goals as goal

pub returns : goal.returns
returns c =
    c.first_stray.ensures
    ∙ ap₂ (λ (entered asked : List EventKind). strays.first_stray (without_takes entered) asked)
    (ap (λ (es : List SpelledEvent). events_spelled es) c.as_slice.ensures.value
    ∙ c.in_ok-events.ensures)
    (ap (λ (es : List SpelledEvent). events_spelled es) c.as_slice-2.ensures.value
    ∙ c.in_ok-asked.ensures)
