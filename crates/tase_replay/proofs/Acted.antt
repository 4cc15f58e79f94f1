-- Entries of other seats don't change which events a seat has had of its link.
use Rattle.std.proofs.Common.{List, ◌++◌, reverse, Option, ap, ◌∙◌, sym, inl, inr, append_assoc, ℕ}
use Rattle.tase_views.specs.Setup.{Setup}
use Rattle.tase_views.specs.History.{Past}
use Rattle.tase_views.specs.declared.event.EventKind.{EventKind}
use Rattle.conn_service.specs.TaseConn.Map.Inputs.{Item}
use Rattle.conn_service.specs.TaseConn.declared.stage.ConnEnd.{ConnEnd}
use Rattle.conn_service.specs.Courses.Serving.{AreOthers}
use Rattle.conn_service.proofs.OfCourses.Seats.{others_none, others_seat}
use Rattle.conn_service.specs.Sends.{HasEvents}

-- entries of other seats change none of that
pub acted_still : (setup : Setup) (who : ℕ) (others past : Past) (items : List Item)
    (end : Option ConnEnd) → AreOthers who others → HasEvents setup past who items end
    → HasEvents setup (others ++ past) who items end
acted_still setup who others past items end a (inl all) = inl (record {
  events = ap (λ (es : List EventKind). reverse es) (others_none who others past a) ∙ all.events;
  by_peer = all.by_peer;
})
acted_still setup who others past items end a (inr cut) =
    let c = cut.2 in
    inr (
      cut.0,
      cut.1,
      record {
        later = others ++ c.later;
        before = c.before;
        past_is = ap (λ (p : Past). others ++ p) c.past_is
            ∙ sym (append_assoc others c.later c.before);
        others = c.others;
        asks_are = c.asks_are;
        whole = c.whole;
        cause = c.cause;
        closed = others_none who others c.later a ∙ c.closed;
        none_open = others_seat who others past a ∙ c.none_open;
      },
    )
