-- What a connection wants of a seat.
use Rattle.std.proofs.Common.{◌≡◌, ℕ, true, List, [], Option, Some, None, is_some, ap, subst}
use Rattle.std.proofs.Common.{inl, inr}
use Rattle.std.specs.Prelude.{◌⊎◌}
use Rattle.sbo_device.specs.declared.key.Key.{Key}
use Rattle.tase_views.specs.Setup.{Setup}
use Rattle.tase_views.specs.History.{Past}
use Rattle.tase_views.specs.declared.event.EventKind.{EventKind}
use Rattle.tase_conn.specs.Map.Inputs.{Item}
use Rattle.tase_conn.specs.declared.stage.ConnEnd.TheVariants as conn_ends
use Rattle.tase_conn.specs.Talking.{Talking, is_running}
use Rattle.tase_conn.specs.Places.{KeepsPlace}
use Rattle.tase_conn.specs.Wanting.{WantsSo, PassesSo, IsIdle}
use Rattle.tase_conn.specs.Leaving.{IsLeft}
use Rattle.conn_service.specs.Courses.Serving.{Serves}
use Rattle.conn_service.specs.Attending.{IsAtRest, CutsOff, IsCut}
use Rattle.conn_service.proofs.Wanted.{wants_event, wants_none}
use Rattle.node_server.specs.Seats.Serving.{WantsOfSeat, IsShut, ClosesOverAll}
use Rattle.node_server.proofs.OfSeats.Over.{given_over}
use Rattle.node_server.proofs.OfSeats.Shut.{node_shut, none_shut}

-- nothing is left, or it was cut where nothing was open
none_wanted : (setup : Setup) (past : Past) (who : ℕ) (items : List Item) (said : List ℕ)
    (old new : Talking)
    → IsAtRest setup past who items said old past new
    ⊎ CutsOff setup past who items said old None past new
    → WantsOfSeat setup past who items said old None past new
none_wanted setup past who items said old new (inl r) = inl r
none_wanted setup past who items said old new (inr c) =
    let cut = c.0 in
    let shut = none_shut past who (ap (λ (k : Option Key). is_some k) cut.none_open) in
    inr (
      node_shut setup past past who items said old new
          (subst (λ (p : Past). IsCut setup past who items said old p new) cut.after_is cut) shut,
      [],
      tt,
      c.1,
      shut,
    )

pub wants_found : (setup : Setup) (past : Past) (who : ℕ) (items : List Item) (said : List ℕ)
    (event : Option EventKind) (old new : Talking) → new.stage ≡ old.stage → WantsSo event old new
    → Serves setup.centre past who items said None old
    → WantsOfSeat setup past who items said old event past new
wants_found setup past who items said None old new stage wants s =
    none_wanted setup past who items said old new
    (wants_none setup past who items said old new stage wants s)
wants_found setup past who items said (Some event) old new stage wants s =
    wants_event setup past who items said event old new stage wants s

-- memory was wanting
pub given_shut : (setup : Setup) (past after : Past) (who : ℕ) (items : List Item) (said : List ℕ)
    (old between left new : Talking) → is_running old.progress ≡ true → PassesSo old between
    → IsIdle between.progress → between.stage ≡ old.stage → KeepsPlace between left
    → IsLeft conn_ends.Memory between left → ClosesOverAll setup.centre who left new
    → IsShut who past after → Serves setup.centre past who items said None old
    → WantsOfSeat setup past who items said old None after new
given_shut setup past after who items said old between left new runs passes idle stage on parts
    closes shut s =
    let c = given_over setup past who items said old between left new runs passes idle stage on
    parts closes s in
    inr (node_shut setup past after who items said old new c.0 shut, [], tt, c.1, shut)
