-- What is known of an association where all that is known of what was read is how far it has come.
use Rattle.std.proofs.Common.{◌≡◌, ℕ, Bool, true, false, List, Option, Some, None, pos}
use Rattle.std.proofs.Common.{refl, ap, ◌∙◌}
use Rattle.std.specs.Prelude.{is_some}
use Rattle.bilateral.specs.Rows.{CentreRows}
use Rattle.mms_services.specs.declared.initiate.Initiate.{Initiate}
use Rattle.stack_assoc.specs.declared.input.StackIn.TheVariants as inputs
use Rattle.stack_assoc.specs.Arrivals.{Arrival, first_in, connect_in}
use Rattle.stack_assoc.specs.Courses.{is_accepted}
use Rattle.tase_conn.specs.Map.Inputs.{Item}
use Rattle.tase_conn.specs.Map.Turns.{Turn}
use Rattle.tase_conn.specs.declared.stage.Stage.{Stage}
use Rattle.tase_conn.specs.declared.stage.Stage.TheVariants as stages
use Rattle.tase_conn.specs.declared.stage.Coming.{Coming}
use Rattle.tase_conn.specs.declared.stage.Coming.TheVariants as comings
use Rattle.tase_conn.specs.declared.stage.Cause.TheVariants as causes
use Rattle.tase_conn.specs.declared.stage.PendingEvent.{PendingEvent}
use Rattle.tase_conn.specs.declared.stage.PendingEvent.TheVariants as askeds
use Rattle.tase_conn.specs.Talking.{Talking}
use Rattle.tase_conn.specs.Places.{Runs, IsAskedAt, Position, position_of, position_at, position_by}
use Rattle.tase_conn.specs.Places.{with_coming, with_asked, coming_by, has_begun}

-- ---- where an event waits nothing more was read

-- an event other than an open
abbrev pub IsServed : PendingEvent → Type 0
IsServed askeds.Nothing = ⊥
IsServed (askeds.Opening peer granted) = ⊥
IsServed asked = Unit {0}

-- an open waits before the association
pub opening_position : {rows : CentreRows} {items : List Item} {told : List Arrival}
    {turns : List Turn} {peer : ℕ} {granted : Initiate} {v : Talking}
    → Runs rows items told turns (askeds.Opening peer granted) v
    → position_of told v.course ≡ with_asked (askeds.Opening peer granted) (position_at stages.Early)
opening_position {peer = peer} {granted} {v} r = r.at ∙ by v.stage v.held r.waits
  where
    by : (stage : Stage) (held : Option Coming) → IsAskedAt (askeds.Opening peer granted) stage held
        → position_by stage (askeds.Opening peer granted) held
        ≡ with_asked (askeds.Opening peer granted) (position_at stages.Early)
    by stages.Early None w = refl
    by stages.Early (Some coming) w = absurd w
    by (stages.Open other detail) held w = absurd w
    by (stages.Closed other) held w = absurd w

-- each other event while it is open
pub served_position : {rows : CentreRows} {items : List Item} {told : List Arrival}
    {turns : List Turn} {asked : PendingEvent} {v : Talking} → Runs rows items told turns asked v
    → IsServed asked
    → position_of told v.course ≡ with_asked asked (position_at (stages.Open 0 (pos 0)))
served_position {asked = asked} {v} r served = r.at ∙ by asked v.stage v.held served r.waits
  where
    by : (asked : PendingEvent) (stage : Stage) (held : Option Coming) → IsServed asked
        → IsAskedAt asked stage held
        → position_by stage asked held ≡ with_asked asked (position_at (stages.Open 0 (pos 0)))
    by askeds.Nothing stage held s w = absurd s
    by (askeds.Opening peer granted) stage held s w = absurd s
    by (askeds.Requesting invoke) (stages.Open peer detail) None s w = refl
    by askeds.Taking (stages.Open peer detail) None s w = refl
    by (askeds.Closing cause) (stages.Open peer detail) None s w = refl
    by asked stages.Early held s w = absurd w
    by asked (stages.Closed peer) held s w = absurd w
    by asked (stages.Open peer detail) (Some coming) s w = absurd w

-- ---- whatever was read

-- a connect that was told stays told
coming_connected : (coming : Coming) (p : Position) → p.connected ≡ true
    → (with_coming coming p).connected ≡ true
coming_connected (comings.Input (inputs.Offer title initiate)) p e = refl
coming_connected (comings.Input inputs.BadOffer) p e = refl
coming_connected (comings.Input (inputs.Accepted initiate)) p e = e
coming_connected (comings.Input (inputs.Pdu pdu)) p e = e
coming_connected (comings.Input (inputs.BadRequest invoke)) p e = e
coming_connected (comings.Input inputs.Released) p e = e
coming_connected (comings.Input inputs.Aborted) p e = e
coming_connected (comings.Input inputs.Refused) p e = e
coming_connected (comings.Fault fault) p e = e
coming_connected comings.Pause p e = e
coming_connected comings.End p e = e

-- one was told where an association has begun
pub begun_connected : {rows : CentreRows} {items : List Item} {told : List Arrival}
    {turns : List Turn} {asked : PendingEvent} {v : Talking} → Runs rows items told turns asked v
    → has_begun v.stage ≡ true → is_some (first_in connect_in told) ≡ true
begun_connected {asked = asked} {v} r e =
    ap (λ (p : Position). p.connected) r.at ∙ by v.held
  where
    asks : (asked : PendingEvent) → (with_asked asked (position_at v.stage)).connected ≡ true
    asks askeds.Nothing = e
    asks (askeds.Opening peer granted) = refl
    asks (askeds.Requesting invoke) = e
    asks askeds.Taking = e
    asks (askeds.Closing cause) = coming_connected (coming_by cause) (position_at v.stage) e

    by : (held : Option Coming) → (position_by v.stage asked held).connected ≡ true
    by None = asks asked
    by (Some coming) = coming_connected coming (position_at v.stage) e

-- and where an event waits
abbrev pub IsEvent : PendingEvent → Type 0
IsEvent askeds.Nothing = ⊥
IsEvent asked = Unit {0}

pub asked_connected : {rows : CentreRows} {items : List Item} {told : List Arrival}
    {turns : List Turn} {asked : PendingEvent} {v : Talking} → Runs rows items told turns asked v
    → IsEvent asked → is_some (first_in connect_in told) ≡ true
asked_connected {asked = asked} {v} r event =
    ap (λ (p : Position). p.connected) r.at ∙ by asked v.stage v.held event r.waits
  where
    by : (asked : PendingEvent) (stage : Stage) (held : Option Coming) → IsEvent asked
        → IsAskedAt asked stage held → (position_by stage asked held).connected ≡ true
    by askeds.Nothing stage held s w = absurd s
    by (askeds.Opening peer granted) stages.Early None s w = refl
    by (askeds.Requesting invoke) (stages.Open peer detail) None s w = refl
    by askeds.Taking (stages.Open peer detail) None s w = refl
    by (askeds.Closing cause) (stages.Open peer detail) None s w =
        coming_connected (coming_by cause) (position_at (stages.Open peer detail)) refl
    by asked stage held s w = absurd w

-- no association stands before it has begun
pub early_unaccepted : (held : Option Coming)
    → is_accepted (position_by stages.Early askeds.Nothing held).standing ≡ false
early_unaccepted None = refl
early_unaccepted (Some (comings.Input (inputs.Offer title initiate))) = refl
early_unaccepted (Some (comings.Input inputs.BadOffer)) = refl
early_unaccepted (Some (comings.Input (inputs.Accepted initiate))) = refl
early_unaccepted (Some (comings.Input (inputs.Pdu pdu))) = refl
early_unaccepted (Some (comings.Input (inputs.BadRequest invoke))) = refl
early_unaccepted (Some (comings.Input inputs.Released)) = refl
early_unaccepted (Some (comings.Input inputs.Aborted)) = refl
early_unaccepted (Some (comings.Input inputs.Refused)) = refl
early_unaccepted (Some (comings.Fault fault)) = refl
early_unaccepted (Some comings.Pause) = refl
early_unaccepted (Some comings.End) = refl
