-- What follows where an event isn't refused, and that a refusal is never for want of memory.
use Rattle.std.proofs.Common.{◌≡◌, ℕ, ◌+◌, ◌<◌, ◌≤◌, Bool, true, false, [], ◌∷◌}
use Rattle.std.proofs.Common.{length, reverse, ltb, leb, Option, Some, None, is_some, refl, sym}
use Rattle.std.proofs.Common.{subst, ap, ◌∙◌}
use Rattle.std.specs.Prelude.{if◌then◌else◌, option_map}
use Rattle.std.proofs.lemmas.Bool.{ltb-true, ltb-false, leb-false, and_parts}
use Rattle.std.proofs.lemmas.Option.{none-some}
use Rattle.tase_points.specs.Sample.{Sample}
use Rattle.bilateral.specs.Rows.{CentreRows, variants_of}
use Rattle.sbo_device.specs.declared.key.Key.{Key}
use Rattle.sbo_device.specs.declared.device.TheConstants.{MOMENT_LIMIT}
use Rattle.sbo_device.specs.Moves.{Tag as DeviceTag}
use Rattle.tase_views.specs.declared.event.EventKind.{EventKind}
use Rattle.tase_views.specs.declared.event.EventKind.TheVariants.{Open, Request, Take, Close}
use Rattle.tase_views.specs.declared.event.EventKind.TheVariants.{Update, Table, Tick, Ask}
use Rattle.tase_views.specs.declared.event.EventKind.TheVariants as events
use Rattle.tase_views.specs.declared.event.EventKind.TheVariants.{TakeOrders, Stop}
use Rattle.tase_views.specs.declared.fault.StepFault.{StepFault}
use Rattle.tase_views.specs.declared.fault.StepFault.TheVariants.{Stopped, HistoryFull}
use Rattle.tase_views.specs.declared.fault.StepFault.TheVariants.{NoAssociation, Already}
use Rattle.tase_views.specs.declared.fault.StepFault.TheVariants.{UnknownName, ClockRange, Backward}
use Rattle.tase_views.specs.Setup.{Setup}
use Rattle.tase_views.specs.History.{Past, association_in, stop_in}
use Rattle.tase_views.specs.Weights.{weight, weight_of}
use Rattle.tase_views.specs.Outcomes.{is_close, is_ending, is_known, has_table, has_slot}
use Rattle.tase_views.specs.Outcomes.{stop_refusal, seat_refusal, name_refusal}
use Rattle.tase_views.specs.Moves.{sort_of}
use Rattle.tase_views.specs.Outcomes.{clock_refusal, clock_refusal_by, weight_refusal}
use Rattle.tase_views.specs.Outcomes.{first_refusal, refusal_of}
use Rattle.tase_views.specs.Lived.{unweighed_refusal}
use Rattle.node_core.specs.NodeState.{NodeState}
use Rattle.node_core.specs.Stored.{IsRequest, IsTaggingOf}
use Rattle.node_core.specs.Room.{LeavesSeats}

-- none of the five refusals has its cause
pub record IsFree (setup : Setup) (past : Past) (who : ℕ) (event : EventKind) : Type 0 where
  pub going : stop_refusal past event ≡ None
  pub seated : seat_refusal (association_in past who) event ≡ None
  pub named : name_refusal setup.centre event ≡ None
  pub timed : clock_refusal past event ≡ None
  pub light : weight_refusal setup past event ≡ None

none_of : (a b c d f : Option StepFault) → first_refusal (a ∷ b ∷ c ∷ d ∷ f ∷ []) ≡ None
    → (a ≡ None) × (b ≡ None) × (c ≡ None) × (d ≡ None) × (f ≡ None)
none_of (Some fault) b c d f e = absurd (none-some fault (sym e))
none_of None (Some fault) c d f e = absurd (none-some fault (sym e))
none_of None None (Some fault) d f e = absurd (none-some fault (sym e))
none_of None None None (Some fault) f e = absurd (none-some fault (sym e))
none_of None None None None (Some fault) e = absurd (none-some fault (sym e))
none_of None None None None None e = (refl, refl, refl, refl, refl)

pub free_of : (setup : Setup) (past : Past) (who : ℕ) (event : EventKind)
    → refusal_of setup past who event ≡ None → IsFree setup past who event
free_of setup past who event e =
    let parts = none_of (stop_refusal past event) (seat_refusal (association_in past who) event)
    (name_refusal setup.centre event) (clock_refusal past event)
    (weight_refusal setup past event) e in
    record {
      going = parts.0;
      seated = parts.1;
      named = parts.2;
      timed = parts.3;
      light = parts.4;
    }

four_none : (a b c d : Option StepFault) → a ≡ None → b ≡ None → c ≡ None → d ≡ None
    → first_refusal (a ∷ first_refusal (b ∷ c ∷ []) ∷ d ∷ []) ≡ None
four_none a b c d stopped seated named timed = rw (stopped, seated, named, timed) refl

-- what isn't refused isn't refused whatever the history weighs
pub unweighed_free : (setup : Setup) (past : Past) (who : ℕ) (event : EventKind)
    → IsFree setup past who event → unweighed_refusal setup.centre past who event ≡ None
unweighed_free setup past who event free =
    four_none (stop_refusal past event) (seat_refusal (association_in past who) event)
    (name_refusal setup.centre event) (clock_refusal past event) free.going free.seated free.named
    free.timed

-- a refusal by its five parts
pub refusal_of-parts : (setup : Setup) (past : Past) (who : ℕ) (event : EventKind)
    (stopped seated named timed heavy : Option StepFault) → stopped ≡ stop_refusal past event
    → seated ≡ seat_refusal (association_in past who) event
    → named ≡ name_refusal setup.centre event → timed ≡ clock_refusal past event
    → heavy ≡ weight_refusal setup past event
    → first_refusal (stopped ∷ seated ∷ named ∷ timed ∷ heavy ∷ [])
    ≡ refusal_of setup past who event
refusal_of-parts setup past who event stopped seated named timed heavy a b c d e =
    rw (a, b, c, d, e) refl

-- that an event is free, seen by the parts of a node and of an event
pub free_in : (seen now : NodeState) (who : ℕ) (event is : EventKind) → seen ≡ now → event ≡ is
    → refusal_of now.setup (reverse now.history) who event ≡ None
    → IsFree seen.setup (reverse seen.history) who is
free_in seen now who event is same e free =
    let P : NodeState → Type 0 = λ node.
    refusal_of node.setup (reverse node.history) who event ≡ None in
    let Q : EventKind → Type 0 = λ kind.
    refusal_of seen.setup (reverse seen.history) who kind ≡ None in
    free_of seen.setup (reverse seen.history) who is (subst Q e (subst P (sym same) free))

-- a test, after which nothing is refused
passes : (b : Bool) (fault : StepFault) → (if b then None else Some fault) ≡ None → b ≡ true
passes true fault e = refl
passes false fault e = absurd (none-some fault (sym e))

fails : (b : Bool) (fault : StepFault) → (if b then Some fault else None) ≡ None → b ≡ false
fails true fault e = absurd (none-some fault (sym e))
fails false fault e = refl

no_stop : (place : Option ℕ) → option_map (λ p. Stopped p) place ≡ None → place ≡ None
no_stop None e = refl
no_stop (Some p) e = absurd (none-some (Stopped p) (sym e))

pub going-still : (past : Past) (event : EventKind) → is_close event ≡ false
    → stop_refusal past event ≡ None → stop_in past ≡ None
going-still past event other e = no_stop (stop_in past) (rw other at e)

-- a seat with an association
pub seated-take : (found : Option Key) → seat_refusal found Take ≡ None → is_some found ≡ true
seated-take found e = passes (is_some found) NoAssociation e

pub seated-open : (found : Option Key) (peer : ℕ) → seat_refusal found (Open peer) ≡ None
    → is_some found ≡ false
seated-open found peer e = fails (is_some found) Already e

pub named-open : (rows : CentreRows) (peer : ℕ) → name_refusal rows (Open peer) ≡ None
    → peer < length rows.tables
named-open rows peer e =
    ltb-true peer (length rows.tables) (passes (ltb peer (length rows.tables)) UnknownName e)

pub named-update : (rows : CentreRows) (point : ℕ) (value : Sample)
    → name_refusal rows (Update point value) ≡ None → is_known rows point value ≡ true
named-update rows point value e = passes (is_known rows point value) UnknownName e

pub named-tag : (rows : CentreRows) (device : ℕ) (tag : DeviceTag)
    → name_refusal rows (events.Tag device tag) ≡ None → device < length rows.devices
named-tag rows device tag e =
    ltb-true device (length rows.devices)
    (passes (ltb device (length rows.devices)) UnknownName e)

-- a tagging of a device is of it
pub tagging_is : (device other : ℕ) (tag : DeviceTag) (event : EventKind)
    → event ≡ events.Tag other tag → IsTaggingOf device event → event ≡ events.Tag device tag
tagging_is device other tag event e tagging =
    e ∙ ap (λ (n : ℕ). events.Tag n tag) (subst (IsTaggingOf device) e tagging)

-- a tick is to a moment below the limit
pub timed-tick : (last now : ℕ) → clock_refusal_by last (sort_of (Tick now)) ≡ None
    → now < MOMENT_LIMIT
timed-tick last now e = by (leb MOMENT_LIMIT now) refl e
  where
    by : (b : Bool) → leb MOMENT_LIMIT now ≡ b
        → (if b then Some ClockRange
        else (if leb now last then Some (Backward last) else None)) ≡ None
        → now < MOMENT_LIMIT
    by true same none = absurd (none-some ClockRange (sym none))
    by false same none = leb-false MOMENT_LIMIT now same

-- and above the last one
pub later-tick : (last now : ℕ) → clock_refusal_by last (sort_of (Tick now)) ≡ None → last < now
later-tick last now e = by (leb MOMENT_LIMIT now) (leb now last) refl e
  where
    by : (a b : Bool) → leb now last ≡ b
        → (if a then Some ClockRange else (if b then Some (Backward last) else None)) ≡ None
        → last < now
    by true b same none = absurd (none-some ClockRange (sym none))
    by false true same none = absurd (none-some (Backward last) (sym none))
    by false false same none = leb-false now last same

pub named-table : (rows : CentreRows) (peer variant : ℕ)
    → name_refusal rows (Table peer variant) ≡ None
    → (peer < length rows.tables) × (variant < length (variants_of rows peer))
named-table rows peer variant e =
    let parts = and_parts (ltb peer (length rows.tables))
    (ltb variant (length (variants_of rows peer)))
    (passes (has_table rows peer variant) UnknownName e) in (
      ltb-true peer (length rows.tables) parts.0,
      ltb-true variant (length (variants_of rows peer)) parts.1,
    )

pub named-ask : (rows : CentreRows) (peer slot : ℕ) → name_refusal rows (Ask peer slot) ≡ None
    → peer < length rows.tables
named-ask rows peer slot e =
    let parts = and_parts (ltb peer (length rows.tables)) _
    (passes (has_slot rows peer slot) UnknownName e) in
    ltb-true peer (length rows.tables) parts.0

pub light-fits : (setup : Setup) (past : Past) (event : EventKind) → is_ending event ≡ false
    → weight_refusal setup past event ≡ None → weight_of past + weight event ≤ setup.limit
light-fits setup past event going e =
    ltb-false setup.limit (weight_of past + weight event)
    (fails (ltb setup.limit (weight_of past + weight event))
    (HistoryFull (weight_of past + weight event) setup.limit) (rw going at e))

-- ---- requests

pub request-goes_on : (event : EventKind) → IsRequest event → is_ending event ≡ false
request-goes_on (Open peer) request = absurd request
request-goes_on (Request call) request = refl
request-goes_on Take request = absurd request
request-goes_on Close request = absurd request
request-goes_on (Update point value) request = absurd request
request-goes_on (Table peer variant) request = absurd request
request-goes_on (Tick now) request = absurd request
request-goes_on (Ask asker slot) request = absurd request
request-goes_on (events.Tag device tag) request = absurd request
request-goes_on TakeOrders request = absurd request
request-goes_on Stop request = absurd request

pub request-leaves : (event : EventKind) (before behind : ℕ) → IsRequest event → behind ≡ before
    → LeavesSeats event before behind
request-leaves (Open peer) before behind request same = absurd request
request-leaves (Request call) before behind request same = same
request-leaves Take before behind request same = absurd request
request-leaves Close before behind request same = absurd request
request-leaves (Update point value) before behind request same = absurd request
request-leaves (Table peer variant) before behind request same = absurd request
request-leaves (Tick now) before behind request same = absurd request
request-leaves (Ask asker slot) before behind request same = absurd request
request-leaves (events.Tag device tag) before behind request same = absurd request
request-leaves TakeOrders before behind request same = absurd request
request-leaves Stop before behind request same = absurd request
