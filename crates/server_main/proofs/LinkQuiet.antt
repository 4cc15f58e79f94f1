-- A link that is served takes no orders.
use Rattle.std.proofs.Common.{◌≡◌, ℕ, Bool, true, false, List, [], ◌∷◌, ◌++◌, reverse, refl}
use Rattle.std.proofs.Common.{sym, ap, subst, ◌∙◌, inl, inr, Option, Some, None}
use Rattle.std.proofs.lemmas.List.Elements.{filter_map-append}
use Rattle.bilateral.specs.Rows.{CentreRows, place_of_title}
use Rattle.sbo_device.specs.declared.key.Key.{Key}
use Rattle.tase_views.specs.Setup.{Setup}
use Rattle.tase_views.specs.History.{Past, association_in}
use Rattle.tase_views.specs.declared.event.EventKind.{EventKind}
use Rattle.tase_views.specs.declared.event.EventKind.TheVariants as events
use Rattle.share_turn.specs.Entries.{Each, own}
use Rattle.share_turn.specs.Public.{at}
use Rattle.node_server.specs.TaseConn.Map.Inputs.{Item}
use Rattle.node_server.specs.TaseConn.Map.Turns.{Turn, turns_of}
use Rattle.node_server.specs.TaseConn.Map.Turns as turns
use Rattle.node_server.specs.TaseConn.Map.Asks.{asks_of, asks_at, asks_behind, open_of, event_if, is_open_behind}
use Rattle.node_server.specs.TaseConn.Map.Asks.{up_to_last}
use Rattle.node_server.specs.TaseConn.Map.Sent.{events_by, event_by}
use Rattle.node_server.specs.TaseConn.declared.stage.ConnEnd.{ConnEnd}
use Rattle.node_server.specs.TaseConn.declared.stage.ConnEnd.TheVariants as conn_ends
use Rattle.node_server.specs.ConnService.Sends.{HasEvents, IsCutOff, close_of}
use Rattle.node_server.specs.declared.turn.turn_node.NodeSetup.{NodeSetup}
use Rattle.node_server.specs.Turn.Logged.{past_in, IsRightTurn}
use Rattle.node_server.specs.NodeCalls.{NodeCall, AsksStop}
use Rattle.node_server.specs.SeatCalls.{taken_events}
use Rattle.node_server.proofs.Calling.{calls_own}
use Rattle.node_server.specs.Seats.Serving.{shared_setup}
use Rattle.node_server.specs.Links.ServedLinks.{StopsIfFull}
use Rattle.server_main.specs.Run.Gathering.{ServedLink, HasServed}
use Rattle.server_main.proofs.OwnStop.{IsStop}
use Rattle.server_main.proofs.Quiet.{IsQuiet, AllQuiet, front-quiet, append-quiet, back-quiet}
use Rattle.server_main.proofs.Quiet.{stop-quiet, own-quiet}

-- ---- what a link asks

open-quiet : (found : Option ℕ) → AllQuiet (open_of found)
open-quiet None = tt
open-quiet (Some peer) = (λ asks. asks, tt)

event-quiet : (b : Bool) (event : EventKind) → IsQuiet event → AllQuiet (event_if b event)
event-quiet true event quiet = (quiet, tt)
event-quiet false event quiet = tt

turn-quiet : (rows : CentreRows) (before : List Turn) (turn : Turn)
    → AllQuiet (asks_at rows before turn)
turn-quiet rows before (turns.offers title) = open-quiet (place_of_title rows title)
turn-quiet rows before turns.offers_badly = tt
turn-quiet rows before (turns.asks invoke call) = (λ asks. asks, tt)
turn-quiet rows before turns.pauses =
    event-quiet (is_open_behind rows before) events.Take (λ asks. asks)
turn-quiet rows before turns.concludes =
    event-quiet (is_open_behind rows before) events.Close (λ asks. asks)
turn-quiet rows before turns.releases =
    event-quiet (is_open_behind rows before) events.Close (λ asks. asks)
turn-quiet rows before turns.aborts =
    event-quiet (is_open_behind rows before) events.Close (λ asks. asks)
turn-quiet rows before turns.breaks =
    event-quiet (is_open_behind rows before) events.Close (λ asks. asks)
turn-quiet rows before turns.ends =
    event-quiet (is_open_behind rows before) events.Close (λ asks. asks)

turns-quiet : (rows : CentreRows) (before these : List Turn)
    → AllQuiet (asks_behind rows before these)
turns-quiet rows before [] = tt
turns-quiet rows before (turn ∷ these) =
    append-quiet (asks_at rows before turn) (asks_behind rows (before ++ turn ∷ []) these)
    (turn-quiet rows before turn) (turns-quiet rows (before ++ turn ∷ []) these)

asked-quiet : (rows : CentreRows) (items : List Item) → AllQuiet (asks_of rows items)
asked-quiet rows items = turns-quiet rows [] (up_to_last rows (turns_of items))

-- ---- what its seat has in the history

closed-quiet : (found : Option Key) → AllQuiet (close_of found)
closed-quiet None = tt
closed-quiet (Some key) = (λ asks. asks, tt)

cut-quiet : (setup : Setup) (past : Past) (who : ℕ) (items : List Item) (end : ConnEnd)
    → IsCutOff setup past who items end → AllQuiet (events_by who past)
cut-quiet setup past who items end cut =
    subst AllQuiet (sym (ap (events_by who) cut.past_is
    ∙ filter_map-append (event_by who) cut.later cut.before))
    (append-quiet (events_by who cut.later) (events_by who cut.before)
    (subst AllQuiet (sym cut.closed) (closed-quiet (association_in cut.before who)))
    (back-quiet (events_by who cut.before)
    (front-quiet (reverse (events_by who cut.before)) cut.others
    (subst AllQuiet cut.asks_are (asked-quiet setup.centre items)))))

events-quiet : (setup : Setup) (past : Past) (who : ℕ) (items : List Item)
    (end : Option ConnEnd) → HasEvents setup past who items end → AllQuiet (events_by who past)
events-quiet setup past who items end (inl taken) = back-quiet (events_by who past)
    (subst AllQuiet (sym taken.events) (asked-quiet setup.centre items))
events-quiet setup past who items end (inr cut) = cut-quiet setup past who items cut.0 cut.2

-- ---- the stop

asked-stop : (stop : List NodeCall) → AsksStop stop → Each IsStop stop
asked-stop stop asks =
    subst (λ (calls : List NodeCall). Each IsStop calls) (sym asks.2) (refl, tt)

none-asked : (stop : List NodeCall) → stop ≡ [] → Each IsStop stop
none-asked stop none = subst (λ (calls : List NodeCall). Each IsStop calls) (sym none) tt

full-stops : (end : ConnEnd) (stop : List NodeCall) → StopsIfFull end stop → Each IsStop stop
full-stops (conn_ends.Full weight limit) stop stops = asked-stop stop stops
full-stops conn_ends.Finished stop stops = none-asked stop stops
full-stops conn_ends.PeerEnd stop stops = none-asked stop stops
full-stops conn_ends.Declined stop stops = none-asked stop stops
full-stops (conn_ends.Refused fault) stop stops = none-asked stop stops
full-stops (conn_ends.TooLong len detail) stop stops = none-asked stop stops
full-stops (conn_ends.Overflow pending limit) stop stops = none-asked stop stops
full-stops conn_ends.LinkFault stop stops = none-asked stop stops
full-stops conn_ends.Stopped stop stops = none-asked stop stops
full-stops conn_ends.Memory stop stops = none-asked stop stops

pub link-quiet : (setup : NodeSetup) (link : ServedLink) → HasServed setup link
    → AllQuiet (own link.claim.0 link.claim.1)
link-quiet setup link has =
    let serves = has.serves in
    let who = has.seat.number in
    subst (λ (n : ℕ). AllQuiet (own n link.claim.1)) (has.number ∙ sym has.claimed)
    (subst AllQuiet (sym (calls_own IsRightTurn setup (at has.seat serves.seen) serves.stop
    link.claim.1 serves.stopped))
    (append-quiet (own who serves.seen) (taken_events serves.stop)
    (own-quiet who serves.seen (events-quiet (shared_setup setup) (past_in serves.seen) who _ _
    serves.served.sends.events))
    (stop-quiet serves.stop (full-stops link.linked.end serves.stop serves.stops))))
