-- A stop gives the seat that asks it no orders.
use Rattle.std.proofs.Common.{◌≡◌, ℕ, ◌==◌, Bool, true, false, List, [], ◌∷◌, ◌++◌, map, reverse}
use Rattle.std.proofs.Common.{refl, sym, ap, subst, ◌∙◌, append_assoc, Result, Ok, Err}
use Rattle.std.specs.Prelude.{if◌then◌else◌}
use Rattle.std.proofs.lemmas.List.{append-nil, map-append, reverse-append}
use Rattle.bilateral.specs.Rows.{CentreRows}
use Rattle.sbo_device.specs.declared.order.Order.{Order}
use Rattle.tase_views.specs.declared.event.EventKind.{EventKind}
use Rattle.tase_views.specs.declared.event.EventKind.TheVariants.{Stop}
use Rattle.tase_views.specs.declared.fault.StepFault.{StepFault}
use Rattle.tase_views.specs.declared.reply.Answer.{Answer}
use Rattle.tase_views.specs.Moves.{sort_of}
use Rattle.tase_views.specs.History.{Past}
use Rattle.tase_views.specs.OwnTables.{own_tables}
use Rattle.tase_views.specs.View.{moves_in}
use Rattle.tase_views.specs.Orders.{orders_left}
use Rattle.share_turn.specs.Entries.{Each, own, Keeps}
use Rattle.share_turn.specs.Public.{at, added}
use Rattle.share_turn.proofs.Owned.{own_append, none_both}
use Rattle.node_server.specs.declared.turn.turn_node.NodeSetup.{NodeSetup}
use Rattle.node_server.specs.Turn.Logged.{logged_entry, past_in}
use Rattle.node_server.specs.NodeCalls.{NodeCall, NodeLog, NodeSeat, CallsNode, StopsBehind}
use Rattle.texts.specs.Orders.PlantLines.{plant_text}
use Rattle.server_main.specs.Plant.PlantHistory.{given_by, given_at, orders_given, lines_given}
use Rattle.server_main.specs.declared.run.serving.ServingEnd.TheVariants as servings
use Rattle.server_main.specs.declared.work_end.WorkEnd.{WorkEnd}
use Rattle.server_main.specs.declared.work_end.WorkEnd.TheVariants as works

past-push : (log : NodeLog) (e : ℕ × EventKind)
    → past_in (log ++ e ∷ []) ≡ logged_entry e ∷ past_in log
past-push log e = ap reverse (map-append logged_entry log (e ∷ []))
    ∙ reverse-append (map logged_entry log) (logged_entry e ∷ [])

abbrev none_given : List Order
none_given = []

none_added : (xs ys : List EventKind) → xs ++ ys ≡ xs → ys ≡ []
none_added [] ys e = e
none_added (x ∷ xs) ys e = none_added xs ys (cc e)

module _ (rows : CentreRows) (who : ℕ) where
  -- of another seat's entry it is given nothing
  quiet : (e : ℕ × EventKind) (past : Past) → own who (e ∷ []) ≡ []
      → given_at rows who (logged_entry e) past ≡ []
  quiet e past none = by (e.0 == who) none
    where
      by : (b : Bool) → map (λ (x : ℕ × EventKind). x.1) (if b then e ∷ [] else []) ≡ []
          → (if b then given_by (sort_of e.1)
          (orders_left rows (own_tables rows) (moves_in past)) else []) ≡ []
      by true none = absurd cc
      by false none = refl

  given-push : (log : NodeLog) (e : ℕ × EventKind)
      → given_at rows who (logged_entry e) (past_in log) ≡ []
      → orders_given rows who (past_in (log ++ e ∷ [])) ≡ orders_given rows who (past_in log)
  given-push log e none = ap (orders_given rows who) (past-push log e)
      ∙ ap (λ (os : List Order). orders_given rows who (past_in log) ++ os) none
      ∙ append-nil (orders_given rows who (past_in log))

  given-others : (rest front : NodeLog) → own who rest ≡ []
      → orders_given rows who (past_in (front ++ rest)) ≡ orders_given rows who (past_in front)
  given-others [] front none =
      ap (λ (l : NodeLog). orders_given rows who (past_in l)) (append-nil front)
  given-others (e ∷ rest) front none =
      let both = none_both who (e ∷ []) rest none in
      ap (λ (l : NodeLog). orders_given rows who (past_in l))
      (sym (append_assoc front (e ∷ []) rest))
      ∙ given-others rest (front ++ e ∷ []) both.1
      ∙ given-push front e (quiet e (past_in front) both.0)

  given-kept : (front log : NodeLog) → Keeps log (who, front)
      → orders_given rows who (past_in log) ≡ orders_given rows who (past_in front)
  given-kept front log keeps =
      let rest = keeps.0.0 in
      let seen : front ++ rest ≡ log = keeps.0.1 in
      let none : own who rest ≡ [] = none_added (own who front) (own who rest)
      (sym (own_append who front rest) ∙ (ap (own who) seen ∙ keeps.1)) in
      ap (λ (l : NodeLog). orders_given rows who (past_in l)) (sym seen)
      ∙ given-others rest front none

  nothing : (b : Bool) → (if b then none_given else none_given) ≡ none_given
  nothing true = refl
  nothing false = refl

  given-stop : (outcome : Result Answer StepFault) (log : NodeLog)
      → orders_given rows who (past_in (log ++ added outcome (who, Stop)))
      ≡ orders_given rows who (past_in log)
  given-stop (Ok answer) log = given-push log (who, Stop) (nothing (who == who))
  given-stop (Err fault) log =
      ap (λ (l : NodeLog). orders_given rows who (past_in l)) (append-nil log)

abbrev pub IsStop : NodeCall → Type 0
IsStop call = call.event ≡ Stop

given-stops : (setup : NodeSetup) (rows : CentreRows) (seat : NodeSeat) (calls : List NodeCall)
    (front : NodeLog) → Each IsStop calls → CallsNode setup seat calls front
    → orders_given rows seat.number (past_in front)
    ≡ orders_given rows seat.number (past_in seat.front)
given-stops setup rows seat [] front stops made =
    ap (λ (l : NodeLog). orders_given rows seat.number (past_in l)) made
given-stops setup rows seat (call ∷ calls) front stops made =
    let who = seat.number in
    let came = made.1 in
    given-stops setup rows (at seat made.0) calls front stops.1 made.2
    ∙ (ap (λ (l : NodeLog). orders_given rows who (past_in l)) (came.3
    ∙ ap (λ (e : EventKind). came.0 ++ added call.outcome (who, e)) stops.0)
    ∙ given-stop rows who call.outcome came.0)
    ∙ given-kept rows who seat.front came.0 came.1

pub one-stop : {P : Type 0} (stop : List NodeCall) → (P → ⊥) → StopsBehind P stop → Each IsStop stop
one-stop {P} stop not stops =
    let asks = stops.1 not in
    subst (λ (calls : List NodeCall). Each IsStop calls) (sym asks.2) (refl, tt)

pub none-stop : {P : Type 0} (stop : List NodeCall) → P → StopsBehind P stop → Each IsStop stop
none-stop {P} stop is stops =
    subst (λ (calls : List NodeCall). Each IsStop calls) (sym (stops.0 is)) tt

all-stops : (work : WorkEnd) (stop : List NodeCall)
    → StopsBehind (work ≡ works.Ended servings.Stopped) stop → Each IsStop stop
all-stops works.Refused stop stops = one-stop stop (λ e. absurd cc) stops
all-stops (works.Ended servings.Stopped) stop stops =
    none-stop stop refl stops
all-stops (works.Ended servings.ListenerFault) stop stops = one-stop stop (λ e. absurd cc) stops
all-stops (works.Ended servings.PlantFault) stop stops = one-stop stop (λ e. absurd cc) stops
all-stops (works.Ended (servings.Full weight limit)) stop stops =
    one-stop stop (λ e. absurd cc) stops
all-stops (works.Ended servings.Memory) stop stops = one-stop stop (λ e. absurd cc) stops

-- behind the stop a seat was given what it was given before
pub lines-stopped : (setup : NodeSetup) (rows : CentreRows) (work : WorkEnd) (seat : NodeSeat)
    (stop : List NodeCall) (front : NodeLog)
    → StopsBehind (work ≡ works.Ended servings.Stopped) stop → CallsNode setup seat stop front
    → lines_given rows seat.number front ≡ lines_given rows seat.number seat.front
lines-stopped setup rows work seat stop front stops made = ap (plant_text rows)
    (given-stops setup rows seat stop front (all-stops work stop stops) made)
