-- A whole telling of a clock: what was passed over, and the seat's own entries.
use Rattle.std.proofs.Common.{◌≡◌, ◌⊎◌, inl, inr, ℕ, ◌<◌, ◌≤◌, arith, List, [], ◌∷◌, ◌++◌, map}
use Rattle.std.proofs.Common.{reverse, refl, sym, ap, ◌∙◌, subst, append_assoc, Some}
use Rattle.std.proofs.Common.{Result, Ok, Err}
use Rattle.std.proofs.lemmas.List.{append-nil, reverse-append}
use mathlib.Core.List.{IsPrefix}
use Rattle.outside.specs.Links.Clocks.{ClockTold}
use Rattle.tase_views.specs.declared.event.EventKind.{EventKind}
use Rattle.tase_views.specs.declared.event.EventKind.TheVariants.{Tick}
use Rattle.tase_views.specs.declared.fault.StepFault.{StepFault}
use Rattle.tase_views.specs.declared.fault.StepFault.TheVariants as faults
use Rattle.tase_views.specs.declared.reply.Answer.{Answer}
use Rattle.tase_views.specs.History.{Past, last_tick}
use Rattle.share_turn.specs.Entries.{own}
use Rattle.share_turn.specs.Public.{at, added}
use Rattle.node_server.specs.declared.turn.turn_node.NodeSetup.{NodeSetup}
use Rattle.node_server.specs.Turn.Logged.{IsRightTurn, logged_entry, past_in}
use Rattle.node_server.specs.SeatCalls.{taken_events}
use Rattle.node_server.specs.NodeCalls.{NodeCall, NodeLog, NodeSeat, CallsNode, HasTickFrom}
use Rattle.node_server.specs.NodeCalls.{AsksStop, StopsBehind, HadTheirTicks}
use Rattle.node_server.specs.Ticking.{TickCame, IsLastTick, Ticks, RunsTicks}
use Rattle.node_server.specs.declared.ticking.TickEnd.{TickEnd}
use Rattle.node_server.specs.declared.ticking.TickEnd.TheVariants.{ClockFault, Stopped, Full}
use Rattle.node_server.specs.declared.ticking.TickEnd.TheVariants.{Memory}
use Rattle.node_server.proofs.Calling.{calls_own, seen_calls, calls_split, taken-append}
use Rattle.node_server.proofs.Calling.{prefix-then}
use Rattle.node_server.proofs.Refused.{tick-refused}

-- the moment of the last tick is that of a tick of the log, or was before it
ticked_since : (moment : ℕ) (log : NodeLog) (older : Past)
    → moment ≤ last_tick (reverse (map logged_entry log) ++ older)
    → HasTickFrom moment log ⊎ (moment ≤ last_tick older)
ticked_since moment [] older least = inr least
ticked_since moment (entry ∷ log) older least =
    by (ticked_since moment log (logged_entry entry ∷ older)
    (subst (λ (past : Past). moment ≤ last_tick past)
    (ap (λ (past : Past). past ++ older)
    (reverse-append (logged_entry entry ∷ []) (map logged_entry log))
    ∙ append_assoc (reverse (map logged_entry log)) (logged_entry entry ∷ []) older) least))
  where
    here : (event : EventKind) → entry.1 ≡ event
        → moment ≤ last_tick (record { who = entry.0; event = event } ∷ older)
        → HasTickFrom moment (entry ∷ log) ⊎ (moment ≤ last_tick older)
    here (Tick now) is later = inl (inl (now, later, is))
    here _ is later = inr later

    by : HasTickFrom moment log ⊎ (moment ≤ last_tick (logged_entry entry ∷ older))
        → HasTickFrom moment (entry ∷ log) ⊎ (moment ≤ last_tick older)
    by (inl found) = inl (inr found)
    by (inr later) = here entry.1 refl later

has_ticked : (moment : ℕ) (log : NodeLog) → 0 < moment → moment ≤ last_tick (past_in log)
    → HasTickFrom moment log
has_ticked moment log some least = by (ticked_since moment log []
    (subst (λ (past : Past). moment ≤ last_tick past) (sym (append-nil (past_in log))) least))
  where
    by : HasTickFrom moment log ⊎ (moment ≤ 0) → HasTickFrom moment log
    by (inl found) = found
    by (inr none) = absurd (omega arith)

module _ (setup : NodeSetup) (seat : NodeSeat) where
  late_calls : (seen front : NodeLog) (calls last : List NodeCall)
      → CallsNode setup seat (calls ++ last) seen → IsPrefix seen front
      → HadTheirTicks seat calls front
  late_calls seen front calls last made on = λ before later moment highest is some.
      let late : Result Answer StepFault = Err (faults.Backward highest) in
      let call : NodeCall = record { event = Tick moment; outcome = late } in
      let in_parts : CallsNode setup seat (before ++ (call ∷ later ++ last)) seen =
      subst (λ (l : List NodeCall). CallsNode setup seat l seen)
      (ap (λ (l : List NodeCall). l ++ last) is ∙ append_assoc before (call ∷ later) last) made in
      let cut = calls_split IsRightTurn setup seat before (call ∷ later ++ last) seen in_parts in
      let came = cut.2.1 in (
        came.0,
        prefix-then came.0 cut.2.0 front ([], sym came.3)
            (prefix-then cut.2.0 seen front
            (seen_calls IsRightTurn setup (at (at seat cut.0) cut.2.0) (later ++ last) seen cut.2.2)
            on),
        came.1.1 ∙ calls_own IsRightTurn setup seat before cut.0 cut.1,
        has_ticked moment came.0 some (tick-refused
            (record { centre = setup.centre; limit = setup.limit }) (past_in came.0) seat.number
            moment (faults.Backward highest) came.2),
      )

-- a tick that ends the ticking wasn't taken
none_taken : (outcome : Result Answer StepFault) (event : EventKind) (end : TickEnd)
    → TickCame outcome (Some end) → added outcome event ≡ []
none_taken (Ok answer) event end came = absurd cc
none_taken (Err fault) event end came = refl

last_not_taken : (end : TickEnd) (last : List NodeCall) → IsLastTick (Some end) last
    → taken_events last ≡ []
last_not_taken ClockFault last none = ap taken_events none
last_not_taken Stopped last (call, is, came) = ap taken_events is
    ∙ (append-nil (added call.outcome call.event)
    ∙ none_taken call.outcome call.event Stopped came)
last_not_taken (Full weight limit) last (call, is, came) = ap taken_events is
    ∙ (append-nil (added call.outcome call.event)
    ∙ none_taken call.outcome call.event (Full weight limit) came)
last_not_taken Memory last (call, is, came) = ap taken_events is
    ∙ (append-nil (added call.outcome call.event)
    ∙ none_taken call.outcome call.event Memory came)

module _ (setup : NodeSetup) (seat : NodeSeat) (seen front : NodeLog) (clock later : ClockTold)
    (end : TickEnd) (told : Ticks setup seat seen clock later (Some end)) where
  own_ticks : own seat.number seen ≡ own seat.number seat.front ++ taken_events told.calls
  own_ticks = calls_own IsRightTurn setup seat (told.calls ++ told.last) seen told.made
      ∙ ap (λ (l : List EventKind). own seat.number seat.front ++ l)
      (taken-append told.calls told.last
      ∙ (ap (λ (l : List EventKind). taken_events told.calls ++ l)
      (last_not_taken end told.last told.ends)
      ∙ append-nil (taken_events told.calls)))

  pub run-told : (stop : List NodeCall) → StopsBehind (end ≡ Stopped) stop
      → CallsNode setup (at seat seen) stop front → RunsTicks setup seat front clock later end
  run-told stop stops stopped = record {
    seen = seen;
    told = told;
    stop = stop;
    stops = stops;
    stopped = stopped;
    own_entries = calls_own IsRightTurn setup (at seat seen) stop front stopped
        ∙ ap (λ (l : List EventKind). l ++ taken_events stop) own_ticks;
    had = late_calls setup seat seen front told.calls told.last told.made
        (seen_calls IsRightTurn setup (at seat seen) stop front stopped);
  }

  pub stop_asked : (end ≡ Stopped → ⊥) → (here : NodeSeat) → here ≡ at seat seen
      → ((calls : List NodeCall) × AsksStop calls × CallsNode setup here calls front)
      → RunsTicks setup seat front clock later end
  stop_asked other here same (calls, asks, made) =
      run-told calls ((λ stopped. absurd (other stopped)), λ _. asks)
      (subst (λ (s : NodeSeat). CallsNode setup s calls front) same made)

pub run_seen : (setup : NodeSetup) (seat : NodeSeat) (front : NodeLog) (clock later : ClockTold)
    (end : TickEnd) → RunsTicks setup seat front clock later end → IsPrefix seat.front front
run_seen setup seat front clock later end run =
    prefix-then seat.front run.seen front
    (seen_calls IsRightTurn setup seat (run.told.calls ++ run.told.last) run.seen run.told.made)
    (seen_calls IsRightTurn setup (at seat run.seen) run.stop front run.stopped)
