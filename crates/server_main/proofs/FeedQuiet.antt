-- A feed and a clock take no orders.
use Rattle.std.proofs.Common.{◌≡◌, ℕ, ◌-◌, ◌==◌, Bool, true, false, List, [], ◌∷◌, ◌++◌, map, refl}
use Rattle.std.proofs.Common.{sym, ap, subst, ◌∙◌, length, Option, Some, None}
use Rattle.std.specs.Prelude.{if◌then◌else◌, nat_lt, codes, bytes_eq}
use Rattle.std.proofs.lemmas.List.{map-append}
use Rattle.outside.specs.Faults.{next_count}
use Rattle.outside.specs.Source.{SourceTold}
use Rattle.outside.specs.Links.Clocks.{ClockTold}
use Rattle.plain_text.specs.Lines.{is_skipped}
use Rattle.plain_text.specs.Numbers.{number_up_to}
use Rattle.plain_text.specs.Words.{words_in}
use Rattle.tase_points.specs.Points.{kind_of}
use Rattle.tase_points.specs.Same.{same_kind}
use Rattle.bilateral.specs.Rows.{CentreRows, place_of_point, place_of_device, place_of_peer}
use Rattle.bilateral.specs.Rows.{point_of, variants_of}
use Rattle.tase_views.specs.declared.event.EventKind.{EventKind}
use Rattle.tase_views.specs.declared.event.EventKind.TheVariants as events
use Rattle.tase_views.specs.Outcomes.{has_slot}
use Rattle.tase_views.specs.History.{is_stop}
use Rattle.texts.specs.Events.FeedLines.{feed_event_in, feed_words_in, update_in, update_of}
use Rattle.texts.specs.Events.FeedLines.{sample_in, choice_in, choice_of, tagging_in}
use Rattle.texts.specs.Events.FeedLines.{tag_words_in, ask_in, ask_of, stop_in}
use Rattle.texts.specs.declared.events.feed.TheConstants.{TABLE_NUMBER_LIMIT, SLOT_NUMBER_LIMIT}
use Rattle.share_turn.specs.Entries.{Each, own}
use Rattle.node_server.specs.declared.turn.turn_node.NodeSetup.{NodeSetup}
use Rattle.node_server.specs.declared.feed_reader.TheConstants.{LINE_LIMIT}
use Rattle.node_server.specs.declared.feed_reader.FeedSays.{FeedSays}
use Rattle.node_server.specs.declared.feed_reader.FeedSays.TheVariants as says
use Rattle.node_server.specs.declared.feed_end.FeedEnd.{FeedEnd}
use Rattle.node_server.specs.declared.feed_end.FeedEnd.TheVariants as feed_ends
use Rattle.node_server.specs.declared.ticking.TickEnd.{TickEnd}
use Rattle.node_server.specs.declared.ticking.TickEnd.TheVariants as tick_ends
use Rattle.node_server.specs.SeatCalls.{taken_events}
use Rattle.node_server.specs.NodeCalls.{NodeCall, StopsBehind}
use Rattle.node_server.specs.FeedReading.{Fed, FeedPlace, event_says, line_says, says_then}
use Rattle.node_server.specs.FeedReading.{fed_from, yet_fed, feed_lines}
use Rattle.node_server.specs.Feeding.{FedTo, asked_in, first_place}
use Rattle.server_main.specs.declared.run.seats.FeedSeat.{FeedSeat}
use Rattle.server_main.specs.declared.run.seats.TickSeat.{TickSeat}
use Rattle.server_main.specs.Run.Gathering.{SeatClaim, HasFed, HasTicked}
use Rattle.server_main.proofs.OwnStop.{one-stop, none-stop, IsStop}
use Rattle.server_main.proofs.Quiet.{IsQuiet, AllQuiet, QuietIfSome, then-quiet, map-quiet}
use Rattle.server_main.proofs.Quiet.{if-quiet, front-quiet, append-quiet, taken-quiet, stop-quiet}

-- ---- a line

module _ (rows : CentreRows) where
  update-quiet : (words : List (List ℕ)) → QuietIfSome (update_in rows words)
  update-quiet (name ∷ body ∷ flags ∷ seconds ∷ millis ∷ []) =
      then-quiet (λ point. _) (λ point. then-quiet (λ value. update_of rows point value)
      (λ value. if-quiet (same_kind (kind_of value.body) (point_of rows point).kind)
      (Some (events.Update point value)) None (λ asks. asks) tt)
      (sample_in body flags seconds millis)) (place_of_point rows name)
  update-quiet words = tt

  choice-quiet : (words : List (List ℕ)) → QuietIfSome (choice_in rows words)
  choice-quiet (key ∷ number ∷ []) =
      then-quiet (λ peer. _) (λ peer. then-quiet (λ variant. choice_of rows peer variant)
      (λ variant. if-quiet (nat_lt variant (length (variants_of rows peer)))
      (Some (events.Table peer variant)) None (λ asks. asks) tt)
      (number_up_to TABLE_NUMBER_LIMIT number)) (place_of_peer rows key)
  choice-quiet words = tt

  tagging-quiet : (words : List (List ℕ)) → QuietIfSome (tagging_in rows words)
  tagging-quiet (name ∷ number ∷ reason ∷ []) =
      then-quiet (λ device. _) (λ device. map-quiet (events.Tag device) (λ tag. λ asks. asks)
      (tag_words_in number reason)) (place_of_device rows name)
  tagging-quiet words = tt

  ask-one : (peer number : ℕ) → QuietIfSome (ask_of rows peer number)
  ask-one peer number = if-quiet (number == 0) None
      (if has_slot rows peer (number - 1) then Some (events.Ask peer (number - 1)) else None) tt
      (if-quiet (has_slot rows peer (number - 1)) (Some (events.Ask peer (number - 1))) None
      (λ asks. asks) tt)

  ask-quiet : (words : List (List ℕ)) → QuietIfSome (ask_in rows words)
  ask-quiet (key ∷ number ∷ []) =
      then-quiet (λ peer. _) (λ peer. then-quiet (λ n. ask_of rows peer n)
      (λ n. ask-one peer n) (number_up_to SLOT_NUMBER_LIMIT number)) (place_of_peer rows key)
  ask-quiet words = tt

  halt-quiet : (words : List (List ℕ)) → QuietIfSome (stop_in words)
  halt-quiet [] = λ asks. asks
  halt-quiet (word ∷ words) = tt

  words-quiet : (words : List (List ℕ)) → QuietIfSome (feed_words_in rows words)
  words-quiet [] = tt
  words-quiet (verb ∷ words) =
      if-quiet (bytes_eq verb (codes "update")) _ _ (update-quiet words)
      (if-quiet (bytes_eq verb (codes "table")) _ _ (choice-quiet words)
      (if-quiet (bytes_eq verb (codes "tag")) _ _ (tagging-quiet words)
      (if-quiet (bytes_eq verb (codes "ask")) _ _ (ask-quiet words)
      (if-quiet (bytes_eq verb (codes "stop")) _ _ (halt-quiet words) tt))))

  line-quiet : (line : List ℕ) → QuietIfSome (feed_event_in rows line)
  line-quiet line = then-quiet (feed_words_in rows) words-quiet (words_in line)

  -- ---- all lines

  SaidQuiet : FeedSays → Type 0
  SaidQuiet says.Nothing = Unit {0}
  SaidQuiet (says.Asks event) = IsQuiet event
  SaidQuiet (says.Ends end) = Unit {0}

  event-said : (number : ℕ) (found : Option EventKind) → QuietIfSome found
      → SaidQuiet (event_says number found)
  unfolding SaidQuiet
  event-said number None quiet = tt
  event-said number (Some event) quiet = by (is_stop event)
    where
      by : (b : Bool) → SaidQuiet (if b then says.Ends feed_ends.StopLine else says.Asks event)
      by true = tt
      by false = quiet

  said-quiet : (number : ℕ) (line : List ℕ) → SaidQuiet (line_says rows number line)
  unfolding SaidQuiet
  said-quiet number line = by (nat_lt LINE_LIMIT (length line)) (is_skipped line)
    where
      by : (b c : Bool) → SaidQuiet (if b then says.Ends (feed_ends.LongLine number)
          else (if c then says.Nothing else event_says number (feed_event_in rows line)))
      by true c = tt
      by false true = tt
      by false false = event-said number (feed_event_in rows line) (line-quiet line)

  joined-quiet : (said : FeedSays) (rest : Fed) → SaidQuiet said → AllQuiet rest.events
      → AllQuiet (says_then said rest).events
  unfolding SaidQuiet
  joined-quiet says.Nothing rest one more = more
  joined-quiet (says.Asks event) rest one more = (one, more)
  joined-quiet (says.Ends end) rest one more = tt

  fed-quiet : (number : ℕ) (lines : List (List ℕ)) → AllQuiet (fed_from rows number lines).events
  fed-quiet number [] = tt
  fed-quiet number (line ∷ more) = joined-quiet (line_says rows number line)
      (fed_from rows (next_count number) more) (said-quiet number line)
      (fed-quiet (next_count number) more)

  yet-quiet : (whole : Bool) (place : FeedPlace) (octets : List ℕ)
      → AllQuiet (yet_fed rows whole place octets).events
  yet-quiet whole place octets = fed-quiet place.number (feed_lines whole (place.held ++ octets))

  said-whole : (whole : Bool) (place : FeedPlace) (octets : List ℕ) (fed : Fed)
      → yet_fed rows whole place octets ≡ fed → AllQuiet fed.events
  said-whole whole place octets fed is =
      subst (λ (f : Fed). AllQuiet f.events) is (yet-quiet whole place octets)

  said-front : (place : FeedPlace) (octets : List ℕ) (events rest : List EventKind)
      → (yet_fed rows true place octets).events ≡ events ++ rest → AllQuiet events
  said-front place octets events rest is =
      front-quiet events rest (subst AllQuiet is (yet-quiet true place octets))

  told-quiet : (place : FeedPlace) (octets : List ℕ) (events : List EventKind) (end : FeedEnd)
      → FedTo rows place octets events end → AllQuiet events
  told-quiet place octets events feed_ends.Ended is = said-whole true place octets _ is
  told-quiet place octets events feed_ends.StopLine is = said-whole true place octets _ is
  told-quiet place octets events (feed_ends.BadLine line) is = said-whole true place octets _ is
  told-quiet place octets events (feed_ends.LongLine line) is = said-whole true place octets _ is
  told-quiet place octets events feed_ends.SourceFault is = said-whole false place octets _ is
  told-quiet place octets events feed_ends.Stopped is =
      said-front place octets events is.0 is.1
  told-quiet place octets events (feed_ends.Full weight limit) is =
      said-front place octets events is.0 is.1
  told-quiet place octets events feed_ends.Memory is =
      said-front place octets events is.0 is.1

-- ---- the stops

feed-stops : (end : FeedEnd) (stop : List NodeCall) → StopsBehind (end ≡ feed_ends.Stopped) stop
    → Each IsStop stop
feed-stops feed_ends.Stopped stop stops = none-stop stop refl stops
feed-stops feed_ends.Ended stop stops = one-stop stop (λ e. absurd cc) stops
feed-stops feed_ends.StopLine stop stops = one-stop stop (λ e. absurd cc) stops
feed-stops (feed_ends.BadLine line) stop stops = one-stop stop (λ e. absurd cc) stops
feed-stops (feed_ends.LongLine line) stop stops = one-stop stop (λ e. absurd cc) stops
feed-stops feed_ends.SourceFault stop stops = one-stop stop (λ e. absurd cc) stops
feed-stops (feed_ends.Full weight limit) stop stops = one-stop stop (λ e. absurd cc) stops
feed-stops feed_ends.Memory stop stops = one-stop stop (λ e. absurd cc) stops

ticks-stop : (end : TickEnd) (stop : List NodeCall) → StopsBehind (end ≡ tick_ends.Stopped) stop
    → Each IsStop stop
ticks-stop tick_ends.Stopped stop stops = none-stop stop refl stops
ticks-stop tick_ends.ClockFault stop stops = one-stop stop (λ e. absurd cc) stops
ticks-stop (tick_ends.Full weight limit) stop stops = one-stop stop (λ e. absurd cc) stops
ticks-stop tick_ends.Memory stop stops = one-stop stop (λ e. absurd cc) stops

-- ---- what is asked

asked-front : (calls last : List NodeCall) → AllQuiet (asked_in (calls ++ last))
    → AllQuiet (asked_in calls)
asked-front calls last quiet = front-quiet (asked_in calls) (asked_in last)
    (subst AllQuiet (map-append (λ (call : NodeCall). call.event) calls last) quiet)

own-so : (claim : SeatClaim) (who : ℕ) (events first more : List EventKind) → claim.0 ≡ who
    → own who claim.1 ≡ first ++ events ++ more → first ≡ [] → AllQuiet events → AllQuiet more
    → AllQuiet (own claim.0 claim.1)
own-so claim who events first more same is none quiet rest =
    subst (λ (n : ℕ). AllQuiet (own n claim.1)) (sym same)
    (subst AllQuiet (sym (is ∙ ap (λ (l : List EventKind). l ++ events ++ more) none))
    (append-quiet events more quiet rest))

pub feed-quiet : (setup : NodeSetup) (given left : SourceTold) (fed : FeedSeat)
    (claim : SeatClaim) → HasFed setup given left fed claim → AllQuiet (own claim.0 claim.1)
feed-quiet setup given left fed claim has =
    let runs = has.feeds in
    let told = runs.fed.told in
    own-so claim has.seat.number (asked_in told.calls) (own has.seat.number has.seat.front)
    (taken_events runs.stop) (has.claimed ∙ sym has.number) runs.own_entries has.none
    (asked-front told.calls told.last
    (told-quiet setup.centre first_place runs.fed.octets (asked_in (told.calls ++ told.last))
    fed.end told.says))
    (stop-quiet runs.stop (feed-stops fed.end runs.stop runs.stops))

all-ticks : (readings : List ℕ) → AllQuiet (map events.Tick readings)
all-ticks [] = tt
all-ticks (reading ∷ readings) = (λ asks. asks, all-ticks readings)

pub ticks-quiet : (setup : NodeSetup) (given left : ClockTold) (ticked : TickSeat)
    (claim : SeatClaim) → HasTicked setup given left ticked claim
    → AllQuiet (own claim.0 claim.1)
ticks-quiet setup given left ticked claim has =
    let runs = has.ticks in
    let told = runs.told in
    own-so claim has.seat.number (taken_events told.calls) (own has.seat.number has.seat.front)
    (taken_events runs.stop) (has.claimed ∙ sym has.number) runs.own_entries has.none
    (taken-quiet told.calls (asked-front told.calls told.last
    (subst AllQuiet (sym told.ticks) (all-ticks told.readings))))
    (stop-quiet runs.stop (ticks-stop ticked.end runs.stop runs.stops))
