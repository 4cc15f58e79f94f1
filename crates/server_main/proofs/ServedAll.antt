-- A server's whole run, put together.
use Rattle.std.proofs.Common.{◌≡◌, ℕ, ◌+◌, ◌-◌, ◌^◌, ◌<◌, ◌≤◌, Bool, true}
use Rattle.std.proofs.Common.{List, [], ◌∷◌, ◌++◌, length, map, refl, sym, ap, subst, ◌∙◌, arith}
use Rattle.std.proofs.Common.{append_assoc, inr, Option, Some, None, is_some, IfSome}
use Rattle.std.specs.Prelude.{option_map}
use Rattle.outside.specs.Faults.{counted}
use Rattle.outside.specs.Sink.{SinkTold}
use Rattle.outside.specs.Links.Links.{LinkTold}
use Rattle.outside.specs.Links.Listeners.{ListenerTold}
use Rattle.bilateral.specs.Rows.{CentreRows}
use Rattle.share_turn.specs.Entries.{Each, own, Keeps}
use Rattle.share_turn.proofs.Owned.{each_append}
use Rattle.node_server.specs.declared.turn.turn_node.NodeSetup.{NodeSetup}
use Rattle.node_server.specs.NodeCalls.{NodeLog}
use Rattle.server_main.specs.Plant.PlantHistory.{lines_given, TakesAlone}
use Rattle.server_main.specs.declared.run.seats.LinkSeat.{LinkSeat}
use Rattle.server_main.specs.declared.run.seats.Seats.{Seats}
use Rattle.server_main.specs.Run.Gathering.{SharedNode, SeatClaim, gathering}
use Rattle.server_main.specs.Run.Gathering.{ClosesOver, claims_of, laters_of, noted_of}
use Rattle.server_main.specs.Run.Beginning.{IsFirstSeat}
use Rattle.server_main.specs.Run.Rounds.{ServingState}
use Rattle.server_main.specs.Rounds.Rounds.{without_seat}
use Rattle.server_main.specs.declared.serve_end.ServeEnd.{ServeEnd}
use Rattle.server_main.specs.declared.work_end.WorkEnd.{WorkEnd}
use Rattle.server_main.specs.declared.work_end.WorkEnd.TheVariants as works
use Rattle.server_main.specs.ServedParts.{is_plant_work, is_listener_work, CountsRefused}
use Rattle.server_main.specs.ServedParts.{HasServedLinks, HasAllOrders, ServesItself, EndsBy}
use Rattle.server_main.specs.ServedParts.{has_source_fault, has_clock_fault}
use Rattle.server_main.specs.Working.{Telling, InputsTold, WorksToEnd}
use Rattle.server_main.specs.Gathered.{HasGathered, TellsLeft, lines_left}
use Rattle.server_main.specs.Serving.{ServerTold, server_told, IsUnstarted, KeepsNames}
use Rattle.server_main.specs.Serving.{HasServedNode, IsUnserved, IsServed}
use Rattle.server_main.proofs.ClaimsLeft.{closes-left}
use Rattle.server_main.proofs.TakenAlone.{takes-alone}
use Rattle.server_main.proofs.PlantTold.{all_lines, all-told, plant-counted, plant-named}
use Rattle.server_main.proofs.PlantTold.{failed-then}
use Rattle.server_main.proofs.CountsRisen.{counted-grows, feed-counted, feed-named, clock-counted}
use Rattle.server_main.proofs.CountsRisen.{spawner-grows, why-outside}

-- ---- lists

retired-twice : (retired : Option (List LinkTold)) (xs ys : List LinkTold)
    → option_map (λ links. links ++ ys) (option_map (λ links. links ++ xs) retired)
    ≡ option_map (λ links. links ++ (xs ++ ys)) retired
retired-twice None xs ys = refl
retired-twice (Some links) xs ys = ap (λ (l : List LinkTold). Some l) (append_assoc links xs ys)

no-items : {A : Type 0} (xs : List A) → length xs ≡ 0 → xs ≡ []
no-items [] none = refl
no-items (x ∷ xs) none = absurd (omega arith)

grows-by : (failed : Bool) (before after : ℕ) → after ≡ counted failed before → before ≤ after
grows-by failed before after is =
    subst (λ (n : ℕ). before ≤ n) (sym is) (counted-grows failed before)

-- the law of the orders: what a seat was given, and what is left, are all
abbrev pub TellsOnce : Type 0
TellsOnce = (rows : CentreRows) (who : ℕ) (front log : NodeLog) → Keeps log (who, front)
    → TakesAlone who log → lines_given rows who front ++ lines_left rows log ≡ all_lines rows log

module _ {L S C : Type 0} (told : Telling L S C) (node : SharedNode) (given left : InputsTold)
    (before after : ServingState L S C) (unrun : Option S) (unticked : Option C) (work : WorkEnd)
    (later : ListenerTold) (plant : SinkTold) (refused : ℕ) (log : NodeLog) (seats : Seats)
    (is : IsFirstSeat node before.now.seat)
    (done : WorksToEnd told node given before after unrun unticked work)
    (gathered : HasGathered node given
    (gathering after.now.seat after.now.listener after.now.links)
    (length done.to_gather.serving) later left seats log)
    (untold : is_some unticked ≡ true → seats.ticks ≡ None)
    (counts : refused ≡ after.now.spawner.faults) where
  abbrev First : ServerTold
  First = server_told before.now.listener before.plant given.feed given.clock
      before.now.spawner.faults

  abbrev Last : ServerTold
  Last = server_told later plant left.feed left.clock refused

  -- ---- its parts

  links-served : HasServedLinks node.setup before.now.listener later seats.links.seats
      done.worked.turned gathered.served
  links-served =
      let turned = done.worked.turned in
      let laters = laters_of gathered.served in
      record {
        closed = done.worked.listener.closed;
        each = gathered.each;
        retired = ap (λ (l : ListenerTold). l.retired) gathered.retired
            ∙ ap (λ (r : Option (List LinkTold)). option_map (λ links. links ++ laters) r)
            done.worked.listener.retired
            ∙ retired-twice before.now.listener.retired turned laters;
        noted_is = gathered.noted_is
            ∙ ap (λ (l : List (Option LinkSeat)). l ++ noted_of gathered.served)
            done.worked.noted;
        all = ap (λ (l : ListenerTold). l.accepted) gathered.retired ∙ done.worked.accepted
            ∙ ap (λ (n : ℕ). option_map (λ count. count + (length turned + n))
            before.now.listener.accepted) (sym gathered.count);
      }

  own-served : ServesItself node.setup before.now.listener later work seats.own
      after.now.seat.front
  own-served = record {
    seat = before.now.seat;
    number = sym (gathered.own_is ∙ done.worked.number);
    none = is.front;
    askings = done.worked.askings;
    stop = done.worked.stop;
    asks = done.worked.asks;
    last = done.worked.last;
    stops = done.worked.stops;
    made = done.worked.made;
    few = subst (λ (l : ListenerTold). IfSome before.now.listener.calls (λ first.
        IfSome l.calls (λ last. last < 2 ^ 64 - 1
        → first + length done.worked.askings ≤ last))) (sym gathered.retired)
        done.worked.listener.few;
  }

  abbrev Claimed : List SeatClaim
  Claimed = claims_of gathered.served ++ (gathered.of_ticks ++ gathered.of_feed)

  none-ended : Each (λ (claim : SeatClaim). own claim.0 claim.1 ≡ []) after.now.seat.ended
  none-ended = subst (λ (l : List SeatClaim).
      Each (λ (claim : SeatClaim). own claim.0 claim.1 ≡ []) l) (sym done.worked.ended)
      (each_append (λ (claim : SeatClaim). own claim.0 claim.1 ≡ []) done.worked.joined
      before.now.seat.ended done.worked.none
      (subst (λ (l : List SeatClaim).
      Each (λ (claim : SeatClaim). own claim.0 claim.1 ≡ []) l) (sym is.ended) tt))

  closed-first : ClosesOver ((before.now.seat.number, after.now.seat.front) ∷ Claimed) log
  closed-first = subst (λ (n : ℕ). ClosesOver ((n, after.now.seat.front) ∷ Claimed) log)
      done.worked.number
      (closes-left ((after.now.seat.number, after.now.seat.front) ∷ Claimed) after.now.seat.ended
      log gathered.closes none-ended)

  all-ordered : TellsOnce → (failed : Bool)
      → TellsLeft (is_plant_work work) node.setup.centre log after.plant plant failed
      → HasAllOrders node.setup.centre log before.plant plant failed
  all-ordered law failed tells =
      let who = before.now.seat.number in
      all-told (is_plant_work work) failed node.setup.centre who after.now.seat.front log
      before.plant after.plant plant
      (law node.setup.centre who after.now.seat.front log closed-first.keeps.0
      (takes-alone node.setup given.feed left.feed given.clock left.clock seats.feed seats.ticks
      gathered.of_feed gathered.of_ticks gathered.served who after.now.seat.front log gathered.fed
      gathered.ticked gathered.each closed-first)) done.worked.plant tells

  starts-counted : CountsRefused work (length done.worked.turned) before.now.spawner.faults refused
  starts-counted = subst (λ (n : ℕ). CountsRefused work (length done.worked.turned)
      before.now.spawner.faults n) (sym counts) done.worked.counts

  unstarted-links : work ≡ works.Refused → seats.links.seats ≡ []
  unstarted-links none =
      let no_turned : done.worked.turned ≡ [] = no-items done.worked.turned
      (subst (λ (w : WorkEnd). CountsRefused w (length done.worked.turned)
      before.now.spawner.faults refused) none starts-counted).0 in
      let no_served : gathered.served ≡ [] = no-items gathered.served
      (gathered.count ∙ ap length (done.unstarted none).1) in
      links-served.noted_is
      ∙ ap (λ (l : List LinkTold). map without_seat l ++ noted_of gathered.served) no_turned
      ∙ ap noted_of no_served

  unstarted : work ≡ works.Refused → IsUnstarted First Last seats
  unstarted none = record {
    refused = (
      0,
      (subst (λ (w : WorkEnd). CountsRefused w (length done.worked.turned)
          before.now.spawner.faults refused) none starts-counted).1,
    );
    no_seat = inr (untold (done.unstarted none).0);
    no_link = unstarted-links none;
  }

  heard-counted : later.faults ≡ counted (is_listener_work work) before.now.listener.faults
  heard-counted = ap (λ (l : ListenerTold). l.faults) gathered.retired
      ∙ done.worked.listener.faults

  -- ---- all of it

  module _ (failed : Bool) (has : HasAllOrders node.setup.centre log before.plant plant failed)
      (by_work : is_plant_work work ≡ true → failed ≡ true) (end : ServeEnd)
      (ended : EndsBy work failed seats end) where
    names-kept : KeepsNames First Last
    names-kept = record {
      listener = ap (λ (l : ListenerTold). l.name) gathered.retired ∙ done.worked.listener.name;
      plant = plant-named failed node.setup.centre log before.plant plant has;
      feed = feed-named node.setup given.feed left.feed seats.feed gathered.of_feed gathered.fed;
      listener_count = grows-by (is_listener_work work) before.now.listener.faults later.faults
          heard-counted;
      plant_count = grows-by failed before.plant.faults plant.faults
          (plant-counted failed node.setup.centre log before.plant plant has);
      feed_count = grows-by (has_source_fault seats.feed) given.feed.faults left.feed.faults
          (feed-counted node.setup given.feed left.feed seats.feed gathered.of_feed gathered.fed);
      clock_count = grows-by (has_clock_fault seats.ticks) given.clock.faults left.clock.faults
          (clock-counted node.setup given.clock left.clock seats.ticks gathered.of_ticks
          gathered.ticked);
      spawner_count = spawner-grows work (length done.worked.turned) before.now.spawner.faults
          refused starts-counted;
    }

    node-served : HasServedNode node.setup First Last log seats end
    node-served = record {
      work = work;
      front = after.now.seat.front;
      of_feed = gathered.of_feed;
      of_ticks = gathered.of_ticks;
      turned = done.worked.turned;
      served = gathered.served;
      plant_failed = failed;
      feed = gathered.fed;
      ticks = gathered.ticked;
      links = links-served;
      first = gathered.own_is ∙ done.worked.number ∙ is.number;
      own = own-served;
      closes = subst (λ (n : ℕ). ClosesOver ((n, after.now.seat.front) ∷ Claimed) log)
          (sym (gathered.own_is ∙ done.worked.number)) closed-first;
      plant = has;
      faults = record {
        listener = heard-counted;
        plant = plant-counted failed node.setup.centre log before.plant plant has;
        by_work = by_work;
        starts = starts-counted;
      };
      unstarted = unstarted;
      ends = ended;
    }

    all-served : IsServed node.setup First Last (Some log) seats end
    all-served = record {
      names = names-kept;
      outside_cause = λ e. why-outside First Last work failed seats heard-counted
          (plant-counted failed node.setup.centre log before.plant plant has)
          (feed-counted node.setup given.feed left.feed seats.feed gathered.of_feed gathered.fed)
          (clock-counted node.setup given.clock left.clock seats.ticks gathered.of_ticks
          gathered.ticked) unstarted (ended.outside_only e);
      comes = node-served;
    }

  pub is-served : TellsOnce → (failed : Bool) (end : ServeEnd)
      → TellsLeft (is_plant_work work) node.setup.centre log after.plant plant failed
      → EndsBy work failed seats end → IsServed node.setup First Last (Some log) seats end
  is-served law failed end tells ended =
      all-served failed (all-ordered law failed tells)
      (failed-then (is_plant_work work) failed node.setup.centre log after.plant plant tells) end
      ended

-- ---- without a node

-- nothing was done
pub none-served : (before : ServerTold) (setup : NodeSetup) (seats : Seats) (end : ServeEnd)
    → IsUnserved before before seats end → IsServed setup before before None seats end
none-served before setup seats end is = record {
  names = record {
    listener = refl;
    plant = refl;
    feed = refl;
    listener_count = omega arith;
    plant_count = omega arith;
    feed_count = omega arith;
    clock_count = omega arith;
    spawner_count = omega arith;
  };
  outside_cause = λ e. absurd (cc (e, is.memory));
  comes = is;
}
