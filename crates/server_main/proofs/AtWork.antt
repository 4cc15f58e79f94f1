-- The work of a server's own thread, up to its end.
use Rattle.std.proofs.Common.{◌≡◌, ℕ, ◌+◌, ◌-◌, ◌^◌, ◌<◌, ◌≤◌, Bool, true, false, List, []}
use Rattle.std.proofs.Common.{◌++◌, length, map, refl, sym, ap, subst, ◌∙◌, arith, append_assoc}
use Rattle.std.proofs.Common.{Option, Some, None, is_some, IfSome, length-append}
use Rattle.std.specs.Prelude.{option_map}
use Rattle.std.proofs.lemmas.List.{append-nil}
use Rattle.outside.specs.Sink.{SinkTold, AppendsAll, AppendsPart}
use Rattle.outside.proofs.Writing.{Appends-none}
use Rattle.outside.specs.Links.Jobs.{SpawnerTold}
use Rattle.outside.specs.Links.Links.{LinkTold}
use Rattle.outside.specs.Links.Listeners.{ListenerTold, RetiredIsWithin}
use Rattle.bilateral.specs.Rows.{CentreRows}
use Rattle.share_turn.specs.Entries.{own}
use Rattle.share_turn.specs.Public.{IsOf, at}
use Rattle.share_turn.proofs.Owned.{each_append}
use Rattle.node_server.specs.NodeCalls.{NodeCall, NodeLog, NodeSeat}
use Rattle.server_main.specs.Plant.PlantHistory.{lines_given}
use Rattle.node_server.specs.declared.jobs.parts.JobParts.{JobParts}
use Rattle.server_main.specs.Run.Gathering.{SharedNode, SeatClaim}
use Rattle.server_main.specs.Run.Starting.{TakesBack}
use Rattle.server_main.specs.Run.Accepting.{accepting}
use Rattle.server_main.specs.Run.Beginning.{IsFirstSeat, BeginsJobs, IsBeginning, jobs_back}
use Rattle.server_main.specs.Run.Serving.{KeepsServing}
use Rattle.server_main.specs.Run.Rounds.{ServingState, serving_state, ServesOn}
use Rattle.server_main.specs.declared.run.beginning.Begun.{Begun}
use Rattle.server_main.specs.declared.run.beginning.Beginning.{Beginning}
use Rattle.server_main.specs.declared.run.beginning.Beginning.TheVariants as beginnings
use Rattle.server_main.specs.declared.run.serving.ServingEnd.{ServingEnd}
use Rattle.server_main.specs.declared.run.serving.ServingEnd.TheVariants as servings
use Rattle.server_main.specs.Rounds.Rounds.{is_plant_end, PlantHas, SeatAfterRounds}
use Rattle.server_main.specs.Rounds.Rounds.{ListenerAfterRounds, RoundsDone, without_seat}
use Rattle.server_main.specs.declared.work_end.WorkEnd.{WorkEnd}
use Rattle.server_main.specs.declared.work_end.WorkEnd.TheVariants as works
use Rattle.server_main.specs.ServedParts.{is_listener_work, is_plant_work, CountsRefused}
use Rattle.server_main.specs.ServedParts.{IsLastAsking}
use Rattle.server_main.specs.Working.{Telling, InputsTold, no_links, StopsNode, HasOwnLines}
use Rattle.server_main.specs.Working.{WorksBehind, HasWorked, WorksToEnd}
use Rattle.server_main.proofs.Pending.{serves-none, to-gather, none-behind, same-behind}
use Rattle.server_main.proofs.FirstSeat.{calls-then}
use Rattle.server_main.proofs.OwnStop.{lines-stopped}

-- what was done behind a beginning, however the work ended
record WorkedOn {L S C : Type 0} (node : SharedNode) (before after : ServingState L S C)
    (faults : ℕ) (serving : List (JobParts L S C)) (work : WorkEnd) : Type 0 where
  askings : List NodeCall
  turned : List LinkTold
  seat : SeatAfterRounds node before.now.seat after.now.seat askings (length turned)
  last : IsLastAsking work askings
  listener : ListenerAfterRounds before.now.listener after.now.listener (length askings) turned
      (is_listener_work work)
  accepted : after.now.listener.accepted
      ≡ option_map (λ count. count + (length turned + length serving)) before.now.listener.accepted
  noted : after.now.links.seats
      ≡ before.now.links.seats ++ map without_seat turned
  counts : CountsRefused work (length turned) faults after.now.spawner.faults
  plant : HasOwnLines (is_plant_work work) node.setup.centre after.now.seat.number
      after.now.seat.front before.plant after.plant
  unstarted : work ≡ works.Refused → serving ≡ []

-- ---- rounds

own-lines : (end : ServingEnd) (node : SharedNode) (seat : NodeSeat) (start now : SinkTold)
    → PlantHas end node seat start now
    → HasOwnLines (is_plant_end end) node.setup.centre seat.number seat.front start now
own-lines servings.Stopped node seat start now has = has
own-lines servings.ListenerFault node seat start now has = has
own-lines servings.PlantFault node seat start now has = has
own-lines (servings.Full weight limit) node seat start now has = has
own-lines servings.Memory node seat start now has = has

-- nothing was given yet
none-given : (rows : CentreRows) (who : ℕ) (front : NodeLog) (plant : SinkTold) → front ≡ []
    → AppendsAll plant plant (lines_given rows who front)
none-given rows who front plant none =
    subst (λ (l : NodeLog). AppendsAll plant plant (lines_given rows who l)) (sym none)
    (Appends-none plant)

module _ {L S C : Type 0} (node : SharedNode) (before after : ServingState L S C) where
  rounds-worked : (faults : ℕ) (serving : List (JobParts L S C)) (end : ServingEnd)
      (work : WorkEnd) → work ≡ works.Ended end → before.now.seat.front ≡ []
      → before.now.spawner.faults ≡ faults
      → after.now.spawner.pending ≡ before.now.spawner.pending ++ serving
      → RoundsDone node before after end → WorkedOn node before after faults serving work
  rounds-worked faults serving end work is none same pending done =
      subst (λ (w : WorkEnd). WorkedOn node before after faults serving w) (sym is) (record {
        askings = done.calls;
        turned = done.turned;
        seat = done.seat;
        last = done.last;
        listener = done.listener;
        accepted = subst (λ (jobs : List (JobParts L S C)). after.now.listener.accepted
            ≡ option_map (λ count. count + (length done.turned + length jobs))
            before.now.listener.accepted)
            (same-behind before.now.spawner.pending done.started serving
            (sym done.pending ∙ pending)) done.accepted;
        noted = done.noted;
        counts = subst (λ (n : ℕ). CountsRefused (works.Ended end) (length done.turned) n
            after.now.spawner.faults) same done.counts;
        plant = own-lines end node after.now.seat before.plant after.plant
            (done.plant before.plant (none-given node.setup.centre before.now.seat.number
            before.now.seat.front before.plant none));
        unstarted = λ refused. absurd cc;
      })

-- ---- no rounds

all-accepted : (accepted : Option ℕ) → accepted ≡ option_map (λ count. count + (0 + 0)) accepted
all-accepted None = refl
all-accepted (Some count) = ap (λ (n : ℕ). Some n) (omega arith)

none-retired : (retired : Option (List LinkTold))
    → retired ≡ option_map (λ links. links ++ []) retired
none-retired None = refl
none-retired (Some links) = ap (λ (l : List LinkTold). Some l) (sym (append-nil links))

few-calls : (calls : Option ℕ) → IfSome calls (λ first. IfSome calls (λ last. last < 2 ^ 64 - 1
    → first + 0 ≤ last))
few-calls None = tt
few-calls (Some calls) = λ short. omega arith

abbrev seat-same : (node : SharedNode) (seat : NodeSeat) → IsOf node seat
    → SeatAfterRounds node seat seat [] 0
seat-same node seat of = record {
  of = of;
  number = refl;
  claims = [];
  count = refl;
  ended = refl;
  none = tt;
  asks = tt;
  made = refl;
}

abbrev listener-same : (listener : ListenerTold) → ListenerAfterRounds listener listener 0 [] false
listener-same listener = record {
  few = few-calls listener.calls;
  closed = tt;
  retired = none-retired listener.retired;
  faults = refl;
  name = refl;
}

module _ {L S C : Type 0} (node : SharedNode) (now : ServingState L S C) where
  at-once : (faults : ℕ) (serving : List (JobParts L S C)) (work : WorkEnd)
      → IsOf node now.now.seat → now.now.seat.front ≡ [] → serving ≡ []
      → IsLastAsking work [] → is_listener_work work ≡ false → is_plant_work work ≡ false
      → CountsRefused work 0 faults now.now.spawner.faults
      → WorkedOn node now now faults serving work
  at-once faults serving work of none no_jobs last heard plant counts = record {
    askings = [];
    turned = [];
    seat = seat-same node now.now.seat of;
    last = last;
    listener = subst (λ (b : Bool). ListenerAfterRounds now.now.listener now.now.listener 0 [] b)
        (sym heard) (listener-same now.now.listener);
    accepted = subst (λ (jobs : List (JobParts L S C)). now.now.listener.accepted
        ≡ option_map (λ count. count + (0 + length jobs)) now.now.listener.accepted)
        (sym no_jobs) (all-accepted now.now.listener.accepted);
    noted = sym (append-nil now.now.links.seats);
    counts = counts;
    plant = subst (λ (b : Bool). HasOwnLines b node.setup.centre now.now.seat.number
        now.now.seat.front now.plant now.plant) (sym plant)
        (none-given node.setup.centre now.now.seat.number now.now.seat.front now.plant none);
    unstarted = λ refused. no_jobs;
  }

-- ---- both

module _ {L S C : Type 0} (told : L → LinkTold) (node : SharedNode)
    (law : (before after : ServingState L S C) (end : ServingEnd) → IsOf node before.now.seat
    → ServesOn told node before after end → RoundsDone node before after end) where
  worked-on : (start : SpawnerTold (JobParts L S C)) (unrun : Option S) (unticked : Option C)
      (before after : ServingState L S C) (serving : List (JobParts L S C)) (begun : Beginning)
      (work : WorkEnd) → IsOf node before.now.seat → before.now.seat.front ≡ []
      → IsBeginning start before.now.spawner unrun unticked begun
      → after.now.spawner.pending ≡ before.now.spawner.pending ++ serving
      → WorksBehind told node before after begun work
      → WorkedOn node before after start.faults serving work
  worked-on start unrun unticked before after serving beginnings.Whole work of none began pending
      behind =
      rounds-worked node before after start.faults serving behind.0 work behind.1 none began.2
      pending (law before after behind.0 of behind.2)
  worked-on start unrun unticked before after serving beginnings.Refused work of none began pending
      behind =
      let no_jobs = none-behind before.now.spawner.pending serving
      (ap (λ (s : ServingState L S C). s.now.spawner.pending) (sym behind.1) ∙ pending) in
      subst (λ (w : WorkEnd). WorkedOn node before after start.faults serving w) (sym behind.0)
      (subst (λ (s : ServingState L S C).
      WorkedOn node before s start.faults serving works.Refused) (sym behind.1)
      (at-once node before start.faults serving works.Refused of none no_jobs refl refl refl
      (refl, began.1)))
  worked-on start unrun unticked before after serving beginnings.Memory work of none began pending
      behind =
      let no_jobs = none-behind before.now.spawner.pending serving
      (ap (λ (s : ServingState L S C). s.now.spawner.pending) (sym behind.1) ∙ pending) in
      subst (λ (w : WorkEnd). WorkedOn node before after start.faults serving w) (sym behind.0)
      (subst (λ (s : ServingState L S C).
      WorkedOn node before s start.faults serving (works.Ended servings.Memory)) (sym behind.1)
      (at-once node before start.faults serving (works.Ended servings.Memory) of none no_jobs tt
      refl refl (0, began.1, omega arith, omega arith)))

  unticked-refused : (start later : SpawnerTold (JobParts L S C)) (unrun : Option S)
      (unticked : Option C) (begun : Beginning) (work : WorkEnd) (before after : ServingState L S C)
      → IsBeginning start later unrun unticked begun
      → WorksBehind told node before after begun work → work ≡ works.Refused
      → is_some unticked ≡ true
  unticked-refused start later unrun unticked beginnings.Whole work before after began behind is =
      absurd (cc (behind.1, is))
  unticked-refused start later unrun unticked beginnings.Refused work before after began behind is =
      began.0
  unticked-refused start later unrun unticked beginnings.Memory work before after began behind is =
      absurd (cc (behind.0, is))

-- ---- all of it

lines-on : (failed : Bool) (rows : CentreRows) (who who' : ℕ) (front later : NodeLog)
    (start now : SinkTold) → who ≡ who' → lines_given rows who later ≡ lines_given rows who front
    → HasOwnLines failed rows who front start now → HasOwnLines failed rows who' later start now
lines-on false rows who who' front later start now number same has =
    subst (λ (n : ℕ). AppendsAll start now (lines_given rows n later)) number
    (subst (λ (l : List ℕ). AppendsAll start now l) (sym same) has)
lines-on true rows who who' front later start now number same has =
    subst (λ (n : ℕ). AppendsPart start now (lines_given rows n later) true) number
    (subst (λ (l : List ℕ). AppendsPart start now l true) (sym same) has)

module _ {L S C : Type 0} (node : SharedNode) (first mid : NodeSeat) (listener : ListenerTold)
    (start spawner : SpawnerTold (JobParts L S C)) (plant : SinkTold) (after : ServingState L S C)
  where
    abbrev Behind : ServingState L S C
    Behind = serving_state (accepting mid listener spawner no_links) plant

    has-worked : (front : NodeLog) (serving : List (JobParts L S C)) (work : WorkEnd)
        → IsFirstSeat node first → (back : ℕ) → TakesBack node back first mid
        → WorkedOn node Behind after start.faults serving work
        → StopsNode node.setup work after.now.seat front
        → HasWorked node (serving_state (accepting first listener start no_links) plant)
        (serving_state (record after.now { seat = at after.now.seat front }) after.plant)
        (length serving) back work
    has-worked front serving work is many back on stops =
        let number : after.now.seat.number ≡ first.number = on.seat.number ∙ back.number in
        record {
          askings = on.askings;
          stop = stops.stop;
          turned = on.turned;
          number = number;
          joined = on.seat.claims ++ back.claims;
          count = omega (
            arith,
            length-append on.seat.claims back.claims,
            on.seat.count,
            back.count,
          );
          ended = on.seat.ended ∙ ap (λ (l : List SeatClaim). on.seat.claims ++ l) back.ended
              ∙ sym (append_assoc on.seat.claims back.claims first.ended);
          none = each_append (λ (claim : SeatClaim). own claim.0 claim.1 ≡ []) on.seat.claims
              back.claims on.seat.none back.none;
          asks = on.seat.asks;
          last = on.last;
          stops = stops.stops;
          made = calls-then node.setup first mid after.now.seat on.askings stops.stop front
              back.number back.front number on.seat.made stops.made;
          listener = on.listener;
          accepted = on.accepted;
          noted = on.noted;
          counts = on.counts;
          plant = lines-on (is_plant_work work) node.setup.centre after.now.seat.number first.number
              after.now.seat.front front plant after.plant number
              (lines-stopped node.setup node.setup.centre work after.now.seat stops.stop front
              stops.stops stops.made) on.plant;
        }

module _ {L S C : Type 0} (told : Telling L S C) (node : SharedNode)
    (law : (before after : ServingState L S C) (end : ServingEnd) → IsOf node before.now.seat
    → ServesOn told.link node before after end → RoundsDone node before after end) where
  ends-begun : (given : InputsTold) (first mid : NodeSeat) (listener : ListenerTold)
      (start spawner : SpawnerTold (JobParts L S C)) (plant : SinkTold)
      (after : ServingState L S C) (begun : Begun S C) (work : WorkEnd) (front : NodeLog)
      → IsFirstSeat node first → RetiredIsWithin listener
      → BeginsJobs told.feed told.clock node given.feed given.clock first mid start spawner begun
      → KeepsServing told.link node (accepting mid listener spawner no_links) after.now
      → WorksBehind told.link node
      (serving_state (accepting mid listener spawner no_links) plant) after begun.end work
      → StopsNode node.setup work after.now.seat front
      → WorksToEnd told node given
      (serving_state (accepting first listener start no_links) plant)
      (serving_state (record after.now { seat = at after.now.seat front }) after.plant)
      begun.feed begun.clock work
  ends-begun given first mid listener start spawner plant after begun work front is within begins
      keeps behind stops =
      let before : ServingState L S C =
      serving_state (accepting mid listener spawner no_links) plant in
      let serves = keeps spawner.pending
      (serves-none told.link node mid listener spawner begins.back.of within) in
      let on : WorkedOn node before after start.faults serves.serving work =
      worked-on told.link node law start begun.feed begun.clock before after serves.serving
      begun.end work begins.back.of (begins.back.front ∙ is.front) begins.end_is serves.pending
      behind in
      record {
        to_gather = to-gather told node given begun.feed begun.clock spawner after.now front
            begins.feed_is begins.ticks_are begins.no_more serves;
        worked = has-worked node first mid listener start spawner plant after front serves.serving
            work is (jobs_back begun.clock) begins.back on stops;
        unstarted = λ refused. (
          unticked-refused told.link node law start spawner begun.feed begun.clock begun.end work
              before after begins.end_is behind refused,
          on.unstarted refused,
        );
      }

  pub works-to-end : (given : InputsTold) (first mid last : NodeSeat) (listener : ListenerTold)
      (start spawner : SpawnerTold (JobParts L S C)) (plant : SinkTold)
      (after : ServingState L S C) (begun : Begun S C) (unrun : Option S) (unticked : Option C)
      (work : WorkEnd) → IsFirstSeat node first → RetiredIsWithin listener
      → BeginsJobs told.feed told.clock node given.feed given.clock first mid start spawner begun
      → KeepsServing told.link node (accepting mid listener spawner no_links) after.now
      → WorksBehind told.link node
      (serving_state (accepting mid listener spawner no_links) plant) after begun.end work
      → unrun ≡ begun.feed → unticked ≡ begun.clock → last ≡ at after.now.seat last.front
      → StopsNode node.setup work after.now.seat last.front
      → WorksToEnd told node given
      (serving_state (accepting first listener start no_links) plant)
      (serving_state (record after.now { seat = last }) after.plant) unrun unticked work
  works-to-end given first mid last listener start spawner plant after begun unrun unticked work is
      within begins keeps behind feed clock same stops =
      let before = serving_state (accepting first listener start no_links) plant in
      subst (λ (o : Option S). WorksToEnd told node given before
      (serving_state (record after.now { seat = last }) after.plant) o unticked work) (sym feed)
      (subst (λ (o : Option C). WorksToEnd told node given before
      (serving_state (record after.now { seat = last }) after.plant) begun.feed o work)
      (sym clock)
      (subst (λ (s : NodeSeat). WorksToEnd told node given before
      (serving_state (record after.now { seat = s }) after.plant) begun.feed begun.clock work)
      (sym same)
      (ends-begun given first mid listener start spawner plant after begun work last.front is
      within begins keeps behind stops)))
