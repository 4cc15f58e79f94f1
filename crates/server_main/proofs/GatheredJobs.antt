-- All that a server gathers of its jobs.
use Rattle.std.proofs.Common.{◌≡◌, ℕ, List, ◌∷◌, ◌++◌, length, refl, sym, ap, subst, ◌∙◌}
use Rattle.std.proofs.Common.{◌≤◌, Option, Some, None}
use Rattle.outside.specs.Source.{SourceTold}
use Rattle.outside.specs.Links.Clocks.{ClockTold}
use Rattle.outside.specs.Links.Jobs.{SpawnerTold}
use Rattle.outside.specs.Links.Listeners.{ListenerTold}
use Rattle.share_turn.specs.Entries.{Each}
use Rattle.share_turn.specs.Public.{IsOf}
use Rattle.node_server.specs.NodeCalls.{NodeLog, NodeSeat}
use Rattle.node_server.specs.declared.jobs.parts.JobParts.{JobParts}
use Rattle.server_main.specs.declared.run.seats.FeedSeat.{FeedSeat}
use Rattle.server_main.specs.declared.run.seats.TickSeat.{TickSeat}
use Rattle.server_main.specs.declared.run.seats.Seats.{Seats}
use Rattle.server_main.specs.Run.Gathering.{SharedNode, SeatClaim, ServedLink, FeedRun, TicksRun}
use Rattle.server_main.specs.Run.Gathering.{FeedGathered, TicksGathered, FinishesLinks, gathering}
use Rattle.server_main.specs.Run.Gathering.{GathersJobs, ClaimsJobs, Gathers, ClosesOver}
use Rattle.server_main.specs.Run.Gathering.{behind_started, FeedStarted, TicksStarted, IsLinkJob}
use Rattle.server_main.specs.Run.Retiring.{LinksNoted, AreOut}
use Rattle.server_main.specs.Run.Accepting.{Accepting}
use Rattle.server_main.specs.Working.{Telling, InputsTold, IsToGather}
use Rattle.server_main.specs.Gathered.{HasGathered}

pub of-fed : (node : SharedNode) (before after : NodeSeat) (given left : SourceTold)
    (fed : Option FeedSeat) → IsOf node before → FeedGathered node before after given left fed
    → IsOf node after
of-fed node before after given left None of is =
    subst (λ (s : NodeSeat). IsOf node s) (sym is.1) of
of-fed node before after given left (Some fed) of is = is.gathers.of

pub of-ticked : (node : SharedNode) (before after : NodeSeat) (given left : ClockTold)
    (ticked : Option TickSeat) → IsOf node before
    → TicksGathered node before after given left ticked → IsOf node after
of-ticked node before after given left None of is =
    subst (λ (s : NodeSeat). IsOf node s) (sym is.1) of
of-ticked node before after given left (Some ticked) of is = is.gathers.of

pub same-faults : {X J : Type 0} (unrun : Option X) (told : SpawnerTold J)
    → (behind_started unrun told).faults ≡ told.faults
same-faults None told = refl
same-faults (Some unrun) told = refl

pub has-gathered : (node : SharedNode) (given left : InputsTold)
    (own second third after : NodeSeat) (listener later : ListenerTold)
    (noted noted_later : LinksNoted) (many : ℕ) (seats : Seats) (log : NodeLog)
    → ((node : SharedNode) (own after : NodeSeat) (feed : FeedRun) (ticks : TicksRun)
    (served : List ServedLink) → IsOf node own → GathersJobs node own after feed ticks served
    → ClaimsJobs node own after feed ticks served)
    → ((own : NodeSeat) (claims : List SeatClaim) → Gathers node own after claims
    → ClosesOver ((own.number, own.front) ∷ claims ++ own.ended) log)
    → IsOf node own → FeedGathered node own second given.feed left.feed seats.feed
    → TicksGathered node second third given.clock left.clock seats.ticks
    → FinishesLinks node many (gathering third listener noted) (gathering after later noted_later)
    → seats.own ≡ own.number → seats.links.seats ≡ noted_later.seats
    → HasGathered node given (gathering own listener noted) many later left seats log
has-gathered node given left own second third after listener later noted noted_later many seats log
    law over of fed ticked finishes number links =
    let all = law node own after
    (record { given = given.feed; left = left.feed; fed = seats.feed })
    (record { given = given.clock; left = left.clock; ticked = seats.ticks })
    finishes.served of (record {
      second = second;
      third = third;
      feed_is = fed;
      ticks_are = ticked;
      links_are = finishes.gathers;
    }) in
    record {
      of_feed = all.of_feed;
      of_ticks = all.of_ticks;
      served = finishes.served;
      fed = all.fed;
      ticked = all.ticked;
      count = finishes.count;
      each = finishes.each;
      retired = finishes.retired;
      noted_is = links ∙ finishes.noted;
      own_is = number;
      closes = over own _ all.gathers;
    }

module _ {L S C : Type 0} (told : Telling L S C) (node got : SharedNode) (given : InputsTold)
    (unrun : Option S) (unticked : Option C) (now : Accepting L S C) (same : got ≡ node)
    (to : IsToGather told node given unrun unticked now) where
  pub of-own : IsOf got now.seat
  of-own = subst (λ (n : SharedNode). IsOf n now.seat) (sym same) to.of

  pub feed-started : FeedStarted told.feed got given.feed unrun now.spawner.pending
  feed-started = subst (λ (n : SharedNode).
      FeedStarted told.feed n given.feed unrun now.spawner.pending) (sym same) to.feed_is

  module _ (second : SpawnerTold (JobParts L S C)) (fed : second ≡ behind_started unrun now.spawner)
    where
      pub ticks-started : TicksStarted told.clock got given.clock unticked second.pending
      ticks-started = subst (λ (n : SharedNode).
          TicksStarted told.clock n given.clock unticked second.pending) (sym same)
          (subst (λ (t : SpawnerTold (JobParts L S C)).
          TicksStarted told.clock node given.clock unticked t.pending) (sym fed) to.ticks_are)

      module _ (third : SpawnerTold (JobParts L S C))
          (ticked : third ≡ behind_started unticked second)
        where
          pub left-pending : third.pending ≡ to.serving
          left-pending = ap (λ (t : SpawnerTold (JobParts L S C)). t.pending) ticked
              ∙ ap (λ (t : SpawnerTold (JobParts L S C)). (behind_started unticked t).pending) fed
              ∙ to.behind

          pub left-jobs : Each (IsLinkJob told.link got) third.pending
          left-jobs = subst (λ (jobs : List (JobParts L S C)). Each (IsLinkJob told.link got) jobs)
              (sym left-pending)
              (subst (λ (n : SharedNode). Each (IsLinkJob told.link n) to.serving) (sym same)
              to.jobs)

          pub left-rooms : length third.pending ≤ now.links.rooms
          left-rooms = subst (λ (jobs : List (JobParts L S C)). length jobs ≤ now.links.rooms)
              (sym left-pending) to.rooms

          pub left-out : AreOut (length third.pending) now.listener
          left-out = subst (λ (jobs : List (JobParts L S C)). AreOut (length jobs) now.listener)
              (sym left-pending) to.out

          pub left-faults : third.faults ≡ now.spawner.faults
          left-faults = ap (λ (t : SpawnerTold (JobParts L S C)). t.faults) ticked
              ∙ same-faults unticked second
              ∙ ap (λ (t : SpawnerTold (JobParts L S C)). t.faults) fed
              ∙ same-faults unrun now.spawner

          pub gathers-all : (left : InputsTold) (own_second own_third after : NodeSeat)
              (later : ListenerTold) (noted_later : LinksNoted) (seats : Seats) (log : NodeLog)
              → ((node : SharedNode) (own after : NodeSeat) (feed : FeedRun) (ticks : TicksRun)
              (served : List ServedLink) → IsOf node own
              → GathersJobs node own after feed ticks served
              → ClaimsJobs node own after feed ticks served)
              → ((own : NodeSeat) (claims : List SeatClaim) → Gathers got own after claims
              → ClosesOver ((own.number, own.front) ∷ claims ++ own.ended) log)
              → FeedGathered got now.seat own_second given.feed left.feed seats.feed
              → TicksGathered got own_second own_third given.clock left.clock seats.ticks
              → FinishesLinks got (length third.pending)
              (gathering own_third now.listener now.links) (gathering after later noted_later)
              → seats.own ≡ now.seat.number → seats.links.seats ≡ noted_later.seats
              → HasGathered node given (gathering now.seat now.listener now.links)
              (length to.serving) later left seats log
          gathers-all left own_second own_third after later noted_later seats log law over feed
              ticks finishes number links =
              subst (λ (n : SharedNode). HasGathered n given
              (gathering now.seat now.listener now.links)
              (length to.serving) later left seats log) same
              (subst (λ (jobs : List (JobParts L S C)). HasGathered got given
              (gathering now.seat now.listener now.links) (length jobs) later left seats log)
              left-pending
              (has-gathered got given left now.seat own_second own_third after now.listener later
              now.links noted_later
              (length third.pending) seats log law over of-own feed ticks finishes
              number links))
