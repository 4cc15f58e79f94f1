-- What came of a job, by what was started.
use Rattle.std.proofs.Common.{◌≡◌, List, refl, ap, sym, ◌∙◌, subst, drop}
use Rattle.std.proofs.Common.{Option, Some, None}
use Rattle.std.specs.Arc.{arc_value}
use Rattle.outside.specs.Source.{SourceTold}
use Rattle.outside.specs.Links.Clocks.{ClockTold}
use Rattle.outside.specs.Links.Links.{LinkTold}
use Rattle.outside.specs.Links.Jobs.{SpawnerTold, FinishesFirst}
use Rattle.share_turn.specs.Public.{IsOf}
use Rattle.node_server.specs.declared.turn.turn_node.NodeSetup.{NodeSetup}
use Rattle.node_server.specs.NodeCalls.{NodeLog, NodeSeat}
use Rattle.node_server.specs.Feeding.{RunsFeed}
use Rattle.node_server.specs.Ticking.{RunsTicks}
use Rattle.node_server.specs.declared.feed_end.FeedEnd.{FeedEnd}
use Rattle.node_server.specs.declared.ticking.TickEnd.{TickEnd}
use Rattle.node_server.specs.Jobs.Running.{HasSeenMore, MayComeOfJob}
use Rattle.node_server.specs.declared.jobs.parts.JobParts.{JobParts}
use Rattle.node_server.specs.declared.jobs.parts.JobParts.TheVariants as parts
use Rattle.node_server.specs.declared.jobs.done.NodeDone.{NodeDone}
use Rattle.node_server.specs.declared.jobs.done.NodeDone.TheVariants as dones
use Rattle.server_main.specs.declared.run.seats.FeedSeat.{FeedSeat}
use Rattle.server_main.specs.declared.run.seats.TickSeat.{TickSeat}
use Rattle.server_main.specs.Run.Gathering.{SharedNode, FirstIs, HasFreshSeat, IsFeedJob, IsTicksJob}
use Rattle.server_main.specs.Run.Gathering.{MayJoin, IsFeedDone, IsTicksDone}
use Rattle.server_main.specs.Run.Gathering.{TakesFeed, TakesTicks, FinishesFeed, FinishesTicks}
use Rattle.server_main.specs.Run.Gathering.{FeedStarted, TicksStarted}

pub may-join : (node shared : SharedNode) (seat later : NodeSeat) → HasFreshSeat node shared seat
    → HasSeenMore seat later → MayJoin node later
may-join node shared seat later fresh seen = (
  subst (IsOf node) (sym seen.same) fresh.of,
  ap (λ (s : NodeSeat). s.ended) seen.same ∙ fresh.none_ended,
)

pub same-number : (seat later : NodeSeat) → HasSeenMore seat later → seat.number ≡ later.number
same-number seat later seen = sym (ap (λ (s : NodeSeat). s.number) seen.same)

-- ---- the first of what was started

module _ {J D : Type 0} (may_give : J → D → Type 0) (P : J → Type 0) where
  pub none-first : (before after : SpawnerTold J) → FinishesFirst may_give before after None
      → FirstIs P before.pending → ⊥
  none-first before after none first = subst (FirstIs P) none.0 first

  pub first-left : (before after : SpawnerTold J) (done : D)
      → FinishesFirst may_give before after (Some done)
      → after ≡ record before { pending = drop 1 before.pending }
  first-left before after done some = subst
      (λ (b : SpawnerTold J). after ≡ record b { pending = drop 1 b.pending }) (sym some.2) refl

  abbrev pub first-job : (before after : SpawnerTold J) (done : D)
      → FinishesFirst may_give before after (Some done) → FirstIs P before.pending
      → (job : J) × P job × may_give job done
  first-job before after done some first =
      (some.0, subst (λ (b : SpawnerTold J). FirstIs P b.pending) some.2 first, some.1)

module _ {L S C : Type 0} (link_told : L → LinkTold) (feed_told : S → SourceTold)
    (clock_told : C → ClockTold) (node : SharedNode) where
  -- ---- a feed

  pub feed-started : (given : SourceTold) (unrun : Option S) (pending : List (JobParts L S C))
      → unrun ≡ None → FeedStarted feed_told node given unrun pending
      → FirstIs (IsFeedJob feed_told node given) pending
  feed-started given unrun pending none started =
      subst (λ (o : Option S). FeedStarted feed_told node given o pending) none started

  pub feed-unrun : (given : SourceTold) (unrun : Option S) (pending : List (JobParts L S C))
      (source : S) → unrun ≡ Some source → FeedStarted feed_told node given unrun pending
      → feed_told source ≡ given
  feed-unrun given unrun pending source some started =
      subst (λ (o : Option S). FeedStarted feed_told node given o pending) some started

  feed-done-by : (given : SourceTold) (job : JobParts L S C) (done : NodeDone L S C)
      → IsFeedJob feed_told node given job
      → MayComeOfJob link_told feed_told clock_told job done → IsFeedDone node done
  feed-done-by given (parts.Conn centre shared seat link alloc) done f m = absurd f
  feed-done-by given (parts.Ticks shared seat clock alloc) done f m = absurd f
  feed-done-by given (parts.Feed centre shared seat source alloc) (dones.Conn later left end) f m =
      absurd m
  feed-done-by given (parts.Feed centre shared seat source alloc) (dones.Ticks later left end) f m =
      absurd m
  feed-done-by given (parts.Feed centre shared seat source alloc) (dones.Feed later left end) f m =
      may-join node (arc_value shared) seat later f.1 m.seat_is

  runs-so : (setup setup' : NodeSetup) (seat : NodeSeat) (front : NodeLog)
      (given given' left left' : SourceTold) (end end' : FeedEnd) → setup ≡ setup'
      → given ≡ given' → left ≡ left' → end ≡ end' → RunsFeed setup seat front given left end
      → RunsFeed setup' seat front given' left' end'
  runs-so setup setup' seat front given given' left left' end end' a b c d runs =
      subst (λ (x : NodeSetup). RunsFeed x seat front given' left' end') a
      (subst (λ (x : SourceTold). RunsFeed setup seat front x left' end') b
      (subst (λ (x : SourceTold). RunsFeed setup seat front given x end') c
      (subst (λ (x : FeedEnd). RunsFeed setup seat front given left x) d runs)))

  feed-ends-by : (given : SourceTold) (job : JobParts L S C) (done : NodeDone L S C)
      (before after : NodeSeat) (back : S) (fed : FeedSeat) → IsFeedJob feed_told node given job
      → MayComeOfJob link_told feed_told clock_told job done
      → TakesFeed node before after done back fed
      → FinishesFeed node before after given (feed_told back) fed
  feed-ends-by given (parts.Conn centre shared seat link alloc) done before after back fed f m t =
      absurd f
  feed-ends-by given (parts.Ticks shared seat clock alloc) done before after back fed f m t =
      absurd f
  feed-ends-by given (parts.Feed centre shared seat source alloc) (dones.Conn later left end) before
      after back fed f m t = absurd m
  feed-ends-by given (parts.Feed centre shared seat source alloc) (dones.Ticks later left end)
      before after back fed f m t = absurd m
  feed-ends-by given (parts.Feed centre shared seat source alloc) (dones.Feed later left end) before
      after back fed f m t =
      let at_seat : later.number ≡ fed.seat = sym (ap (λ (x : FeedSeat). x.seat) t.1) in
      record {
        claim = (later.number, later.front);
        has_fed = record {
          seat = seat;
          number = same-number seat later m.seat_is ∙ at_seat;
          none = f.1.none;
          claimed = at_seat;
          feeds = runs-so (arc_value shared).setup node.setup seat later.front (feed_told source)
              given (feed_told left) (feed_told back) end fed.end
              (ap (λ (x : SharedNode). x.setup) f.1.same) f.0 (ap feed_told (sym t.0))
              (sym (ap (λ (x : FeedSeat). x.end) t.1)) m.feeds;
        };
        gathers = t.2;
      }

  pub feed-done : (given : SourceTold) (before after : SpawnerTold (JobParts L S C))
      (done : NodeDone L S C)
      → FinishesFirst (MayComeOfJob link_told feed_told clock_told) before after (Some done)
      → FirstIs (IsFeedJob feed_told node given) before.pending → IsFeedDone node done
  feed-done given before after done some first =
      let one = first-job (MayComeOfJob link_told feed_told clock_told)
      (IsFeedJob feed_told node given) before after done some first in
      feed-done-by given one.0 done one.1 one.2

  pub feed-ends : (given : SourceTold) (told later : SpawnerTold (JobParts L S C))
      (done : NodeDone L S C) (before after : NodeSeat) (back : S) (fed : FeedSeat)
      → FinishesFirst (MayComeOfJob link_told feed_told clock_told) told later (Some done)
      → TakesFeed node before after done back fed
      → FirstIs (IsFeedJob feed_told node given) told.pending
      → FinishesFeed node before after given (feed_told back) fed
  feed-ends given told later done before after back fed some takes first =
      let one = first-job (MayComeOfJob link_told feed_told clock_told)
      (IsFeedJob feed_told node given) told later done some first in
      feed-ends-by given one.0 done before after back fed one.1 one.2 takes

  -- ---- a clock

  pub ticks-started : (given : ClockTold) (unrun : Option C) (pending : List (JobParts L S C))
      → unrun ≡ None → TicksStarted clock_told node given unrun pending
      → FirstIs (IsTicksJob clock_told node given) pending
  ticks-started given unrun pending none started =
      subst (λ (o : Option C). TicksStarted clock_told node given o pending) none started

  pub ticks-unrun : (given : ClockTold) (unrun : Option C) (pending : List (JobParts L S C))
      (clock : C) → unrun ≡ Some clock → TicksStarted clock_told node given unrun pending
      → clock_told clock ≡ given
  ticks-unrun given unrun pending clock some started =
      subst (λ (o : Option C). TicksStarted clock_told node given o pending) some started

  ticks-done-by : (given : ClockTold) (job : JobParts L S C) (done : NodeDone L S C)
      → IsTicksJob clock_told node given job
      → MayComeOfJob link_told feed_told clock_told job done → IsTicksDone node done
  ticks-done-by given (parts.Conn centre shared seat link alloc) done f m = absurd f
  ticks-done-by given (parts.Feed centre shared seat source alloc) done f m = absurd f
  ticks-done-by given (parts.Ticks shared seat clock alloc) (dones.Conn later left end) f m =
      absurd m
  ticks-done-by given (parts.Ticks shared seat clock alloc) (dones.Feed later left end) f m =
      absurd m
  ticks-done-by given (parts.Ticks shared seat clock alloc) (dones.Ticks later left end) f m =
      may-join node (arc_value shared) seat later f.1 m.seat_is

  ticks-so : (setup setup' : NodeSetup) (seat : NodeSeat) (front : NodeLog)
      (given given' left left' : ClockTold) (end end' : TickEnd) → setup ≡ setup'
      → given ≡ given' → left ≡ left' → end ≡ end' → RunsTicks setup seat front given left end
      → RunsTicks setup' seat front given' left' end'
  ticks-so setup setup' seat front given given' left left' end end' a b c d runs =
      subst (λ (x : NodeSetup). RunsTicks x seat front given' left' end') a
      (subst (λ (x : ClockTold). RunsTicks setup seat front x left' end') b
      (subst (λ (x : ClockTold). RunsTicks setup seat front given x end') c
      (subst (λ (x : TickEnd). RunsTicks setup seat front given left x) d runs)))

  ticks-ends-by : (given : ClockTold) (job : JobParts L S C) (done : NodeDone L S C)
      (before after : NodeSeat) (back : C) (ticked : TickSeat)
      → IsTicksJob clock_told node given job
      → MayComeOfJob link_told feed_told clock_told job done
      → TakesTicks node before after done back ticked
      → FinishesTicks node before after given (clock_told back) ticked
  ticks-ends-by given (parts.Conn centre shared seat link alloc) done before after back ticked f m
      t = absurd f
  ticks-ends-by given (parts.Feed centre shared seat source alloc) done before after back ticked f
      m t = absurd f
  ticks-ends-by given (parts.Ticks shared seat clock alloc) (dones.Conn later left end) before
      after back ticked f m t = absurd m
  ticks-ends-by given (parts.Ticks shared seat clock alloc) (dones.Feed later left end)
      before after back ticked f m t = absurd m
  ticks-ends-by given (parts.Ticks shared seat clock alloc) (dones.Ticks later left end) before
      after back ticked f m t =
      let at_seat : later.number ≡ ticked.seat = sym (ap (λ (x : TickSeat). x.seat) t.1) in
      record {
        claim = (later.number, later.front);
        has_ticked = record {
          seat = seat;
          number = same-number seat later m.seat_is ∙ at_seat;
          none = f.1.none;
          claimed = at_seat;
          ticks = ticks-so (arc_value shared).setup node.setup seat later.front (clock_told clock)
              given (clock_told left) (clock_told back) end ticked.end
              (ap (λ (x : SharedNode). x.setup) f.1.same) f.0 (ap clock_told (sym t.0))
              (sym (ap (λ (x : TickSeat). x.end) t.1)) m.ticks;
        };
        gathers = t.2;
      }

  pub ticks-done : (given : ClockTold) (before after : SpawnerTold (JobParts L S C))
      (done : NodeDone L S C)
      → FinishesFirst (MayComeOfJob link_told feed_told clock_told) before after (Some done)
      → FirstIs (IsTicksJob clock_told node given) before.pending → IsTicksDone node done
  ticks-done given before after done some first =
      let one = first-job (MayComeOfJob link_told feed_told clock_told)
      (IsTicksJob clock_told node given) before after done some first in
      ticks-done-by given one.0 done one.1 one.2

  pub ticks-ends : (given : ClockTold) (told later : SpawnerTold (JobParts L S C))
      (done : NodeDone L S C) (before after : NodeSeat) (back : C) (ticked : TickSeat)
      → FinishesFirst (MayComeOfJob link_told feed_told clock_told) told later (Some done)
      → TakesTicks node before after done back ticked
      → FirstIs (IsTicksJob clock_told node given) told.pending
      → FinishesTicks node before after given (clock_told back) ticked
  ticks-ends given told later done before after back ticked some takes first =
      let one = first-job (MayComeOfJob link_told feed_told clock_told)
      (IsTicksJob clock_told node given) told later done some first in
      ticks-ends-by given one.0 done before after back ticked one.1 one.2 takes
