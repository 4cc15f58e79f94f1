-- The jobs of a beginning, as they were started.
use Rattle.std.proofs.Common.{◌≡◌, ℕ, List, [], ◌∷◌, ◌++◌, refl, sym, ap, ◌∙◌, subst, drop}
use Rattle.std.proofs.Common.{Some}
use Rattle.outside.specs.Faults.{next_count}
use Rattle.outside.specs.Source.{SourceTold}
use Rattle.outside.specs.Links.Clocks.{ClockTold}
use Rattle.outside.specs.Links.Jobs.{SpawnerTold}
use Rattle.outside.specs.declared.links.job.Start.{Start}
use Rattle.outside.specs.declared.links.job.Start.TheVariants as starts
use Rattle.share_turn.specs.Public.{IsOf}
use Rattle.node_server.specs.NodeCalls.{NodeSeat}
use Rattle.node_server.specs.declared.jobs.parts.JobParts.{JobParts}
use Rattle.node_server.specs.declared.jobs.parts.JobParts.TheVariants as parts
use Rattle.server_main.specs.declared.run.starting.JobInput.{JobInput}
use Rattle.server_main.specs.declared.run.starting.JobInput.TheVariants as inputs
use Rattle.server_main.specs.Run.Gathering.{SharedNode, IsFeedJob, IsTicksJob, FirstIs}
use Rattle.server_main.specs.declared.run.beginning.Begun.{Begun}
use Rattle.server_main.specs.declared.run.beginning.Beginning.TheVariants as ends
use Rattle.server_main.specs.Run.Starting.{IsJobOn, StartsAs, TakesBack}
use Rattle.server_main.specs.Run.Beginning.{BeginsJobs, EndsBeginning, IsFeedInput, IsClockInput}
use Rattle.server_main.proofs.OfRun.TakenBack.{none-split}

abbrev feed_or : {L S C : Type 0} → S → JobInput L S C → S
feed_or {L} {S} {C} other (inputs.Link link) = other
feed_or {L} {S} {C} other (inputs.Feed source) = source
feed_or {L} {S} {C} other (inputs.Clock clock) = other

abbrev clock_or : {L S C : Type 0} → C → JobInput L S C → C
clock_or {L} {S} {C} other (inputs.Link link) = other
clock_or {L} {S} {C} other (inputs.Feed source) = other
clock_or {L} {S} {C} other (inputs.Clock clock) = clock

-- the job of a feed was started
record IsFedOn {L S C : Type 0} (node : SharedNode) (source : S)
    (told mid : SpawnerTold (JobParts L S C)) : Type 0 where
  first : JobParts L S C
  fed : IsJobOn node (inputs.Feed source) first
  is : mid.pending ≡ first ∷ []
  same : mid.faults ≡ told.faults

module _ {L S C : Type 0} (feed_told : S → SourceTold) (clock_told : C → ClockTold)
    (node : SharedNode) where
  feed-job : (source : S) (job : JobParts L S C) → IsJobOn node (inputs.Feed source) job
      → IsFeedJob feed_told node (feed_told source) job
  feed-job source (parts.Conn centre shared seat link alloc) on =
      absurd (subst (λ (i : JobInput L S C). IsFeedInput i) (sym on.works_on) tt)
  feed-job source (parts.Feed centre shared seat own alloc) on = (
    ap feed_told (ap (λ (i : JobInput L S C). feed_or source i) on.works_on),
    on.fresh,
  )
  feed-job source (parts.Ticks shared seat clock alloc) on =
      absurd (subst (λ (i : JobInput L S C). IsFeedInput i) (sym on.works_on) tt)

  ticks-job : (clock : C) (job : JobParts L S C) → IsJobOn node (inputs.Clock clock) job
      → IsTicksJob clock_told node (clock_told clock) job
  ticks-job clock (parts.Conn centre shared seat link alloc) on =
      absurd (subst (λ (i : JobInput L S C). IsClockInput i) (sym on.works_on) tt)
  ticks-job clock (parts.Feed centre shared seat source alloc) on =
      absurd (subst (λ (i : JobInput L S C). IsClockInput i) (sym on.works_on) tt)
  ticks-job clock (parts.Ticks shared seat own alloc) on = (
    ap clock_told (ap (λ (i : JobInput L S C). clock_or clock i) on.works_on),
    on.fresh,
  )

  fed-on : (source : S) (before after : NodeSeat) (told mid : SpawnerTold (JobParts L S C))
      → told.pending ≡ [] → StartsAs {L = L} {C = C} (λ (s : S). inputs.Feed s) node source before
      after told mid starts.Started → IsFedOn node source told mid
  fed-on source before after told mid none started = record {
    first = started.1.0;
    fed = started.1.1;
    is = ap (λ (s : SpawnerTold (JobParts L S C)). s.pending) started.1.2
        ∙ ap (λ (p : List (JobParts L S C)). p ++ started.1.0 ∷ []) none;
    same = ap (λ (s : SpawnerTold (JobParts L S C)). s.faults) started.1.2;
  }

  abbrev pub Begins : S → C → NodeSeat → NodeSeat → SpawnerTold (JobParts L S C)
      → SpawnerTold (JobParts L S C) → Begun S C → Type 0
  Begins source clock before after told later begun = BeginsJobs {L = L} feed_told clock_told node
      (feed_told source) (clock_told clock) before after told later begun

  -- the clock's job was started behind the feed's, or it comes back
  ticks-begun : (source : S) (clock : C) (before after : NodeSeat)
      (told mid later : SpawnerTold (JobParts L S C)) (start : Start C) (begun : Begun S C)
      → IsOf node before → IsFedOn node source told mid
      → StartsAs {L = L} {S = S} (λ (c : C). inputs.Clock c) node clock before after mid later start
      → EndsBeginning start begun → Begins source clock before after told later begun
  ticks-begun source clock before after told mid later starts.Started begun of fed started ended =
      let all : later.pending ≡ fed.first ∷ started.1.0 ∷ [] =
      ap (λ (s : SpawnerTold (JobParts L S C)). s.pending) started.1.2
      ∙ ap (λ (p : List (JobParts L S C)). p ++ started.1.0 ∷ []) fed.is in
      subst (λ (b : Begun S C). Begins source clock before after told later b) (sym ended) (record {
        back = subst (λ (s : NodeSeat). TakesBack node 0 before s) (sym started.0)
            (none-split node before of);
        feed_is = subst (λ (p : List (JobParts L S C)).
            FirstIs (IsFeedJob feed_told node (feed_told source)) p) (sym all)
            (feed-job source fed.first fed.fed);
        ticks_are = subst (λ (p : List (JobParts L S C)).
            FirstIs (IsTicksJob clock_told node (clock_told clock)) (drop 1 p)) (sym all)
            (ticks-job clock started.1.0 started.1.1);
        no_more = ap (λ (p : List (JobParts L S C)). drop 1 (drop 1 p)) all;
        end_is = (
          refl,
          refl,
          ap (λ (s : SpawnerTold (JobParts L S C)). s.faults) started.1.2 ∙ fed.same,
        );
      })
  ticks-begun source clock before after told mid later (starts.Memory back) begun of fed started
      ended =
      let all : later.pending ≡ fed.first ∷ [] =
      ap (λ (s : SpawnerTold (JobParts L S C)). s.pending) started.2 ∙ fed.is in
      subst (λ (b : Begun S C). Begins source clock before after told later b) (sym ended) (record {
        back = started.1;
        feed_is = subst (λ (p : List (JobParts L S C)).
            FirstIs (IsFeedJob feed_told node (feed_told source)) p) (sym all)
            (feed-job source fed.first fed.fed);
        ticks_are = ap clock_told started.0;
        no_more = ap (λ (p : List (JobParts L S C)). drop 1 p) all;
        end_is = (
          refl,
          ap (λ (s : SpawnerTold (JobParts L S C)). s.faults) started.2 ∙ fed.same,
        );
      })
  ticks-begun source clock before after told mid later (starts.Refused back) begun of fed started
      ended =
      let all : later.pending ≡ fed.first ∷ [] =
      ap (λ (s : SpawnerTold (JobParts L S C)). s.pending) started.2 ∙ fed.is in
      subst (λ (b : Begun S C). Begins source clock before after told later b) (sym ended) (record {
        back = started.1;
        feed_is = subst (λ (p : List (JobParts L S C)).
            FirstIs (IsFeedJob feed_told node (feed_told source)) p) (sym all)
            (feed-job source fed.first fed.fed);
        ticks_are = ap clock_told started.0;
        no_more = ap (λ (p : List (JobParts L S C)). drop 1 p) all;
        end_is = (
          refl,
          ap (λ (s : SpawnerTold (JobParts L S C)). s.faults) started.2
              ∙ ap (λ (n : ℕ). next_count n) fed.same,
        );
      })

  -- the feed's job was started, and then the clock's, where it could be
  pub both_begun : (source : S) (clock : C) (before mid_seat after : NodeSeat)
      (told mid later : SpawnerTold (JobParts L S C)) (start : Start C) (begun : Begun S C)
      → IsOf node before → told.pending ≡ []
      → StartsAs {L = L} {C = C} (λ (s : S). inputs.Feed s) node source before mid_seat told mid
      starts.Started
      → StartsAs {L = L} {S = S} (λ (c : C). inputs.Clock c) node clock mid_seat after mid later
      start
      → EndsBeginning start begun → Begins source clock before after told later begun
  both_begun source clock before mid_seat after told mid later start begun of none fed ticked
      ended =
      ticks-begun source clock before after told mid later start begun of
      (fed-on source before mid_seat told mid none fed)
      (subst (λ (s : NodeSeat). StartsAs {L = L} {S = S} (λ (c : C). inputs.Clock c) node clock s
      after mid later start) fed.0 ticked) ended

  -- there was no memory for the feed's job
  pub none_begun : (source back : S) (clock : C) (before after : NodeSeat)
      (told later : SpawnerTold (JobParts L S C)) → told.pending ≡ []
      → StartsAs {L = L} {C = C} (λ (s : S). inputs.Feed s) node source before after told later
      (starts.Memory back)
      → Begins source clock before after told later
      (record { feed = Some back; clock = Some clock; end = ends.Memory })
  none_begun source back clock before after told later none memory = record {
    back = memory.1;
    feed_is = ap feed_told memory.0;
    ticks_are = refl;
    no_more = ap (λ (s : SpawnerTold (JobParts L S C)). s.pending) memory.2 ∙ none;
    end_is = (refl, ap (λ (s : SpawnerTold (JobParts L S C)). s.faults) memory.2);
  }

  -- the feed's job was refused
  pub none_refused : (source back : S) (clock : C) (before after : NodeSeat)
      (told later : SpawnerTold (JobParts L S C)) → told.pending ≡ []
      → StartsAs {L = L} {C = C} (λ (s : S). inputs.Feed s) node source before after told later
      (starts.Refused back)
      → Begins source clock before after told later
      (record { feed = Some back; clock = Some clock; end = ends.Refused })
  none_refused source back clock before after told later none refused = record {
    back = refused.1;
    feed_is = ap feed_told refused.0;
    ticks_are = refl;
    no_more = ap (λ (s : SpawnerTold (JobParts L S C)). s.pending) refused.2 ∙ none;
    end_is = (refl, ap (λ (s : SpawnerTold (JobParts L S C)). s.faults) refused.2);
  }
