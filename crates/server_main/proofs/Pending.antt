-- The jobs that are pending where links are served, behind those of the feed and of the clock.
use Rattle.std.proofs.Common.{◌≡◌, ℕ, ◌+◌, ◌≤◌, List, [], ◌∷◌, ◌++◌, length, drop, refl, sym, ap}
use Rattle.std.proofs.Common.{subst, ◌∙◌, arith, Option, Some, None, IfSome}
use Rattle.std.proofs.lemmas.List.{append-nil}
use Rattle.outside.specs.Links.Jobs.{SpawnerTold}
use Rattle.outside.specs.Links.Links.{LinkTold}
use Rattle.outside.specs.Links.Listeners.{ListenerTold, RetiredIsWithin}
use Rattle.share_turn.specs.Public.{IsOf, at}
use Rattle.node_server.specs.NodeCalls.{NodeLog, NodeSeat}
use Rattle.node_server.specs.declared.jobs.parts.JobParts.{JobParts}
use Rattle.server_main.specs.Run.Gathering.{SharedNode, FirstIs, FeedStarted, TicksStarted}
use Rattle.server_main.specs.Run.Gathering.{behind_started}
use Rattle.server_main.specs.Run.Retiring.{AreOut}
use Rattle.server_main.specs.Run.Accepting.{Accepting, accepting}
use Rattle.server_main.specs.Run.Serving.{IsServing}
use Rattle.server_main.specs.Working.{Telling, InputsTold, IsToGather, no_links}

-- none are out where no more were retired than given
pub within-out : (listener : ListenerTold) → RetiredIsWithin listener → AreOut 0 listener
within-out listener within = by listener.retired listener.accepted within
  where
    by : (retired : Option (List LinkTold)) (accepted : Option ℕ)
        → IfSome retired (λ links. IfSome accepted (λ count. length links ≤ count))
        → IfSome retired (λ links. IfSome accepted (λ count. length links + 0 ≤ count))
    by None accepted h = tt
    by (Some links) None h = tt
    by (Some links) (Some count) h = omega arith

pub none-behind : {A : Type 0} (xs ys : List A) → xs ≡ xs ++ ys → ys ≡ []
none-behind [] ys e = sym e
none-behind (x ∷ xs) ys e = none-behind xs ys (ap (drop 1) e)

module _ {L S C : Type 0} (told : L → LinkTold) (node : SharedNode) where
  -- behind whatever jobs are pending, no link is served yet
  abbrev pub serves-none : (seat : NodeSeat) (listener : ListenerTold)
      (spawner : SpawnerTold (JobParts L S C)) → IsOf node seat → RetiredIsWithin listener
      → IsServing told node spawner.pending (accepting seat listener spawner no_links)
  serves-none seat listener spawner of within = record {
    of = of;
    serving = [];
    pending = sym (append-nil spawner.pending);
    jobs = tt;
    rooms = omega arith;
    out = within-out listener within;
  }

-- the jobs that are left behind the first, where that was started
abbrev left_of : {X J : Type 0} → Option X → List J → List J
left_of {X} {J} None jobs = drop 1 jobs
left_of {X} {J} (Some unrun) jobs = jobs

pub left-is : {X J : Type 0} (unrun : Option X) (told : SpawnerTold J)
    → (behind_started unrun told).pending ≡ left_of unrun told.pending
left-is None told = refl
left-is (Some unrun) told = refl

pub lefts-are : {X Y J : Type 0} (unticked : Option Y) (unrun : Option X) (told : SpawnerTold J)
    → (behind_started unticked (behind_started unrun told)).pending
    ≡ left_of unticked (left_of unrun told.pending)
lefts-are None None told = refl
lefts-are None (Some unrun) told = refl
lefts-are (Some unticked) None told = refl
lefts-are (Some unticked) (Some unrun) told = refl

first-more : {A : Type 0} (P : A → Type 0) (xs ys : List A) → FirstIs P xs → FirstIs P (xs ++ ys)
first-more P [] ys first = absurd first
first-more P (x ∷ xs) ys first = first

module _ {L S C : Type 0} (told : Telling L S C) (node : SharedNode) (given : InputsTold) where
  -- the jobs of the feed and of the clock are first, and what is left behind them is this
  pub record AreFirst (unrun : Option S) (unticked : Option C) (jobs left : List (JobParts L S C))
      : Type 0 where
    pub feed_is : FeedStarted told.feed node given.feed unrun jobs
    pub ticks_are : TicksStarted told.clock node given.clock unticked (left_of unrun jobs)
    pub behind : left_of unticked (left_of unrun jobs) ≡ left

  pub first-behind : (unrun : Option S) (unticked : Option C) (jobs serving : List (JobParts L S C))
      → AreFirst unrun unticked jobs [] → AreFirst unrun unticked (jobs ++ serving) serving
  first-behind None None [] serving are = absurd are.feed_is
  first-behind None None (a ∷ []) serving are = absurd are.ticks_are
  first-behind None None (a ∷ b ∷ rest) serving are = record {
    feed_is = are.feed_is;
    ticks_are = are.ticks_are;
    behind = ap (λ (r : List (JobParts L S C)). r ++ serving) are.behind;
  }
  first-behind None (Some clock) [] serving are = absurd are.feed_is
  first-behind None (Some clock) (a ∷ rest) serving are = record {
    feed_is = are.feed_is;
    ticks_are = are.ticks_are;
    behind = ap (λ (r : List (JobParts L S C)). r ++ serving) are.behind;
  }
  first-behind (Some feed) None [] serving are = absurd are.ticks_are
  first-behind (Some feed) None (b ∷ rest) serving are = record {
    feed_is = are.feed_is;
    ticks_are = are.ticks_are;
    behind = ap (λ (r : List (JobParts L S C)). r ++ serving) are.behind;
  }
  first-behind (Some feed) (Some clock) jobs serving are = record {
    feed_is = are.feed_is;
    ticks_are = are.ticks_are;
    behind = ap (λ (r : List (JobParts L S C)). r ++ serving) are.behind;
  }

  pub are-first : (unrun : Option S) (unticked : Option C) (spawner : SpawnerTold (JobParts L S C))
      → FeedStarted told.feed node given.feed unrun spawner.pending
      → TicksStarted told.clock node given.clock unticked (behind_started unrun spawner).pending
      → (behind_started unticked (behind_started unrun spawner)).pending ≡ []
      → AreFirst unrun unticked spawner.pending []
  are-first unrun unticked spawner feed ticks none = record {
    feed_is = feed;
    ticks_are = subst (λ (p : List (JobParts L S C)).
        TicksStarted told.clock node given.clock unticked p) (left-is unrun spawner) ticks;
    behind = sym (lefts-are unticked unrun spawner) ∙ none;
  }

  -- behind the jobs that were started first, those of links are to be gathered
  abbrev pub to-gather : (unrun : Option S) (unticked : Option C)
      (spawner : SpawnerTold (JobParts L S C)) (now : Accepting L S C) (front : NodeLog)
      → FeedStarted told.feed node given.feed unrun spawner.pending
      → TicksStarted told.clock node given.clock unticked (behind_started unrun spawner).pending
      → (behind_started unticked (behind_started unrun spawner)).pending ≡ []
      → IsServing told.link node spawner.pending now
      → IsToGather told node given unrun unticked (record now { seat = at now.seat front })
  to-gather unrun unticked spawner now front feed ticks none is =
      let are : AreFirst unrun unticked now.spawner.pending is.serving =
      subst (λ (p : List (JobParts L S C)). AreFirst unrun unticked p is.serving) (sym is.pending)
      (first-behind unrun unticked spawner.pending is.serving
      (are-first unrun unticked spawner feed ticks none)) in
      record {
        of = is.of;
        feed_is = are.feed_is;
        ticks_are = subst (λ (p : List (JobParts L S C)).
            TicksStarted told.clock node given.clock unticked p) (sym (left-is unrun now.spawner))
            are.ticks_are;
        serving = is.serving;
        behind = lefts-are unticked unrun now.spawner ∙ are.behind;
        jobs = is.jobs;
        rooms = is.rooms;
        out = is.out;
      }

-- what stands behind the same is the same
pub same-behind : {A : Type 0} (xs ys zs : List A) → xs ++ ys ≡ xs ++ zs → ys ≡ zs
same-behind [] ys zs e = e
same-behind (x ∷ xs) ys zs e = same-behind xs ys zs (ap (drop 1) e)
