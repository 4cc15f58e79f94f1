-- All jobs that were gathered.
use Rattle.std.proofs.Common.{◌≡◌, List, [], ◌∷◌, ◌++◌, refl, sym, subst, Option}
use Rattle.std.proofs.Common.{Some, None}
use Rattle.outside.specs.Source.{SourceTold}
use Rattle.outside.specs.Links.Clocks.{ClockTold}
use Rattle.share_turn.specs.Public.{IsOf}
use Rattle.node_server.specs.NodeCalls.{NodeSeat}
use Rattle.server_main.specs.declared.run.seats.FeedSeat.{FeedSeat}
use Rattle.server_main.specs.declared.run.seats.TickSeat.{TickSeat}
use Rattle.server_main.specs.Run.Gathering.{SharedNode, SeatClaim, ServedLink, Gathers, FeedRun}
use Rattle.server_main.specs.Run.Gathering.{TicksRun, FeedGathered, TicksGathered, GathersJobs}
use Rattle.server_main.specs.Run.Gathering.{FeedClaims, TicksClaims, ClaimsJobs, claims_of}
use Rattle.server_main.proofs.OfRun.Joined.{gathers-none, gathers-then}

-- a part's claims, which the own seat has gathered
record Part (node : SharedNode) (before after : NodeSeat) (Are : List SeatClaim → Type 0)
    : Type 0 where
  claims : List SeatClaim
  are : Are claims
  gathers : Gathers node before after claims

still : (node : SharedNode) (before after : NodeSeat) → IsOf node before → after ≡ before
    → Gathers node before after []
still node before after of same =
    subst (λ (s : NodeSeat). Gathers node before s []) (sym same) (gathers-none node before of)

of-feed : (node : SharedNode) (before after : NodeSeat) (given left : SourceTold)
    (fed : Option FeedSeat) → IsOf node before → FeedGathered node before after given left fed
    → Part node before after (FeedClaims node.setup given left fed)
of-feed node before after given left None of gathered = record {
  claims = [];
  are = (gathered.0, refl);
  gathers = still node before after of gathered.1;
}
of-feed node before after given left (Some fed) of gathered = record {
  claims = gathered.claim ∷ [];
  are = (gathered.claim, gathered.has_fed, refl);
  gathers = gathered.gathers;
}

of-ticks : (node : SharedNode) (before after : NodeSeat) (given left : ClockTold)
    (ticked : Option TickSeat) → IsOf node before
    → TicksGathered node before after given left ticked
    → Part node before after (TicksClaims node.setup given left ticked)
of-ticks node before after given left None of gathered = record {
  claims = [];
  are = (gathered.0, refl);
  gathers = still node before after of gathered.1;
}
of-ticks node before after given left (Some ticked) of gathered = record {
  claims = gathered.claim ∷ [];
  are = (gathered.claim, gathered.has_ticked, refl);
  gathers = gathered.gathers;
}

pub all-claimed : (node : SharedNode) (own after : NodeSeat) (feed : FeedRun) (ticks : TicksRun)
    (served : List ServedLink) → IsOf node own → GathersJobs node own after feed ticks served
    → ClaimsJobs node own after feed ticks served
all-claimed node own after feed ticks served of jobs =
    let one : Part node own jobs.second (FeedClaims node.setup feed.given feed.left feed.fed) =
    of-feed node own jobs.second feed.given feed.left feed.fed of jobs.feed_is in
    let two : Part node jobs.second jobs.third
    (TicksClaims node.setup ticks.given ticks.left ticks.ticked) =
    of-ticks node jobs.second jobs.third ticks.given ticks.left ticks.ticked one.gathers.of
    jobs.ticks_are in
    record {
      of_feed = one.claims;
      of_ticks = two.claims;
      fed = one.are;
      ticked = two.are;
      gathers = gathers-then node own jobs.third after (two.claims ++ one.claims)
          (claims_of served)
          (gathers-then node own jobs.second jobs.third one.claims two.claims one.gathers
          two.gathers) jobs.links_are;
    }
