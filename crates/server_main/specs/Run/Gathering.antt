-- What the main thread gathers: the seats of jobs that are done, and what came of these.
use Rattle.std.specs.Prelude.{◌≡◌, ℕ, List, [], ◌∷◌, ◌++◌, map, drop, length, Option, Some, None}
use Rattle.std.specs.Arc.{arc_value}
use Rattle.outside.specs.Source.{SourceTold}
use Rattle.outside.specs.Links.Clocks.{ClockTold}
use Rattle.outside.specs.Links.Jobs.{SpawnerTold}
use Rattle.outside.specs.Links.Links.{LinkTold, IsNewLink}
use Rattle.outside.specs.Links.Listeners.{ListenerTold}
use Rattle.share_turn.specs.Entries.{Each, own, Keeps, Claims, AllDiffer}
use Rattle.share_turn.specs.Public.{SharedTurn, IsOf}
use Rattle.node_server.specs.declared.turn.turn_node.NodeSetup.{NodeSetup}
use Rattle.node_server.specs.NodeCalls.{NodeLog, NodeSeat}
use Rattle.node_server.specs.Feeding.{RunsFeed}
use Rattle.node_server.specs.Ticking.{RunsTicks}
use Rattle.node_server.specs.Links.ServedLinks.{ServesLink}
use Rattle.node_server.specs.declared.jobs.parts.JobParts.{JobParts}
use Rattle.node_server.specs.declared.jobs.parts.JobParts.TheVariants as parts
use Rattle.node_server.specs.declared.jobs.done.NodeDone.{NodeDone}
use Rattle.node_server.specs.declared.jobs.done.NodeDone.TheVariants as dones
use Rattle.server_main.specs.declared.run.seats.FeedSeat.{FeedSeat}
use Rattle.server_main.specs.declared.run.seats.TickSeat.{TickSeat}
use Rattle.server_main.specs.declared.run.seats.LinkSeat.{LinkSeat}
use Rattle.server_main.specs.Run.Retiring.{LinksNoted, with_all_retired}

abbrev pub SharedNode : Type 0
SharedNode = SharedTurn NodeSetup

-- a seat's number, with what the seat had seen at its end
abbrev pub SeatClaim : Type 0
SeatClaim = ℕ × NodeLog

-- ---- jobs that were started

-- P holds of the first item, and there is one
abbrev pub FirstIs : {A : Type 0} → (A → Type 0) → List A → Type 0
FirstIs {A} P [] = ⊥
FirstIs {A} P (x ∷ xs) = P x

-- a job's shared node is this one, and its seat is one of it that has taken no event and ended no
-- other
pub record HasFreshSeat (node shared : SharedNode) (seat : NodeSeat) : Type 0 where
  pub same : shared ≡ node
  pub of : IsOf node seat
  pub none : own seat.number seat.front ≡ []
  pub none_ended : seat.ended ≡ []

-- the job tells this feed to the node
abbrev pub IsFeedJob : {L S C : Type 0} → (S → SourceTold) → SharedNode → SourceTold
    → JobParts L S C → Type 0
IsFeedJob {L} {S} {C} told node given (parts.Conn centre shared seat link alloc) = ⊥
IsFeedJob {L} {S} {C} told node given (parts.Feed centre shared seat source alloc) =
    (told source ≡ given) × HasFreshSeat node (arc_value shared) seat
IsFeedJob {L} {S} {C} told node given (parts.Ticks shared seat clock alloc) = ⊥

-- the job tells this clock to the node
abbrev pub IsTicksJob : {L S C : Type 0} → (C → ClockTold) → SharedNode → ClockTold
    → JobParts L S C → Type 0
IsTicksJob {L} {S} {C} told node given (parts.Conn centre shared seat link alloc) = ⊥
IsTicksJob {L} {S} {C} told node given (parts.Feed centre shared seat source alloc) = ⊥
IsTicksJob {L} {S} {C} told node given (parts.Ticks shared seat clock alloc) =
    (told clock ≡ given) × HasFreshSeat node (arc_value shared) seat

-- the job serves a new link
abbrev pub IsLinkJob : {L S C : Type 0} → (L → LinkTold) → SharedNode → JobParts L S C → Type 0
IsLinkJob {L} {S} {C} told node (parts.Conn centre shared seat link alloc) =
    IsNewLink (told link) × HasFreshSeat node (arc_value shared) seat
IsLinkJob {L} {S} {C} told node (parts.Feed centre shared seat source alloc) = ⊥
IsLinkJob {L} {S} {C} told node (parts.Ticks shared seat clock alloc) = ⊥

-- ---- seats that are joined

-- A seat has joined others: it claims these numbers too, the last one joined first. It has no event
-- more of its own.
pub record Gathers (node : SharedNode) (before after : NodeSeat) (claims : List SeatClaim)
    : Type 0 where
  pub of : IsOf node after
  pub number : after.number ≡ before.number
  pub ended : after.ended ≡ claims ++ before.ended
  pub keeps : Keeps after.front (before.number, before.front)

-- the seat that comes back can be joined: it is one of the node, and has ended no other
abbrev pub MayJoin : SharedNode → NodeSeat → Type 0
MayJoin node seat = IsOf node seat × (seat.ended ≡ [])

abbrev pub IsFeedDone : {L S C : Type 0} → SharedNode → NodeDone L S C → Type 0
IsFeedDone {L} {S} {C} node (dones.Conn seat link end) = ⊥
IsFeedDone {L} {S} {C} node (dones.Feed seat source end) = MayJoin node seat
IsFeedDone {L} {S} {C} node (dones.Ticks seat clock end) = ⊥

abbrev pub IsTicksDone : {L S C : Type 0} → SharedNode → NodeDone L S C → Type 0
IsTicksDone {L} {S} {C} node (dones.Conn seat link end) = ⊥
IsTicksDone {L} {S} {C} node (dones.Feed seat source end) = ⊥
IsTicksDone {L} {S} {C} node (dones.Ticks seat clock end) = MayJoin node seat

abbrev pub IsLinkDone : {L S C : Type 0} → SharedNode → NodeDone L S C → Type 0
IsLinkDone {L} {S} {C} node (dones.Conn seat link end) = MayJoin node seat
IsLinkDone {L} {S} {C} node (dones.Feed seat source end) = ⊥
IsLinkDone {L} {S} {C} node (dones.Ticks seat clock end) = ⊥

-- What came of a feed's job was taken apart, and its seat was joined.
abbrev pub TakesFeed : {L S C : Type 0} → SharedNode → NodeSeat → NodeSeat → NodeDone L S C → S
    → FeedSeat → Type 0
TakesFeed {L} {S} {C} node before after (dones.Conn seat link end) back fed = ⊥
TakesFeed {L} {S} {C} node before after (dones.Feed seat source end) back fed =
    (back ≡ source) × (fed ≡ record { seat = seat.number; end = end })
    × Gathers node before after ((seat.number, seat.front) ∷ [])
TakesFeed {L} {S} {C} node before after (dones.Ticks seat clock end) back fed = ⊥

-- The same of a clock's job.
abbrev pub TakesTicks : {L S C : Type 0} → SharedNode → NodeSeat → NodeSeat → NodeDone L S C → C
    → TickSeat → Type 0
TakesTicks {L} {S} {C} node before after (dones.Conn seat link end) back ticked = ⊥
TakesTicks {L} {S} {C} node before after (dones.Feed seat source end) back ticked = ⊥
TakesTicks {L} {S} {C} node before after (dones.Ticks seat clock end) back ticked =
    (back ≡ clock) × (ticked ≡ record { seat = seat.number; end = end })
    × Gathers node before after ((seat.number, seat.front) ∷ [])

-- The same of a link's job.
abbrev pub TakesLink : {L S C : Type 0} → SharedNode → NodeSeat → NodeSeat → NodeDone L S C → L
    → LinkSeat → Type 0
TakesLink {L} {S} {C} node before after (dones.Conn seat link end) back linked =
    (back ≡ link) × (linked ≡ record { seat = seat.number; end = end })
    × Gathers node before after ((seat.number, seat.front) ∷ [])
TakesLink {L} {S} {C} node before after (dones.Feed seat source end) back linked = ⊥
TakesLink {L} {S} {C} node before after (dones.Ticks seat clock end) back linked = ⊥

-- ---- what was done under a number

-- A feed was told to the node under this number, up to this end and front; the seat had taken no
-- event before.
pub record HasFed (setup : NodeSetup) (given left : SourceTold) (fed : FeedSeat)
    (claim : SeatClaim) : Type 0 where
  pub seat : NodeSeat
  pub number : seat.number ≡ fed.seat
  pub none : own seat.number seat.front ≡ []
  pub claimed : claim.0 ≡ fed.seat
  pub feeds : RunsFeed setup seat claim.1 given left fed.end

-- A clock was told to the node under this number, up to this end and front; the seat had taken no
-- event before.
pub record HasTicked (setup : NodeSetup) (given left : ClockTold) (ticked : TickSeat)
    (claim : SeatClaim) : Type 0 where
  pub seat : NodeSeat
  pub number : seat.number ≡ ticked.seat
  pub none : own seat.number seat.front ≡ []
  pub claimed : claim.0 ≡ ticked.seat
  pub ticks : RunsTicks setup seat claim.1 given left ticked.end

-- a link that was served: as it was retired, its seat, and the number with what was seen
pub record ServedLink : Type 0 where
  pub later : LinkTold
  pub linked : LinkSeat
  pub claim : SeatClaim

-- A new link was served under this number, up to this end and front; the seat had taken no event
-- before.
pub record HasServed (setup : NodeSetup) (link : ServedLink) : Type 0 where
  pub new : LinkTold
  pub is_new : IsNewLink new
  pub seat : NodeSeat
  pub number : seat.number ≡ link.linked.seat
  pub none : own seat.number seat.front ≡ []
  pub claimed : link.claim.0 ≡ link.linked.seat
  pub serves : ServesLink setup seat link.claim.1 new link.later link.linked.end

-- ---- the gathering

-- a feed's job was finished, and its seat was joined
pub record FinishesFeed (node : SharedNode) (before after : NodeSeat) (given left : SourceTold)
    (fed : FeedSeat) : Type 0 where
  pub claim : SeatClaim
  pub has_fed : HasFed node.setup given left fed claim
  pub gathers : Gathers node before after (claim ∷ [])

-- a clock's job was finished, and its seat was joined
pub record FinishesTicks (node : SharedNode) (before after : NodeSeat) (given left : ClockTold)
    (ticked : TickSeat) : Type 0 where
  pub claim : SeatClaim
  pub has_ticked : HasTicked node.setup given left ticked claim
  pub gathers : Gathers node before after (claim ∷ [])

-- the numbers of links that were served, the last one first
abbrev pub claims_of : List ServedLink → List SeatClaim
claims_of [] = []
claims_of (link ∷ links) = claims_of links ++ link.claim ∷ []

abbrev pub laters_of : List ServedLink → List LinkTold
laters_of links = map (λ (link : ServedLink). link.later) links

abbrev pub noted_of : List ServedLink → List (Option LinkSeat)
noted_of links = map (λ (link : ServedLink). Some link.linked) links

-- where the gathering of links stands: the own seat, the listener, and the seats that are noted
pub record Gathering : Type 0 where
  pub seat : NodeSeat
  pub listener : ListenerTold
  pub seats : List (Option LinkSeat)

abbrev pub gathering : NodeSeat → ListenerTold → LinksNoted → Gathering
gathering seat listener noted =
    record { seat = seat; listener = listener; seats = noted.seats }

-- So many jobs of links were finished, in order: their seats were joined, their links retired, and
-- the seats noted.
pub record FinishesLinks (node : SharedNode) (many : ℕ) (before after : Gathering) : Type 0 where
  pub served : List ServedLink
  pub count : length served ≡ many
  pub each : Each (HasServed node.setup) served
  pub gathers : Gathers node before.seat after.seat (claims_of served)
  pub retired : after.listener ≡ with_all_retired before.listener (laters_of served)
  pub noted : after.seats ≡ before.seats ++ noted_of served

-- ---- what was gathered

-- this feed's job was started first of those that are left, or it wasn't started and its source is
-- this one
abbrev pub FeedStarted : {L S C : Type 0} → (S → SourceTold) → SharedNode → SourceTold → Option S
    → List (JobParts L S C) → Type 0
FeedStarted {L} {S} {C} told node given None pending =
    FirstIs (IsFeedJob {L = L} {S = S} {C = C} told node given) pending
FeedStarted {L} {S} {C} told node given (Some source) pending = told source ≡ given

-- this clock's job was started first of those that are left, or it wasn't started and the clock is
-- this one
abbrev pub TicksStarted : {L S C : Type 0} → (C → ClockTold) → SharedNode → ClockTold → Option C
    → List (JobParts L S C) → Type 0
TicksStarted {L} {S} {C} told node given None pending =
    FirstIs (IsTicksJob {L = L} {S = S} {C = C} told node given) pending
TicksStarted {L} {S} {C} told node given (Some clock) pending = told clock ≡ given

-- what a spawner tells once the first job was handed back, where it was started
abbrev pub behind_started : {X J : Type 0} → Option X → SpawnerTold J → SpawnerTold J
behind_started {X} {J} None told = record told { pending = drop 1 told.pending }
behind_started {X} {J} (Some unrun) told = told

-- the feed ran, or its source is as it was
abbrev pub FeedGathered : SharedNode → NodeSeat → NodeSeat → SourceTold → SourceTold
    → Option FeedSeat → Type 0
FeedGathered node before after given left None = (left ≡ given) × (after ≡ before)
FeedGathered node before after given left (Some fed) =
    FinishesFeed node before after given left fed

-- the clock was told, or is as it was
abbrev pub TicksGathered : SharedNode → NodeSeat → NodeSeat → ClockTold → ClockTold
    → Option TickSeat → Type 0
TicksGathered node before after given left None = (left ≡ given) × (after ≡ before)
TicksGathered node before after given left (Some ticked) =
    FinishesTicks node before after given left ticked

-- the closed node keeps the events of these numbers, which differ, and has no others
pub record ClosesOver (claims : List SeatClaim) (log : NodeLog) : Type 0 where
  pub keeps : Each (Keeps log) claims
  pub differ : AllDiffer claims
  pub no_other : Each (λ entry. Claims claims entry.0) log

-- ---- all of it

-- what a feed's job came to: what was given, what was handed back, and the seat, where it ran
pub record FeedRun : Type 0 where
  pub given : SourceTold
  pub left : SourceTold
  pub fed : Option FeedSeat

-- what a clock's job came to
pub record TicksRun : Type 0 where
  pub given : ClockTold
  pub left : ClockTold
  pub ticked : Option TickSeat

-- the own seat gathered the feed's job, then the clock's, then those of links
pub record GathersJobs (node : SharedNode) (own after : NodeSeat) (feed : FeedRun)
    (ticks : TicksRun) (served : List ServedLink) : Type 0 where
  pub second : NodeSeat
  pub third : NodeSeat
  pub feed_is : FeedGathered node own second feed.given feed.left feed.fed
  pub ticks_are : TicksGathered node second third ticks.given ticks.left ticks.ticked
  pub links_are : Gathers node third after (claims_of served)

-- where the feed ran, this was done under its number; else its source is as it was
abbrev pub FeedClaims : NodeSetup → SourceTold → SourceTold → Option FeedSeat → List SeatClaim
    → Type 0
FeedClaims setup given left None claims = (left ≡ given) × (claims ≡ [])
FeedClaims setup given left (Some fed) claims =
    (claim : SeatClaim) × HasFed setup given left fed claim × (claims ≡ claim ∷ [])

-- where the clock was told, this was done under its number; else it is as it was
abbrev pub TicksClaims : NodeSetup → ClockTold → ClockTold → Option TickSeat → List SeatClaim
    → Type 0
TicksClaims setup given left None claims = (left ≡ given) × (claims ≡ [])
TicksClaims setup given left (Some ticked) claims =
    (claim : SeatClaim) × HasTicked setup given left ticked claim × (claims ≡ claim ∷ [])

-- all numbers that the own seat claims then, each with what was done under it
pub record ClaimsJobs (node : SharedNode) (own after : NodeSeat) (feed : FeedRun)
    (ticks : TicksRun) (served : List ServedLink) : Type 0 where
  pub of_feed : List SeatClaim
  pub of_ticks : List SeatClaim
  pub fed : FeedClaims node.setup feed.given feed.left feed.fed of_feed
  pub ticked : TicksClaims node.setup ticks.given ticks.left ticks.ticked of_ticks
  pub gathers : Gathers node own after (claims_of served ++ (of_ticks ++ of_feed))
