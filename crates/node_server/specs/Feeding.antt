-- A feed, told to the shared node.
use Rattle.std.specs.Prelude.{◌≡◌, ◌⊎◌, ℕ, Bool, true, false, List, [], ◌∷◌, ◌++◌, map, Result, Ok}
use Rattle.std.specs.Prelude.{Err, Option, Some, None, option_map}
use Rattle.outside.specs.Calls.{GoesOn}
use Rattle.outside.specs.Faults.{counted}
use Rattle.outside.specs.Octets.{Adds, TakesOctets}
use Rattle.outside.specs.Source.{SourceTold, IsSpent}
use Rattle.bilateral.specs.Rows.{CentreRows}
use Rattle.tase_views.specs.declared.event.EventKind.{EventKind}
use Rattle.tase_views.specs.declared.fault.StepFault.{StepFault}
use Rattle.tase_views.specs.declared.fault.StepFault.TheVariants as faults
use Rattle.tase_views.specs.declared.reply.Answer.{Answer}
use Rattle.share_turn.specs.Entries.{Each, own}
use Rattle.share_turn.specs.Public.{at}
use Rattle.node_server.specs.declared.turn.turn_node.NodeSetup.{NodeSetup}
use Rattle.node_server.specs.SeatCalls.{taken_events}
use Rattle.node_server.specs.NodeCalls.{NodeCall, NodeLog, NodeSeat, CallsNode, StopsBehind}
use Rattle.node_server.specs.FeedReading.{Fed, FeedPlace, yet_fed}
use Rattle.node_server.specs.declared.feed_reader.FeedSays.{FeedSays}
use Rattle.node_server.specs.declared.feed_reader.FeedSays.TheVariants.{Nothing, Asks, Ends}
use Rattle.node_server.specs.declared.feed_end.FeedEnd.{FeedEnd}
use Rattle.node_server.specs.declared.feed_end.FeedEnd.TheVariants.{Ended, StopLine, BadLine}
use Rattle.node_server.specs.declared.feed_end.FeedEnd.TheVariants.{LongLine, SourceFault, Stopped}
use Rattle.node_server.specs.declared.feed_end.FeedEnd.TheVariants.{Full, Memory}

-- How the feeding ends by the outcome of an event of its lines, if it does. No other outcome comes.
abbrev pub FeedCame : Result Answer StepFault → Option FeedEnd → Type 0
FeedCame (Ok answer) end = end ≡ None
FeedCame (Err (faults.Stopped place)) end = end ≡ Some Stopped
FeedCame (Err (faults.HistoryFull weight limit)) end = end ≡ Some (Full weight limit)
FeedCame (Err faults.Memory) end = end ≡ Some Memory
FeedCame (Err faults.NoAssociation) end = ⊥
FeedCame (Err faults.Already) end = ⊥
FeedCame (Err faults.UnknownName) end = ⊥
FeedCame (Err faults.ClockRange) end = ⊥
FeedCame (Err (faults.Backward last)) end = ⊥

-- why an event of a feed may be refused
abbrev pub IsFeedFault : StepFault → Type 0
IsFeedFault fault = (end : FeedEnd) × FeedCame (Err fault) (Some end)

-- one event was refused, which ended the feeding so
abbrev pub IsRefusedSo : FeedEnd → List NodeCall → Type 0
IsRefusedSo end calls =
    (call : NodeCall) × (calls ≡ call ∷ []) × FeedCame call.outcome (Some end)

-- The event that the feeding ends with: none where it goes on, or where the feed itself ended it.
-- Memory may run out before an event is asked.
abbrev pub IsLastEvent : Option FeedEnd → List NodeCall → Type 0
IsLastEvent None calls = calls ≡ []
IsLastEvent (Some Ended) calls = calls ≡ []
IsLastEvent (Some StopLine) calls = calls ≡ []
IsLastEvent (Some (BadLine line)) calls = calls ≡ []
IsLastEvent (Some (LongLine line)) calls = calls ≡ []
IsLastEvent (Some SourceFault) calls = calls ≡ []
IsLastEvent (Some Stopped) calls = IsRefusedSo Stopped calls
IsLastEvent (Some (Full weight limit)) calls = IsRefusedSo (Full weight limit) calls
IsLastEvent (Some Memory) calls = (calls ≡ []) ⊎ IsRefusedSo Memory calls

abbrev pub says_all : List EventKind → FeedEnd → Fed
says_all events end = record { events = events; end = end }

-- the events asked of a node
abbrev pub asked_in : List NodeCall → List EventKind
asked_in calls = map (λ (call : NodeCall). call.event) calls

-- What these octets of a feed, from a place on, came to, of which the node was asked these events:
-- all that they say, and the end that they say. A fault of the source ends it behind the last whole
-- line. Where an event was refused, or memory ran out, these are the first of what they say.
abbrev pub FedTo : CentreRows → FeedPlace → List ℕ → List EventKind → FeedEnd → Type 0
FedTo rows place octets events Ended = yet_fed rows true place octets ≡ says_all events Ended
FedTo rows place octets events StopLine = yet_fed rows true place octets ≡ says_all events StopLine
FedTo rows place octets events (BadLine line) =
    yet_fed rows true place octets ≡ says_all events (BadLine line)
FedTo rows place octets events (LongLine line) =
    yet_fed rows true place octets ≡ says_all events (LongLine line)
FedTo rows place octets events SourceFault = yet_fed rows false place octets ≡ says_all events Ended
FedTo rows place octets events Stopped =
    (rest : List EventKind) × ((yet_fed rows true place octets).events ≡ events ++ rest)
FedTo rows place octets events (Full weight limit) =
    (rest : List EventKind) × ((yet_fed rows true place octets).events ≡ events ++ rest)
FedTo rows place octets events Memory =
    (rest : List EventKind) × ((yet_fed rows true place octets).events ≡ events ++ rest)

-- The feed goes on from one place to the next behind these octets: whatever comes then, it says
-- these events and what it says from there. Or they end it so, whatever comes.
abbrev pub SaysSoFar : Option FeedEnd → CentreRows → FeedPlace → FeedPlace → List ℕ
    → List EventKind → Type 0
SaysSoFar None rows place next octets events = (whole : Bool) (more : List ℕ)
    → yet_fed rows whole place (octets ++ more)
    ≡ says_all (events ++ (yet_fed rows whole next more).events) (yet_fed rows whole next more).end
SaysSoFar (Some end) rows place next octets events =
    (more : List ℕ) → FedTo rows place (octets ++ more) events end

-- the feeding goes on, or an event was refused, or memory ran out
abbrev pub MayBeRefused : Option FeedEnd → Type 0
MayBeRefused None = Unit {0}
MayBeRefused (Some Stopped) = Unit {0}
MayBeRefused (Some (Full weight limit)) = Unit {0}
MayBeRefused (Some Memory) = Unit {0}
MayBeRefused (Some Ended) = ⊥
MayBeRefused (Some StopLine) = ⊥
MayBeRefused (Some (BadLine line)) = ⊥
MayBeRefused (Some (LongLine line)) = ⊥
MayBeRefused (Some SourceFault) = ⊥

-- the feeding goes on, or ends before the source does
abbrev pub IsInside : Option FeedEnd → Type 0
IsInside None = Unit {0}
IsInside (Some Ended) = ⊥
IsInside (Some SourceFault) = ⊥
IsInside (Some StopLine) = Unit {0}
IsInside (Some (BadLine line)) = Unit {0}
IsInside (Some (LongLine line)) = Unit {0}
IsInside (Some Stopped) = Unit {0}
IsInside (Some (Full weight limit)) = Unit {0}
IsInside (Some Memory) = Unit {0}

-- what the node is asked where a feed says this, and how that ends the feeding, if it does
abbrev pub AsksWhatIsSaid : FeedSays → Option FeedEnd → List EventKind → Type 0
AsksWhatIsSaid Nothing end events = (end ≡ None) × (events ≡ [])
AsksWhatIsSaid (Asks event) end events = MayBeRefused end × (events ≡ event ∷ [])
AsksWhatIsSaid (Ends said) end events = (end ≡ Some said) × (events ≡ [])

-- From where the seat stands, the node was asked what a feed says.
pub record ActsOn (setup : NodeSetup) (seat : NodeSeat) (front : NodeLog) (says : FeedSays)
    (end : Option FeedEnd) : Type 0 where
  pub calls : List NodeCall
  pub last : List NodeCall
  pub goes_on : Each (λ (call : NodeCall). FeedCame call.outcome None) calls
  pub ends : IsLastEvent end last
  pub made : CallsNode setup seat (calls ++ last) front
  pub asks : AsksWhatIsSaid says end (asked_in (calls ++ last))

-- From where the seat stands, octets of a feed were taken up to this end, if they ended it, and the
-- node was asked what they say.
pub record FeedsOctets (setup : NodeSetup) (seat : NodeSeat) (front : NodeLog)
    (place next : FeedPlace) (octets : List ℕ) (end : Option FeedEnd) : Type 0 where
  -- the calls but a refused one that ended it, and that one, where one did
  pub calls : List NodeCall
  pub last : List NodeCall
  pub goes_on : Each (λ (call : NodeCall). FeedCame call.outcome None) calls
  pub ends : IsLastEvent end last
  pub made : CallsNode setup seat (calls ++ last) front
  pub inside : IsInside end
  pub says : SaysSoFar end setup.centre place next octets (asked_in (calls ++ last))

-- From where the seat stands, these octets were all of a feed, up to this end, and the node was
-- asked what they say.
pub record TellsFeed (setup : NodeSetup) (seat : NodeSeat) (front : NodeLog) (place : FeedPlace)
    (octets : List ℕ) (end : FeedEnd) : Type 0 where
  -- the calls but a refused one that ended it, and that one, where one did
  pub calls : List NodeCall
  pub last : List NodeCall
  pub goes_on : Each (λ (call : NodeCall). FeedCame call.outcome None) calls
  pub ends : IsLastEvent (Some end) last
  pub made : CallsNode setup seat (calls ++ last) front
  pub says : FedTo setup.centre place octets (asked_in (calls ++ last)) end

abbrev pub is_source_fault : FeedEnd → Bool
is_source_fault SourceFault = true
is_source_fault Ended = false
is_source_fault StopLine = false
is_source_fault (BadLine line) = false
is_source_fault (LongLine line) = false
is_source_fault Stopped = false
is_source_fault (Full weight limit) = false
is_source_fault Memory = false

-- no read of a source has said that nothing is left, and none has failed
abbrev pub MayReadOn : SourceTold → SourceTold → Type 0
MayReadOn before after =
    ((after.ended ≡ before.ended) ⊎ (after.ended ≡ option_map (λ _. false) before.ended))
    × GoesOn before.calls after.calls false

-- the last read has said that nothing is left, or it has failed, and no read came after it
abbrev pub HasReadLast : Bool → SourceTold → SourceTold → Type 0
HasReadLast said before after = (after.ended ≡ option_map (λ _. said) before.ended)
    × GoesOn before.calls after.calls true

-- the source has said its end, nothing is left of it, and it was read no more
abbrev pub HasReadOut : SourceTold → SourceTold → Type 0
HasReadOut before after = HasReadLast true before after × IsSpent after.left

-- how the feeding has left its source: read out, where it ended as read to its end; with a read
-- that failed; or else before the source has said its end, or behind that, by its last line
abbrev pub LeavesSource : FeedEnd → SourceTold → SourceTold → Type 0
LeavesSource Ended before after = HasReadOut before after
LeavesSource SourceFault before after = HasReadLast false before after
LeavesSource StopLine before after = MayReadOn before after ⊎ HasReadOut before after
LeavesSource (BadLine line) before after = MayReadOn before after ⊎ HasReadOut before after
LeavesSource (LongLine line) before after = MayReadOn before after ⊎ HasReadOut before after
LeavesSource Stopped before after = MayReadOn before after ⊎ HasReadOut before after
LeavesSource (Full weight limit) before after = MayReadOn before after ⊎ HasReadOut before after
LeavesSource Memory before after = MayReadOn before after ⊎ HasReadOut before after

-- what reading a feed up to this end leaves of a source that gave these octets to it
pub record ReadsFeed (before after : SourceTold) (end : FeedEnd) (octets : List ℕ) : Type 0 where
  -- the octets came from the front of those left
  pub took : TakesOctets before.left after.left octets
  -- they were added to those given so far
  pub gave : Adds before.given after.given octets
  -- it was read to its end exactly so far, and no further
  pub last : LeavesSource end before after
  -- the count rises by one exactly where a read failed
  pub faults : after.faults ≡ counted (is_source_fault end) before.faults
  pub name : after.name ≡ before.name

-- A feed was read up to this end, and the node was asked what its lines say.
pub record ReadsAndTells (setup : NodeSetup) (seat : NodeSeat) (front : NodeLog)
    (place : FeedPlace) (source later : SourceTold) (end : FeedEnd) : Type 0 where
  -- the octets that the source gave
  pub octets : List ℕ
  pub read : ReadsFeed source later end octets
  pub told : TellsFeed setup seat front place octets end

abbrev pub first_place : FeedPlace
first_place = record { held = []; number = 1 }

-- A feed was told to the node up to its end, and then the stop.
pub record RunsFeed (setup : NodeSetup) (seat : NodeSeat) (front : NodeLog)
    (source later : SourceTold) (end : FeedEnd) : Type 0 where
  -- what was seen behind the lines
  pub seen : NodeLog
  pub fed : ReadsAndTells setup seat seen first_place source later end
  pub stop : List NodeCall
  pub stops : StopsBehind (end ≡ Stopped) stop
  pub stopped : CallsNode setup (at seat seen) stop front
  -- the seat's own entries are the events that were asked but a refused one, and the stop, where it
  -- was taken
  pub own_entries : own seat.number front
      ≡ own seat.number seat.front ++ asked_in fed.told.calls ++ taken_events stop
