-- A feed told, one octet and one piece after another.
use Rattle.std.proofs.Common.{◌≡◌, ℕ, Bool, true, false, List, [], ◌++◌}
use Rattle.std.proofs.Common.{refl, sym, ap, ◌∙◌, subst, append_assoc, Option, Some, None}
use Rattle.std.proofs.lemmas.List.{append-nil, map-append}
use Rattle.tase_views.specs.declared.event.EventKind.{EventKind}
use Rattle.bilateral.specs.Rows.{CentreRows}
use Rattle.share_turn.specs.Public.{at}
use Rattle.share_turn.proofs.Owned.{each_append}
use Rattle.node_server.specs.declared.turn.turn_node.NodeSetup.{NodeSetup}
use Rattle.node_server.specs.Turn.Logged.{IsRightTurn}
use Rattle.node_server.specs.NodeCalls.{NodeCall, NodeLog, NodeSeat, CallsNode}
use Rattle.node_server.specs.FeedReading.{Fed, FeedPlace, yet_fed}
use Rattle.node_server.specs.Feeding.{FeedCame, asked_in, says_all, FedTo}
use Rattle.node_server.specs.Feeding.{SaysSoFar, FeedsOctets, TellsFeed}
use Rattle.node_server.specs.declared.feed_end.FeedEnd.{FeedEnd}
use Rattle.node_server.specs.declared.feed_end.FeedEnd.TheVariants.{Ended, StopLine, BadLine}
use Rattle.node_server.specs.declared.feed_end.FeedEnd.TheVariants.{LongLine, SourceFault, Stopped}
use Rattle.node_server.specs.declared.feed_end.FeedEnd.TheVariants.{Full, Memory}
use Rattle.node_server.proofs.Calling.{calls-append}

-- what was said of octets that were taken, and the events that the next say
module _ (rows : CentreRows) (place next : FeedPlace) (octets more : List ℕ)
    (events further : List EventKind)
    (so_far : SaysSoFar None rows place next octets events) where
  then_all : (whole : Bool) (end : FeedEnd) → yet_fed rows whole next more ≡ says_all further end
      → yet_fed rows whole place (octets ++ more) ≡ says_all (events ++ further) end
  then_all whole end is = so_far whole more
      ∙ ap (λ (fed : Fed). says_all (events ++ fed.events) fed.end) is

  then_first : (rest : List EventKind) → (yet_fed rows true next more).events ≡ further ++ rest
      → (yet_fed rows true place (octets ++ more)).events ≡ (events ++ further) ++ rest
  then_first rest is = ap (λ (fed : Fed). fed.events) (so_far true more)
      ∙ (ap (λ (l : List EventKind). events ++ l) is ∙ sym (append_assoc events further rest))

  pub fed-then : (end : FeedEnd) → FedTo rows next more further end
      → FedTo rows place (octets ++ more) (events ++ further) end
  fed-then Ended is = then_all true Ended is
  fed-then StopLine is = then_all true StopLine is
  fed-then (BadLine line) is = then_all true (BadLine line) is
  fed-then (LongLine line) is = then_all true (LongLine line) is
  fed-then SourceFault is = then_all false Ended is
  fed-then Stopped (rest, is) = (rest, then_first rest is)
  fed-then (Full weight limit) (rest, is) = (rest, then_first rest is)
  fed-then Memory (rest, is) = (rest, then_first rest is)

pub says-then : (end : Option FeedEnd) (rows : CentreRows) (place middle next : FeedPlace)
    (octets more : List ℕ) (events further : List EventKind)
    → SaysSoFar None rows place middle octets events
    → SaysSoFar end rows middle next more further
    → SaysSoFar end rows place next (octets ++ more) (events ++ further)
says-then None rows place middle next octets more events further first then =
    λ whole yet. subst (λ (l : List ℕ). yet_fed rows whole place l
    ≡ says_all ((events ++ further) ++ (yet_fed rows whole next yet).events)
    (yet_fed rows whole next yet).end) (sym (append_assoc octets more yet))
    (then_all rows place middle octets (more ++ yet) events
    (further ++ (yet_fed rows whole next yet).events) first whole
    (yet_fed rows whole next yet).end (then whole yet)
    ∙ ap (λ (l : List EventKind). says_all l (yet_fed rows whole next yet).end)
    (sym (append_assoc events further (yet_fed rows whole next yet).events)))
says-then (Some end) rows place middle next octets more events further first then =
    λ yet. subst (λ (l : List ℕ). FedTo rows place l (events ++ further) end)
    (sym (append_assoc octets more yet))
    (fed-then rows place middle octets (more ++ yet) events further first end (then yet))

-- calls of which none ended it, and what comes next
module _ (setup : NodeSetup) (seat : NodeSeat) (seen front : NodeLog)
    (calls further last : List NodeCall) where
  pub made-then : (none : List NodeCall) → none ≡ [] → CallsNode setup seat (calls ++ none) seen
      → CallsNode setup (at seat seen) (further ++ last) front
      → CallsNode setup seat ((calls ++ further) ++ last) front
  made-then none is first then = subst (λ (l : List NodeCall). CallsNode setup seat l front)
      (sym (append_assoc calls further last))
      (calls-append IsRightTurn setup seat calls (further ++ last) seen front
      (subst (λ (l : List NodeCall). CallsNode setup seat l seen)
      (ap (λ (l : List NodeCall). calls ++ l) is ∙ append-nil calls) first) then)

  pub asked-then : (none : List NodeCall) → none ≡ []
      → asked_in (calls ++ none) ++ asked_in (further ++ last)
      ≡ asked_in ((calls ++ further) ++ last)
  asked-then none is = ap (λ (l : List NodeCall). asked_in l ++ asked_in (further ++ last))
      (ap (λ (l : List NodeCall). calls ++ l) is ∙ append-nil calls)
      ∙ (sym (map-append (λ (call : NodeCall). call.event) calls (further ++ last))
      ∙ ap asked_in (sym (append_assoc calls further last)))

module _ (setup : NodeSetup) (seat : NodeSeat) (seen front : NodeLog)
    (place middle : FeedPlace) (octets more : List ℕ)
    (first : FeedsOctets setup seat seen place middle octets None) where
  pub octets-then : (next : FeedPlace) (end : Option FeedEnd)
      → FeedsOctets setup (at seat seen) front middle next more end
      → FeedsOctets setup seat front place next (octets ++ more) end
  octets-then next end then = record {
    calls = first.calls ++ then.calls;
    last = then.last;
    goes_on = each_append (λ (call : NodeCall). FeedCame call.outcome None) first.calls then.calls
        first.goes_on then.goes_on;
    ends = then.ends;
    made = made-then setup seat seen front first.calls then.calls then.last first.last first.ends
        first.made then.made;
    inside = then.inside;
    says = subst (SaysSoFar end setup.centre place next (octets ++ more))
        (asked-then setup seat seen front first.calls then.calls then.last first.last first.ends)
        (says-then end setup.centre place middle next octets more
        (asked_in (first.calls ++ first.last)) (asked_in (then.calls ++ then.last)) first.says
        then.says);
  }

  pub octets-tell : (end : FeedEnd) → TellsFeed setup (at seat seen) front middle more end
      → TellsFeed setup seat front place (octets ++ more) end
  octets-tell end then = record {
    calls = first.calls ++ then.calls;
    last = then.last;
    goes_on = each_append (λ (call : NodeCall). FeedCame call.outcome None) first.calls then.calls
        first.goes_on then.goes_on;
    ends = then.ends;
    made = made-then setup seat seen front first.calls then.calls then.last first.last first.ends
        first.made then.made;
    says = subst (λ (l : List EventKind). FedTo setup.centre place (octets ++ more) l end)
        (asked-then setup seat seen front first.calls then.calls then.last first.last first.ends)
        (fed-then setup.centre place middle octets more (asked_in (first.calls ++ first.last))
        (asked_in (then.calls ++ then.last)) first.says end then.says);
  }

-- the same, where the seat stands behind what was told so far
pub octets-on : (setup : NodeSetup) (seat here : NodeSeat) → here ≡ at seat here.front
    → (front : NodeLog) (place middle next : FeedPlace) (octets more : List ℕ)
    (end : Option FeedEnd) → FeedsOctets setup seat here.front place middle octets None
    → FeedsOctets setup here front middle next more end
    → FeedsOctets setup seat front place next (octets ++ more) end
octets-on setup seat here same front place middle next octets more end first then =
    octets-then setup seat here.front front place middle octets more first next end
    (subst (λ (s : NodeSeat). FeedsOctets setup s front middle next more end) same then)

pub tell-on : (setup : NodeSetup) (seat here : NodeSeat) → here ≡ at seat here.front
    → (front : NodeLog) (place middle : FeedPlace) (octets more : List ℕ) (end : FeedEnd)
    → FeedsOctets setup seat here.front place middle octets None
    → TellsFeed setup here front middle more end
    → TellsFeed setup seat front place (octets ++ more) end
tell-on setup seat here same front place middle octets more end first then =
    octets-tell setup seat here.front front place middle octets more first end
    (subst (λ (s : NodeSeat). TellsFeed setup s front middle more end) same then)

-- no octet was taken
pub none-fed : (setup : NodeSetup) (seat : NodeSeat) (place : FeedPlace)
    → FeedsOctets setup seat seat.front place place [] None
none-fed setup seat place = record {
  calls = [];
  last = [];
  goes_on = tt;
  ends = refl;
  made = refl;
  inside = tt;
  says = λ whole more. refl;
}

-- octets that ended it end it whatever comes behind them
pub octets-more : (setup : NodeSetup) (seat : NodeSeat) (front : NodeLog) (place next : FeedPlace)
    (octets more : List ℕ) (end : FeedEnd)
    → FeedsOctets setup seat front place next octets (Some end)
    → FeedsOctets setup seat front place next (octets ++ more) (Some end)
octets-more setup seat front place next octets more end first = record {
  calls = first.calls;
  last = first.last;
  goes_on = first.goes_on;
  ends = first.ends;
  made = first.made;
  inside = first.inside;
  says = λ yet. subst (λ (l : List ℕ). FedTo setup.centre place l
      (asked_in (first.calls ++ first.last)) end) (sym (append_assoc octets more yet))
      (first.says (more ++ yet));
}

pub octets-all : (setup : NodeSetup) (seat : NodeSeat) (front : NodeLog) (place next : FeedPlace)
    (octets : List ℕ) (end : FeedEnd)
    → FeedsOctets setup seat front place next octets (Some end)
    → TellsFeed setup seat front place octets end
octets-all setup seat front place next octets end first = record {
  calls = first.calls;
  last = first.last;
  goes_on = first.goes_on;
  ends = first.ends;
  made = first.made;
  says = subst (λ (l : List ℕ). FedTo setup.centre place l
      (asked_in (first.calls ++ first.last)) end) (append-nil octets) (first.says []);
}
