-- A whole feed told: what its source gave, and the seat's own entries.
use Rattle.std.proofs.Common.{◌≡◌, inl, inr, ℕ, Bool, true, false, List, [], ◌∷◌, ◌++◌, take}
use Rattle.std.proofs.Common.{refl, sym, ap, ◌∙◌, subst, Some, None, Result, Ok, Err}
use Rattle.std.proofs.lemmas.List.{append-nil}
use mathlib.Core.List.{IsPrefix}
use Rattle.outside.specs.declared.source.ReadEnd.TheVariants.{Got, End, Failed}
use Rattle.std.specs.Prelude.{◌⊎◌, option_map, Option}
use Rattle.outside.specs.Faults.{counted}
use Rattle.outside.specs.Octets.{Adds, TakesOctets}
use Rattle.outside.specs.Source.{SourceTold, ReadsSource}
use Rattle.outside.proofs.Reading.{Takes-append, HasRead, HasRead-none, HasRead-more}
use Rattle.outside.proofs.Calling.{GoesOn-then}
use Rattle.outside.proofs.Writing.{Adds-append}
use Rattle.tase_views.specs.declared.event.EventKind.{EventKind}
use Rattle.tase_views.specs.declared.fault.StepFault.{StepFault}
use Rattle.tase_views.specs.declared.fault.StepFault.TheVariants as faults
use Rattle.tase_views.specs.declared.reply.Answer.{Answer}
use Rattle.share_turn.specs.Entries.{Each, own}
use Rattle.share_turn.specs.Public.{at, added}
use Rattle.node_server.specs.declared.turn.turn_node.NodeSetup.{NodeSetup}
use Rattle.node_server.specs.Turn.Logged.{IsRightTurn}
use Rattle.node_server.specs.SeatCalls.{taken_events}
use Rattle.node_server.specs.NodeCalls.{NodeCall, NodeLog, NodeSeat, CallsNode, AsksStop}
use Rattle.node_server.specs.NodeCalls.{StopsBehind}
use Rattle.node_server.specs.FeedReading.{FeedPlace, yet_fed}
use Rattle.node_server.specs.Feeding.{FeedCame, IsRefusedSo, IsLastEvent, asked_in, says_all}
use Rattle.node_server.specs.Feeding.{IsInside, is_source_fault, ReadsFeed, FeedsOctets, TellsFeed}
use Rattle.node_server.specs.Feeding.{ReadsAndTells, RunsFeed, first_place}
use Rattle.node_server.specs.Feeding.{MayReadOn, HasReadOut, LeavesSource}
use Rattle.node_server.specs.declared.feed_end.FeedEnd.{FeedEnd}
use Rattle.node_server.specs.declared.feed_end.FeedEnd.TheVariants.{Ended, StopLine, BadLine}
use Rattle.node_server.specs.declared.feed_end.FeedEnd.TheVariants.{LongLine, SourceFault, Stopped}
use Rattle.node_server.specs.declared.feed_end.FeedEnd.TheVariants.{Full, Memory}
use Rattle.node_server.proofs.Calling.{calls_own, seen_calls, taken-append, prefix-then}
use Rattle.node_server.proofs.Fed.{octets-on, octets-all, tell-on}
use Rattle.node_server.proofs.FedOnce.{octet-lost}

no_fault : (end : FeedEnd) → IsInside (Some end) → is_source_fault end ≡ false
no_fault Ended is = absurd is
no_fault SourceFault is = absurd is
no_fault StopLine is = refl
no_fault (BadLine line) is = refl
no_fault (LongLine line) is = refl
no_fault Stopped is = refl
no_fault (Full weight limit) is = refl
no_fault Memory is = refl

-- ---- how its source was left

-- before it has said its end
left_inside : (end : FeedEnd) (before after : SourceTold) → IsInside (Some end)
    → MayReadOn before after → LeavesSource end before after
left_inside Ended before after is on = absurd is
left_inside SourceFault before after is on = absurd is
left_inside StopLine before after is on = inl on
left_inside (BadLine line) before after is on = inl on
left_inside (LongLine line) before after is on = inl on
left_inside Stopped before after is on = inl on
left_inside (Full weight limit) before after is on = inl on
left_inside Memory before after is on = inl on

-- behind that
left_behind : (end : FeedEnd) (before after : SourceTold) → is_source_fault end ≡ false
    → HasReadOut before after → LeavesSource end before after
left_behind Ended before after kept out = out
left_behind SourceFault before after kept out = absurd cc
left_behind StopLine before after kept out = inr out
left_behind (BadLine line) before after kept out = inr out
left_behind (LongLine line) before after kept out = inr out
left_behind Stopped before after kept out = inr out
left_behind (Full weight limit) before after kept out = inr out
left_behind Memory before after kept out = inr out

-- what the last read has said, behind others that gave octets
said_last : (before mid after : Option Bool) (said : Bool)
    → (mid ≡ before) ⊎ (mid ≡ option_map (λ _. false) before)
    → after ≡ option_map (λ _. said) mid → after ≡ option_map (λ _. said) before
said_last before mid after said (inl same) last = last ∙ ap (option_map (λ _. said)) same
said_last before mid after said (inr gave) last =
    last ∙ ap (option_map (λ _. said)) gave ∙ twice before
  where
    twice : (told : Option Bool) → option_map (λ _. said) (option_map (λ _. false) told)
        ≡ option_map (λ _. said) told
    twice None = refl
    twice (Some ended) = refl

module _ (before mid after : SourceTold) (octets buf : List ℕ) (read : HasRead before mid octets)
  where
    -- it ended before the source did
    read_inside : (end : FeedEnd) → IsInside (Some end) → ReadsFeed before mid end octets
    read_inside end inside = record {
      took = read.took;
      gave = read.gave;
      last = left_inside end before mid inside (read.ended, read.calls);
      faults = read.faults ∙ ap (λ (b : Bool). counted b before.faults) (sym (no_fault end inside));
      name = read.name;
    }

    took_all : TakesOctets mid.left after.left [] → TakesOctets before.left after.left octets
    took_all none = subst (TakesOctets before.left after.left) (append-nil octets)
        (Takes-append before.left mid.left after.left octets [] read.took none)

    gave_all : Adds mid.given after.given [] → Adds before.given after.given octets
    gave_all none = subst (Adds before.given after.given) (append-nil octets)
        (Adds-append before.given mid.given after.given octets [] read.gave none)

    -- the source ended
    read_last : (end : FeedEnd) → is_source_fault end ≡ false → ReadsSource mid after End buf
        → ReadsFeed before after end octets
    read_last end no_fault_is last = record {
      took = took_all last.took;
      gave = gave_all last.gave;
      last = left_behind end before after no_fault_is (
        (
          said_last before.ended mid.ended after.ended true read.ended last.ended,
          GoesOn-then before.calls mid.calls after.calls true read.calls last.calls,
        ),
        last.spent,
      );
      faults = last.faults ∙ (read.faults
          ∙ ap (λ (b : Bool). counted b before.faults) (sym no_fault_is));
      name = last.name ∙ read.name;
    }

    -- the source failed
    read_failed : ReadsSource mid after Failed buf → ReadsFeed before after SourceFault octets
    read_failed last = record {
      took = took_all last.took;
      gave = gave_all last.gave;
      last = (
        said_last before.ended mid.ended after.ended false read.ended last.ended,
        GoesOn-then before.calls mid.calls after.calls true read.calls last.calls,
      );
      faults = last.faults ∙ ap (counted true) read.faults;
      name = last.name ∙ read.name;
    }

module _ (setup : NodeSetup) (seat here : NodeSeat) (same : here ≡ at seat here.front)
    (place middle : FeedPlace) (before mid after : SourceTold) (octets buf : List ℕ)
    (read : HasRead before mid octets)
    (told : FeedsOctets setup seat here.front place middle octets None) where
  pub piece-ended : (front : NodeLog) (next : FeedPlace) (count : ℕ) (end : FeedEnd)
      → ReadsSource mid after (Got count) buf
      → FeedsOctets setup here front middle next (take count buf) (Some end)
      → ReadsAndTells setup seat front place before after end
  piece-ended front next count end got ended = record {
    octets = octets ++ take count buf;
    read = read_inside before after after (octets ++ take count buf) buf
        (HasRead-more before mid after octets buf count read got) end ended.inside;
    told = octets-all setup seat front place next (octets ++ take count buf) end
        (octets-on setup seat here same front place middle next octets (take count buf) (Some end)
        told ended);
  }

  pub source-ended : (front : NodeLog) (end : FeedEnd) → is_source_fault end ≡ false
      → ReadsSource mid after End buf → TellsFeed setup here front middle [] end
      → ReadsAndTells setup seat front place before after end
  source-ended front end no_fault_is last ended = record {
    octets = octets;
    read = read_last before mid after octets buf read end no_fault_is last;
    told = subst (λ (l : List ℕ). TellsFeed setup seat front place l end) (append-nil octets)
        (tell-on setup seat here same front place middle octets [] end told ended);
  }

  pub source-failed : yet_fed setup.centre false middle [] ≡ says_all [] Ended
      → ReadsSource mid after Failed buf
      → ReadsAndTells setup seat here.front place before after SourceFault
  source-failed none last = record {
    octets = octets;
    read = read_failed before mid after octets buf read last;
    told = subst (λ (l : List ℕ). TellsFeed setup seat here.front place l SourceFault)
        (append-nil octets)
        (tell-on setup seat here same here.front place middle octets [] SourceFault told
        (record { calls = []; last = []; goes_on = tt; ends = refl; made = refl; says = none }));
  }

-- memory ran out before anything was read
pub nothing-read : (setup : NodeSetup) (seat : NodeSeat) (place : FeedPlace) (source : SourceTold)
    → ReadsAndTells setup seat seat.front place source source Memory
nothing-read setup seat place source = record {
  octets = [];
  read = read_inside source source source [] [] (HasRead-none source) Memory tt;
  told = octets-all setup seat seat.front place place [] Memory
      (octet-lost setup seat place place []);
}

-- each call but the last was taken
taken : (outcome : Result Answer StepFault) (event : EventKind) → FeedCame outcome None
    → added outcome event ≡ event ∷ []
taken (Ok answer) event came = refl
taken (Err (faults.Stopped place)) event came = absurd cc
taken (Err (faults.HistoryFull weight limit)) event came = absurd cc
taken (Err faults.Memory) event came = absurd cc
taken (Err faults.NoAssociation) event came = absurd came
taken (Err faults.Already) event came = absurd came
taken (Err faults.UnknownName) event came = absurd came
taken (Err faults.ClockRange) event came = absurd came
taken (Err (faults.Backward last)) event came = absurd came

all_taken : (calls : List NodeCall) → Each (λ (call : NodeCall). FeedCame call.outcome None) calls
    → taken_events calls ≡ asked_in calls
all_taken [] each = refl
all_taken (call ∷ calls) each =
    ap (λ (l : List EventKind). l ++ taken_events calls) (taken call.outcome call.event each.0)
    ∙ ap (λ (l : List EventKind). call.event ∷ l) (all_taken calls each.1)

-- the last one wasn't
refused_none : (end : FeedEnd) (last : List NodeCall) → IsRefusedSo end last
    → taken_events last ≡ []
refused_none end last (call, is, came) = ap taken_events is
    ∙ (append-nil (added call.outcome call.event) ∙ by call.outcome came)
  where
    by : (outcome : Result Answer StepFault) → FeedCame outcome (Some end)
        → added outcome call.event ≡ []
    by (Ok answer) came = absurd cc
    by (Err fault) came = refl

last_none : (end : FeedEnd) (last : List NodeCall) → IsLastEvent (Some end) last
    → taken_events last ≡ []
last_none Ended last none = ap taken_events none
last_none StopLine last none = ap taken_events none
last_none (BadLine line) last none = ap taken_events none
last_none (LongLine line) last none = ap taken_events none
last_none SourceFault last none = ap taken_events none
last_none Stopped last refused = refused_none Stopped last refused
last_none (Full weight limit) last refused = refused_none (Full weight limit) last refused
last_none Memory last (inl none) = ap taken_events none
last_none Memory last (inr refused) = refused_none Memory last refused

module _ (setup : NodeSetup) (seat : NodeSeat) (seen front : NodeLog) (source later : SourceTold)
    (end : FeedEnd) (fed : ReadsAndTells setup seat seen first_place source later end) where
  own_fed : own seat.number seen ≡ own seat.number seat.front ++ asked_in fed.told.calls
  own_fed = calls_own IsRightTurn setup seat (fed.told.calls ++ fed.told.last) seen fed.told.made
      ∙ ap (λ (l : List EventKind). own seat.number seat.front ++ l)
      (taken-append fed.told.calls fed.told.last
      ∙ (ap (λ (l : List EventKind). taken_events fed.told.calls ++ l)
      (last_none end fed.told.last fed.told.ends)
      ∙ (append-nil (taken_events fed.told.calls)
      ∙ all_taken fed.told.calls fed.told.goes_on)))

  pub run-fed : (stop : List NodeCall) → StopsBehind (end ≡ Stopped) stop
      → CallsNode setup (at seat seen) stop front → RunsFeed setup seat front source later end
  run-fed stop stops stopped = record {
    seen = seen;
    fed = fed;
    stop = stop;
    stops = stops;
    stopped = stopped;
    own_entries = calls_own IsRightTurn setup (at seat seen) stop front stopped
        ∙ ap (λ (l : List EventKind). l ++ taken_events stop) own_fed;
  }

  pub stop-fed : (end ≡ Stopped → ⊥) → (here : NodeSeat) → here ≡ at seat seen
      → ((calls : List NodeCall) × AsksStop calls × CallsNode setup here calls front)
      → RunsFeed setup seat front source later end
  stop-fed other here same (calls, asks, made) =
      run-fed calls ((λ stopped. absurd (other stopped)), λ _. asks)
      (subst (λ (s : NodeSeat). CallsNode setup s calls front) same made)

pub feed_seen : (setup : NodeSetup) (seat : NodeSeat) (front : NodeLog) (source later : SourceTold)
    (end : FeedEnd) → RunsFeed setup seat front source later end → IsPrefix seat.front front
feed_seen setup seat front source later end run =
    prefix-then seat.front run.seen front
    (seen_calls IsRightTurn setup seat (run.fed.told.calls ++ run.fed.told.last) run.seen
    run.fed.told.made) (seen_calls IsRightTurn setup (at seat run.seen) run.stop front run.stopped)
