-- Of a connection that was left: whether its seat has an association still, and once it has ended,
-- which events the seat has had, and what was said.
use Rattle.std.proofs.Common.{◌≡◌, ℕ, Bool, true, false, List, [], ◌++◌}
use Rattle.std.proofs.Common.{Option, Some, None, is_some, refl, sym, ap, ◌∙◌, inl, inr}
use Rattle.std.specs.Prelude.{if◌then◌else◌, ◌⊎◌, unwrap_or}
use Rattle.std.proofs.lemmas.Bool.{false≢true}
use Rattle.std.proofs.lemmas.List.{append-nil}
use Rattle.stack_assoc.specs.declared.wire.setup.AssociationSetup.{AssociationSetup}
use Rattle.stack_assoc.specs.declared.end_state.EndState.{EndState}
use Rattle.stack_assoc.specs.Courses.{Course, is_accepted}
use Rattle.stack_assoc.specs.Expectations.{setup_after}
use Rattle.bilateral.specs.Rows.{CentreRows}
use Rattle.sbo_device.specs.declared.key.Key.{Key}
use Rattle.tase_views.specs.Setup.{Setup}
use Rattle.tase_views.specs.History.{Past, association_in}
use Rattle.tase_views.specs.declared.event.EventKind.{EventKind}
use Rattle.tase_views.specs.declared.event.EventKind.TheVariants as events
use Rattle.tase_conn.specs.Map.Inputs.{Item, text_given}
use Rattle.tase_conn.specs.Map.Readings.{reading_of}
use Rattle.tase_conn.specs.Map.Turns.{Turn}
use Rattle.tase_conn.specs.Map.Out.{abort_wire}
use Rattle.tase_conn.specs.Map.Sent.{events_by, with_event}
use Rattle.tase_conn.specs.declared.stage.ConnEnd.{ConnEnd}
use Rattle.tase_conn.specs.declared.stage.ConnEnd.TheVariants as conn_ends
use Rattle.tase_conn.specs.declared.stage.Progress.TheVariants as progresses
use Rattle.tase_conn.specs.declared.stage.Stage.{Stage}
use Rattle.tase_conn.specs.declared.stage.Stage.TheVariants as stages
use Rattle.tase_conn.specs.Talking.{Talking, is_open_stage, is_leaving}
use Rattle.tase_conn.specs.Answering.{aborts}
use Rattle.conn_service.specs.Courses.Cutting.{HasLeft, LeftBy, HasSaidSome, HasShut}
use Rattle.conn_service.specs.Courses.Cutting.{parting}
use Rattle.conn_service.proofs.OfCourses.Leftover.{was_left}
use Rattle.conn_service.proofs.OfCourses.Seats.{event_here, none_open, seat_opened}
use Rattle.tase_conn.specs.Map.Linked.{link_octets, opened_in}
use Rattle.tase_conn.specs.Map.Closed.{is_closed}
use Rattle.tase_conn.proofs.OfMap.Closing.{closed_spent}
use Rattle.conn_service.specs.Sends.{Sends, IsSaidInPart, IsFrontOf, IsSaidByEnd, close_of}
use Rattle.conn_service.specs.Sends.{IsWholeFor}
use Rattle.conn_service.specs.Attending.{IsCut, IsNodesEnd}

-- ---- its seat

-- a seat has no association where the one that it has opened last was closed
closed_seat : (past : Past) (who : ℕ) (key : Key) → opened_in past who ≡ Some key
    → is_closed key past ≡ true → is_some (association_in past who) ≡ false
closed_seat past who key opened closed = by (association_in past who) refl
  where
    same : (other : Key) → Some other ≡ Some key → other ≡ key
    same other e = ap (λ (o : Option Key). unwrap_or o key) e

    by : (found : Option Key) → association_in past who ≡ found → is_some found ≡ false
    by None e = refl
    by (Some other) e = absurd ((closed_spent key past closed).nowhere who
        (e ∙ ap (λ (k : Key). Some k) (same other
        (sym (seat_opened past who other e) ∙ opened))))

-- a seat whose connection was left
seat_by : (stage : Stage) (whole : Bool) (end : ConnEnd) (standing : EndState) (course : Course)
    (rows : CentreRows) (past : Past) (who : ℕ) (items : List Item) (answered : List Turn)
    (said : List ℕ)
    → LeftBy whole stage end standing course rows past who items answered said
    → is_some (association_in past who) ≡ is_open_stage stage
seat_by stages.Early whole end standing course rows past who items answered said l =
    ap (λ (k : Option Key). is_some k) (none_open past who l.none)
seat_by (stages.Open peer detail) whole end standing course rows past who items answered said l =
    ap (λ (k : Option Key). is_some k) l.seat
seat_by (stages.Closed peer) whole end standing course rows past who items answered said (inl l) =
    closed_seat past who l.key l.opened l.closed
seat_by (stages.Closed peer) whole end standing course rows past who items answered said (inr l) =
    closed_seat past who l.key l.opened l.closed

-- it has an association exactly where that is still to be closed
pub seat_left : (whole : Bool) (end : ConnEnd) (standing : EndState) (rows : CentreRows)
    (past : Past) (who : ℕ) (items : List Item) (said : List ℕ) (waiting : Option EventKind)
    (v : Talking) → HasLeft whole end standing rows past who items said waiting v
    → is_some (association_in past who) ≡ is_leaving v.progress
seat_left whole end standing rows past who items said waiting v h =
    seat_by v.stage whole end standing v.course rows past who items h.answered said h.says ∙ h.owes

no_key : (found : Option Key) → is_some found ≡ false → found ≡ None
no_key None e = refl
no_key (Some key) e = absurd (false≢true (sym e))

pub none_left : (whole : Bool) (end : ConnEnd) (standing : EndState) (rows : CentreRows)
    (past : Past) (who : ℕ) (items : List Item) (said : List ℕ) (v : Talking)
    → HasLeft whole end standing rows past who items said None v → v.progress ≡ progresses.Cut end
    → association_in past who ≡ None
none_left whole end standing rows past who items said v h cut =
    no_key (association_in past who)
    (seat_left whole end standing rows past who items said None v h
    ∙ ap is_leaving cut)

-- ---- what was said

front_whole : (octets : List ℕ) → IsFrontOf octets octets
front_whole octets = record { others = []; are = sym (append-nil octets) }

parting_front : (end : ConnEnd) (standing : EndState) (setup : AssociationSetup)
    → IsFrontOf (parting end standing setup) (abort_wire setup)
parting_front end standing setup = by (aborts end) (is_accepted standing)
  where
    by : (a b : Bool)
        → IsFrontOf (if a then (if b then abort_wire setup else []) else []) (abort_wire setup)
    by true true = front_whole (abort_wire setup)
    by true false = record { others = abort_wire setup; are = refl }
    by false b = record { others = abort_wire setup; are = refl }

some_said : (setup : Setup) (past : Past) (who : ℕ) (items : List Item) (said : List ℕ)
    (end : ConnEnd) (standing : EndState) → HasSaidSome end standing setup.centre past who items said
    → IsSaidInPart items said (link_octets setup.centre past who items)
some_said setup past who items said end standing s = by s.parted
  where
    talk : AssociationSetup
    talk = setup_after (reading_of (text_given items)).told

    by : (HasShut past who × (said ≡ s.before ++ parting end standing talk))
        ⊎ ((events_by who past ≡ []) × (said ≡ s.before))
        → IsSaidInPart items said (link_octets setup.centre past who items)
    by (inl c) = record {
      first = s.before;
      parting = parting end standing talk;
      are = c.1;
      front = record { others = s.others; are = s.sent };
      aborts = parting_front end standing talk;
    }
    by (inr c) = record {
      first = s.before;
      parting = [];
      are = c.1 ∙ sym (append-nil s.before);
      front = record { others = s.others; are = s.sent };
      aborts = record { others = abort_wire talk; are = refl };
    }

-- a front part of what is sent, and maybe an abort
pub said_in_part : (setup : Setup) (past : Past) (who : ℕ) (items : List Item) (said : List ℕ)
    (whole : Bool) (end : ConnEnd) (standing : EndState) (v : Talking)
    → HasLeft whole end standing setup.centre past who items said None v
    → v.progress ≡ progresses.Cut end
    → IsSaidInPart items said (link_octets setup.centre past who items)
said_in_part setup past who items said whole end standing v h cut =
    some_said setup past who items said end standing
    (was_left whole end standing setup.centre past who items said v h cut).octets

-- what is said whole is as much as is owed, however the connection has ended
pub said_whole : (items : List Item) (end : Option ConnEnd) (octets : List ℕ)
    → IsSaidByEnd items end octets octets
said_whole items None octets = refl
said_whole items (Some conn_ends.Finished) octets = refl
said_whole items (Some conn_ends.PeerEnd) octets = refl
said_whole items (Some conn_ends.Declined) octets = refl
said_whole items (Some (conn_ends.Refused fault)) octets = refl
said_whole items (Some (conn_ends.TooLong len detail)) octets = refl
said_whole items (Some (conn_ends.Overflow pending limit)) octets = front_whole octets
said_whole items (Some conn_ends.LinkFault) octets = front_whole octets
said_whole items (Some conn_ends.Stopped) octets = refl
said_whole items (Some (conn_ends.Full weight limit)) octets = refl
said_whole items (Some conn_ends.Memory) octets = record {
  first = octets;
  parting = [];
  are = sym (append-nil octets);
  front = front_whole octets;
  aborts = record { others = abort_wire (setup_after (reading_of (text_given items)).told); are = refl };
}

-- ---- which events were taken

-- the close of a seat's association, if it has one
record Shut (past after : Past) (who : ℕ) : Type 0 where
  later : Past
  is : after ≡ later ++ past
  closed : events_by who later ≡ close_of (association_in past who)

shut_by : (past : Past) (who : ℕ) (found : Option Key) → association_in past who ≡ found
    → Shut past (if is_some found then with_event who events.Close past else past) who
shut_by past who None e = record { later = []; is = refl; closed = ap close_of (sym e) }
shut_by past who (Some key) e = record {
  later = with_event who events.Close [];
  is = refl;
  closed = event_here events.Close [] who ∙ ap close_of (sym e);
}

-- an end that a node brings isn't for the link
pub node_whole : (end : ConnEnd) (others : List EventKind) → IsNodesEnd end → IsWholeFor end others
node_whole (conn_ends.TooLong len detail) others is = tt
node_whole conn_ends.Stopped others is = tt
node_whole (conn_ends.Full weight limit) others is = tt
node_whole conn_ends.Memory others is = tt
node_whole conn_ends.LinkFault others is = absurd is
node_whole (conn_ends.Overflow pending limit) others is = absurd is
node_whole conn_ends.Finished others is = absurd is
node_whole conn_ends.PeerEnd others is = absurd is
node_whole conn_ends.Declined others is = absurd is
node_whole (conn_ends.Refused fault) others is = absurd is

-- what is owed where a connection was cut
pub cut_sends : (setup : Setup) (past : Past) (who : ℕ) (items : List Item) (said : List ℕ)
    (old : Talking) (after : Past) (new : Talking)
    → (c : IsCut setup past who items said old after new)
    → Sends setup after who items (Some c.end) (said ++ c.adds.added)
cut_sends setup past who items said old after new c =
    let s = shut_by past who (association_in past who) refl in
    record {
      events = inr (
        c.end,
        refl,
        record {
          later = s.later;
          before = past;
          past_is = c.after_is ∙ s.is;
          others = c.others;
          asks_are = c.asks_are;
          whole = node_whole c.end c.others c.by_node;
          cause = c.cause;
          closed = s.closed;
          none_open = c.none_open;
        },
      );
      said = c.said_is;
    }
