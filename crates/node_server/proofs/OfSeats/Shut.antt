-- A connection that was cut, and whose association a seat closed behind entries of other seats.
use Rattle.std.proofs.Common.{◌≡◌, ℕ, Bool, false, List, [], ◌∷◌, ◌++◌, reverse, Option, Some}
use Rattle.std.proofs.Common.{None, is_some, refl, sym, ap, subst, ◌∙◌}
use Rattle.std.specs.Prelude.{if◌then◌else◌}
use Rattle.std.proofs.lemmas.List.{append-nil}
use Rattle.bilateral.specs.Rows.{CentreRows}
use Rattle.sbo_device.specs.declared.key.Key.{Key}
use Rattle.tase_views.specs.Setup.{Setup}
use Rattle.tase_views.specs.History.{Past, association_in}
use Rattle.tase_views.specs.OwnTables.{own_tables}
use Rattle.tase_views.specs.declared.event.EventKind.{EventKind}
use Rattle.tase_views.specs.declared.event.EventKind.TheVariants as events
use Rattle.tase_conn.specs.Map.Inputs.{Item, text_given, link_has_ended}
use Rattle.tase_conn.specs.Map.Readings.{reading_of}
use Rattle.tase_conn.specs.Map.Turns.{Turn}
use Rattle.tase_conn.specs.Map.Asks.{asks_of}
use Rattle.tase_conn.specs.Map.Out.{talk_of, close_octets}
use Rattle.tase_conn.specs.Map.Sent.{events_by, with_event, association_octets, turns_left}
use Rattle.tase_conn.specs.Map.Linked.{octets_by, link_octets}
use Rattle.tase_conn.proofs.OfMap.Adding.{close_adds}
use Rattle.tase_conn.specs.declared.stage.ConnEnd.{ConnEnd}
use Rattle.tase_conn.specs.declared.stage.Progress.TheVariants as progresses
use Rattle.tase_conn.specs.Talking.{Talking}
use Rattle.conn_service.specs.Courses.Serving.{AreOthers}
use Rattle.conn_service.proofs.OfCourses.Seats.{others_none, others_seat, others_sent, opened_here, seat_opened}
use Rattle.conn_service.proofs.OfCourses.Seats.{event_here, at_seat}
use Rattle.conn_service.specs.Served.{with_closed}
use Rattle.conn_service.specs.Sends.{IsCutFor, IsSaidByEnd, IsWholeFor, first_refused}
use Rattle.conn_service.specs.Sends.{close_of}
use Rattle.conn_service.proofs.Closed.{node_whole}
use Rattle.conn_service.specs.Attending.{AddsPending, IsCut}
use Rattle.node_server.specs.Seats.Serving.{IsCutBySeat, IsCutByNode, IsShut}

-- ---- entries before the close

none_of_others : (who : ℕ) (others : Past) → AreOthers who others → events_by who others ≡ []
none_of_others who others apart =
    ap (λ (p : Past). events_by who p) (sym (append-nil others)) ∙ others_none who others [] apart

-- what the peer of an association is sent, once it is closed, hangs on none of them
octets_beside : (rows : CentreRows) (past others : Past) (who : ℕ) (items : List Item) (key : Key)
    → AreOthers who others → association_in past who ≡ Some key
    → link_octets rows (with_event who events.Close (others ++ past)) who items
    ≡ link_octets rows (with_event who events.Close past) who items
octets_beside rows past others who items key apart seat =
    let text = text_given items in
    let ended = link_has_ended items in
    let talk = talk_of (reading_of text) ended in
    let table = own_tables rows key.peer in
    let all = others ++ past in
    let here : association_in all who ≡ Some key = others_seat who others past apart ∙ seat in
    let same = others_sent rows who others past key text ended apart seat in
    ap (octets_by rows (with_event who events.Close all) items)
    (opened_here events.Close all who ∙ seat_opened all who key here)
    ∙ close_adds rows table talk key who all here
    ∙ ap (λ (os : List ℕ). os ++ close_octets talk.setup (turns_left rows all key text ended))
    same.0
    ∙ ap (λ (ts : List Turn). association_octets rows past key text ended
    ++ close_octets talk.setup ts) same.1
    ∙ sym (close_adds rows table talk key who past seat)
    ∙ sym (ap (octets_by rows (with_event who events.Close past) items)
    (opened_here events.Close past who ∙ seat_opened past who key seat))

shut_octets : (rows : CentreRows) (past after : Past) (who : ℕ) (items : List Item)
    → IsShut who past after
    → link_octets rows after who items ≡ link_octets rows (with_closed who past) who items
shut_octets rows past after who items h =
    ap (λ (p : Past). link_octets rows p who items) h.after_is ∙ by (association_in past who) refl
  where
    by : (found : Option Key) → association_in past who ≡ found
        → link_octets rows (if is_some found then with_event who events.Close (h.others ++ past)
        else past) who items
        ≡ link_octets rows (if is_some found then with_event who events.Close past else past) who
        items
    by None e = refl
    by (Some key) e = octets_beside rows past h.others who items key h.apart e

-- ---- the events of the seat

record Later (past after : Past) (who : ℕ) : Type 0 where
  later : Past
  is : after ≡ later ++ past
  closed : events_by who later ≡ close_of (association_in past who)
  none : association_in after who ≡ None

shut_later : (past after : Past) (who : ℕ) → IsShut who past after → Later past after who
shut_later past after who h = by (association_in past who) refl
  where
    is_by : (found : Option Key) → association_in past who ≡ found
        → after ≡ (if is_some found then with_event who events.Close (h.others ++ past) else past)
    is_by found e = h.after_is ∙ ap (λ (o : Option Key). if is_some o
        then with_event who events.Close (h.others ++ past) else past) e

    by : (found : Option Key) → association_in past who ≡ found → Later past after who
    by None e = record {
      later = [];
      is = is_by None e;
      closed = ap close_of (sym e);
      none = ap (λ (p : Past). association_in p who) (is_by None e) ∙ e;
    }
    by (Some key) e = record {
      later = with_event who events.Close h.others;
      is = is_by (Some key) e;
      closed = event_here events.Close h.others who
          ∙ ap (λ (es : List EventKind). events.Close ∷ es) (none_of_others who h.others h.apart)
          ∙ ap close_of (sym e);
      none = ap (λ (p : Past). association_in p who) (is_by (Some key) e)
          ∙ at_seat events.Close (h.others ++ past) who;
    }

-- ---- cut

pub cut_shut : (setup : Setup) (past after : Past) (who : ℕ) (items : List Item) (said : List ℕ)
    (end : ConnEnd) (old new : Talking) (adds : AddsPending old new)
    → new.progress ≡ progresses.Cut end → (others : List EventKind)
    → asks_of setup.centre items ≡ reverse (events_by who past) ++ others → IsWholeFor end others
    → IsCutFor setup past who items end (first_refused setup past who others)
    → IsSaidByEnd items (Some end) (said ++ adds.added)
    (link_octets setup.centre (with_closed who past) who items)
    → IsShut who past after → IsCutBySeat setup who items said end old after new
cut_shut setup past after who items said end old new adds ended others asks whole cause told
    shut =
    let l = shut_later past after who shut in
    record {
      adds = adds;
      ended = ended;
      off = record {
        later = l.later;
        before = past;
        past_is = l.is;
        others = others;
        asks_are = asks;
        whole = whole;
        cause = cause;
        closed = l.closed;
        none_open = l.none;
      };
      said_is = subst (λ (os : List ℕ). IsSaidByEnd items (Some end) (said ++ adds.added) os)
          (sym (shut_octets setup.centre past after who items shut)) told;
    }

-- by the node
abbrev pub node_shut : (setup : Setup) (past after : Past) (who : ℕ) (items : List Item)
    (said : List ℕ)
    (old new : Talking) → IsCut setup past who items said old (with_closed who past) new
    → IsShut who past after → IsCutByNode setup who items said old after new
node_shut setup past after who items said old new c shut = (
  c.end,
  c.by_node,
  cut_shut setup past after who items said c.end old new c.adds c.ended c.others c.asks_are
      (node_whole c.end c.others c.by_node) c.cause c.said_is shut,
)

-- where none is open there is nothing to close
pub none_shut : (past : Past) (who : ℕ) → is_some (association_in past who) ≡ false
    → IsShut who past past
none_shut past who none = record {
  others = [];
  apart = tt;
  after_is = ap (λ (b : Bool). if b then with_event who events.Close past else past) (sym none);
}
