-- Entries of other seats don't change the octets that a seat's link is sent.
use Rattle.std.proofs.Common.{◌≡◌, ◌==◌, ℕ, Bool, true, false, List, [], ◌∷◌, ◌++◌}
use Rattle.std.proofs.Common.{Option, Some, None, refl, sym, ap, subst, ◌∙◌, inl, inr}
use Rattle.std.specs.Prelude.{if◌then◌else◌, ◌⊎◌}
use Rattle.std.proofs.lemmas.Bool.{eqb-true}
use Rattle.stack_assoc.specs.Arrivals.{called}
use Rattle.stack_assoc.specs.Handing.{answers_to}
use Rattle.bilateral.specs.Rows.{CentreRows}
use Rattle.sbo_device.specs.declared.key.Key.{Key}
use Rattle.tase_views.specs.declared.event.Entry.{Entry}
use Rattle.tase_views.specs.declared.event.EventKind.{EventKind}
use Rattle.tase_views.specs.declared.event.EventKind.TheVariants as events
use Rattle.tase_views.specs.Moves.{sort_of}
use Rattle.tase_views.specs.History.{Past, association_in, association_after}
use Rattle.conn_service.specs.TaseConn.Map.Closed.{is_closed}
use Rattle.conn_service.specs.TaseConn.Map.Inputs.{Item, text_given, link_has_ended}
use Rattle.conn_service.specs.TaseConn.Map.Readings.{Reading, reading_of}
use Rattle.conn_service.specs.TaseConn.Map.Out.{refusal_octets}
use Rattle.conn_service.specs.TaseConn.Map.Sent.{events_by, with_event}
use Rattle.conn_service.proofs.TaseConn.OfMap.ReadingLaws.{reading, reading_only}
use Rattle.conn_service.proofs.TaseConn.OfMap.TurnOrder.{nothing_said}
use Rattle.conn_service.specs.Courses.Serving.{AreOthers}
use Rattle.conn_service.proofs.OfCourses.Seats.{at_seat, close_closes, closed_still, others_sent}
use Rattle.conn_service.proofs.OfCourses.Seats.{others_opened, none_opened}
use Rattle.conn_service.specs.TaseConn.Map.Linked.{opened_in, opened_by, octets_by, link_octets}

-- ---- the association that a seat has opened last

-- it has opened none, or that is open still, or was closed
abbrev Settles : Past → ℕ → Option Key → Type 0
Settles past who None = Unit {0}
Settles past who (Some key) = (association_in past who ≡ Some key) ⊎ (is_closed key past ≡ true)

still_closed : (rows : CentreRows) (key : Key) (later past : Past) → is_closed key past ≡ true
    → is_closed key (later ++ past) ≡ true
still_closed rows key later past c = (closed_still rows key later past [] false c).0

-- with an entry more that leaves the seat's association as it is
settles_kept : (rows : CentreRows) (entry : Entry) (past : Past) (who : ℕ) (found : Option Key)
    → association_in (entry ∷ past) who ≡ association_in past who → Settles past who found
    → Settles (entry ∷ past) who found
settles_kept rows entry past who None same s = tt
settles_kept rows entry past who (Some key) same (inl seat) = inl (same ∙ seat)
settles_kept rows entry past who (Some key) same (inr closed) =
    inr (still_closed rows key (entry ∷ []) past closed)

-- with its close
settles_closed : (rows : CentreRows) (past : Past) (who : ℕ) (found : Option Key)
    → Settles past who found → Settles (with_event who events.Close past) who found
settles_closed rows past who None s = tt
settles_closed rows past who (Some key) (inl seat) = inr (close_closes past who key seat)
settles_closed rows past who (Some key) (inr closed) =
    inr (still_closed rows key (with_event who events.Close []) past closed)

settles_here : (rows : CentreRows) (event : EventKind) (past : Past) (who : ℕ)
    (found : Option Key) → Settles past who found
    → Settles (with_event who event past) who (opened_by (sort_of event) past found)
settles_here rows (events.Open peer) past who found s = inl (at_seat (events.Open peer) past who)
settles_here rows (events.Request call) past who found s =
    settles_kept rows (record { who = who; event = events.Request call }) past who found
    (at_seat (events.Request call) past who) s
settles_here rows events.Take past who found s =
    settles_kept rows (record { who = who; event = events.Take }) past who found
    (at_seat events.Take past who) s
settles_here rows events.Close past who found s = settles_closed rows past who found s
settles_here rows (events.Update point value) past who found s =
    settles_kept rows (record { who = who; event = events.Update point value }) past who found
    (at_seat (events.Update point value) past who) s
settles_here rows (events.Table chooser variant) past who found s =
    settles_kept rows (record { who = who; event = (events.Table chooser variant) }) past who found
    (at_seat (events.Table chooser variant) past who) s
settles_here rows (events.Tick now) past who found s =
    settles_kept rows (record { who = who; event = (events.Tick now) }) past who found
    (at_seat (events.Tick now) past who) s
settles_here rows (events.Ask asker slot) past who found s =
    settles_kept rows (record { who = who; event = (events.Ask asker slot) }) past who found
    (at_seat (events.Ask asker slot) past who) s
settles_here rows (events.Tag device tag) past who found s =
    settles_kept rows (record { who = who; event = (events.Tag device tag) }) past who found
    (at_seat (events.Tag device tag) past who) s
settles_here rows events.TakeOrders past who found s =
    settles_kept rows (record { who = who; event = events.TakeOrders }) past who found
    (at_seat events.TakeOrders past who) s
settles_here rows events.Stop past who found s =
    settles_kept rows (record { who = who; event = events.Stop }) past who found
    (at_seat events.Stop past who) s

settles_by : (rows : CentreRows) (seat : ℕ) (event : EventKind) (past : Past) (who : ℕ)
    (found : Option Key) (b : Bool) → (seat == who) ≡ b → Settles past who found
    → Settles (with_event seat event past) who
    (if b then opened_by (sort_of event) past found else found)
settles_by rows seat event past who found true e s =
    subst (λ (w : ℕ). Settles (with_event w event past) who (opened_by (sort_of event) past found))
    (sym (eqb-true seat who e)) (settles_here rows event past who found s)
settles_by rows seat event past who found false e s =
    settles_kept rows (record { who = seat; event = event }) past who found
    (ap (λ (b : Bool). if b then association_after event past (association_in past who)
    else association_in past who) e) s

settles : (rows : CentreRows) (past : Past) (who : ℕ) → Settles past who (opened_in past who)
settles rows [] who = tt
settles rows (entry ∷ past) who =
    settles_by rows entry.who entry.event past who (opened_in past who) (entry.who == who) refl
    (settles rows past who)

-- ---- entries of other seats

octets_beside : (rows : CentreRows) (who : ℕ) (others past : Past) (items : List Item)
    (found : Option Key) → AreOthers who others → Settles past who found
    → octets_by rows (others ++ past) items found ≡ octets_by rows past items found
octets_beside rows who others past items None a s = refl
octets_beside rows who others past items (Some key) a (inl seat) =
    (others_sent rows who others past key (text_given items) (link_has_ended items) a seat).0
octets_beside rows who others past items (Some key) a (inr closed) =
    (closed_still rows key others past (text_given items) (link_has_ended items) closed).1

pub octets_still : (rows : CentreRows) (who : ℕ) (others past : Past) (items : List Item)
    → AreOthers who others
    → link_octets rows (others ++ past) who items ≡ link_octets rows past who items
octets_still rows who others past items a =
    ap (λ (o : Option Key). octets_by rows (others ++ past) items o)
    (others_opened who others past a)
    ∙ octets_beside rows who others past items (opened_in past who) a (settles rows past who)

-- ---- a link that gave nothing

nothing_read : reading_of [] ≡ reading [] None
nothing_read = reading_only [] [] None
    (nothing_said.0, record { messages = []; said = nothing_said.1; tell = tt })

-- its peer is sent nothing, where the seat has had no event
pub none_sent : (rows : CentreRows) (past : Past) (who : ℕ) → events_by who past ≡ []
    → link_octets rows past who [] ≡ []
none_sent rows past who none =
    ap (λ (o : Option Key). octets_by rows past [] o) (none_opened past who none)
    ∙ ap (λ (r : Reading). answers_to called r.told ++ refusal_octets rows r) nothing_read
