-- A connection that is given up for an end which isn't the node's.
use Rattle.std.proofs.Common.{◌≡◌, ℕ, true, List, [], ◌++◌, reverse, Some, None, refl, sym, ap}
use Rattle.std.proofs.Common.{subst}
use Rattle.std.proofs.Common.{◌∙◌, append_assoc, inl, inr, Option}
use Rattle.std.specs.Prelude.{◌⊎◌}
use Rattle.std.proofs.lemmas.List.{append-nil}
use Rattle.stack_assoc.specs.declared.wire.setup.AssociationSetup.{AssociationSetup}
use Rattle.stack_assoc.specs.declared.end_state.EndState.{EndState}
use Rattle.bilateral.specs.Rows.{CentreRows}
use Rattle.tase_views.specs.Setup.{Setup}
use Rattle.tase_views.specs.History.{Past}
use Rattle.tase_views.specs.declared.event.EventKind.{EventKind}
use Rattle.tase_views.specs.declared.fault.StepFault.{StepFault}
use Rattle.tase_conn.specs.Map.Inputs.{Item, text_given, link_has_ended}
use Rattle.tase_conn.specs.Map.Readings.{reading_of}
use Rattle.tase_conn.specs.Map.Turns.{Turn}
use Rattle.tase_conn.specs.Map.Asks.{asks_of, asks_behind, up_to_last}
use Rattle.tase_conn.specs.Map.Out.{talk_of}
use Rattle.tase_conn.specs.Map.Sent.{events_by}
use Rattle.tase_conn.specs.Map.Linked.{link_octets}
use Rattle.tase_conn.proofs.OfMap.AskedOn.{asks_join}
use Rattle.tase_conn.specs.declared.stage.PendingEvent.TheVariants as askeds
use Rattle.tase_conn.specs.declared.stage.ConnEnd.{ConnEnd}
use Rattle.tase_conn.specs.declared.stage.ConnEnd.TheVariants as conn_ends
use Rattle.tase_conn.specs.declared.stage.Progress.{Progress}
use Rattle.tase_conn.specs.declared.stage.Progress.TheVariants as progresses
use Rattle.tase_conn.specs.Talking.{Talking, pending_of, is_open_stage, MayLeave, IsResting}
use Rattle.tase_conn.specs.Places.{KeepsPlace, Runs, Reach}
use Rattle.tase_conn.specs.Leaving.{IsLeft}
use Rattle.tase_conn.proofs.LastTurns.{goes_front}
use Rattle.conn_service.specs.Courses.Serving.{Serves}
use Rattle.conn_service.specs.Courses.Cutting.{HasLeft, HasSaidSome, HasShut, parting, left_said}
use Rattle.conn_service.proofs.OfCourses.Left.{given_up, stands_by}
use Rattle.conn_service.proofs.OfCourses.Leftover.{was_left}
use Rattle.conn_service.proofs.OfCourses.Seats.{goes_at}
use Rattle.conn_service.proofs.OfCourses.Served.{begins_turns, has_served}
use Rattle.conn_service.specs.Served.{with_closed}
use Rattle.conn_service.specs.Sends.{IsCutFor, IsSaidByEnd, IsFrontOf, IsWholeFor}
use Rattle.conn_service.specs.Attending.{IsServed, IsParting, closing_said}
use Rattle.conn_service.proofs.Closed.{said_in_part}
use Rattle.node_server.specs.Seats.Serving.{IsCutBySeat, IsServersEnd, RestsFor, IsShut}
use Rattle.node_server.specs.Seats.Serving.{ClosesOverAll}
use Rattle.node_server.proofs.OfSeats.Shut.{cut_shut}

-- ---- what was said

-- no more than is sent, where the end has no parting
front_said : (rows : CentreRows) (past : Past) (who : ℕ) (items : List Item) (said : List ℕ)
    (end : ConnEnd) (standing : EndState)
    → ((setup : AssociationSetup) → parting end standing setup ≡ [])
    → HasSaidSome end standing rows past who items said
    → IsFrontOf said (link_octets rows past who items)
front_said rows past who items said end standing none h = record {
  others = h.others;
  are = h.sent ∙ ap (λ (os : List ℕ). os ++ h.others) (sym (by h.parted));
}
  where
    by : (HasShut past who × (said ≡ h.before ++ parting end standing
        (talk_of (reading_of (text_given items)) (link_has_ended items)).setup))
        ⊎ ((events_by who past ≡ []) × (said ≡ h.before)) → said ≡ h.before
    by (inl c) = c.1 ∙ ap (λ (os : List ℕ). h.before ++ os)
        (none (talk_of (reading_of (text_given items)) (link_has_ended items)).setup)
        ∙ append-nil h.before
    by (inr c) = c.1

said_by : (end : ConnEnd) (setup : Setup) (past : Past) (who : ℕ) (items : List Item)
    (said : List ℕ) (standing : EndState) (v : Talking) → IsServersEnd end
    → HasLeft true end standing setup.centre past who items said None v
    → v.progress ≡ progresses.Cut end
    → IsSaidByEnd items (Some end) said (link_octets setup.centre past who items)
said_by conn_ends.LinkFault setup past who items said standing v is h cut =
    front_said setup.centre past who items said conn_ends.LinkFault standing (λ s. refl)
    (was_left true conn_ends.LinkFault standing setup.centre past who items said v h cut).octets
said_by (conn_ends.Overflow pending limit) setup past who items said standing v is h cut =
    front_said setup.centre past who items said (conn_ends.Overflow pending limit) standing
    (λ s. refl)
    (was_left true (conn_ends.Overflow pending limit) standing setup.centre past who items said v h
    cut).octets
said_by conn_ends.Memory setup past who items said standing v is h cut =
    said_in_part setup past who items said true conn_ends.Memory standing v h cut
said_by conn_ends.Stopped setup past who items said standing v is h cut = absurd is
said_by (conn_ends.Full weight limit) setup past who items said standing v is h cut = absurd is
said_by (conn_ends.TooLong len detail) setup past who items said standing v is h cut = absurd is
said_by conn_ends.Finished setup past who items said standing v is h cut = absurd is
said_by conn_ends.PeerEnd setup past who items said standing v is h cut = absurd is
said_by conn_ends.Declined setup past who items said standing v is h cut = absurd is
said_by (conn_ends.Refused fault) setup past who items said standing v is h cut = absurd is

-- ---- why

servers_cause : (end : ConnEnd) (setup : Setup) (past : Past) (who : ℕ) (items : List Item)
    (refusal : Option StepFault) → IsServersEnd end → IsCutFor setup past who items end refusal
servers_cause conn_ends.LinkFault setup past who items refusal is = tt
servers_cause (conn_ends.Overflow pending limit) setup past who items refusal is = is
servers_cause conn_ends.Memory setup past who items refusal is = tt
servers_cause conn_ends.Stopped setup past who items refusal is = absurd is
servers_cause (conn_ends.Full weight limit) setup past who items refusal is = absurd is
servers_cause (conn_ends.TooLong len detail) setup past who items refusal is = absurd is
servers_cause conn_ends.Finished setup past who items refusal is = absurd is
servers_cause conn_ends.PeerEnd setup past who items refusal is = absurd is
servers_cause conn_ends.Declined setup past who items refusal is = absurd is
servers_cause (conn_ends.Refused fault) setup past who items refusal is = absurd is

-- ---- the events

-- those so far are the first that the input asks, and all of them where it is given up for its link
record Front (rows : CentreRows) (past : Past) (who : ℕ) (items : List Item) (end : ConnEnd)
    : Type 0 where
  rest : List EventKind
  asks : asks_of rows items ≡ reverse (events_by who past) ++ rest
  whole : IsWholeFor end rest

some_front : (rows : CentreRows) (past : Past) (who : ℕ) (items : List Item) (said : List ℕ)
    (v : Talking) → (s : Serves rows past who items said None v)
    → v.progress ≡ progresses.Running askeds.Nothing
    → (rest : List EventKind) × (asks_of rows items ≡ reverse (events_by who past) ++ rest)
some_front rows past who items said v s idle =
    let r : Runs rows items s.told s.turns askeds.Nothing v = goes_at s.stands idle in
    let f = begins_turns rows items s.told s.turns askeds.Nothing v r in (
      asks_behind rows s.turns (up_to_last rows f.0),
      ap (λ (ts : List Turn). asks_behind rows [] (up_to_last rows ts)) f.1
          ∙ ap (λ (ts : List Turn). asks_behind rows [] ts)
          (goes_front rows s.turns f.0 (ap (λ (x : Reach). x.ending) r.reached))
          ∙ asks_join rows [] s.turns (up_to_last rows f.0)
          ∙ ap (λ (es : List EventKind). es ++ asks_behind rows s.turns (up_to_last rows f.0))
          (ap (λ (ts : List Turn). asks_behind rows [] ts) s.are ∙ sym s.asked),
    )

all_asked : (rows : CentreRows) (past : Past) (who : ℕ) (items : List Item) (said : List ℕ)
    (v : Talking) → Serves rows past who items said None v → IsResting v
    → asks_of rows items ≡ reverse (events_by who past) ++ []
all_asked rows past who items said v s at =
    sym (has_served rows past who items said v s at).asked
    ∙ sym (append-nil (reverse (events_by who past)))

front_of : (end : ConnEnd) (rows : CentreRows) (past : Past) (who : ℕ) (items : List Item)
    (said : List ℕ) (v : Talking) → IsServersEnd end → RestsFor end v
    → Serves rows past who items said None v → v.progress ≡ progresses.Running askeds.Nothing
    → Front rows past who items end
front_of conn_ends.LinkFault rows past who items said v is at s idle =
    record { rest = []; asks = all_asked rows past who items said v s at; whole = refl }
front_of (conn_ends.Overflow pending limit) rows past who items said v is at s idle =
    record { rest = []; asks = all_asked rows past who items said v s at; whole = refl }
front_of conn_ends.Memory rows past who items said v is at s idle =
    let f = some_front rows past who items said v s idle in
    record { rest = f.0; asks = f.1; whole = tt }
front_of conn_ends.Stopped rows past who items said v is at s idle = absurd is
front_of (conn_ends.Full weight limit) rows past who items said v is at s idle = absurd is
front_of (conn_ends.TooLong len detail) rows past who items said v is at s idle = absurd is
front_of conn_ends.Finished rows past who items said v is at s idle = absurd is
front_of conn_ends.PeerEnd rows past who items said v is at s idle = absurd is
front_of conn_ends.Declined rows past who items said v is at s idle = absurd is
front_of (conn_ends.Refused fault) rows past who items said v is at s idle = absurd is

-- ---- given up

given_left : (rows : CentreRows) (past : Past) (who : ℕ) (items : List Item) (said : List ℕ)
    (end : ConnEnd) (old new : Talking) → old.progress ≡ progresses.Running askeds.Nothing
    → KeepsPlace old new → IsLeft end old new → (s : Serves rows past who items said None old)
    → HasLeft true end old.course.standing rows past who items
    (said ++ left_said old.stage old.course end) None new
given_left rows past who items said end old new idle stays left s =
    given_up rows past who items said (left_said old.stage old.course end) end old new s idle
    (stays rows items s.told s.turns s.stands) left
    (stands_by (is_open_stage old.stage) end old new refl left).pending

pub running_free : (p : Progress) → p ≡ progresses.Running askeds.Nothing → MayLeave p
running_free p is = subst (λ (x : Progress). MayLeave x) (sym is) tt

-- what its close is asked of
pub left_parting : (rows : CentreRows) (past : Past) (who : ℕ) (end : ConnEnd) (old new : Talking)
    → old.progress ≡ progresses.Running askeds.Nothing → KeepsPlace old new → IsLeft end old new
    → IsServed rows past who old → IsParting rows past who new
left_parting rows past who end old new idle stays left x = (
  x.0,
  x.1 ++ left_said old.stage old.course end,
  true,
  end,
  old.course.standing,
  given_left rows past who x.0 x.1 end old new idle stays left x.2,
)

pub left_shut : (setup : Setup) (past after : Past) (who : ℕ) (items : List Item) (said : List ℕ)
    (end : ConnEnd) (old between new : Talking) → IsServersEnd end → RestsFor end old
    → old.progress ≡ progresses.Running askeds.Nothing → KeepsPlace old between
    → IsLeft end old between → ClosesOverAll setup.centre who between new → IsShut who past after
    → Serves setup.centre past who items said None old
    → IsCutBySeat setup who items said end old after new
left_shut setup past after who items said end old between new servers rests idle stays left
    closes shut s =
    let rows = setup.centre in
    let more = left_said old.stage old.course end in
    let closing = closing_said between end in
    let c = closes past true end old.course.standing items (said ++ more)
    (given_left rows past who items said end old between idle stays left s) in
    let l = stands_by (is_open_stage old.stage) end old between refl left in
    let f = front_of end rows past who items said old servers rests s idle in
    cut_shut setup past after who items said end old new
    (record {
      added = more ++ closing;
      pending = c.pending ∙ ap (λ (os : List ℕ). os ++ closing) l.pending
          ∙ append_assoc (pending_of old) more closing;
    }) c.ended f.rest f.asks f.whole (servers_cause end setup past who items _ servers)
    (subst (λ (os : List ℕ). IsSaidByEnd items (Some end) os
    (link_octets rows (with_closed who past) who items)) (append_assoc said more closing)
    (said_by end setup (with_closed who past) who items ((said ++ more) ++ closing)
    old.course.standing new servers c.left c.ended)) shut
