-- What a connection that serves has been asked, and has said.
use Rattle.std.proofs.Common.{◌≡◌, ℕ, Bool, true, false, List, [], ◌∷◌, ◌++◌, Option, Some, None}
use Rattle.std.proofs.Common.{refl, sym, ap, subst, ◌∙◌, append_assoc, reverse}
use Rattle.std.proofs.Common.{MatchOption}
use Rattle.std.specs.Prelude.{if◌then◌else◌}
use Rattle.std.specs.List.{list_any}
use Rattle.std.proofs.lemmas.Bool.{false≢true}
use Rattle.std.proofs.lemmas.List.{append-nil}
use Rattle.bilateral.specs.Rows.{CentreRows}
use Rattle.stack_assoc.specs.declared.messages.fault.StackFault.{StackFault}
use Rattle.stack_assoc.specs.Arrivals.{Arrival, called}
use Rattle.stack_assoc.specs.Handing.{answers_to}
use Rattle.stack_assoc.specs.Expectations.{setup_after}
use Rattle.stack_assoc.specs.Wire.Tsdus.{refusal_tsdu}
use Rattle.tpkt_cotp.specs.Written.{wire}
use Rattle.tase_views.specs.declared.event.EventKind.{EventKind}
use Rattle.tase_views.specs.History.{Past, association_in}
use Rattle.tase_views.specs.Outcomes.{seat_refusal, name_refusal}
use Rattle.tase_conn.specs.Map.Inputs.{Item, IsLinkInput, text_given, link_has_ended}
use Rattle.tase_conn.specs.Map.Readings.{reading_of}
use Rattle.tase_conn.specs.Map.Turns.{Turn, offers, offers_badly, asks, concludes, releases, aborts}
use Rattle.tase_conn.specs.Map.Turns.{breaks, ends, pauses, turns_told, turns_of}
use Rattle.tase_conn.specs.Map.Asks.{is_last, up_to_last, asks_at, asks_behind, asks_of, without_pauses}
use Rattle.tase_conn.specs.Map.Asks.{AreInTurn}
use Rattle.tase_conn.specs.Map.Out.{early_octets, is_declined, refusal_octets}
use Rattle.tase_conn.specs.Map.Out.{end_turns}
use Rattle.tase_conn.specs.Map.Sent.{events_by}
use Rattle.tase_conn.specs.Map.Linked.{octets_by, link_octets}
use Rattle.tase_conn.proofs.OfMap.InTurn.{asked_in_turn}
use Rattle.tase_conn.proofs.OfMap.Uncut.{any_kept}
use Rattle.tase_conn.proofs.OfMap.Unrefused.{unrefused}
use Rattle.tase_conn.specs.declared.stage.PendingEvent.{PendingEvent}
use Rattle.tase_conn.specs.declared.stage.PendingEvent.TheVariants as askeds
use Rattle.tase_conn.specs.declared.stage.Behind.{Behind}
use Rattle.tase_conn.specs.declared.stage.Coming.{Coming}
use Rattle.tase_conn.specs.declared.stage.ConnEnd.{ConnEnd}
use Rattle.tase_conn.specs.declared.stage.Progress.{Progress}
use Rattle.tase_conn.specs.declared.stage.Progress.TheVariants as progresses
use Rattle.tase_conn.specs.declared.stage.Stage.{Stage}
use Rattle.tase_conn.specs.declared.stage.Stage.TheVariants as stages
use Rattle.tase_conn.specs.Talking.{Talking, IsResting}
use Rattle.tase_conn.specs.Places.{Runs, IsDone, ReadsBy}
use Rattle.tase_conn.specs.Places.{BeginsTurns, turns_held, Position, position_by, Reach}
use Rattle.stack_assoc.proofs.Enough.{or_left}
use Rattle.tase_conn.proofs.LastTurns.{goes_front, uncut, at_end, brought_whole}
use Rattle.tase_conn.proofs.OfMap.AskedOn.{asks_join}
use Rattle.conn_service.specs.Courses.Serving.{IsWaiting, SaysBy, Serves, IsAllSaid, IsSaidButOwed}
use Rattle.conn_service.specs.Courses.Serving.{HasServed, HoldsOfAllInput}
use Rattle.tase_conn.proofs.SeenTurns.{seen_front}
use Rattle.conn_service.proofs.OfCourses.Seats.{none_opened, seat_opened, goes_at, says_now}
use Rattle.conn_service.proofs.OfCourses.Texts.{text_turns}
use Rattle.conn_service.proofs.OfCourses.TurnLists.{any_front}
use Rattle.conn_service.proofs.OfCourses.Wanted.{waiting_of, answered_goes}

-- ---- turns up to the last

-- the first of them stays first
pub first_kept : (rows : CentreRows) (turn : Turn) (more : List Turn)
    → (others : List Turn) × (up_to_last rows (turn ∷ more) ≡ turn ∷ others)
first_kept rows turn more = first_by (is_last rows turn)
  where
    first_by : (b : Bool) → (others : List Turn)
        × ((if b then turn ∷ [] else turn ∷ up_to_last rows more) ≡ turn ∷ others)
    first_by true = ([], refl)
    first_by false = (up_to_last rows more, refl)

kept_by : (b : Bool) (turn : Turn) (turns kept rest : List Turn) → turns ≡ kept ++ rest
    → (others : List Turn) × (turn ∷ turns ≡ (if b then turn ∷ [] else turn ∷ kept) ++ others)
kept_by true turn turns kept rest e = (turns, refl)
kept_by false turn turns kept rest e = (rest, ap (λ (ts : List Turn). turn ∷ ts) e)

-- they begin the turns
pub kept_front : (rows : CentreRows) (turns : List Turn)
    → (others : List Turn) × (turns ≡ up_to_last rows turns ++ others)
kept_front rows [] = ([], refl)
kept_front rows (turn ∷ turns) =
    let r = kept_front rows turns in
    kept_by (is_last rows turn) turn turns (up_to_last rows turns) r.0 r.1

-- ---- the event that waits

-- the turns that were acted on begin those of the items
pub begins_turns : (rows : CentreRows) (items : List Item) (told : List Arrival) (turns : List Turn)
    (asked : PendingEvent) (v : Talking) → Runs rows items told turns asked v
    → BeginsTurns turns (turns_of items)
begins_turns rows items told turns asked v r =
    let f = seen_front rows items told turns asked v r in
    (turns_held v.held ++ f.0, f.1 ∙ append_assoc turns (turns_held v.held) f.0)

-- each event that waits is the next that the input asks for
pub next_asked : (rows : CentreRows) (past : Past) (who : ℕ) (items : List Item)
    (octets : List ℕ) (event : EventKind) (v : Talking)
    → (s : Serves rows past who items octets (Some event) v)
    → (later : List EventKind) × (asks_of rows items ≡ reverse
    (events_by who past) ++ event ∷ later)
next_asked rows past who items octets event v s =
    let found = waiting_of v.progress event s.waits in
    let goes = answered_goes rows past who items octets event v s in
    let r = goes_at s.stands found.1 in
    let f = begins_turns rows items s.told s.turns found.0 v r in
    let last = s.are.last in
    let k = first_kept rows last f.0 in
    let whole : up_to_last rows (turns_of items) ≡ s.answered ++ last ∷ k.0 =
    ap (λ (ts : List Turn). up_to_last rows ts)
    (f.1 ∙ ap (λ (ts : List Turn). ts ++ f.0) s.are.is
    ∙ append_assoc s.answered (last ∷ []) f.0)
    ∙ goes_front rows s.answered (last ∷ f.0) goes
    ∙ ap (λ (ts : List Turn). s.answered ++ ts) k.1 in (
      asks_behind rows (s.answered ++ last ∷ []) k.0,
      ap (λ (ts : List Turn). asks_behind rows [] ts) whole
          ∙ asks_join rows [] s.answered (last ∷ k.0)
          ∙ ap (λ (es : List EventKind). es ++ (asks_at rows s.answered last
          ++ asks_behind rows (s.answered ++ last ∷ []) k.0)) (sym s.asked)
          ∙ ap (λ (es : List EventKind). reverse (events_by who past)
          ++ (es ++ asks_behind rows (s.answered ++ last ∷ []) k.0)) s.are.asks,
    )

pub never_refused : (rows : CentreRows) (past : Past) (who : ℕ) (items : List Item)
    (octets : List ℕ) (event : EventKind) (v : Talking)
    → Serves rows past who items octets (Some event) v
    → (seat_refusal (association_in past who) event ≡ None) × (name_refusal rows event ≡ None)
never_refused rows past who items octets event v s =
    let n = next_asked rows past who items octets event v s in
    unrefused rows past who event n.0
    (subst (λ (es : List EventKind). AreInTurn rows es) n.1 (asked_in_turn rows items s.input))

-- ---- all octets

pub over_all : (Holds : List ℕ → Bool → List Turn → Type 0) (items : List Item)
    (answered rest : List Turn) → IsLinkInput items → turns_of items ≡ answered ++ rest
    → HoldsOfAllInput items answered Holds → Holds (text_given items) (link_has_ended items) (without_pauses rest)
over_all Holds items answered rest i t holds =
    let same = append-nil items in
    subst (λ (all : List Item). Holds (text_given all) (link_has_ended all) (without_pauses rest)) same
    (holds [] (subst (λ (all : List Item). IsLinkInput all) (sym same) i) rest
    (subst (λ (all : List Item). turns_of all ≡ answered ++ rest) (sym same) t))

undeclined : (rows : CentreRows) (turns : List Turn) → list_any (is_last rows) turns ≡ false
    → is_declined rows turns ≡ false
undeclined rows [] l = refl
undeclined rows (offers title ∷ turns) l =
    or_left (is_last rows (offers title)) (list_any (is_last rows) turns) l
undeclined rows (offers_badly ∷ turns) l = absurd (false≢true (sym l))
undeclined rows (asks invoke call ∷ turns) l = refl
undeclined rows (concludes ∷ turns) l = refl
undeclined rows (releases ∷ turns) l = refl
undeclined rows (aborts ∷ turns) l = refl
undeclined rows (breaks ∷ turns) l = refl
undeclined rows (ends ∷ turns) l = refl
undeclined rows (pauses ∷ turns) l = refl

-- no offer was refused where something follows each turn
early_said : (rows : CentreRows) (items : List Item) → IsLinkInput items
    → list_any (is_last rows) (turns_of items) ≡ false
    → answers_to called (reading_of (text_given items)).told ≡ early_octets rows (text_given items)
early_said rows items i l =
    let r = reading_of (text_given items) in
    let kept : list_any (is_last rows) (turns_told r ++ end_turns (link_has_ended items)) ≡ false =
    ap (λ (ts : List Turn). list_any (is_last rows) ts) (sym (text_turns items i))
    ∙ any_kept (is_last rows) refl (turns_of items) ∙ l in
    let none : refusal_octets rows r ≡ [] =
    ap (λ (b : Bool). if b then wire (setup_after r.told).size
    (refusal_tsdu (setup_after r.told).acse) else [])
    (undeclined rows (turns_told r)
    (any_front (is_last rows) (turns_told r) (end_turns (link_has_ended items)) kept)) in
    sym (append-nil (answers_to called r.told))
    ∙ ap (λ (os : List ℕ). answers_to called r.told ++ os) (sym none)

-- ---- at rest

-- all that was read was acted on
pub all_done : (rows : CentreRows) (items : List Item) (told : List Arrival) (turns : List Turn)
    (v : Talking) → IsResting v → Runs rows items told turns askeds.Nothing v
    → IsDone items told (turns ++ []) v
all_done rows items told turns v at r =
    let clear : v.course.fault ≡ None =
    ap (λ (p : Position). p.fault) (r.at
    ∙ ap (λ (h : Option Coming). position_by v.stage askeds.Nothing h) at.acted) in
    let P : Option StackFault → Type 0 = λ f. MatchOption f
    (ReadsBy v.behind items told (turns ++ turns_held v.held) v)
    (λ fault. BeginsTurns (turns ++ turns_held v.held) (turns_of items)) in
    subst (λ (h : Option Coming). IsDone items told (turns ++ turns_held h) v) at.acted
    (subst (λ (b : Behind). ReadsBy b items told (turns ++ turns_held v.held) v) at.read
    (subst P clear r.reads))

running_said : (rows : CentreRows) (past : Past) (who : ℕ) (items : List Item)
    (told : List Arrival) (turns : List Turn) (octets : List ℕ) (stage : Stage) → IsLinkInput items
    → turns_of items ≡ turns → told ≡ (reading_of (text_given items)).told
    → list_any (is_last rows) turns ≡ false
    → SaysBy stage (progresses.Running askeds.Nothing) rows past who items told turns octets
    → octets ≡ link_octets rows past who items
running_said rows past who items told turns octets stages.Early i t all l says =
    says.1 ∙ ap (λ (ts : List Arrival). answers_to called ts) all
    ∙ early_said rows items i (ap (λ (ts : List Turn). list_any (is_last rows) ts) t ∙ l)
    ∙ sym (ap (octets_by rows past items) (none_opened past who says.0))
running_said rows past who items told turns octets (stages.Open peer detail) i t all l says =
    let o = over_all (IsAllSaid rows past says.key octets) items turns [] i
    (t ∙ sym (append-nil turns)) says.octets in
    o.0 ∙ sym (ap (octets_by rows past items) (seat_opened past who says.key says.seat))
running_said rows past who items told turns octets (stages.Closed peer) i t all l says =
    let o = over_all (IsSaidButOwed (progresses.Running askeds.Nothing) rows past says.key octets) items
    turns [] i (t ∙ sym (append-nil turns)) says.octets in
    sym (append-nil octets) ∙ o
    ∙ sym (ap (octets_by rows past items) says.opened)

running_served : (rows : CentreRows) (past : Past) (who : ℕ) (items : List Item)
    (octets : List ℕ) (v : Talking) → (s : Serves rows past who items octets None v)
    → v.progress ≡ progresses.Running askeds.Nothing → IsResting v
    → HasServed rows past who items octets
running_served rows past who items octets v s p at =
    let r = goes_at s.stands p in
    let d = all_done rows items s.told s.turns v at r in
    let t : turns_of items ≡ s.turns = sym d.seen_is ∙ append-nil s.turns in
    let says = says_now s p in
    record {
      asked = s.asked ∙ ap (λ (ts : List Turn). asks_behind rows [] ts)
          (sym s.are ∙ sym (uncut rows s.turns (ap (λ (x : Reach). x.ending) r.reached))
          ∙ ap (λ (ts : List Turn). up_to_last rows ts) (sym t));
      octets = running_said rows past who items s.told s.turns octets v.stage s.input t d.told_is
          (ap (λ (x : Reach). x.ending) r.reached) says;
    }

-- ---- at its end

ended_said : (rows : CentreRows) (past : Past) (who : ℕ) (items : List Item)
    (told : List Arrival) (turns rest : List Turn) (octets : List ℕ) (end : ConnEnd) (stage : Stage)
    → IsLinkInput items → turns_of items ≡ turns ++ rest
    → (is_running : SaysBy stage (progresses.Ended end) rows past who items told turns octets)
    → octets ≡ link_octets rows past who items
ended_said rows past who items told turns rest octets end stages.Early i t says =
    over_all (λ text ended rest. octets ≡ early_octets rows text) items turns rest i t says.1
    ∙ sym (ap (octets_by rows past items) (none_opened past who says.0))
ended_said rows past who items told turns rest octets end (stages.Open peer detail) i t says =
    let o = over_all (IsAllSaid rows past says.key octets) items turns rest i t says.octets in
    o.0 ∙ sym (ap (octets_by rows past items) (seat_opened past who says.key says.seat))
ended_said rows past who items told turns rest octets end (stages.Closed peer) i t says =
    let o = over_all (IsSaidButOwed (progresses.Ended end) rows past says.key octets) items turns rest
    i t says.octets in
    sym (append-nil octets) ∙ o
    ∙ sym (ap (octets_by rows past items) says.opened)

ended_served : (rows : CentreRows) (past : Past) (who : ℕ) (items : List Item)
    (octets : List ℕ) (end : ConnEnd) (v : Talking)
    → (s : Serves rows past who items octets None v) → v.progress ≡ progresses.Ended end
    → HasServed rows past who items octets
ended_served rows past who items octets end v s p =
    let b = at_end rows items s.told s.turns end (goes_at s.stands p).0 in
    let says = says_now s p in
    record {
      asked = s.asked ∙ ap (λ (ts : List Turn). asks_behind rows [] ts)
          (sym s.are ∙ sym (brought_whole rows items s.turns end b));
      octets = ended_said rows past who items s.told s.turns b.rest octets end v.stage s.input b.all
          says;
    }

served_by : (rows : CentreRows) (past : Past) (who : ℕ) (items : List Item) (octets : List ℕ)
    (v : Talking) (p : Progress) → (s : Serves rows past who items octets None v)
    → v.progress ≡ p → IsWaiting p None → IsResting v → HasServed rows past who items octets
served_by rows past who items octets v (progresses.Running askeds.Nothing) s p w at =
    running_served rows past who items octets v s p at
served_by rows past who items octets v (progresses.Running (askeds.Opening peer offered)) s p w at =
    absurd w
served_by rows past who items octets v (progresses.Running (askeds.Requesting invoke)) s p w at =
    absurd w
served_by rows past who items octets v (progresses.Running askeds.Taking) s p w at = absurd w
served_by rows past who items octets v (progresses.Running (askeds.Closing cause)) s p w at =
    absurd w
served_by rows past who items octets v progresses.Refused s p w at = absurd w
served_by rows past who items octets v (progresses.Leaving end asked) s p w at = absurd w
served_by rows past who items octets v (progresses.Ended end) s p w at =
    ended_served rows past who items octets end v s p
served_by rows past who items octets v (progresses.Cut end) s p w at = absurd w

-- at rest or ended it has been asked all, and has said all
pub has_served : (rows : CentreRows) (past : Past) (who : ℕ) (items : List Item)
    (octets : List ℕ) (v : Talking) → Serves rows past who items octets None v → IsResting v
    → HasServed rows past who items octets
has_served rows past who items octets v s at =
    served_by rows past who items octets v v.progress s refl s.waits at
