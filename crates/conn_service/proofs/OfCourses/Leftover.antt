-- A connection that was left stays so, and what that means.
use Rattle.std.proofs.Common.{◌≡◌, ℕ, true, false, List, [], ◌∷◌, ◌++◌, Option, None, Bool}
use Rattle.std.proofs.Common.{refl, sym, ap, subst, ◌∙◌, append_assoc, reverse, inl, inr}
use Rattle.std.specs.Prelude.{if◌then◌else◌, ◌⊎◌}
use Rattle.std.proofs.lemmas.Bool.{false≢true}
use Rattle.std.proofs.lemmas.List.{append-nil}
use Rattle.stack_assoc.specs.declared.wire.setup.AssociationSetup.{AssociationSetup}
use Rattle.stack_assoc.specs.declared.end_state.EndState.{EndState}
use Rattle.stack_assoc.specs.Courses.{Course, is_accepted}
use Rattle.bilateral.specs.Rows.{CentreRows}
use Rattle.tase_views.specs.declared.event.EventKind.{EventKind}
use Rattle.tase_views.specs.declared.event.EventKind.TheVariants as events
use Rattle.tase_views.specs.History.{Past}
use Rattle.tase_conn.specs.Map.Inputs.{Item, IsLinkInput, text_given, link_has_ended}
use Rattle.tase_conn.specs.Map.Readings.{reading_of}
use Rattle.tase_conn.specs.Map.Turns.{Turn, offers, offers_badly, asks, concludes, releases, aborts}
use Rattle.tase_conn.specs.Map.Turns.{breaks, ends, pauses, turns_of}
use Rattle.tase_conn.specs.Map.Asks.{is_last, up_to_last, asks_behind, without_pauses}
use Rattle.tase_conn.specs.Map.Out.{talk_of, close_octets, abort_wire}
use Rattle.tase_conn.specs.Map.Sent.{events_by}
use Rattle.tase_conn.specs.Map.Linked.{octets_by, link_octets}
use Rattle.tase_conn.specs.declared.stage.ConnEnd.{ConnEnd}
use Rattle.tase_conn.specs.declared.stage.Progress.{Progress}
use Rattle.tase_conn.specs.declared.stage.Progress.TheVariants as progresses
use Rattle.tase_conn.specs.declared.stage.Stage.{Stage}
use Rattle.tase_conn.specs.declared.stage.Stage.TheVariants as stages
use Rattle.tase_conn.specs.Talking.{Talking, is_open_stage, is_leaving}
use Rattle.tase_conn.specs.Places.{ConnStandsAt}
use Rattle.tase_conn.specs.Taken.{TakesIn}
use Rattle.tase_conn.specs.Answering as answering
use Rattle.tase_conn.proofs.OfMap.AskedOn.{turns_on}
use Rattle.tase_conn.proofs.OfMap.AskedOn.{asks_join}
use Rattle.conn_service.specs.Courses.Cutting.{IsClosingFor, parting, LeftClosed}
use Rattle.conn_service.specs.Courses.Cutting.{LeftBy, HasLeft, HasSaidSome, WasLeft, IsUnexplained}
use Rattle.conn_service.specs.Courses.Cutting.{IsSaidEarly, HasSetupOf, IsSaidButMissing}
use Rattle.conn_service.specs.Courses.Cutting.{IsSaidToClose, IsSaidAndParted}
use Rattle.conn_service.proofs.OfCourses.Left.{kept_on}
use Rattle.conn_service.specs.Courses.Serving.{AreOthers}
use Rattle.conn_service.proofs.OfCourses.Seats.{others_none, others_seat, others_sent, others_opened}
use Rattle.conn_service.proofs.OfCourses.Seats.{closed_still, none_opened}
use Rattle.conn_service.proofs.OfCourses.Served.{over_all, kept_front}
use Rattle.conn_service.proofs.OfCourses.TurnLists.{one_item_more}

-- ---- with entries of other seats

left_beside : (whole : Bool) (stage : Stage) (end : ConnEnd) (standing : EndState) (course : Course)
    (rows : CentreRows) (past others : Past) (who : ℕ) (items : List Item)
    (answered : List Turn) (octets : List ℕ) → AreOthers who others
    → LeftBy whole stage end standing course rows past who items answered octets
    → LeftBy whole stage end standing course rows (others ++ past) who items answered octets
left_beside whole stages.Early end standing course rows past others who items answered octets a k =
    record {
      none = others_none who others past a ∙ k.none;
      asked = ap (λ (es : List EventKind). reverse es) (others_none who others past a) ∙ k.asked;
      octets = k.octets;
    }
left_beside whole (stages.Open peer detail) end standing course rows past others who items answered
    octets
    a k =
    record {
      key = k.key;
      seat = others_seat who others past a ∙ k.seat;
      asked = ap (λ (es : List EventKind). reverse es) (others_none who others past a) ∙ k.asked;
      stood = k.stood;
      setup = k.setup;
      octets = λ more i rest t.
          let o = k.octets more i rest t in
          let same = others_sent rows who others past k.key (text_given (items ++ more))
          (link_has_ended (items ++ more)) a k.seat in
          (o.0, same.0 ∙ o.1, same.1 ∙ o.2, o.3);
    }
left_beside whole (stages.Closed peer) end standing course rows past others who items answered
    octets a
    (inl k) =
    inl (record {
      key = k.key;
      opened = others_opened who others past a ∙ k.opened;
      closed = (closed_still rows k.key others past [] false k.closed).0;
      asked = ap (λ (es : List EventKind). reverse es) (others_none who others past a) ∙ k.asked;
      before = k.before;
      octets = λ more i rest t.
          let o = k.octets more i rest t in (
            o.0,
            o.1,
            (closed_still rows k.key others past (text_given (items ++ more))
                (link_has_ended (items ++ more)) k.closed).1 ∙ o.2,
            o.3,
          );
    })
left_beside whole (stages.Closed peer) end standing course rows past others who items answered
    octets a
    (inr k) =
    inr (record {
      key = k.key;
      opened = others_opened who others past a ∙ k.opened;
      closed = (closed_still rows k.key others past [] false k.closed).0;
      asked = ap (λ (es : List EventKind). reverse es) (others_none who others past a) ∙ k.asked;
      before = k.before;
      octets = λ more i rest t.
          let o = k.octets more i rest t in (
            o.0,
            o.1,
            (closed_still rows k.key others past (text_given (items ++ more))
                (link_has_ended (items ++ more)) k.closed).1 ∙ o.2,
          );
    })

pub others_leave : (whole : Bool) (end : ConnEnd) (standing : EndState) (rows : CentreRows)
    (past others : Past)
    (who : ℕ) (items : List Item) (octets : List ℕ) (waiting : Option EventKind) (v : Talking)
    → HasLeft whole end standing rows past who items octets waiting v → AreOthers who others
    → HasLeft whole end standing rows (others ++ past) who items octets waiting v
others_leave whole end standing rows past others who items octets waiting v h a = record {
  told = h.told;
  turns = h.turns;
  input = h.input;
  stands = h.stands;
  waits = h.waits;
  owes = h.owes;
  answered = h.answered;
  read = h.read;
  says = left_beside whole v.stage end standing v.course rows past others who items h.answered
      octets a
      h.says;
}

-- ---- with an item more, which is dropped

last_on : (b : Bool) (turn : Turn) (front whole : List Turn)
    → ((others : List Turn) × (whole ≡ front ++ others))
    → (others : List Turn) × ((if b then turn ∷ [] else turn ∷ whole)
    ≡ (if b then turn ∷ [] else turn ∷ front) ++ others)
last_on true turn front whole r = ([], refl)
last_on false turn front whole r = (r.0, ap (λ (ts : List Turn). turn ∷ ts) r.1)

up_to_last_on : (rows : CentreRows) (turns more : List Turn)
    → (others : List Turn) × (up_to_last rows (turns ++ more) ≡ up_to_last rows turns ++ others)
up_to_last_on rows [] more = (up_to_last rows more, refl)
up_to_last_on rows (turn ∷ turns) more =
    last_on (is_last rows turn) turn (up_to_last rows turns) (up_to_last rows (turns ++ more))
    (up_to_last_on rows turns more)

left_more : (whole : Bool) (stage : Stage) (end : ConnEnd) (standing : EndState) (course : Course)
    (rows : CentreRows) (past : Past) (who : ℕ) (items : List Item) (item : Item)
    (answered : List Turn) (octets : List ℕ)
    → LeftBy whole stage end standing course rows past who items answered octets
    → LeftBy whole stage end standing course rows past who (items ++ item ∷ []) answered octets
left_more whole stages.Early end standing course rows past who items item answered octets k =
    record {
      none = k.none;
      asked = k.asked;
      octets = one_item_more (IsSaidEarly rows octets) items item answered k.octets;
    }
left_more whole (stages.Open peer detail) end standing course rows past who items item answered
    octets k =
    record {
      key = k.key;
      seat = k.seat;
      asked = k.asked;
      stood = k.stood;
      setup = one_item_more (HasSetupOf course) items item answered k.setup;
      octets = one_item_more (IsSaidButMissing whole rows past k.key octets) items item answered k.octets;
    }
left_more whole (stages.Closed peer) end standing course rows past who items item answered octets
    (inl k) =
    inl (record {
      key = k.key;
      opened = k.opened;
      closed = k.closed;
      asked = k.asked;
      before = k.before;
      octets = one_item_more (IsSaidToClose whole end standing rows past k.key k.before octets) items item
          answered k.octets;
    })
left_more whole (stages.Closed peer) end standing course rows past who items item answered octets
    (inr k) =
    inr (record {
      key = k.key;
      opened = k.opened;
      closed = k.closed;
      asked = k.asked;
      before = k.before;
      octets = one_item_more (IsSaidAndParted end standing rows past k.key k.before octets) items item
          answered k.octets;
    })

pub dropped_leaves : (whole : Bool) (end : ConnEnd) (standing : EndState) (rows : CentreRows)
    (past : Past)
    (who : ℕ) (items : List Item) (item : Item) (octets : List ℕ) (old new : Talking)
    → (h : HasLeft whole end standing rows past who items octets None old)
    → old.progress ≡ progresses.Cut end → IsLinkInput (items ++ item ∷ [])
    → ConnStandsAt rows (items ++ item ∷ []) h.told h.turns new → TakesIn old new
    → HasLeft whole end standing rows past who (items ++ item ∷ []) octets None new
dropped_leaves whole end standing rows past who items item octets old new h p input stands takes =
    let all = items ++ item ∷ [] in
    let o = turns_on [] items (item ∷ []) in
    let u = up_to_last_on rows (turns_of items) o.0 in
    let progress : new.progress ≡ old.progress = ap (λ (v : Talking). v.progress) takes in
    let stage : new.stage ≡ old.stage = ap (λ (v : Talking). v.stage) takes in
    let shut : is_open_stage old.stage ≡ false =
    h.owes ∙ ap (λ (x : Progress). is_leaving x) p in
    record {
      told = h.told;
      turns = h.turns;
      input = input;
      stands = stands;
      waits = subst (λ (x : Progress). IsClosingFor x None end) (sym progress) h.waits;
      owes = ap (λ (x : Stage). is_open_stage x) stage ∙ h.owes
          ∙ ap (λ (x : Progress). is_leaving x) (sym progress);
      answered = h.answered;
      read = (
        h.read.0 ++ u.0,
        ap (λ (ts : List Turn). up_to_last rows ts) o.1 ∙ u.1
            ∙ ap (λ (ts : List Turn). ts ++ u.0) h.read.1
            ∙ append_assoc h.answered h.read.0 u.0,
      );
      says = subst (λ (x : Stage). LeftBy whole x end standing new.course rows past who all
          h.answered
          octets) (sym stage)
          (kept_on whole old.stage end standing rows past who all h.answered octets old new
          (λ is. absurd (false≢true (sym shut ∙ is)))
          (left_more whole old.stage end standing old.course rows past who items item h.answered
          octets
          h.says));
    }

-- ---- what that means

said_some : (whole : Bool) (stage : Stage) (end : ConnEnd) (standing : EndState) (course : Course)
    (rows : CentreRows) (past : Past) (who : ℕ) (items : List Item) (answered rest : List Turn)
    (octets : List ℕ) → IsLinkInput items → turns_of items ≡ answered ++ rest
    → is_open_stage stage ≡ false
    → LeftBy whole stage end standing course rows past who items answered octets
    → ((reverse (events_by who past) ≡ asks_behind rows [] answered)
    ⊎ (reverse (events_by who past) ≡ asks_behind rows [] answered ++ events.Close ∷ []))
    × HasSaidSome end standing rows past who items octets
said_some whole stages.Early end standing course rows past who items answered rest octets i t o k =
    let e = over_all (IsSaidEarly rows octets) items answered rest i t k.octets in (
      inl k.asked,
      record {
        before = octets;
        others = e.0;
        sent = ap (octets_by rows past items) (none_opened past who k.none) ∙ e.1;
        parted = inr (k.none, refl);
      },
    )
said_some whole (stages.Open peer detail) end standing course rows past who items answered rest
    octets i t
    o k =
    absurd (false≢true (sym o))
said_some whole (stages.Closed peer) end standing course rows past who items answered rest octets i
    t o
    (inl k) =
    let e = over_all (IsSaidToClose whole end standing rows past k.key k.before octets) items answered
    rest i t k.octets in
    let close = close_octets (talk_of (reading_of (text_given items)) (link_has_ended items)).setup
    (without_pauses rest) in (
      inr k.asked,
      record {
        before = k.before;
        others = e.1 ++ close;
        sent = ap (octets_by rows past items) k.opened ∙ e.2
            ∙ append_assoc k.before e.1 close;
        parted = inl ((k.key, k.opened, k.closed), e.0);
      },
    )
said_some whole (stages.Closed peer) end standing course rows past who items answered rest octets i
    t o
    (inr k) =
    let e = over_all (IsSaidAndParted end standing rows past k.key k.before octets) items answered rest
    i t k.octets in (
      inl k.asked,
      record {
        before = k.before;
        others = e.1;
        sent = ap (octets_by rows past items) k.opened ∙ e.2;
        parted = inl ((k.key, k.opened, k.closed), e.0);
      },
    )

-- once it has ended
pub was_left : (whole : Bool) (end : ConnEnd) (standing : EndState) (rows : CentreRows)
    (past : Past) (who : ℕ)
    (items : List Item) (octets : List ℕ) (v : Talking)
    → HasLeft whole end standing rows past who items octets None v → v.progress ≡ progresses.Cut end
    → WasLeft end standing rows past who items octets
was_left whole end standing rows past who items octets v h p =
    let shut : is_open_stage v.stage ≡ false = h.owes ∙ ap (λ (x : Progress). is_leaving x) p in
    let k = kept_front rows (turns_of items) in
    let rest = h.read.0 in
    let t : turns_of items ≡ h.answered ++ (rest ++ k.0) =
    k.1 ∙ ap (λ (ts : List Turn). ts ++ k.0) h.read.1 ∙ append_assoc h.answered rest k.0 in
    let s = said_some whole v.stage end standing v.course rows past who items h.answered
    (rest ++ k.0) octets h.input t shut h.says in
    record {
      asked = asks_behind rows [] h.answered;
      others = asks_behind rows h.answered rest;
      asks_are = ap (λ (ts : List Turn). asks_behind rows [] ts) h.read.1
          ∙ asks_join rows [] h.answered rest;
      events_are = s.0;
      octets = s.1;
    }

pub unexplained : (setup : AssociationSetup) (rest : List Turn) → IsUnexplained rest
    → close_octets setup rest ≡ abort_wire setup
unexplained setup [] u = refl
unexplained setup (offers title ∷ rest) u = refl
unexplained setup (offers_badly ∷ rest) u = refl
unexplained setup (asks invoke call ∷ rest) u = refl
unexplained setup (concludes ∷ rest) u = absurd u
unexplained setup (releases ∷ rest) u = absurd u
unexplained setup (aborts ∷ rest) u = absurd u
unexplained setup (breaks ∷ rest) u = refl
unexplained setup (ends ∷ rest) u = absurd u
unexplained setup (pauses ∷ rest) u = refl

parts : (end : ConnEnd) (standing : EndState) (setup : AssociationSetup) → answering.aborts end ≡ true
    → is_accepted standing ≡ true → parting end standing setup ≡ abort_wire setup
parts end standing setup a s = rw (a, s) refl

-- where nothing in the text explains its close, all was said
pub all_said : (end : ConnEnd) (standing : EndState) (rows : CentreRows) (past : Past) (who : ℕ)
    (items : List Item) (answered rest : List Turn) (octets : List ℕ) → IsLinkInput items
    → turns_of items ≡ answered ++ rest → IsUnexplained (without_pauses rest)
    → answering.aborts end ≡ true → is_accepted standing ≡ true
    → LeftClosed true end standing rows past who items answered octets
    → octets ≡ link_octets rows past who items
all_said end standing rows past who items answered rest octets i t u a s l =
    let setup = (talk_of (reading_of (text_given items)) (link_has_ended items)).setup in
    let e = over_all (IsSaidToClose true end standing rows past l.key l.before octets) items answered
    rest i t l.octets in
    let close = close_octets setup (without_pauses rest) in
    e.0 ∙ ap (λ (os : List ℕ). l.before ++ os) (parts end standing setup a s
    ∙ sym (unexplained setup (without_pauses rest) u))
    ∙ ap (λ (os : List ℕ). os ++ close) (sym (append-nil l.before)
    ∙ ap (λ (os : List ℕ). l.before ++ os) (sym (e.3 refl)))
    ∙ sym (ap (octets_by rows past items) l.opened ∙ e.2)
