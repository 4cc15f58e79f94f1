-- A seat serves a connection one event after another, until nothing is wanted.
use Rattle.std.proofs.Common.{◌≡◌, ℕ, ◌<◌, ◌≤◌, true, false, List, [], ◌∷◌, ◌++◌}
use Rattle.std.proofs.Common.{Bool, Option, Some, None, refl, sym, ap, subst, ◌∙◌, inl, inr}
use Rattle.std.proofs.Common.{append_assoc, arith}
use Rattle.std.proofs.lemmas.List.{append-nil}
use Rattle.sbo_device.specs.declared.key.Key.{Key}
use Rattle.tase_views.specs.Setup.{Setup}
use Rattle.tase_views.specs.History.{Past, association_in}
use Rattle.tase_views.specs.Weights.{weight_of}
use Rattle.tase_views.specs.Outcomes.{refusal_of, answer_of}
use Rattle.tase_views.specs.declared.event.EventKind.{EventKind}
use Rattle.tase_conn.specs.Map.Inputs.{Item}
use Rattle.tase_conn.specs.Map.Linked.{link_octets}
use Rattle.tase_conn.specs.Map.Sent.{with_event}
use Rattle.tase_conn.specs.declared.stage.Progress.{Progress}
use Rattle.tase_conn.specs.Talking.{Talking, pending_of, conn_end_in}
use Rattle.conn_service.specs.Courses.Serving.{Serves, IsWaiting, AreOthers}
use Rattle.conn_service.specs.Courses.AnswerEnd.{end_answered}
use Rattle.conn_service.proofs.OfCourses.Seats.{others_seat}
use Rattle.conn_service.specs.Sends.{IsSaidByEnd}
use Rattle.conn_service.specs.Attending.{AddsPending, IsServed, IsAsking, IsAtRest, Attends}
use Rattle.conn_service.specs.Attending.{remaining, seat_count}
use Rattle.conn_service.proofs.Attended.{Goes as NodeGoes, goes_ended}
use Rattle.conn_service.proofs.Remaining.{waits_less}
use Rattle.conn_service.proofs.Takes.{takes_each, events_taken}
use Rattle.node_server.specs.Seats.Serving.{RestsServed, IsCutByNode, SeatAttends, WantsOfSeat}
use Rattle.node_server.specs.Seats.Serving.{AnswersOfSeat, CutsBefore, TakesBehind, SeatTakes}

-- ---- whatever the link gave

abbrev pub SeatWants : Setup → ℕ → Past → Talking → Option EventKind → Past → Talking → Type 0
SeatWants setup who past old event after new = (items : List Item) (said : List ℕ)
    → Serves setup.centre past who items said None old
    → WantsOfSeat setup past who items said old event after new

abbrev pub SeatAnswers : Setup → ℕ → Past → EventKind → Talking → Bool → Past → Talking → Type 0
SeatAnswers setup who past event old goes after new = (items : List Item) (said : List ℕ)
    → Serves setup.centre past who items said (Some event) old
    → AnswersOfSeat setup past who items said event old goes after new

-- these events were taken, and octets said; it is served still
pub record Goes (setup : Setup) (who : ℕ) (items : List Item) (said : List ℕ) (past : Past)
    (old : Talking) (after : Past) (new : Talking) : Type 0 where
  pub taken : List EventKind
  pub takes : TakesBehind setup who items past taken after
  pub adds : AddsPending old new
  pub serves : Serves setup.centre after who items (said ++ adds.added) None new

abbrev pub SeatServes : Setup → ℕ → Past → Talking → Past → Talking → Type 0
SeatServes setup who past old after new = (items : List Item) (said : List ℕ)
    → Serves setup.centre past who items said None old
    → Goes setup who items said past old after new

pub serves_first : (setup : Setup) (who : ℕ) (past : Past) (old : Talking)
    → SeatServes setup who past old past old
serves_first setup who past old = λ items said s. record {
  taken = [];
  takes = refl;
  adds = record { added = []; pending = sym (append-nil (pending_of old)) };
  serves = subst (λ (os : List ℕ). Serves setup.centre past who items os None old)
      (sym (append-nil said)) s;
}

-- octets more
abbrev then_adds : (old between new : Talking) (more : List ℕ) → (a : AddsPending old between)
    → pending_of new ≡ pending_of between ++ more → AddsPending old new
then_adds old between new more a p = record {
  added = a.added ++ more;
  pending = p ∙ ap (λ (os : List ℕ). os ++ more) a.pending
      ∙ append_assoc (pending_of old) a.added more;
}

-- an event more
then_takes : (setup : Setup) (who : ℕ) (items : List Item) (past : Past) (taken : List EventKind)
    (between others : Past) (event : EventKind) → TakesBehind setup who items past taken between
    → AreOthers who others → refusal_of setup (others ++ between) who event ≡ None
    → end_answered items (answer_of setup (others ++ between) who event) ≡ None
    → TakesBehind setup who items past (taken ++ event ∷ [])
    (with_event who event (others ++ between))
then_takes setup who items past [] between others event t apart refusal brings =
    subst (λ (p : Past). TakesBehind setup who items p (event ∷ [])
    (with_event who event (others ++ between))) t (others, apart, refusal, brings, refl)
then_takes setup who items past (first ∷ taken) between others event t apart refusal brings = (
  t.0,
  t.1,
  t.2,
  t.3,
  then_takes setup who items (with_event who first (t.0 ++ past)) taken between others event t.4
      apart refusal brings,
)

pub serves_on : (setup : Setup) (who : ℕ) (past between next after : Past) (event : EventKind)
    (old v w new : Talking) → SeatServes setup who past old between v
    → SeatWants setup who between v (Some event) next w
    → SeatAnswers setup who next event w true after new → SeatServes setup who past old after new
serves_on setup who past between next after event old v w new serves wants answers =
    λ items said s.
    let g = serves items said s in
    let one = said ++ g.adds.added in
    let x = wants items one g.serves in
    let two = one ++ x.1.added in
    let a = answers items two
    (subst (λ (p : Past). Serves setup.centre p who items two (Some event) w) (sym x.0) x.2) in
    let more = a.2.2.added in
    record {
      taken = g.taken ++ event ∷ [];
      takes = subst (λ (p : Past). TakesBehind setup who items past (g.taken ++ event ∷ []) p)
          (sym a.2.1)
          (then_takes setup who items past g.taken next a.0 event
          (subst (λ (p : Past). TakesBehind setup who items past g.taken p) (sym x.0) g.takes) a.1
          a.2.0 a.2.4);
      adds = then_adds old w new more (then_adds old v w x.1.added g.adds x.1.pending)
          a.2.2.pending;
      serves = subst (λ (os : List ℕ). Serves setup.centre after who items os None new)
          (ap (λ (os : List ℕ). os ++ more) (append_assoc said g.adds.added x.1.added)
          ∙ append_assoc said (g.adds.added ++ x.1.added) more) a.2.3;
    }

-- ---- where it is cut

cut_behind : (setup : Setup) (who : ℕ) (items : List Item) (said first : List ℕ)
    (old v : Talking) (after : Past) (new : Talking) → pending_of v ≡ pending_of old ++ first
    → IsCutByNode setup who items (said ++ first) v after new
    → IsCutByNode setup who items said old after new
cut_behind setup who items said first old v after new pending c =
    let cut = c.2 in (
      c.0,
      c.1,
      record {
        adds = record {
          added = first ++ cut.adds.added;
          pending = cut.adds.pending ∙ ap (λ (os : List ℕ). os ++ cut.adds.added) pending
              ∙ append_assoc (pending_of old) first cut.adds.added;
        };
        ended = cut.ended;
        off = cut.off;
        said_is = subst (λ (os : List ℕ). IsSaidByEnd items (Some c.0) os
            (link_octets setup.centre after who items)) (append_assoc said first cut.adds.added)
            cut.said_is;
      },
    )

-- what comes of it
pub record Attended (setup : Setup) (who : ℕ) (items : List Item) (said : List ℕ) (past : Past)
    (old : Talking) (after : Past) (new : Talking) : Type 0 where
  pub attends : SeatAttends setup who items said old after new
  pub takes : SeatTakes setup past who items after (conn_end_in new.progress)

abbrev pub AttendedSo : Setup → ℕ → Past → Talking → Past → Talking → Type 0
AttendedSo setup who past old after new = (items : List Item) (said : List ℕ)
    → Serves setup.centre past who items said None old
    → Attended setup who items said past old after new

has_ended : (setup : Setup) (who : ℕ) (items : List Item) (said : List ℕ) (v : Talking)
    (after : Past) (new : Talking) → (c : IsCutByNode setup who items said v after new)
    → conn_end_in new.progress ≡ Some c.0
has_ended setup who items said v after new c = ap (λ (p : Progress). conn_end_in p) c.2.ended

cut_before : (setup : Setup) (who : ℕ) (items : List Item) (said first : List ℕ)
    (past between after : Past) (taken : List EventKind) (old v new : Talking)
    → TakesBehind setup who items past taken between → pending_of v ≡ pending_of old ++ first
    → CutsBefore setup between who items (said ++ first) v after new
    → Attended setup who items said past old after new
cut_before setup who items said first past between after taken old v new takes pending c = record {
  attends = inr (cut_behind setup who items said first old v after new pending c.0);
  takes = record {
    taken = taken;
    between = between;
    takes = takes;
    ends = inr (
      c.0.0,
      has_ended setup who items (said ++ first) v after new c.0,
      c.1,
      c.2,
      inl (c.3, c.4),
    );
  };
}

cut_answered : (setup : Setup) (who : ℕ) (items : List Item) (said first : List ℕ)
    (past between after : Past) (taken : List EventKind) (event : EventKind) (old v new : Talking)
    → TakesBehind setup who items past taken between → pending_of v ≡ pending_of old ++ first
    → AnswersOfSeat setup between who items (said ++ first) event v false after new
    → Attended setup who items said past old after new
cut_answered setup who items said first past between after taken event old v new takes pending
    (inl c) =
    cut_before setup who items said first past between after taken old v new takes pending c
cut_answered setup who items said first past between after taken event old v new takes pending
    (inr c) =
    record {
      attends = inr (cut_behind setup who items said first old v after new pending c.0);
      takes = record {
        taken = taken;
        between = between;
        takes = takes;
        ends = inr (
          c.0.0,
          has_ended setup who items (said ++ first) v after new c.0,
          c.1,
          c.2,
          inr (event, c.3, c.4, c.5),
        );
      };
    }

pub attends_cut : (setup : Setup) (who : ℕ) (past between next after : Past) (event : EventKind)
    (old v w new : Talking) → SeatServes setup who past old between v
    → SeatWants setup who between v (Some event) next w
    → SeatAnswers setup who next event w false after new → AttendedSo setup who past old after new
attends_cut setup who past between next after event old v w new serves wants answers =
    λ items said s.
    let g = serves items said s in
    let one = said ++ g.adds.added in
    let x = wants items one g.serves in
    let both = then_adds old v w x.1.added g.adds x.1.pending in
    let same : one ++ x.1.added ≡ said ++ both.added = append_assoc said g.adds.added x.1.added in
    cut_answered setup who items said both.added past next after g.taken event old w new
    (subst (λ (p : Past). TakesBehind setup who items past g.taken p) (sym x.0) g.takes)
    both.pending
    (answers items (said ++ both.added)
    (subst (λ (os : List ℕ). Serves setup.centre next who items os (Some event) w) same
    (subst (λ (p : Past). Serves setup.centre p who items (one ++ x.1.added) (Some event) w)
    (sym x.0) x.2)))

-- ---- nothing is wanted

cut_never : (p : Progress) (end : Progress) → IsWaiting p None → p ≡ end → IsWaiting end None
cut_never p end w is = subst (λ (x : Progress). IsWaiting x None) is w

rests_by : (setup : Setup) (past next : Past) (who : ℕ) (items : List Item) (said : List ℕ)
    (v new : Talking) → IsWaiting new.progress None
    → Attends setup past who items said v next new → RestsServed setup who items said v next new
rests_by setup past next who items said v new waits (inl a) = record {
  adds = a.adds;
  events = events_taken setup who items past a.taken next
      (takes_each setup who items past a.taken next a.takes) ∙ sym a.asks_are;
  serves = a.serves;
  resting = a.resting;
  octets = a.octets;
  end = a.end;
}
rests_by setup past next who items said v new waits (inr c) =
    absurd (cut_never new.progress _ waits c.cut.ended)

rests_now : (setup : Setup) (past next : Past) (who : ℕ) (items : List Item) (said : List ℕ)
    (v new : Talking) → Serves setup.centre past who items said None v
    → IsAtRest setup past who items said v next new
    → RestsServed setup who items said v next new
rests_now setup past next who items said v new s r =
    let nil : said ≡ said ++ [] = sym (append-nil said) in
    let g : NodeGoes setup past who items said None v past v = record {
      taken = [];
      takes = refl;
      adds = record { added = []; pending = sym (append-nil (pending_of v)) };
      serves = subst (λ (os : List ℕ). Serves setup.centre past who items os None v) nil s;
    } in
    rests_by setup past next who items said v new r.serves.waits
    (goes_ended setup past past next who items said v v new g
    (inl (subst (λ (os : List ℕ). IsAtRest setup past who items os v next new) nil r)))

rests_behind : (setup : Setup) (who : ℕ) (items : List Item) (said first : List ℕ)
    (old v : Talking) (after : Past) (new : Talking) → pending_of v ≡ pending_of old ++ first
    → RestsServed setup who items (said ++ first) v after new
    → RestsServed setup who items said old after new
rests_behind setup who items said first old v after new pending r =
    let all = append_assoc said first r.adds.added in
    record {
      adds = record {
        added = first ++ r.adds.added;
        pending = r.adds.pending ∙ ap (λ (os : List ℕ). os ++ r.adds.added) pending
            ∙ append_assoc (pending_of old) first r.adds.added;
      };
      events = r.events;
      serves = subst (λ (os : List ℕ). Serves setup.centre after who items os None new) all
          r.serves;
      resting = r.resting;
      octets = sym all ∙ r.octets;
      end = r.end;
    }

through_by : (setup : Setup) (who : ℕ) (items : List Item) (said : List ℕ)
    (past between after : Past) (old v new : Talking)
    → (g : Goes setup who items said past old between v)
    → WantsOfSeat setup between who items (said ++ g.adds.added) v None after new
    → Attended setup who items said past old after new
through_by setup who items said past between after old v new g (inl r) =
    let first = g.adds.added in
    record {
      attends = inl (rests_behind setup who items said first old v after new g.adds.pending
          (rests_now setup between after who items (said ++ first) v new g.serves r));
      takes = record {
        taken = g.taken;
        between = between;
        takes = g.takes;
        ends = inl r.after_is;
      };
    }
through_by setup who items said past between after old v new g (inr c) =
    cut_before setup who items said g.adds.added past between after g.taken old v new g.takes
    g.adds.pending c

pub attends_through : (setup : Setup) (who : ℕ) (past between after : Past) (old v new : Talking)
    → SeatServes setup who past old between v → SeatWants setup who between v None after new
    → AttendedSo setup who past old after new
attends_through setup who past between after old v new serves wants = λ items said s.
    let g = serves items said s in
    through_by setup who items said past between after old v new g
    (wants items (said ++ g.adds.added) g.serves)

-- ---- what the loop keeps

pub asking_of : (setup : Setup) (who : ℕ) (past next : Past) (event : EventKind) (v w : Talking)
    → IsServed setup.centre past who v → SeatWants setup who past v (Some event) next w
    → IsAsking setup.centre next who event w
asking_of setup who past next event v w x wants =
    let y = wants x.0 x.1 x.2 in
    subst (λ (p : Past). IsAsking setup.centre p who event w) (sym y.0)
    (x.0, x.1 ++ y.1.added, y.2)

pub served_on : (setup : Setup) (who : ℕ) (past after : Past) (event : EventKind)
    (old new : Talking) → IsAsking setup.centre past who event old
    → SeatAnswers setup who past event old true after new → IsServed setup.centre after who new
served_on setup who past after event old new x answers =
    let a = answers x.0 x.1 x.2 in (x.0, x.1 ++ a.2.2.added, a.2.3)

-- entries of others leave no more that may be taken
others_weigh : (others past : Past) → weight_of past ≤ weight_of (others ++ past)
others_weigh [] past = omega arith
others_weigh (entry ∷ others) past =
    let rest : weight_of past ≤ weight_of (others ++ past) = others_weigh others past in
    omega arith

others_remain : (setup : Setup) (who : ℕ) (others past : Past) → AreOthers who others
    → remaining setup (others ++ past) who ≤ remaining setup past who
others_remain setup who others past apart =
    let heavy : weight_of past ≤ weight_of (others ++ past) = others_weigh others past in
    let seat : seat_count (association_in (others ++ past) who)
    ≡ seat_count (association_in past who) =
    ap (λ (k : Option Key). seat_count k) (others_seat who others past apart) in
    omega arith

pub taken_less : (setup : Setup) (who : ℕ) (past next after : Past) (event : EventKind)
    (v w new : Talking) → IsServed setup.centre past who v
    → SeatWants setup who past v (Some event) next w
    → SeatAnswers setup who next event w true after new
    → remaining setup after who < remaining setup past who
taken_less setup who past next after event v w new x wants answers =
    let y = wants x.0 x.1 x.2 in
    let two = x.1 ++ y.1.added in
    let s : Serves setup.centre next who x.0 two (Some event) w =
    subst (λ (p : Past). Serves setup.centre p who x.0 two (Some event) w) (sym y.0) y.2 in
    let a = answers x.0 two s in
    let less : remaining setup after who < remaining setup (a.0 ++ next) who =
    subst (λ (p : Past). remaining setup p who < remaining setup (a.0 ++ next) who) (sym a.2.1)
    (waits_less setup (a.0 ++ next) who event w.progress s.waits a.2.0) in
    let few : remaining setup (a.0 ++ next) who ≤ remaining setup past who =
    subst (λ (p : Past). remaining setup (a.0 ++ next) who ≤ remaining setup p who) y.0
    (others_remain setup who a.0 next a.1) in
    bounded (remaining setup after who) (remaining setup (a.0 ++ next) who)
    (remaining setup past who) less few
  where
    bounded : (a b c : ℕ) → a < b → b ≤ c → a < c
    bounded a b c less few = omega arith
