-- A connection goes on with one event after another, until nothing is wanted.
use Rattle.std.proofs.Common.{◌≡◌, ℕ, ◌<◌, true, false, List, [], ◌∷◌, ◌++◌}
use Rattle.std.proofs.Common.{Option, Some, None, refl, sym, ap, subst, ◌∙◌}
use Rattle.std.proofs.Common.{inl, inr, append_assoc}
use Rattle.std.proofs.lemmas.List.{append-nil}
use Rattle.bilateral.specs.Rows.{CentreRows}
use Rattle.std.specs.List.{list_any}
use Rattle.tase_views.specs.Setup.{Setup}
use Rattle.tase_views.specs.History.{Past}
use Rattle.tase_views.specs.Outcomes.{refusal_of, answer_of}
use Rattle.tase_views.specs.declared.event.EventKind.{EventKind}
use Rattle.tase_conn.specs.Map.Inputs.{Item}
use Rattle.tase_conn.specs.Map.Turns.{Turn, turns_of}
use Rattle.tase_conn.specs.Map.Asks.{is_last}
use Rattle.tase_conn.specs.declared.stage.PendingEvent.TheVariants as askeds
use Rattle.tase_conn.specs.declared.stage.Progress.{Progress}
use Rattle.tase_conn.specs.declared.stage.Progress.TheVariants as progresses
use Rattle.tase_conn.specs.Talking.{Talking, pending_of, conn_end_in, IsResting}
use Rattle.tase_conn.specs.Places.{GoesBy, Runs, Reach, IsReadToEnd, ReadsNoMore}
use Rattle.tase_conn.specs.declared.stage.ConnEnd.{ConnEnd}
use Rattle.conn_service.specs.Courses.AnswerEnd.{end_answered}
use Rattle.conn_service.specs.Courses.Serving.{Serves, IsWaiting, HasServed}
use Rattle.tase_conn.specs.Map.Sent.{with_event}
use Rattle.conn_service.proofs.OfCourses.Served.{has_served, all_done}
use Rattle.tase_conn.specs.Map.Linked.{link_octets}
use Rattle.tase_conn.specs.PeerEnd.{peer_end}
use Rattle.tase_conn.proofs.LastTurns.{at_end, brought_end, none_brought}
use Rattle.conn_service.specs.Sends.{Sends, IsSaidByEnd}
use Rattle.conn_service.specs.Attending.{AddsPending, Attends, AnswersEvent, IsServed, IsAsking}
use Rattle.conn_service.specs.Attending.{IsWanted, IsAtRest, IsCut, IsBrought, TakesTo, SendsOn}
use Rattle.conn_service.specs.Attending.{remaining}
use Rattle.conn_service.proofs.Closed.{said_whole, cut_sends}
use Rattle.conn_service.proofs.Remaining.{waits_less}
use Rattle.conn_service.proofs.Takes.{TakesEach, taken_on, each_takes, last_takes, takes_each}
use Rattle.conn_service.proofs.Takes.{events_taken}
use Rattle.conn_service.proofs.Wanted.{WantedSo, AnswersSo}

-- ---- how it goes

-- some events were taken, and octets said; this event waits, if one does
pub record Goes (setup : Setup) (past : Past) (who : ℕ) (items : List Item) (said : List ℕ)
    (waiting : Option EventKind) (old : Talking) (after : Past) (new : Talking) : Type 0 where
  pub taken : List EventKind
  pub takes : TakesEach setup who items past taken after
  pub adds : AddsPending old new
  pub serves : Serves setup.centre after who items (said ++ adds.added) waiting new

pub goes_first : (setup : Setup) (past : Past) (who : ℕ) (items : List Item) (said : List ℕ)
    (old : Talking) → Serves setup.centre past who items said None old
    → Goes setup past who items said None old past old
goes_first setup past who items said old s = record {
  taken = [];
  takes = refl;
  adds = record { added = []; pending = sym (append-nil (pending_of old)) };
  serves = subst (λ (os : List ℕ). Serves setup.centre past who items os None old)
      (sym (append-nil said)) s;
}

abbrev then_adds : (old between new : Talking) (more : List ℕ) → (a : AddsPending old between)
    → pending_of new ≡ pending_of between ++ more → AddsPending old new
then_adds old between new more a p = record {
  added = a.added ++ more;
  pending = p ∙ ap (λ (os : List ℕ). os ++ more) a.pending
      ∙ append_assoc (pending_of old) a.added more;
}

-- an event is wanted
pub goes_wanted : (setup : Setup) (past after next : Past) (who : ℕ) (items : List Item)
    (said : List ℕ) (event : EventKind) (old between new : Talking)
    → (g : Goes setup past who items said None old after between)
    → IsWanted setup after who items (said ++ g.adds.added) between (Some event) next new
    → Goes setup past who items said (Some event) old next new
goes_wanted setup past after next who items said event old between new g w = record {
  taken = g.taken;
  takes = subst (λ (p : Past). TakesEach setup who items past g.taken p) (sym w.0) g.takes;
  adds = then_adds old between new w.1.added g.adds w.1.pending;
  serves = subst (λ (p : Past). Serves setup.centre p who items (said ++ (g.adds.added ++ w.1.added))
      (Some event) new) (sym w.0)
      (subst (λ (os : List ℕ). Serves setup.centre after who items os (Some event) new)
      (append_assoc said g.adds.added w.1.added) w.2);
}

pub goes_answered : (setup : Setup) (past between after : Past) (who : ℕ) (items : List Item)
    (said : List ℕ) (event : EventKind) (old v new : Talking)
    → (g : Goes setup past who items said (Some event) old between v)
    → AnswersEvent setup between who items (said ++ g.adds.added) event v true after new
    → Goes setup past who items said None old after new
goes_answered setup past between after who items said event old v new g a = record {
  taken = g.taken ++ event ∷ [];
  takes = subst (λ (p : Past). TakesEach setup who items past (g.taken ++ event ∷ []) p) (sym a.1)
      (taken_on setup who items past g.taken between event g.takes a.0 a.4);
  adds = then_adds old v new a.2.added g.adds a.2.pending;
  serves = subst (λ (os : List ℕ). Serves setup.centre after who items os None new)
      (append_assoc said g.adds.added a.2.added) a.3;
}

-- ---- where it is cut

-- behind these events
goes_cut : (setup : Setup) (past between after : Past) (who : ℕ) (items : List Item)
    (said first : List ℕ) (taken : List EventKind) (brought : Option ConnEnd)
    (old v new : Talking) → TakesTo brought setup who items past taken between
    → pending_of v ≡ pending_of old ++ first
    → (c : IsCut setup between who items (said ++ first) v after new) → IsBrought c.end brought
    → Attends setup past who items said old after new
goes_cut setup past between after who items said first taken brought old v new takes pending c
    brings =
    inr (record {
      taken = taken;
      between = between;
      brought = brought;
      takes = takes;
      brings = brings;
      cut = record {
        adds = record {
          added = first ++ c.adds.added;
          pending = c.adds.pending ∙ ap (λ (os : List ℕ). os ++ c.adds.added) pending
              ∙ append_assoc (pending_of old) first c.adds.added;
        };
        end = c.end;
        by_node = c.by_node;
        ended = c.ended;
        others = c.others;
        asks_are = c.asks_are;
        cause = c.cause;
        after_is = c.after_is;
        none_open = c.none_open;
        said_is = subst (λ (os : List ℕ). IsSaidByEnd items (Some c.end) os
            (link_octets setup.centre after who items)) (append_assoc said first c.adds.added)
            c.said_is;
      };
    })

pub goes_stopped : (setup : Setup) (past between after : Past) (who : ℕ) (items : List Item)
    (said : List ℕ) (event : EventKind) (old v new : Talking)
    → (g : Goes setup past who items said (Some event) old between v)
    → AnswersEvent setup between who items (said ++ g.adds.added) event v false after new
    → Attends setup past who items said old after new
goes_stopped setup past between after who items said event old v new g (inl c) =
    goes_cut setup past between after who items said g.adds.added g.taken None old v new
    (each_takes setup who items past g.taken between g.takes) g.adds.pending c.0 c.1
goes_stopped setup past between after who items said event old v new g (inr c) =
    goes_cut setup past (with_event who event between) after who items said g.adds.added
    (g.taken ++ event ∷ []) (end_answered items (answer_of setup between who event)) old v new
    (last_takes setup who items past g.taken between event g.takes c.0) g.adds.pending c.1.0 c.1.1

-- ---- nothing is wanted

-- its end
end_so : (rows : CentreRows) (past : Past) (who : ℕ) (items : List Item) (said : List ℕ)
    (v : Talking) (p : Progress) → (s : Serves rows past who items said None v)
    → v.progress ≡ p → IsWaiting p None → IsResting v
    → conn_end_in v.progress ≡ peer_end rows items
end_so rows past who items said v (progresses.Running askeds.Nothing) s e w rests =
    let r : Runs rows items s.told s.turns askeds.Nothing v =
    subst (λ (x : Progress). GoesBy x rows items s.told s.turns v) e s.stands.goes in
    let t : turns_of items ≡ s.turns =
    sym (all_done rows items s.told s.turns v rests r).seen_is ∙ append-nil s.turns in
    ap (λ (x : Progress). conn_end_in x) e
    ∙ sym (none_brought rows items (ap (λ (ts : List Turn). list_any (is_last rows) ts) t ∙ (ap (λ (x : Reach). x.ending) r.reached)))
end_so rows past who items said v (progresses.Running (askeds.Opening peer granted)) s e w rests =
    absurd w
end_so rows past who items said v (progresses.Running (askeds.Requesting invoke)) s e w rests =
    absurd w
end_so rows past who items said v (progresses.Running askeds.Taking) s e w rests = absurd w
end_so rows past who items said v (progresses.Running (askeds.Closing cause)) s e w rests = absurd w
end_so rows past who items said v progresses.Refused s e w rests = absurd w
end_so rows past who items said v (progresses.Leaving end asked) s e w rests = absurd w
end_so rows past who items said v (progresses.Ended end) s e w rests =
    let g : IsReadToEnd rows items s.told s.turns end × ReadsNoMore v =
    subst (λ (x : Progress). GoesBy x rows items s.told s.turns v) e s.stands.goes in
    let b = at_end rows items s.told s.turns end g.0 in
    ap (λ (x : Progress). conn_end_in x) e ∙ sym (brought_end rows items s.turns end b)
end_so rows past who items said v (progresses.Cut end) s e w rests = absurd w

-- it goes on, or the peer has ended it
goes_through : (setup : Setup) (past after next : Past) (who : ℕ) (items : List Item)
    (said : List ℕ) (old between new : Talking)
    → (g : Goes setup past who items said None old after between)
    → IsAtRest setup after who items (said ++ g.adds.added) between next new
    → Attends setup past who items said old next new
goes_through setup past after next who items said old between new g r =
    let more = g.adds.added ++ r.adds.added in
    let serves : Serves setup.centre after who items (said ++ more) None new =
    subst (λ (os : List ℕ). Serves setup.centre after who items os None new)
    (append_assoc said g.adds.added r.adds.added) r.serves in
    let all : HasServed setup.centre after who items (said ++ more) =
    has_served setup.centre after who items (said ++ more) new serves r.resting in
    subst (λ (p : Past). Attends setup past who items said old p new) (sym r.after_is) (inl (record {
      adds = then_adds old between new r.adds.added g.adds r.adds.pending;
      taken = g.taken;
      takes = each_takes setup who items past g.taken after g.takes;
      asks_are = sym all.asked ∙ events_taken setup who items past g.taken after g.takes;
      serves = serves;
      resting = r.resting;
      octets = all.octets;
      end = end_so setup.centre after who items (said ++ more) new new.progress serves refl
          serves.waits r.resting;
    }))

pub goes_ended : (setup : Setup) (past after next : Past) (who : ℕ) (items : List Item)
    (said : List ℕ) (old between new : Talking)
    → (g : Goes setup past who items said None old after between)
    → IsWanted setup after who items (said ++ g.adds.added) between None next new
    → Attends setup past who items said old next new
goes_ended setup past after next who items said old between new g (inl r) =
    goes_through setup past after next who items said old between new g r
goes_ended setup past after next who items said old between new g (inr c) =
    goes_cut setup past after next who items said g.adds.added g.taken None old between new
    (each_takes setup who items past g.taken after g.takes) g.adds.pending c.0 c.1

-- ---- what the loop keeps

-- an event that is wanted may be taken
pub asking_of : (setup : Setup) (past after : Past) (who : ℕ) (event : EventKind)
    (old new : Talking) → IsServed setup.centre past who old
    → WantedSo setup past who old (Some event) after new → IsAsking setup.centre after who event new
asking_of setup past after who event old new x wants =
    let w = wants x.0 x.1 x.2 in
    subst (λ (p : Past). IsAsking setup.centre p who event new) (sym w.0)
    (x.0, x.1 ++ w.1.added, w.2)

-- behind an answer it is served still
pub served_on : (setup : Setup) (past after : Past) (who : ℕ) (event : EventKind)
    (old new : Talking) → IsAsking setup.centre past who event old
    → AnswersSo setup past who event old true after new → IsServed setup.centre after who new
served_on setup past after who event old new x answers =
    let a = answers x.0 x.1 x.2 in (x.0, x.1 ++ a.2.added, a.3)

-- and less is left that may be taken
pub wanted_less : (setup : Setup) (past next after : Past) (who : ℕ) (event : EventKind)
    (old between new : Talking) → IsServed setup.centre past who old
    → WantedSo setup past who old (Some event) next between
    → AnswersSo setup next who event between true after new
    → remaining setup after who < remaining setup past who
wanted_less setup past next after who event old between new x wants answers =
    let w = wants x.0 x.1 x.2 in
    let a = answers x.0 (x.1 ++ w.1.added) (subst (λ (p : Past). Serves setup.centre p who x.0
    (x.1 ++ w.1.added) (Some event) between) (sym w.0) w.2) in
    subst (λ (p : Past). remaining setup p who < remaining setup past who) (sym a.1)
    (subst (λ (p : Past). remaining setup (with_event who event p) who < remaining setup past who)
    (sym w.0)
    (waits_less setup past who event between.progress w.2.waits
    (subst (λ (p : Past). refusal_of setup p who event ≡ None) w.0 a.0)))

-- ---- its steps, whatever the link gave

abbrev pub GoesSo : Setup → Past → ℕ → Talking → Past → Talking → Type 0
GoesSo setup past who old after new = (items : List Item) (said : List ℕ)
    → Serves setup.centre past who items said None old
    → Goes setup past who items said None old after new

abbrev pub AttendsSo : Setup → Past → ℕ → Talking → Past → Talking → Type 0
AttendsSo setup past who old after new = (items : List Item) (said : List ℕ)
    → Serves setup.centre past who items said None old
    → Attends setup past who items said old after new

pub goes_on : (setup now : Setup) (past between next after : Past) (who : ℕ) (event : EventKind)
    (old v w new : Talking) → now ≡ setup → GoesSo setup past who old between v
    → WantedSo now between who v (Some event) next w → AnswersSo now next who event w true after new
    → GoesSo setup past who old after new
goes_on setup now past between next after who event old v w new same goes wants answers =
    λ items said s.
    let g = goes items said s in
    let wants_so : WantedSo setup between who v (Some event) next w =
    subst (λ (x : Setup). WantedSo x between who v (Some event) next w) same wants in
    let h = goes_wanted setup past between next who items said event old v w g
    (wants_so items (said ++ g.adds.added) g.serves) in
    let answers_so : AnswersSo setup next who event w true after new =
    subst (λ (x : Setup). AnswersSo x next who event w true after new) same answers in
    goes_answered setup past next after who items said event old w new h
    (answers_so items (said ++ h.adds.added) h.serves)

pub stops_so : (setup now : Setup) (past between next after : Past) (who : ℕ) (event : EventKind)
    (old v w new : Talking) → now ≡ setup → GoesSo setup past who old between v
    → WantedSo now between who v (Some event) next w
    → AnswersSo now next who event w false after new → AttendsSo setup past who old after new
stops_so setup now past between next after who event old v w new same goes wants answers =
    λ items said s.
    let g = goes items said s in
    let wants_so : WantedSo setup between who v (Some event) next w =
    subst (λ (x : Setup). WantedSo x between who v (Some event) next w) same wants in
    let h = goes_wanted setup past between next who items said event old v w g
    (wants_so items (said ++ g.adds.added) g.serves) in
    let answers_so : AnswersSo setup next who event w false after new =
    subst (λ (x : Setup). AnswersSo x next who event w false after new) same answers in
    goes_stopped setup past next after who items said event old w new h
    (answers_so items (said ++ h.adds.added) h.serves)

pub through_so : (setup now : Setup) (past between after : Past) (who : ℕ) (old v new : Talking)
    → now ≡ setup → GoesSo setup past who old between v → WantedSo now between who v None after new
    → AttendsSo setup past who old after new
through_so setup now past between after who old v new same goes wants = λ items said s.
    let g = goes items said s in
    let wants_so : WantedSo setup between who v None after new =
    subst (λ (x : Setup). WantedSo x between who v None after new) same wants in
    goes_ended setup past between after who items said old v new g
    (wants_so items (said ++ g.adds.added) g.serves)

-- ---- what is owed

pub attends_sends : (setup : Setup) (past : Past) (who : ℕ) (items : List Item) (said : List ℕ)
    (old : Talking) (after : Past) (new : Talking)
    → Attends setup past who items said old after new
    → SendsOn setup who items said old after new
attends_sends setup past who items said old after new (inl a) =
    let end = conn_end_in new.progress in
    record {
      adds = a.adds;
      sends = record {
        events = inl (record {
          events = events_taken setup who items past a.taken after
              (takes_each setup who items past a.taken after a.takes) ∙ sym a.asks_are;
          by_peer = sym a.end;
        });
        said = subst (λ (os : List ℕ). IsSaidByEnd items end os
            (link_octets setup.centre after who items)) (sym a.octets)
            (said_whole items end (link_octets setup.centre after who items));
      };
    }
attends_sends setup past who items said old after new (inr a) = record {
  adds = a.cut.adds;
  sends = subst (λ (p : Progress). Sends setup after who items (conn_end_in p)
      (said ++ a.cut.adds.added)) (sym a.cut.ended)
      (cut_sends setup a.between who items said old after new a.cut);
}
