-- A connection that the peer has ended has said all.
use Rattle.std.proofs.Common.{◌≡◌, ℕ, Bool, true, false, List, [], ◌∷◌, ◌++◌, Option, Some, None}
use Rattle.std.proofs.Common.{arith, refl, sym, ap, subst, ◌∙◌, append_assoc, reverse}
use Rattle.std.specs.Prelude.{is_some, if◌then◌else◌, ◌||◌, ◌&&◌, not}
use Rattle.std.specs.List.{list_any}
use Rattle.std.proofs.lemmas.Bool.{false≢true}
use Rattle.std.proofs.lemmas.List.{append-nil, append_cancel_left}
use Rattle.std.proofs.lemmas.List.Folds.{list_any-append}
use Rattle.stack_assoc.specs.declared.messages.fault.StackFault.{StackFault}
use Rattle.stack_assoc.specs.declared.wire.setup.AssociationSetup.{AssociationSetup}
use Rattle.stack_assoc.specs.Arrivals.{Arrival, called, first_in, connect_in}
use Rattle.stack_assoc.specs.Handing.{answers_to}
use Rattle.stack_assoc.specs.Expectations.{setup_after}
use Rattle.stack_assoc.proofs.StreamLaws.{fault_stays}
use Rattle.bilateral.specs.Rows.{CentreRows}
use Rattle.tase_views.specs.declared.event.EventKind.{EventKind}
use Rattle.tase_views.specs.declared.event.EventKind.TheVariants as events
use Rattle.tase_views.specs.History.{Past}
use Rattle.tase_conn.specs.Map.Inputs.{Item, piece, idle, ended, IsLinkInput, text_given, link_has_ended}
use Rattle.tase_conn.specs.Map.Readings.{Reading, reading_of, TellsReading}
use Rattle.tase_conn.specs.Map.Turns.{Turn, offers, offers_badly, asks, concludes, releases, aborts}
use Rattle.tase_conn.specs.Map.Turns.{breaks, ends, pauses, turns_told, turns_of}
use Rattle.tase_conn.specs.Map.Asks.{is_last, is_open_behind, begins, finishes, event_if, asks_at}
use Rattle.tase_conn.specs.Map.Asks.{asks_behind, is_peers, without_pauses}
use Rattle.tase_conn.specs.Map.Out.{talk_of, concluded_octets, early_octets}
use Rattle.tase_conn.specs.Map.Out.{is_declined, end_turns}
use Rattle.tase_conn.specs.Map.Sent.{events_by}
use Rattle.tase_conn.proofs.OfMap.ReadingLaws.{reading, reading_found, reading_only}
use Rattle.tase_conn.proofs.OfMap.TurnOrder.{offered, Follows, AllFollow, turns_follow}
use Rattle.tase_conn.proofs.OfMap.Uncut.{any_kept, without-append}
use Rattle.tase_conn.specs.declared.stage.PendingEvent.{PendingEvent}
use Rattle.tase_conn.specs.declared.stage.PendingEvent.TheVariants as askeds
use Rattle.tase_conn.specs.declared.stage.ConnEnd.{ConnEnd}
use Rattle.tase_conn.specs.declared.stage.ConnEnd.TheVariants as conn_ends
use Rattle.tase_conn.specs.declared.stage.Progress.{Progress}
use Rattle.tase_conn.specs.declared.stage.Progress.TheVariants as progresses
use Rattle.tase_conn.specs.declared.stage.Stage.{Stage}
use Rattle.tase_conn.specs.declared.stage.Stage.TheVariants as stages
use Rattle.tase_conn.specs.PeerEnd.{end_at}
use Rattle.tase_conn.specs.Talking.{Talking, pending_of, IsFree}
use Rattle.tase_conn.specs.Places.{Runs, IsReadToEnd, EndsWithTurn, Reach}
use Rattle.tase_conn.specs.Places.{has_begun, has_finished}
use Rattle.tase_conn.proofs.Known.{begun_connected}
use Rattle.tase_conn.specs.Wanting.{quiet_at, quiet_behind, refusal_said, ReadsOn}
use Rattle.tase_conn.specs.Wanting.{Passes, IsIdle, AreAllTurns, StaysEnded, WantsBy, Wants}
use Rattle.tase_conn.specs.Wanting as wanting
use Rattle.tase_conn.proofs.Composed.{quiet_join}
use Rattle.tase_conn.proofs.OfMap.AskedOn.{asks_join}
use Rattle.tase_conn.proofs.LastTurns.{BringsEnd, end_brought, at_end}
use Rattle.conn_service.specs.Courses.Serving.{IsWaiting, SaysClosed, SaysBy, Serves, HoldsOfAllInput, IsSaidButOwed}
use Rattle.tase_conn.proofs.OfMap.Fronts.{HasFront, whole_front, front_read, size_first, setup_kept}
use Rattle.tase_conn.proofs.OfMap.Fronts.{setup_fixed, answers_told}
use Rattle.conn_service.proofs.OfCourses.Seats.{goes_at, says_now}
use Rattle.conn_service.proofs.OfCourses.Texts.{answers-append, longer_front, text-append, text_turns}
use Rattle.conn_service.proofs.OfCourses.Texts.{fixed_over}
use Rattle.conn_service.proofs.OfCourses.TurnLists.{quiet_none, any_front, any_back}
use Rattle.conn_service.proofs.OfCourses.TurnLists.{behind_silent, same_ends, right_none, silent, follow_behind}
use Rattle.conn_service.proofs.OfCourses.TurnLists.{begins_offered, input_follows}
use Rattle.conn_service.proofs.OfCourses.Wanted.{last_of, goes_on, asks_on}

-- ---- behind the items with which it ended

any_here : (p : Turn → Bool) (front rest : List Turn) (last : Turn) → p last ≡ true
    → list_any p ((front ++ last ∷ []) ++ rest) ≡ true
any_here p front rest last e =
    list_any-append p (front ++ last ∷ []) rest
    ∙ ap (λ (b : Bool). b || list_any p rest)
    (list_any-append p front (last ∷ [])
    ∙ ap (λ (b : Bool). list_any p front || (b || false)) e ∙ or_true (list_any p front))
  where
    or_true : (a : Bool) → (a || (true || false)) ≡ true
    or_true true = refl
    or_true false = refl

-- nothing comes behind the end of a link
not_ended : (items : List Item) (item : Item) (more : List Item) → IsLinkInput (items ++ item ∷ more)
    → link_has_ended items ≡ false
not_ended [] item more i = refl
not_ended (piece octets ∷ items) item more i = not_ended items item more i
not_ended (idle ∷ items) item more i = not_ended items item more i
not_ended (ended ∷ []) item more i = absurd cc
not_ended (ended ∷ x ∷ items) item more i = absurd cc

-- where nothing was told and no rule is broken there are pauses alone
untold_goes : (rows : CentreRows) (items : List Item) → IsLinkInput items → link_has_ended items ≡ false
    → turns_told (reading_of (text_given items)) ≡ []
    → list_any (is_last rows) (turns_of items) ≡ false
untold_goes rows items i e t =
    sym (any_kept (is_last rows) refl (turns_of items))
    ∙ ap (λ (ts : List Turn). list_any (is_last rows) ts)
    (text_turns items i ∙ ap (λ (ts : List Turn). ts ++ end_turns (link_has_ended items)) t
    ∙ ap (λ (b : Bool). end_turns b) e)

front_input : (items more : List Item) → IsLinkInput (items ++ more) → IsLinkInput items
front_input [] more i = tt
front_input (piece octets ∷ items) more i = front_input items more i
front_input (idle ∷ items) more i = front_input items more i
front_input (ended ∷ []) more i = refl
front_input (ended ∷ x ∷ items) more i = absurd cc

broken_stays : (items more : List Item) (fault : StackFault)
    → reading_of (text_given items) ≡ reading [] (Some fault)
    → answers_to called (reading_of (text_given (items ++ more))).told ≡ []
broken_stays items more fault e =
    let text = text_given items in
    let stops : TellsReading text [] (Some fault) =
    subst (λ (r : Reading). TellsReading text r.told r.broken) e (reading_found text) in
    ap (λ (r : Reading). answers_to called r.told)
    (ap (λ (os : List ℕ). reading_of os) (text-append items more)
    ∙ reading_only (text ++ text_given more) [] (Some fault)
    (fault_stays called text (text_given more) [] fault stops))

-- what is answered at once of the items with which a connection has ended
same_answers : (rows : CentreRows) (done more : List Item) (r : Reading)
    → reading_of (text_given done) ≡ r → IsLinkInput (done ++ more)
    → list_any (is_last rows) (turns_of done) ≡ true
    → answers_to called (reading_of (text_given (done ++ more))).told ≡ answers_to called r.told
same_answers rows done [] r e i l =
    ap (λ (all : List Item). answers_to called (reading_of (text_given all)).told) (append-nil done)
    ∙ ap (λ (x : Reading). answers_to called x.told) e
same_answers rows done (item ∷ more) r e i l =
    same_by r.told r.broken e
  where
    same_by : (told : List Arrival) (broken : Option StackFault)
        → reading_of (text_given done) ≡ reading told broken
        → answers_to called (reading_of (text_given (done ++ item ∷ more))).told
        ≡ answers_to called told
    same_by [] (Some fault) e = broken_stays done (item ∷ more) fault e
    same_by [] None e =
        absurd (false≢true (sym (untold_goes rows done (front_input done (item ∷ more) i)
        (not_ended done item more i) (ap (λ (x : Reading). turns_told x) e)) ∙ l))
    same_by (t ∷ told) broken e =
        let text = text_given (done ++ item ∷ more) in
        let front = longer_front done (item ∷ more) (t ∷ told)
        (subst (λ (x : Reading). HasFront (text_given done) x.told) e (whole_front (text_given done))) in
        let f = front_read text (t ∷ told) front in
        ap (λ (ts : List Arrival). answers_to called ts) f.1
        ∙ answers_told text (t ∷ told) f.0
        (subst (λ (ts : List Arrival). HasFront text ts) f.1 (whole_front text)) (omega arith)

-- and what its connect fixed
same_setup : (done more : List Item)
    → is_some (first_in connect_in (reading_of (text_given done)).told) ≡ true
    → setup_after (reading_of (text_given (done ++ more))).told
    ≡ setup_after (reading_of (text_given done)).told
same_setup done more connect =
    let told = (reading_of (text_given done)).told in
    let f = whole_front (text_given done) in
    let g = front_read (text_given (done ++ more)) told (longer_front done more told f) in
    ap (λ (ts : List Arrival). setup_after ts) g.1
    ∙ setup_kept told g.0
    (size_first told f.messages f.starts.whole f.starts.spelled f.tell connect) connect

-- ---- the last turn

-- what ends a connection asks for nothing: it comes behind these turns
record Ending (rows : CentreRows) (turns more front : List Turn) (last : Turn) : Type 0 where
  quiet_front : List Turn
  front_is : front ≡ turns ++ quiet_front
  more_is : more ≡ quiet_front ++ last ∷ []
  none : asks_behind rows turns quiet_front ≡ []
  last_none : asks_at rows front last ≡ []

left_none : {A : Type 0} (xs ys : List A) → xs ++ ys ≡ [] → xs ≡ []
left_none [] ys e = refl
left_none (x ∷ xs) ys e = absurd cc

ending : (rows : CentreRows) (turns more : List Turn) (last : Turn)
    → (e : EndsWithTurn rows (turns ++ more) last) → is_last rows last ≡ true
    → list_any (is_last rows) turns ≡ false → asks_behind rows turns more ≡ []
    → Ending rows turns more e.front last
ending rows turns [] last e is goes none =
    absurd (false≢true (sym goes ∙ ap (λ (ts : List Turn). list_any (is_last rows) ts)
    (sym (append-nil (turns ++ []) ∙ append-nil turns)
    ∙ ap (λ (ts : List Turn). ts ++ []) e.is) ∙ any_here (is_last rows) e.front [] last is))
ending rows turns (turn ∷ more) last e is goes none =
    let m = last_of turn more in
    let same = same_ends (turns ++ m.0) e.front m.1 last
    (append_assoc turns m.0 (m.1 ∷ [])
    ∙ ap (λ (ts : List Turn). turns ++ ts) (sym m.2) ∙ e.is) in
    let both : asks_behind rows turns m.0 ++ asks_behind rows (turns ++ m.0) (m.1 ∷ []) ≡ [] =
    sym (asks_join rows turns m.0 (m.1 ∷ []))
    ∙ ap (λ (ts : List Turn). asks_behind rows turns ts) (sym m.2) ∙ none in
    record {
      quiet_front = m.0;
      front_is = sym same.0;
      more_is = m.2 ∙ ap (λ t. m.0 ++ t ∷ []) same.1;
      none = left_none (asks_behind rows turns m.0)
          (asks_behind rows (turns ++ m.0) (m.1 ∷ [])) both;
      last_none = sym (append-nil (asks_at rows e.front last))
          ∙ ap (λ (ts : List Turn). asks_behind rows ts (last ∷ [])) (sym same.0)
          ∙ ap (λ t. asks_behind rows (turns ++ m.0) (t ∷ [])) (sym same.1)
          ∙ right_none (asks_behind rows turns m.0)
          (asks_behind rows (turns ++ m.0) (m.1 ∷ [])) both;
    }

-- what was said on the way to the end
ending_said : (rows : CentreRows) (items : List Item) (told : List Arrival) (turns : List Turn)
    (octets_more : List ℕ) (last : Turn) (front : List Turn) (old new : Talking)
    → (g : ReadsOn rows items told turns [] old new)
    → (e : Ending rows turns g.more front last) → list_any (is_last rows) front ≡ false
    → pending_of new ≡ pending_of old ++ octets_more
    → octets_more ≡ answers_to called g.later
    ++ quiet_at rows (setup_after (told ++ g.later)) front last
ending_said rows items told turns octets_more last front old new g e goes pending =
    let setup = setup_after (told ++ g.later) in
    let one : quiet_behind rows setup turns g.more ≡ quiet_at rows setup front last =
    ap (λ (ts : List Turn). quiet_behind rows setup turns ts) e.more_is
    ∙ quiet_join rows setup turns e.quiet_front (last ∷ [])
    ∙ ap (λ (os : List ℕ). os ++ quiet_behind rows setup (turns ++ e.quiet_front) (last ∷ []))
    (quiet_none rows setup turns e.quiet_front
    (any_back (is_last rows) turns e.quiet_front
    (ap (λ (ts : List Turn). list_any (is_last rows) ts) (sym e.front_is) ∙ goes)))
    ∙ append-nil (quiet_at rows setup (turns ++ e.quiet_front) last)
    ∙ ap (λ (ts : List Turn). quiet_at rows setup ts last) (sym e.front_is) in
    append_cancel_left (pending_of old) octets_more
    (answers_to called g.later ++ quiet_at rows setup front last)
    (sym pending ∙ g.said
    ∙ ap (λ (os : List ℕ). pending_of old ++ (answers_to called g.later ++ os)) one)

-- ---- without an association

pub declined_told : (rows : CentreRows) (turns : List Turn) (b : Bool)
    → is_declined rows (turns ++ end_turns b) ≡ is_declined rows turns
declined_told rows [] true = refl
declined_told rows [] false = refl
declined_told rows (offers title ∷ turns) b = refl
declined_told rows (offers_badly ∷ turns) b = refl
declined_told rows (asks invoke call ∷ turns) b = refl
declined_told rows (concludes ∷ turns) b = refl
declined_told rows (releases ∷ turns) b = refl
declined_told rows (aborts ∷ turns) b = refl
declined_told rows (breaks ∷ turns) b = refl
declined_told rows (ends ∷ turns) b = refl
declined_told rows (pauses ∷ turns) b = refl

declined_first : (rows : CentreRows) (last : Turn) (rest : List Turn) → is_last rows last ≡ true
    → is_declined rows (without_pauses (last ∷ rest)) ≡ is_declined rows (last ∷ [])
declined_first rows (offers title) rest e = refl
declined_first rows offers_badly rest e = refl
declined_first rows (asks invoke call) rest e = refl
declined_first rows concludes rest e = refl
declined_first rows releases rest e = refl
declined_first rows aborts rest e = refl
declined_first rows breaks rest e = refl
declined_first rows ends rest e = refl
declined_first rows pauses rest e = absurd (false≢true e)

peer_refused : (b : Bool) (octets : List ℕ)
    → (if b then [] else octets) ≡ (if not b then octets else [])
peer_refused true octets = refl
peer_refused false octets = refl

close_unsaid : (b begun : Bool) (octets : List ℕ) → begun ≡ false
    → (if b then [] else (if begun then octets else [])) ≡ []
close_unsaid true begun octets e = refl
close_unsaid false true octets e = absurd (false≢true (sym e))
close_unsaid false false octets e = refl

-- an offer that is declined is refused
quiet_refuses : (rows : CentreRows) (setup : AssociationSetup) (front : List Turn) (last : Turn)
    → list_any (begins rows) front ≡ false
    → quiet_at rows setup front last
    ≡ (if is_declined rows (last ∷ []) then refusal_said setup else [])
quiet_refuses rows setup front (offers title) b = peer_refused (is_peers rows title) _
quiet_refuses rows setup front offers_badly b = refl
quiet_refuses rows setup front (asks invoke call) b = refl
quiet_refuses rows setup front concludes b = refl
quiet_refuses rows setup front releases b =
    close_unsaid (is_open_behind rows front) (list_any (begins rows) front) _ b
quiet_refuses rows setup front aborts b = refl
quiet_refuses rows setup front breaks b =
    close_unsaid (is_open_behind rows front) (list_any (begins rows) front) _ b
quiet_refuses rows setup front ends b = refl
quiet_refuses rows setup front pauses b = refl

end_declined : (rows : CentreRows) (broken : Option StackFault) (end : ConnEnd) (last : Turn)
    → end_at broken last ≡ Some end → is_declined rows (last ∷ []) ≡ true
    → end ≡ conn_ends.Declined
end_declined rows broken end (offers title) c d = cc
end_declined rows broken end offers_badly c d = cc
end_declined rows broken end (asks invoke call) c d = absurd (false≢true d)
end_declined rows broken end concludes c d = absurd (false≢true d)
end_declined rows broken end releases c d = absurd (false≢true d)
end_declined rows broken end aborts c d = absurd (false≢true d)
end_declined rows broken end breaks c d = absurd (false≢true d)
end_declined rows broken end ends c d = absurd (false≢true d)
end_declined rows broken end pauses c d = absurd (false≢true d)

chosen : (b : Bool) (xs ys : List ℕ) → (b ≡ true → xs ≡ ys)
    → (if b then xs else []) ≡ (if b then ys else [])
chosen true xs ys e = e refl
chosen false xs ys e = refl

-- the last turn is one of those of the items with which it ended
last_within : (rows : CentreRows) (items : List Item) (told : List Arrival) (turns : List Turn)
    (end : ConnEnd) → (e : IsReadToEnd rows items told turns end)
    → list_any (is_last rows) (turns_of e.done) ≡ true
last_within rows items told turns end e =
    let b = end_brought rows e.done turns end e.by_peer e.whole in
    ap (λ (ts : List Turn). list_any (is_last rows) ts)
    (b.all ∙ ap (λ (ts : List Turn). ts ++ b.rest) b.ends.is)
    ∙ any_here (is_last rows) b.ends.front b.rest b.last b.is

early_end : (rows : CentreRows) (items : List Item) (told later : List Arrival) (turns : List Turn)
    (octets octets_more : List ℕ) (end : ConnEnd)
    → IsReadToEnd rows items (told ++ later) turns end → (b : BringsEnd rows items turns end)
    → asks_behind rows [] b.ends.front ≡ [] → list_any (begins rows) b.ends.front ≡ false
    → octets ≡ answers_to called told
    → octets_more ≡ answers_to called later
    ++ quiet_at rows (setup_after (told ++ later)) b.ends.front b.last
    → HoldsOfAllInput items turns (λ text ended rest. octets ++ octets_more ≡ early_octets rows text)
early_end rows items told later turns octets octets_more end e b none unbegun said added =
    λ more i rest t.
    let front = b.ends.front in
    let last = b.last in
    let extra = e.dropped ++ more in
    let all : items ++ more ≡ e.done ++ extra =
    ap (λ (is : List Item). is ++ more) e.items_are ∙ append_assoc e.done e.dropped more in
    let input : IsLinkInput (e.done ++ extra) = subst (λ (x : List Item). IsLinkInput x) all i in
    let r = reading_of (text_given (items ++ more)) in
    let before = reading_of (text_given e.done) in
    let setup = setup_after (told ++ later) in
    let declined = is_declined rows (last ∷ []) in
    let answers : answers_to called r.told ≡ answers_to called (told ++ later) =
    ap (λ (x : List Item). answers_to called (reading_of (text_given x)).told) all
    ∙ same_answers rows e.done extra before refl input
    (last_within rows items (told ++ later) turns end e) ∙ sym e.answered in
    let joined : turns_of (items ++ more) ≡ front ++ last ∷ rest =
    t ∙ ap (λ (ts : List Turn). ts ++ rest) b.ends.is ∙ append_assoc front (last ∷ []) rest in
    let alone : without_pauses front ≡ [] =
    silent rows [] front (last ∷ rest) refl b.ends.goes
    (input_follows items more front (last ∷ rest) i joined) none in
    let first : is_declined rows (turns_told r) ≡ declined =
    sym (declined_told rows (turns_told r) (link_has_ended (items ++ more)))
    ∙ ap (λ (ts : List Turn). is_declined rows ts)
    (sym (text_turns (items ++ more) i) ∙ ap (λ (ts : List Turn). without_pauses ts) joined
    ∙ without-append front (last ∷ rest)
    ∙ ap (λ (ts : List Turn). ts ++ without_pauses (last ∷ rest)) alone)
    ∙ declined_first rows last rest b.is in
    let refused : (if declined then refusal_said setup else [])
    ≡ (if declined then refusal_said (setup_after r.told) else []) =
    chosen declined (refusal_said setup) (refusal_said (setup_after r.told))
    (λ d.
    let f = e.fixed (end_declined rows (reading_of (text_given items)).broken end last b.cause d) in
    ap (λ (s : AssociationSetup). refusal_said s)
    (f.0 ∙ sym (ap (λ (x : List Item). setup_after (reading_of (text_given x)).told) all
    ∙ same_setup e.done extra f.1))) in
    ap (λ (os : List ℕ). os ++ octets_more) said
    ∙ ap (λ (os : List ℕ). answers_to called told ++ os) added
    ∙ sym (append_assoc (answers_to called told) (answers_to called later)
    (quiet_at rows setup front last))
    ∙ ap (λ (os : List ℕ). os ++ quiet_at rows setup front last)
    (sym (answers-append told later) ∙ sym answers)
    ∙ ap (λ (os : List ℕ). answers_to called r.told ++ os)
    (quiet_refuses rows setup front last unbegun ∙ refused
    ∙ ap (λ (b : Bool). if b then refusal_said (setup_after r.told) else []) (sym first))

-- ---- while one is open a connection doesn't end

close_asked : (b : Bool) → b ≡ true → event_if b events.Close ≡ [] → ⊥
close_asked true o e = absurd cc
close_asked false o e = false≢true o

both_true : (a b : Bool) → (a && b) ≡ true → a ≡ true
both_true true b e = refl
both_true false b e = absurd (false≢true e)

never_offered : (rows : CentreRows) (front : List Turn) → list_any (begins rows) front ≡ true
    → list_any (is_last rows) front ≡ false → list_any offered front ≡ false → ⊥
never_offered rows front b l o = false≢true (sym o ∙ sym (begins_offered rows front l) ∙ b)

never_open : (rows : CentreRows) (front : List Turn) (last : Turn) → is_open_behind rows front ≡ true
    → is_last rows last ≡ true → list_any (is_last rows) front ≡ false → Follows front last
    → asks_at rows front last ≡ [] → ⊥
never_open rows front (offers title) o is l f e =
    never_offered rows front (both_true (list_any (begins rows) front) _ o) l f
never_open rows front offers_badly o is l f e =
    never_offered rows front (both_true (list_any (begins rows) front) _ o) l f
never_open rows front (asks invoke call) o is l f e = false≢true is
never_open rows front concludes o is l f e = false≢true is
never_open rows front releases o is l f e = close_asked (is_open_behind rows front) o e
never_open rows front aborts o is l f e = close_asked (is_open_behind rows front) o e
never_open rows front breaks o is l f e = close_asked (is_open_behind rows front) o e
never_open rows front ends o is l f e = close_asked (is_open_behind rows front) o e
never_open rows front pauses o is l f e = false≢true is

-- ---- behind a conclude

close_said : (b begun : Bool) (octets : List ℕ) → b ≡ false → begun ≡ true
    → (if b then [] else (if begun then octets else [])) ≡ octets
close_said true begun octets e f = absurd (false≢true (sym e))
close_said false true octets e f = refl
close_said false false octets e f = absurd (false≢true f)

concluded_last : (rows : CentreRows) (setup : AssociationSetup) (front : List Turn) (last : Turn)
    (rest : List Turn) → is_open_behind rows front ≡ false → list_any (begins rows) front ≡ true
    → list_any (is_last rows) front ≡ false → is_last rows last ≡ true → Follows front last
    → quiet_at rows setup front last ≡ concluded_octets setup (without_pauses (last ∷ rest))
concluded_last rows setup front (offers title) rest o b l is f =
    absurd (never_offered rows front b l f)
concluded_last rows setup front offers_badly rest o b l is f =
    absurd (never_offered rows front b l f)
concluded_last rows setup front (asks invoke call) rest o b l is f = absurd (false≢true is)
concluded_last rows setup front concludes rest o b l is f = absurd (false≢true is)
concluded_last rows setup front releases rest o b l is f =
    close_said (is_open_behind rows front) (list_any (begins rows) front) _ o b
concluded_last rows setup front aborts rest o b l is f = refl
concluded_last rows setup front breaks rest o b l is f =
    close_said (is_open_behind rows front) (list_any (begins rows) front) _ o b
concluded_last rows setup front ends rest o b l is f = refl
concluded_last rows setup front pauses rest o b l is f = absurd (false≢true is)

-- no more is answered at once on the way to the end
none_answered : (rows : CentreRows) (items : List Item) (told later : List Arrival)
    (turns : List Turn) (end : ConnEnd) (old : Talking) → IsLinkInput items
    → IsReadToEnd rows items (told ++ later) turns end → (asked : PendingEvent) (before : List Turn)
    → Runs rows items told before asked old → is_some (first_in connect_in told) ≡ true
    → answers_to called later ≡ []
none_answered rows items told later turns end old i e asked before r connect =
    let x = fixed_over items [] told old.course r.stands connect in
    let all : items ++ [] ≡ e.done ++ e.dropped = append-nil items ∙ e.items_are in
    append_cancel_left (answers_to called told) (answers_to called later) []
    (sym (answers-append told later) ∙ e.answered
    ∙ sym (same_answers rows e.done e.dropped (reading_of (text_given e.done)) refl
    (subst (λ (is : List Item). IsLinkInput is) e.items_are i)
    (last_within rows items (told ++ later) turns end e))
    ∙ ap (λ (is : List Item). answers_to called (reading_of (text_given is)).told) (sym all)
    ∙ x.answered ∙ sym (append-nil (answers_to called told)))

closed_end : (rows : CentreRows) (past : Past) (who : ℕ) (items : List Item)
    (told later : List Arrival) (turns more : List Turn) (octets octets_more : List ℕ)
    (end : ConnEnd) (old : Talking)
    → (b : BringsEnd rows items (turns ++ more) end) → Ending rows turns more b.ends.front b.last
    → Runs rows items told turns askeds.Nothing old
    → is_some (first_in connect_in told) ≡ true
    → is_open_behind rows b.ends.front ≡ false → list_any (begins rows) b.ends.front ≡ true
    → Follows b.ends.front b.last → answers_to called later ≡ []
    → octets_more ≡ answers_to called later
    ++ quiet_at rows (setup_after (told ++ later)) b.ends.front b.last
    → SaysClosed (progresses.Running askeds.Nothing) rows past who items turns octets
    → SaysClosed (progresses.Ended end) rows past who items (turns ++ more)
    (octets ++ octets_more)
closed_end rows past who items told later turns more octets octets_more end old b n r connect shut
    begun follows unanswered added says =
    let front = b.ends.front in
    let last = b.last in
    let key = says.key in
    let setup = setup_after (told ++ later) in
    let k = setup_fixed (text_given items) told old.course r.stands connect in
    let goes : list_any (is_last rows) (turns ++ n.quiet_front) ≡ false =
    ap (λ (ts : List Turn). list_any (is_last rows) ts) (sym n.front_is) ∙ b.ends.goes in
    let Owes : List ℕ → Bool → List Turn → Type 0 =
    IsSaidButOwed (progresses.Running askeds.Nothing) rows past key octets in
    let moved : HoldsOfAllInput items front Owes =
    subst (λ (ts : List Turn). HoldsOfAllInput items ts Owes) (sym n.front_is)
    (behind_silent Owes rows items turns n.quiet_front
    (any_front (is_last rows) turns n.quiet_front goes)
    (any_back (is_last rows) turns n.quiet_front goes) n.none says.octets) in
    record {
      key = key;
      opened = says.opened;
      closed = says.closed;
      octets = λ more_items i rest t.
          let text = text_given (items ++ more_items) in
          let talk = talk_of (reading_of text) (link_has_ended (items ++ more_items)) in
          let x = fixed_over items more_items told old.course r.stands connect in
          append-nil (octets ++ octets_more)
          ∙ ap (λ (os : List ℕ). octets ++ os)
          (added ∙ ap (λ (os : List ℕ). os ++ quiet_at rows setup front last) unanswered
          ∙ ap (λ (s : AssociationSetup). quiet_at rows s front last) (k.1 later ∙ sym x.setup)
          ∙ concluded_last rows talk.setup front last rest shut begun b.ends.goes b.is follows)
          ∙ moved more_items i (last ∷ rest)
          (t ∙ ap (λ (ts : List Turn). ts ++ rest) b.ends.is
          ∙ append_assoc front (last ∷ []) rest);
    }

-- ---- all together

-- pauses change no test
tests_kept : (p : Turn → Bool) → p pauses ≡ false → (turns quiet front : List Turn) (b : Bool)
    → front ≡ turns ++ quiet → without_pauses quiet ≡ [] → list_any p turns ≡ b
    → list_any p front ≡ b
tests_kept p none turns quiet front b is alone e =
    ap (λ (ts : List Turn). list_any p ts) is ∙ list_any-append p turns quiet
    ∙ ap (λ (x : Bool). list_any p turns || x)
    (sym (any_kept p none quiet) ∙ ap (λ (ts : List Turn). list_any p ts) alone)
    ∙ or_none (list_any p turns) ∙ e
  where
    or_none : (a : Bool) → (a || false) ≡ a
    or_none true = refl
    or_none false = refl

open_of_tests : (rows : CentreRows) (front : List Turn) (b f : Bool)
    → list_any (begins rows) front ≡ b → list_any finishes front ≡ f
    → is_open_behind rows front ≡ (b && not f)
open_of_tests rows front b f e g =
    ap (λ (x : Bool). x && not (list_any finishes front)) e ∙ ap (λ (x : Bool). b && not x) g

says_end : (rows : CentreRows) (past : Past) (who : ℕ) (items : List Item)
    (told later : List Arrival) (turns more : List Turn) (octets octets_more : List ℕ)
    (end : ConnEnd) (stage : Stage) (old : Talking) → IsLinkInput items
    → IsReadToEnd rows items (told ++ later) (turns ++ more) end
    → (b : BringsEnd rows items (turns ++ more) end)
    → (n : Ending rows turns more b.ends.front b.last)
    → Runs rows items told turns askeds.Nothing old → old.stage ≡ stage
    → reverse (events_by who past) ≡ asks_behind rows [] turns
    → without_pauses n.quiet_front ≡ [] → Follows b.ends.front b.last
    → octets_more ≡ answers_to called later
    ++ quiet_at rows (setup_after (told ++ later)) b.ends.front b.last
    → SaysBy stage (progresses.Running askeds.Nothing) rows past who items told turns octets
    → SaysBy stage (progresses.Ended end) rows past who items (told ++ later) (turns ++ more)
    (octets ++ octets_more)
says_end rows past who items told later turns more octets octets_more end stages.Early old i e b n r
    st asked alone follows added says =
    let front = b.ends.front in
    let none : asks_behind rows [] front ≡ [] =
    ap (λ (ts : List Turn). asks_behind rows [] ts) n.front_is
    ∙ asks_join rows [] turns n.quiet_front
    ∙ ap (λ (es : List EventKind). es ++ asks_behind rows turns n.quiet_front)
    (sym asked ∙ ap (λ (es : List EventKind). reverse es) says.0) ∙ n.none in
    let unbegun = tests_kept (begins rows) refl turns n.quiet_front front false n.front_is alone
    (ap (λ (x : Reach). x.begun) r.reached ∙ ap (λ (x : Stage). has_begun x) st) in (
      says.0,
      early_end rows items told later (turns ++ more) octets octets_more end e b none unbegun
          says.1 added,
    )
says_end rows past who items told later turns more octets octets_more end
    (stages.Open peer detail) old i e b n r st asked alone follows added says =
    let front = b.ends.front in
    let begun = tests_kept (begins rows) refl turns n.quiet_front front true n.front_is alone
    (ap (λ (x : Reach). x.begun) r.reached ∙ ap (λ (x : Stage). has_begun x) st) in
    let unfinished = tests_kept finishes refl turns n.quiet_front front false n.front_is alone
    (ap (λ (x : Reach). x.finished) r.reached ∙ ap (λ (x : Stage). has_finished x) st) in
    absurd (never_open rows front b.last (open_of_tests rows front true false begun unfinished)
    b.is b.ends.goes follows n.last_none)
says_end rows past who items told later turns more octets octets_more end (stages.Closed peer) old
    i e b n r st asked alone follows added says =
    let front = b.ends.front in
    let connect = begun_connected r (ap (λ (x : Stage). has_begun x) st) in
    let begun = tests_kept (begins rows) refl turns n.quiet_front front true n.front_is alone
    (ap (λ (x : Reach). x.begun) r.reached ∙ ap (λ (x : Stage). has_begun x) st) in
    let finished = tests_kept finishes refl turns n.quiet_front front true n.front_is alone
    (ap (λ (x : Reach). x.finished) r.reached ∙ ap (λ (x : Stage). has_finished x) st) in
    closed_end rows past who items told later turns more octets octets_more end old b n r connect
    (open_of_tests rows front true true begun finished) begun follows
    (none_answered rows items told later (turns ++ more) end old i e askeds.Nothing turns r connect)
    added says

pub ends_on : (rows : CentreRows) (past : Past) (who : ℕ) (items : List Item)
    (octets octets_more : List ℕ) (end : ConnEnd) (old new : Talking)
    → (s : Serves rows past who items octets None old)
    → old.progress ≡ progresses.Running askeds.Nothing → new.stage ≡ old.stage
    → new.progress ≡ progresses.Ended end → ReadsOn rows items s.told s.turns [] old new
    → pending_of new ≡ pending_of old ++ octets_more
    → Serves rows past who items (octets ++ octets_more) None new
ends_on rows past who items octets octets_more end old new s p st q g pending =
    let idle = progresses.Running askeds.Nothing in
    let told = s.told ++ g.later in
    let turns = s.turns ++ g.more in
    let r = goes_at s.stands p in
    let e = (goes_at g.stands q).0 in
    let b = at_end rows items told turns end e in
    let n = ending rows s.turns g.more b.last b.ends b.is (ap (λ (x : Reach). x.ending) r.reached)
    g.asks_are in
    let follow : AllFollow [] (b.ends.front ++ b.last ∷ b.rest) =
    subst (λ (ts : List Turn). AllFollow [] ts)
    (b.all ∙ ap (λ (ts : List Turn). ts ++ b.rest) b.ends.is
    ∙ append_assoc b.ends.front (b.last ∷ []) b.rest)
    (turns_follow items s.input) in
    let goes : list_any (is_last rows) (s.turns ++ n.quiet_front) ≡ false =
    ap (λ (ts : List Turn). list_any (is_last rows) ts) (sym n.front_is) ∙ b.ends.goes in
    let alone : without_pauses n.quiet_front ≡ [] =
    silent rows s.turns n.quiet_front (b.last ∷ b.rest) (ap (λ (x : Reach). x.ending) r.reached)
    (any_back (is_last rows) s.turns n.quiet_front goes)
    (follow_behind [] s.turns (n.quiet_front ++ b.last ∷ b.rest)
    (subst (λ (ts : List Turn). AllFollow [] ts)
    (ap (λ (ts : List Turn). ts ++ b.last ∷ b.rest) n.front_is
    ∙ append_assoc s.turns n.quiet_front (b.last ∷ b.rest)) follow)) n.none in
    let asked = s.asked ∙ ap (λ (ts : List Turn). asks_behind rows [] ts) (sym s.are) in
    let before = says_now s p in
    let says = says_end rows past who items s.told g.later s.turns g.more octets octets_more end
    old.stage old s.input e b n r refl asked alone
    (follow_behind [] b.ends.front (b.last ∷ b.rest) follow).0
    (ending_said rows items s.told s.turns octets_more b.last b.ends.front old new g n b.ends.goes
    pending) before in
    record {
      told = told;
      turns = turns;
      input = s.input;
      stands = g.stands;
      waits = subst (λ (x : Progress). IsWaiting x None) (sym q) tt;
      answered = turns;
      are = refl;
      asked = asked ∙ sym (append-nil (asks_behind rows [] s.turns))
          ∙ ap (λ (es : List EventKind). asks_behind rows [] s.turns ++ es) (sym g.asks_are)
          ∙ sym (asks_join rows [] s.turns g.more);
      says = subst (λ (x : Stage). SaysBy x new.progress rows past who items told turns
          (octets ++ octets_more)) (sym st)
          (subst (λ (x : Progress). SaysBy old.stage x rows past who items told turns
          (octets ++ octets_more)) (sym q) says);
    }

-- ---- nothing is asked

rests_running : (rows : CentreRows) (past : Past) (who : ℕ) (items : List Item)
    (octets octets_more : List ℕ) (old new : Talking)
    → (s : Serves rows past who items octets None old)
    → old.progress ≡ progresses.Running askeds.Nothing → new.stage ≡ old.stage
    → new.progress ≡ progresses.Running askeds.Nothing
    → ReadsOn rows items s.told s.turns [] old new
    → pending_of new ≡ pending_of old ++ octets_more
    → Serves rows past who items (octets ++ octets_more) None new
rests_running rows past who items octets octets_more old new s p st q g pending =
    let told = s.told ++ g.later in
    let turns = s.turns ++ g.more in
    let n = goes_at g.stands q in
    let none = quiet_none rows (setup_after told) s.turns g.more
    (any_back (is_last rows) s.turns g.more (ap (λ (x : Reach). x.ending) n.reached)) in
    goes_on rows past who items octets octets_more old new s g.later g.more p q st g.stands
    g.asks_are
    (append_cancel_left (pending_of old) octets_more (answers_to called g.later)
    (sym pending ∙ g.said
    ∙ ap (λ (os : List ℕ). pending_of old ++ (answers_to called g.later ++ os)) none
    ∙ ap (λ (os : List ℕ). pending_of old ++ os) (append-nil (answers_to called g.later))))

rests_by : (rows : CentreRows) (past : Past) (who : ℕ) (items : List Item)
    (octets octets_more : List ℕ) (old new : Talking) (x : Progress)
    → (s : Serves rows past who items octets None old)
    → old.progress ≡ progresses.Running askeds.Nothing → new.stage ≡ old.stage
    → new.progress ≡ x → IsWaiting x None → ReadsOn rows items s.told s.turns [] old new
    → pending_of new ≡ pending_of old ++ octets_more
    → Serves rows past who items (octets ++ octets_more) None new
rests_by rows past who items octets octets_more old new (progresses.Running askeds.Nothing) s p st q
    w g pending =
    rests_running rows past who items octets octets_more old new s p st q g pending
rests_by rows past who items octets octets_more old new
    (progresses.Running (askeds.Opening peer offered)) s p st q w g pending = absurd w
rests_by rows past who items octets octets_more old new
    (progresses.Running (askeds.Requesting invoke)) s p st q w g pending = absurd w
rests_by rows past who items octets octets_more old new (progresses.Running askeds.Taking) s p st q
    w g pending = absurd w
rests_by rows past who items octets octets_more old new (progresses.Running (askeds.Closing cause))
    s p st q w g pending = absurd w
rests_by rows past who items octets octets_more old new progresses.Refused s p st q w g pending =
    absurd w
rests_by rows past who items octets octets_more old new (progresses.Leaving end asked) s p st q w g
    pending = absurd w
rests_by rows past who items octets octets_more old new
    (progresses.Ended end) s p st q w g pending =
    ends_on rows past who items octets octets_more end old new s p st q g pending
rests_by rows past who items octets octets_more old new (progresses.Cut end) s p st q w g pending =
    absurd w

rests_on : (rows : CentreRows) (past : Past) (who : ℕ) (items : List Item)
    (octets octets_more : List ℕ) (old new : Talking)
    → (s : Serves rows past who items octets None old)
    → old.progress ≡ progresses.Running askeds.Nothing → new.stage ≡ old.stage
    → IsWaiting new.progress None → ReadsOn rows items s.told s.turns [] old new
    → pending_of new ≡ pending_of old ++ octets_more
    → Serves rows past who items (octets ++ octets_more) None new
rests_on rows past who items octets octets_more old new s p st w g pending =
    rests_by rows past who items octets octets_more old new new.progress s p st refl w g pending

-- memory is wanting meanwhile
pub passes_on : (rows : CentreRows) (past : Past) (who : ℕ) (items : List Item)
    (octets octets_more : List ℕ) (old new : Talking)
    → (s : Serves rows past who items octets None old)
    → old.progress ≡ progresses.Running askeds.Nothing → new.stage ≡ old.stage
    → IsIdle new.progress → Passes rows items s.told s.turns old new
    → pending_of new ≡ pending_of old ++ octets_more
    → Serves rows past who items (octets ++ octets_more) None new
passes_on rows past who items octets octets_more old new s p st q g pending =
    goes_on rows past who items octets octets_more old new s g.later g.more p q st g.stands
    g.asks_are
    (append_cancel_left (pending_of old) octets_more (answers_to called g.later)
    (sym pending ∙ g.said))

-- ---- whatever is wanted

none_waits : (rows : CentreRows) (items : List Item) (turns : List Turn) (p : Progress)
    → IsFree p → AreAllTurns rows items turns p → IsWaiting p None
none_waits rows items turns (progresses.Running askeds.Nothing) f w = tt
none_waits rows items turns (progresses.Running (askeds.Opening peer offered)) f w = absurd f
none_waits rows items turns (progresses.Running (askeds.Requesting invoke)) f w = absurd f
none_waits rows items turns (progresses.Running askeds.Taking) f w = absurd f
none_waits rows items turns (progresses.Running (askeds.Closing cause)) f w = absurd f
none_waits rows items turns progresses.Refused f w = absurd f
none_waits rows items turns (progresses.Leaving end asked) f w = absurd w
none_waits rows items turns (progresses.Ended end) f w = tt
none_waits rows items turns (progresses.Cut end) f w = absurd w

reads_on : (rows : CentreRows) (past : Past) (who : ℕ) (items : List Item)
    (octets octets_more : List ℕ) (event : Option EventKind) (old new : Talking)
    → (s : Serves rows past who items octets None old)
    → old.progress ≡ progresses.Running askeds.Nothing → new.stage ≡ old.stage
    → wanting.ReadsNext rows items s.told s.turns event old new
    → pending_of new ≡ pending_of old ++ octets_more
    → Serves rows past who items (octets ++ octets_more) event new
reads_on rows past who items octets octets_more (Some event) old new s p st r pending =
    asks_on rows past who items octets octets_more event old new s p st r.0 r.1 pending
reads_on rows past who items octets octets_more None old new s p st r pending =
    rests_on rows past who items octets octets_more old new s p st
    (none_waits rows items (s.turns ++ r.goes.more) new.progress r.resting.free r.whole) r.goes
    pending

stays_on : (rows : CentreRows) (past : Past) (who : ℕ) (items : List Item)
    (octets octets_more : List ℕ) (event : Option EventKind) (old new : Talking)
    → Serves rows past who items octets None old → StaysEnded event old new
    → pending_of new ≡ pending_of old ++ octets_more
    → Serves rows past who items (octets ++ octets_more) event new
stays_on rows past who items octets octets_more event old new s r pending =
    let none : octets_more ≡ [] =
    append_cancel_left (pending_of old) octets_more []
    (sym pending ∙ ap (λ (v : Talking). pending_of v) r.is ∙ sym (append-nil (pending_of old))) in
    subst (λ (os : List ℕ). Serves rows past who items os event new)
    (sym (ap (λ (os : List ℕ). octets ++ os) none ∙ append-nil octets))
    (subst (λ (v : Talking). Serves rows past who items octets event v) (sym r.is)
    (subst (λ (e : Option EventKind). Serves rows past who items octets e old) (sym r.none) s))

wants_by : (rows : CentreRows) (past : Past) (who : ℕ) (items : List Item)
    (octets octets_more : List ℕ) (event : Option EventKind) (old new : Talking) (x : Progress)
    → (s : Serves rows past who items octets None old) → old.progress ≡ x → IsWaiting x None
    → new.stage ≡ old.stage → WantsBy x rows items s.told s.turns event old new
    → pending_of new ≡ pending_of old ++ octets_more
    → Serves rows past who items (octets ++ octets_more) event new
wants_by rows past who items octets octets_more event old new (progresses.Running askeds.Nothing) s
    p w st r pending =
    reads_on rows past who items octets octets_more event old new s p st r pending
wants_by rows past who items octets octets_more event old new
    (progresses.Running (askeds.Opening peer offered)) s p w st r pending = absurd w
wants_by rows past who items octets octets_more event old new
    (progresses.Running (askeds.Requesting invoke)) s p w st r pending = absurd w
wants_by rows past who items octets octets_more event old new (progresses.Running askeds.Taking) s p
    w st r pending = absurd w
wants_by rows past who items octets octets_more event old new
    (progresses.Running (askeds.Closing cause)) s p w st r pending = absurd w
wants_by rows past who items octets octets_more event old new progresses.Refused s p w st r pending
    =
    absurd w
wants_by rows past who items octets octets_more event old new (progresses.Leaving end asked) s p w
    st r pending = absurd w
wants_by rows past who items octets octets_more event old new (progresses.Ended end) s p w st r
    pending =
    stays_on rows past who items octets octets_more event old new s r pending
wants_by rows past who items octets octets_more event old new (progresses.Cut end) s p w st r
    pending = absurd w

pub wants_on : (rows : CentreRows) (past : Past) (who : ℕ) (items : List Item)
    (octets octets_more : List ℕ) (event : Option EventKind) (old new : Talking)
    → (s : Serves rows past who items octets None old) → new.stage ≡ old.stage
    → Wants rows items s.told s.turns event old new
    → pending_of new ≡ pending_of old ++ octets_more
    → Serves rows past who items (octets ++ octets_more) event new
wants_on rows past who items octets octets_more event old new s st r pending =
    wants_by rows past who items octets octets_more event old new old.progress s refl s.waits st r
    pending
