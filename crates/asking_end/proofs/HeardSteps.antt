-- What the messages that octets tell make of a client, one after another, is what all octets make
-- of it.
use Rattle.std.proofs.Common.{◌≡◌, ℕ, ◌<◌, ◌≤◌, Bool, List, [], ◌∷◌, ◌++◌, length}
use Rattle.std.proofs.Common.{Option, Some, None, Result, Ok, Err, refl, sym, ap, subst, ◌∙◌}
use Rattle.std.proofs.Common.{◌⊎◌, inl, inr, arith, append_assoc}
use Rattle.std.specs.Prelude.{◌&&◌, not}
use Rattle.std.specs.List.{list_any}
use Rattle.std.proofs.lemmas.Bool.{lt-leb}
use Rattle.std.proofs.lemmas.List.{append-nil, length-append}
use Rattle.tpkt_cotp.specs.declared.tpdu.ConnectRequest.{ConnectRequest}
use Rattle.tpkt_cotp.specs.declared.tpdu.ConnectConfirm.{ConnectConfirm}
use Rattle.tpkt_cotp.specs.declared.turn.Role as transports
use Rattle.tpkt_cotp.specs.declared.turn.Role.TheVariants as sorts
use Rattle.tpkt_cotp.specs.Places.{End, left, stopped, messages_of, stream_in}
use Rattle.tpkt_cotp.specs.Streams.{Message, asks, confirms, tsdu}
use Rattle.tpkt_cotp.specs.Streams as transport
use Rattle.tpkt_cotp.proofs.Streaming.{says_left, stops_stopped, left_says, stopped_stops}
use Rattle.stack_assoc.specs.declared.messages.expecting.Expecting.{Expecting}
use Rattle.stack_assoc.specs.declared.messages.expecting.Side.TheVariants as sides
use Rattle.stack_assoc.specs.declared.messages.fault.StackFault.{StackFault}
use Rattle.stack_assoc.specs.Messages.Messages.{message}
use Rattle.stack_assoc.proofs.OfMessages.OneMessage.{message_read}
use Rattle.stack_assoc.specs.Arrivals.{Arrival, asked, confirmed, gone, heard, Role, called}
use Rattle.stack_assoc.specs.Arrivals.{calling, end_of, is_concluded}
use Rattle.stack_assoc.specs.Expectations.{setup_after, phase_after, expecting_after}
use Rattle.stack_assoc.specs.Fronts.{StartsWith}
use Rattle.stack_assoc.specs.Handing.{stack_in}
use Rattle.stack_assoc.specs.InTurn.{SpellInTurn}
use Rattle.stack_assoc.specs.Saying.{role_concluding}
use Rattle.stack_assoc.specs.Tellings.{TellsNext, BreaksNext, Tell, Tells, StopsTelling}
use Rattle.stack_assoc.specs.Tellings.{transport_fault}
use Rattle.stack_assoc.specs.declared.input.StackIn.{StackIn}
use Rattle.stack_assoc.proofs.FrontsKept.{front_said, front_stopped}
use Rattle.tase_conn.specs.Map.Readings.{arrival_heard, broken_at_end}
use Rattle.asking_end.specs.declared.asker.Awaiting.TheVariants as awaits
use Rattle.asking_end.specs.declared.asker.AskMove.TheVariants as moves
use Rattle.asking_end.specs.Agendas.{AgendaActs}
use Rattle.asking_end.specs.Askers.{AskerState, AskerStep, silent, step_then, unless_ended}
use Rattle.asking_end.specs.Askers.{role_awaiting, moved, handed_step, with_told, asker_step}
use Rattle.asking_end.specs.Askers.{asker_steps, asker_start, HasHeard, broken_step, arrival_by}
use Rattle.asking_end.specs.Askers.{message_step, end_step, asker_from, asker_behind}
use Rattle.asking_end.specs.Hearings.{input_heeded}
use Rattle.asking_end.specs.declared.asker.AskMove.{AskMove}
use Rattle.asking_end.specs.declared.asker.Asker.{Asker}
use Rattle.asking_end.specs.declared.asker.Awaiting.{Awaiting}
use Rattle.asking_end.specs.declared.end.AskEnd.{AskEnd}

-- ---- what was heard

pub moved-told : {A E I : Type 0} (acts : AgendaActs A E I) (p : Asker A) (m : AskMove E)
    (s : AskerState A E)
    → (moved acts p m s).state.told ≡ s.told
moved-told acts p moves.Wait s = refl
moved-told acts p moves.Say s = refl
moved-told acts p (moves.End end) s = refl

handed-told : {A E I : Type 0} (acts : AgendaActs A E I) (input : Option StackIn)
    (s : AskerState A E)
    → (handed_step acts input s).state.told ≡ s.told
handed-told acts None s = refl
handed-told acts (Some input) s = moved-told acts (input_heeded acts input s.asker).0
    (input_heeded acts input s.asker).1 s

pub step-told : {A E I : Type 0} (acts : AgendaActs A E I) (t : Arrival) (s : AskerState A E)
    → (asker_step acts t s).state.told ≡ s.told ++ t ∷ []
step-told acts t s = handed-told acts (stack_in t) (with_told t s)

-- ---- when conclude was said

-- conclude was said first after so many messages, more than these
pub record IsLate (n : ℕ) (role other : Role) : Type 0 where
  pub title : Option (List ℕ)
  pub count : ℕ
  pub was : role ≡ calling title None
  pub is : other ≡ calling title (Some count)
  pub late : n < count

-- behind more messages than these the end is the same but for a conclude that it has said
abbrev pub SaysLater : ℕ → Role → Role → Type 0
SaysLater n role other = (other ≡ role) ⊎ IsLate n role other

concluding-later : (n : ℕ) (role : Role) (told : List Arrival) → n < length told
    → SaysLater n role (role_concluding role told)
concluding-later n called told lt = inl refl
concluding-later n (calling title None) told lt =
    inr (record { title = title; count = length told; was = refl; is = refl; late = lt })
concluding-later n (calling title (Some count)) told lt = inl refl

awaiting-later : {A E : Type 0} (n : ℕ) (awaiting : Awaiting) (s : AskerState A E) → n < length
    s.told
    → SaysLater n s.role (role_awaiting awaiting s)
awaiting-later n awaits.Conclusion s lt = concluding-later n s.role s.told lt
awaiting-later n awaits.Association s lt = inl refl
awaiting-later n awaits.Reply s lt = inl refl
awaiting-later n awaits.Nothing s lt = inl refl
awaiting-later n awaits.Release s lt = inl refl

moved-later : {A E I : Type 0} (n : ℕ) (acts : AgendaActs A E I) (p : Asker A) (m : AskMove E)
    (s : AskerState A E)
    → n < length s.told → SaysLater n s.role (moved acts p m s).state.role
moved-later n acts p moves.Wait s lt = inl refl
moved-later n acts p moves.Say s lt = awaiting-later n p.awaiting s lt
moved-later n acts p (moves.End end) s lt = inl refl

handed-later : {A E I : Type 0} (n : ℕ) (acts : AgendaActs A E I) (input : Option StackIn)
    (s : AskerState A E)
    → n < length s.told → SaysLater n s.role (handed_step acts input s).state.role
handed-later n acts None s lt = inl refl
handed-later n acts (Some input) s lt =
    moved-later n acts (input_heeded acts input s.asker).0 (input_heeded acts input s.asker).1
    s lt

pub step-later : {A E I : Type 0} (n : ℕ) (acts : AgendaActs A E I) (t : Arrival)
    (s : AskerState A E) → n ≤ length s.told
    → SaysLater n s.role (asker_step acts t s).state.role
step-later n acts t s le = handed-later n acts (stack_in t) (with_told t s)
    (omega (arith, length-append s.told (t ∷ [])))

one_title : (title other : Option (List ℕ)) (count : ℕ)
    → calling title (Some count) ≡ calling other None → Unit {0} → ⊥
one_title title other count e u = absurd cc

pub later-then : (n : ℕ) (a b c : Role) → SaysLater n a b → SaysLater n b c → SaysLater n a c
later-then n a b c (inl e) (inl f) = inl (f ∙ e)
later-then n a b c (inl e) (inr g) = inr (record {
  title = g.title;
  count = g.count;
  was = sym e ∙ g.was;
  is = g.is;
  late = g.late;
})
later-then n a b c (inr g) (inl f) = inr (record {
  title = g.title;
  count = g.count;
  was = g.was;
  is = f ∙ g.is;
  late = g.late;
})
later-then n a b c (inr g) (inr h) =
    absurd (one_title g.title h.title g.count (sym g.is ∙ h.was) tt)

unless-later : {A E I : Type 0} (n : ℕ) (s : AskerState A E) (end : Option (AskEnd E))
    (r : AskerStep A E I)
    → SaysLater n s.role r.state.role → SaysLater n s.role (unless_ended end s r).state.role
unless-later n s None r h = h
unless-later n s (Some end) r h = inl refl

pub steps-later : {A E I : Type 0} (n : ℕ) (acts : AgendaActs A E I) (ts : List Arrival)
    (s : AskerState A E)
    → n ≤ length s.told → SaysLater n s.role (asker_steps acts ts s).state.role
steps-later n acts [] s le = inl refl
steps-later {A = A} {E = E} n acts (t ∷ ts) s le =
    let next : AskerState A E = (asker_step acts t s).state in
    let more : n ≤ length next.told = omega (
      arith,
      ap length (step-told acts t s),
      length-append s.told (t ∷ []),
    ) in
    unless-later n s s.end (step_then (asker_step acts t s) (asker_steps acts ts))
    (later-then n s.role next.role (asker_steps acts ts next).state.role
    (step-later n acts t s le) (steps-later n acts ts next more))

-- ---- what is expected

abbrev expecting_with : Option (List ℕ) → List Arrival → Bool → Expecting
expecting_with title before awaited = record {
  side = sides.Calling;
  phase = phase_after (calling title None) before;
  acse = (setup_after before).acse;
  mms = (setup_after before).mms;
  awaited = awaited && not (list_any is_concluded before);
}

said_later : (title : Option (List ℕ)) (count : ℕ) (before : List Arrival) → length before < count
    → expecting_after (calling title (Some count)) before
    ≡ expecting_after (calling title None) before
said_later title count before late =
    ap (expecting_with title before) (lt-leb count (length before) late)

pub expecting-later : (role other : Role) (before : List Arrival)
    → SaysLater (length before) role other
    → expecting_after other before ≡ expecting_after role before
expecting-later role other before (inl e) = ap (λ (r : Role). expecting_after r before) e
expecting-later role other before (inr g) =
    ap (λ (r : Role). expecting_after r before) g.is
    ∙ said_later g.title g.count before g.late
    ∙ sym (ap (λ (r : Role). expecting_after r before) g.was)

calling_end : (n : ℕ) (title : Option (List ℕ)) (said : Option ℕ) (other : Role)
    → SaysLater n (calling title said) other → end_of other ≡ sorts.Calling
calling_end n title said other (inl e) = ap end_of e
calling_end n title said other (inr g) = ap end_of g.is

-- ---- what a message of the transport tells

abbrev Came : Type 0
Came = Result Arrival StackFault

abbrev came : Arrival → Came
came t = Ok t

abbrev breaks_off : StackFault → Came
breaks_off f = Err f

pub alike : (one other : Role) (before : List Arrival) (m : Message)
    → expecting_after one before ≡ expecting_after other before
    → arrival_by one before m ≡ arrival_by other before m
alike one other before (asks r) e = refl
alike one other before (confirms c) e = refl
alike one other before transport.gone e = refl
alike one other before (tsdu place octets) e =
    ap (λ (x : Expecting). arrival_heard (message x octets).reading) e

arrival_told : (role : Role) (before : List Arrival) (t : Arrival) (m : Message)
    → TellsNext role before t m → arrival_by role before m ≡ came t
arrival_told role before (asked r) (asks q) h =
    ap (λ (x : ConnectRequest). came (asked x)) (sym h)
arrival_told role before (confirmed c) (confirms d) h =
    ap (λ (x : ConnectConfirm). came (confirmed x)) (sym h)
arrival_told role before gone transport.gone h = refl
arrival_told role before (heard x) (tsdu place octets) h =
    ap arrival_heard ((message_read (expecting_after role before) octets).only x h)
arrival_told role before t m h = absurd h

arrival_broken : (role : Role) (before : List Arrival) (m : Message) (f : StackFault)
    → BreaksNext role before m f → arrival_by role before m ≡ breaks_off f
arrival_broken role before (tsdu place octets) f h =
    ap arrival_heard (((message_read (expecting_after role before) octets).fault f).1 h)
arrival_broken role before m f h = absurd h

-- ---- messages in a row

abbrev pub with_step : {A E I : Type 0} → AskerStep A E I → AskerStep A E I → AskerStep A E I
with_step r z =
    record { state = z.state; said = r.said ++ z.said; shown = r.shown ++ z.shown }

abbrev pub a_step : {A E I : Type 0} → AskerState A E → List ℕ → List I → AskerStep A E I
a_step state said shown = record { state = state; said = said; shown = shown }

pub joined : {A E I : Type 0} (r q z : AskerStep A E I) → with_step r (with_step q z) ≡ with_step
    (with_step r q) z
joined {I = I} r q z =
    ap (λ (said : List ℕ). a_step z.state said (r.shown ++ (q.shown ++ z.shown)))
    (sym (append_assoc r.said q.said z.said))
    ∙ ap (λ (shown : List I). a_step z.state ((r.said ++ q.said) ++ z.said) shown)
    (sym (append_assoc r.shown q.shown z.shown))

pub then_silent : {A E I : Type 0} (r : AskerStep A E I) (z : AskerStep A E I) → z ≡ silent r.state
    → with_step r z ≡ r
then_silent {I = I} r z e =
    ap (with_step r) e
    ∙ ap (λ (said : List ℕ). a_step r.state said (r.shown ++ [])) (append-nil r.said)
    ∙ ap (λ (shown : List I). a_step r.state r.said shown) (append-nil r.shown)

pub not_longer : (told : List Arrival) (t : Arrival) (ts : List Arrival) → told ≡ told ++ t ∷ ts → ⊥
not_longer told t ts e = absurd (omega (arith, ap length e, length-append told (t ∷ ts)))

pub opened : {A E I : Type 0} (s : AskerState A E) (end : Option (AskEnd E)) (x y : AskerStep A E I)
    (next : AskerState A E → AskerStep A E I) (all : List Arrival)
    → (unless_ended end s y).state.told ≡ all → (s.told ≡ all → ⊥)
    → (end ≡ None → x ≡ step_then y next)
    → unless_ended end s x ≡ step_then (unless_ended end s y) next
opened s None x y next all told shut goes = goes refl
opened s (Some e) x y next all told shut goes = absurd (shut told)

-- messages that tell these, and others behind them
pub front_heard : {A E I : Type 0} (acts : AgendaActs A E I) (broken : Option StackFault)
    (ms : List Message) (role : Role)
    (ts : List Arrival) (messages : List Message) (s : AskerState A E)
    → SpellInTurn (TellsNext role) s.told ts messages
    → (asker_steps acts ts s).state.told ≡ s.told ++ ts
    → (asker_steps acts ts s).state.role ≡ role
    → asker_from acts broken (messages ++ ms) s
    ≡ step_then (asker_steps acts ts s) (asker_from acts broken ms)
front_heard acts broken ms role [] [] s tell told is = refl
front_heard acts broken ms role [] (m ∷ messages) s tell told is = absurd tell
front_heard acts broken ms role (t ∷ ts) [] s tell told is = absurd tell
front_heard {A = A} {E = E} {I = I} acts broken ms role (t ∷ ts) (m ∷ messages) s tell told is =
    let r : AskerStep A E I = asker_step acts t s in
    let y : AskerStep A E I = step_then r (asker_steps acts ts) in
    let goes : AskerState A E → AskerStep A E I = asker_from acts broken (messages ++ ms) in
    let next : AskerState A E → AskerStep A E I = asker_from acts broken ms in
    let later : SaysLater (length s.told) s.role role =
    subst (SaysLater (length s.told) s.role) is
    (steps-later (length s.told) acts (t ∷ ts) s (omega arith)) in
    let came_is : arrival_by s.role s.told m ≡ came t =
    alike s.role role s.told m (sym (expecting-later s.role role s.told later))
    ∙ arrival_told role s.told t m tell.0 in
    let heard_is : r.state.told ≡ s.told ++ t ∷ [] = step-told acts t s in
    opened s s.end (message_step acts goes s (arrival_by s.role s.told m)) y next
    (s.told ++ t ∷ ts) told (not_longer s.told t ts)
    (λ e.
    let told_is : y.state.told ≡ s.told ++ t ∷ ts =
    subst (λ (o : Option (AskEnd E)). (unless_ended o s y).state.told ≡ s.told ++ t ∷ ts) e told in
    let role_is : y.state.role ≡ role =
    subst (λ (o : Option (AskEnd E)). (unless_ended o s y).state.role ≡ role) e is in
    let rest : asker_from acts broken (messages ++ ms) r.state
    ≡ step_then (asker_steps acts ts r.state) (asker_from acts broken ms) =
    front_heard acts broken ms role ts messages r.state
    (subst (λ (b : List Arrival). SpellInTurn (TellsNext role) b ts messages) (sym heard_is) tell.1)
    (told_is ∙ sym (append_assoc s.told (t ∷ []) ts)
    ∙ ap (λ (b : List Arrival). b ++ ts) (sym heard_is)) role_is in
    ap (message_step acts goes s) came_is
    ∙ ap (with_step r) rest
    ∙ joined r (asker_steps acts ts r.state)
    (asker_from acts broken ms (asker_steps acts ts r.state).state))

-- ---- all octets

nothing_more : {A E I : Type 0} (s : AskerState A E) (end : Option (AskEnd E))
    → unless_ended {A = A} {E = E} {I = I} end s (silent s) ≡ silent s
nothing_more s None = refl
nothing_more s (Some e) = refl

-- what the whole stream makes of the client, where its messages and its end are these
over_stream : {A E I : Type 0} (acts : AgendaActs A E I) (title : Option (List ℕ)) (agenda : A)
    (octets : List ℕ) (all : List Message)
    (end : End)
    → messages_of (stream_in sorts.Calling octets).messages ≡ all
    → (stream_in sorts.Calling octets).end ≡ end
    → asker_behind acts title agenda octets
    ≡ asker_from acts (broken_at_end end) all (asker_start acts title agenda)
unfolding asker_behind
over_stream acts title agenda octets all end is ends =
    ap (λ (ms : List Message). asker_from acts
    (broken_at_end (stream_in sorts.Calling octets).end) ms (asker_start acts title agenda)) is
    ∙ ap (λ (e : End). asker_from acts (broken_at_end e) all (asker_start acts title agenda)) ends

pub heard_end : {A E I : Type 0} (acts : AgendaActs A E I) (title : Option (List ℕ)) (agenda : A)
    (told : List Arrival) (step : AskerStep A E I)
    → HasHeard acts title agenda told step → end_of step.state.role ≡ sorts.Calling
heard_end {A = A} {E = E} {I = I} acts title agenda told step h =
    subst (λ (r : AskerStep A E I). end_of r.state.role ≡ sorts.Calling) h.is
    (calling_end 0 title None
    (asker_steps acts told (asker_start acts title agenda)).state.role
    (steps-later 0 acts told (asker_start acts title agenda) (omega arith)))

-- messages that tell what it has heard, and others
heard_front : {A E I : Type 0} (acts : AgendaActs A E I) (title : Option (List ℕ)) (agenda : A)
    (told : List Arrival) (step : AskerStep A E I)
    (broken : Option StackFault) (messages ms : List Message) → HasHeard acts title agenda told step
    → Tell step.state.role told messages
    → asker_from acts broken (messages ++ ms) (asker_start acts title agenda)
    ≡ with_step step (asker_from acts broken ms step.state)
heard_front {A = A} {E = E} {I = I} acts title agenda told step broken messages ms h tell =
    let start : AskerState A E = asker_start acts title agenda in
    front_heard acts broken ms step.state.role told messages start tell
    (ap (λ (r : AskerStep A E I). r.state.told) h.is ∙ h.told_is)
    (ap (λ (r : AskerStep A E I). r.state.role) h.is)
    ∙ ap (λ (r : AskerStep A E I). with_step r (asker_from acts broken ms r.state)) h.is

-- all that the octets tell was heard
pub all_heard : {A E I : Type 0} (acts : AgendaActs A E I) (title : Option (List ℕ)) (agenda : A)
    (octets rest : List ℕ) (told : List Arrival)
    (step : AskerStep A E I) → HasHeard acts title agenda told step → Tells step.state.role octets
    told rest
    → asker_behind acts title agenda octets ≡ step
all_heard acts title agenda octets rest told step h t =
    let said = subst (λ (e : transports.Role). transport.Says e octets t.messages rest)
    (heard_end acts title agenda told step h) t.said in
    let all = says_left sorts.Calling octets t.messages rest said in
    over_stream acts title agenda octets t.messages (left all.1.0) all.0 all.1.1
    ∙ ap (λ (ms : List Message). asker_from acts None ms (asker_start acts title agenda))
    (sym (append-nil t.messages))
    ∙ heard_front acts title agenda told step None t.messages [] h t.tell
    ∙ then_silent step (asker_from acts None [] step.state)
    (nothing_more step.state step.state.end)

-- the messages that octets begin with are the first of the whole stream
stream_front : (octets : List ℕ) (ms : List Message) → StartsWith sorts.Calling octets ms
    → (others : List Message)
    × (messages_of (stream_in sorts.Calling octets).messages ≡ ms ++ others)
stream_front octets ms s = by_end (stream_in sorts.Calling octets).end refl
  where
    by_end : (end : End) → (stream_in sorts.Calling octets).end ≡ end
        → (others : List Message)
        × (messages_of (stream_in sorts.Calling octets).messages ≡ ms ++ others)
    by_end (left count) is =
        let said = left_says sorts.Calling octets count is in
        front_said sorts.Calling octets said.0 ms
        (messages_of (stream_in sorts.Calling octets).messages) s said.1
    by_end (stopped f) is =
        front_stopped sorts.Calling octets ms
        (messages_of (stream_in sorts.Calling octets).messages) f s
        (stopped_stops sorts.Calling octets f is)

-- what comes behind messages that octets begin with
front_over : {A E I : Type 0} (acts : AgendaActs A E I) (title : Option (List ℕ)) (agenda : A)
    (octets : List ℕ) (told : List Arrival)
    (step : AskerStep A E I) (messages : List Message) → HasHeard acts title agenda told step
    → StartsWith sorts.Calling octets messages → Tell step.state.role told messages
    → (broken : Option StackFault) × (others : List Message)
    × (asker_behind acts title agenda octets
    ≡ with_step step (asker_from acts broken others step.state))
front_over acts title agenda octets told step messages h s tell =
    let end : End = (stream_in sorts.Calling octets).end in
    let all = stream_front octets messages s in (
      broken_at_end end,
      all.0,
      over_stream acts title agenda octets (messages ++ all.0) end all.1 refl
          ∙ heard_front acts title agenda told step (broken_at_end end) messages all.0 h tell,
    )

pub unless_open : {A E I : Type 0} (s : AskerState A E) (end : Option (AskEnd E))
    (r : AskerStep A E I) → end ≡ None
    → unless_ended end s r ≡ r
unless_open s None r e = refl
unless_open s (Some end) r e = absurd cc

over_ended : {A E I : Type 0} (s : AskerState A E) (end : Option (AskEnd E)) (is : AskEnd E)
    (r : AskerStep A E I)
    → end ≡ Some is → unless_ended end s r ≡ silent s
over_ended s None is r e = absurd cc
over_ended s (Some end) is r e = refl

from_ended : {A E I : Type 0} (acts : AgendaActs A E I) (broken : Option StackFault)
    (ms : List Message) (s : AskerState A E)
    (end : AskEnd E) → s.end ≡ Some end → asker_from acts broken ms s ≡ silent s
from_ended acts broken [] s end e = over_ended s s.end end (end_step broken s) e
from_ended acts broken (m ∷ ms) s end e =
    over_ended s s.end end
    (message_step acts (asker_from acts broken ms) s (arrival_by s.role s.told m)) e

-- a client that has ended hears no more, whatever octets stand behind what it has heard
pub ended_heard : {A E I : Type 0} (acts : AgendaActs A E I) (title : Option (List ℕ)) (agenda : A)
    (octets : List ℕ) (told : List Arrival)
    (step : AskerStep A E I) (end : AskEnd E) (messages : List Message) → HasHeard acts title agenda
    told step
    → step.state.end ≡ Some end → StartsWith sorts.Calling octets messages
    → Tell step.state.role told messages → asker_behind acts title agenda octets ≡ step
ended_heard acts title agenda octets told step end messages h ended s tell =
    let f = front_over acts title agenda octets told step messages h s tell in
    f.2 ∙ then_silent step (asker_from acts f.0 f.1 step.state)
    (from_ended acts f.0 f.1 step.state end ended)

-- behind all that it has heard a rule is broken
pub broken_heard : {A E I : Type 0} (acts : AgendaActs A E I) (title : Option (List ℕ)) (agenda : A)
    (octets : List ℕ) (told : List Arrival)
    (step : AskerStep A E I) (fault : StackFault) → HasHeard acts title agenda told step
    → step.state.end ≡ None → StopsTelling step.state.role octets told fault
    → asker_behind acts title agenda octets ≡ step_then step (broken_step fault)
broken_heard acts title agenda octets told step fault h running (inl b) =
    let stops = subst (λ (e : transports.Role). transport.Stops e octets b.messages b.broken)
    (heard_end acts title agenda told step h) b.stops in
    let all = stops_stopped sorts.Calling octets b.messages b.broken stops in
    let broken : Option StackFault = Some (transport_fault b.broken) in
    over_stream acts title agenda octets b.messages (stopped b.broken) all.0 all.1
    ∙ ap (λ (ms : List Message). asker_from acts broken ms (asker_start acts title agenda))
    (sym (append-nil b.messages))
    ∙ heard_front acts title agenda told step broken b.messages [] h b.tell
    ∙ ap (with_step step)
    (unless_open step.state step.state.end (end_step broken step.state) running)
    ∙ ap (λ (f : StackFault). with_step step (broken_step f step.state)) (sym b.is)
broken_heard {A = A} {E = E} {I = I} acts title agenda octets told step fault h running (inr a) =
    let starts = subst (λ (e : transports.Role). StartsWith e octets (a.messages ++ a.next ∷ []))
    (heard_end acts title agenda told step h) a.starts in
    let all = stream_front octets (a.messages ++ a.next ∷ []) starts in
    let end : End = (stream_in sorts.Calling octets).end in
    let broken : Option StackFault = broken_at_end end in
    let goes : AskerState A E → AskerStep A E I = asker_from acts broken all.0 in
    let breaks : arrival_by step.state.role step.state.told a.next ≡ breaks_off fault =
    subst (λ (b : List Arrival). arrival_by step.state.role b a.next ≡ breaks_off fault)
    (sym h.told_is) (arrival_broken step.state.role told a.next fault a.breaks) in
    over_stream acts title agenda octets (a.messages ++ (a.next ∷ all.0)) end
    (all.1 ∙ append_assoc a.messages (a.next ∷ []) all.0) refl
    ∙ heard_front acts title agenda told step broken a.messages (a.next ∷ all.0) h a.tell
    ∙ ap (with_step step)
    (unless_open step.state step.state.end
    (message_step acts goes step.state
    (arrival_by step.state.role step.state.told a.next)) running)
    ∙ ap (λ (c : Came). with_step step (message_step acts goes step.state c)) breaks
