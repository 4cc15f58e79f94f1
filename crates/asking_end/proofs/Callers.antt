-- What a calling end hears in the octets that have come, message by message.
use Rattle.std.proofs.Common.{◌≡◌, ℕ, Bool, true, false, List, [], ◌∷◌, ◌++◌, Option, Some, None}
use Rattle.std.proofs.Common.{Result, Ok, Err, take, MatchOption, MatchBool, refl, sym, ap, subst}
use Rattle.std.proofs.Common.{◌∙◌}
use Rattle.std.proofs.Common.{append_assoc, length, get_or, arith}
use Rattle.std.specs.Prelude.{if◌then◌else◌, option_map}
use Rattle.std.specs.List.{All, cons_option}
use Rattle.std.proofs.lemmas.List.{append-nil, take_at}
use Rattle.std.proofs.lemmas.List.Elements.{All-head, All-drop, filter_map-append}
use Rattle.std.proofs.Math.Seq.{drop-append_seam}
use Rattle.plain_text.specs.Extends.{Extends}
use Rattle.tpkt_cotp.specs.Streams.{Message}
use Rattle.tpkt_cotp.specs.declared.turn.Role as transports
use Rattle.tpkt_cotp.specs.declared.turn.Role.TheVariants as sorts
use Rattle.tpkt_cotp.specs.Written.{connection_request_octets}
use Rattle.mms_services.specs.declared.pdu.MmsPdu.TheVariants as pdus
use Rattle.stack_assoc.specs.declared.messages.expecting.Side.{Side}
use Rattle.stack_assoc.specs.declared.messages.expecting.Side.TheVariants as sides
use Rattle.stack_assoc.specs.declared.messages.fault.StackFault.{StackFault}
use Rattle.stack_assoc.specs.declared.messages.heard.Connecting.{Connecting}
use Rattle.stack_assoc.specs.declared.messages.heard.Heard.{Heard}
use Rattle.stack_assoc.specs.declared.messages.heard.Heard.TheVariants as heards
use Rattle.stack_assoc.specs.declared.wire.setup.AssociationSetup.{AssociationSetup}
use Rattle.stack_assoc.specs.declared.input.StackIn.{StackIn}
use Rattle.stack_assoc.specs.declared.input.StackIn.TheVariants as inputs
use Rattle.stack_assoc.specs.declared.input.StackState.TheVariants as states
use Rattle.stack_assoc.specs.declared.end_state.EndState.{EndState}
use Rattle.stack_assoc.specs.declared.end_state.EndState.TheVariants as standings
use Rattle.stack_assoc.specs.Arrivals.{Arrival, asked, confirmed, gone, heard, Role, called}
use Rattle.stack_assoc.specs.Arrivals.{calling}
use Rattle.stack_assoc.specs.Arrivals.{end_of, side_of}
use Rattle.stack_assoc.specs.Expectations.{setup_after}
use Rattle.stack_assoc.specs.Fronts.{StartsWith}
use Rattle.stack_assoc.specs.Handing.{stack_in, handed_out, answers_to, input_heard, is_offer}
use Rattle.stack_assoc.specs.Saying.{with_said, course_released, role_concluding, left_by}
use Rattle.stack_assoc.specs.Tellings.{Tell, Tells, StopsTelling}
use Rattle.stack_assoc.specs.Courses.{Course, CourseStands, ReadsMessages, messages_taken}
use Rattle.stack_assoc.specs.Courses.{IsCourseSettled, IsNextAnswer, EndStandsBehind, FollowsAnswer}
use Rattle.stack_assoc.specs.Courses.{fault_in}
use Rattle.stack_assoc.specs.Courses.{is_offered, state_by, state_with, stack_state_of}
use Rattle.stack_assoc.proofs.FrontsKept.{front_more, stands_front}
use Rattle.stack_assoc.proofs.StreamLaws.{front_front, fault_stays}
use Rattle.stack_assoc.proofs.SaidMore.{stands_said, stands_standing}
use Rattle.tase_views.specs.declared.call.CallKind.{CallKind}
use Rattle.tase_conn.specs.Map.LawfulTold.{IsLawfulTold, IsLawfulHeard}
use Rattle.tase_conn.proofs.OfMap.LawfulMessages.{told_lawful}
use Rattle.asking_end.specs.declared.asker.Awaiting.TheVariants as awaits
use Rattle.asking_end.specs.declared.asker.AskMove.TheVariants as moves
use Rattle.asking_end.specs.declared.end.AskEnd.TheVariants as ends
use Rattle.asking_end.specs.Agendas.{AgendaActs}
use Rattle.asking_end.specs.Askers.{AskerState, AskerStep, silent, step_then, role_awaiting, moved}
use Rattle.asking_end.specs.Askers.{asker_steps, asker_start, HasHeard, broken_step, asker_behind}
use Rattle.asking_end.specs.Askers.{asker_of}
use Rattle.asking_end.specs.Asking.{HasNumber, awaited_said, at_call}
use Rattle.asking_end.specs.Callers.{standing_for, Hears, HasHeardAll, IsOver, AskerStands}
use Rattle.asking_end.specs.Callers.{AddsMore, SaysMore, HeardOn, TakesPiece, course_saying}
use Rattle.asking_end.specs.Callers.{course_awaiting, moved_on, move_said, goes_on, MayMove}
use Rattle.asking_end.specs.Hearings.{IsLawfulInput, input_heeded, input_shown}
use Rattle.asking_end.specs.Sayings.{request_pdu}
use Rattle.asking_end.specs.declared.asker.AskMove.{AskMove}
use Rattle.asking_end.specs.declared.asker.Asker.{Asker}
use Rattle.asking_end.specs.declared.asker.Awaiting.{Awaiting}
use Rattle.asking_end.specs.declared.calling.CallingEnd.{CallingEnd}
use Rattle.asking_end.specs.declared.end.AskEnd.{AskEnd}
use Rattle.asking_end.proofs.HeardSteps.{with_step, a_step, heard_end, all_heard, broken_heard}
use Rattle.asking_end.proofs.HeardSteps.{ended_heard}
use Rattle.asking_end.proofs.StepsOn.{heard_on, quiet_step, quiet_steps, input_steps}
use Rattle.asking_end.proofs.StepsOn.{handed_steps, input-told, nothing_behind}
use Rattle.asking_end.proofs.Standing.{StandsForMove, never_offered, input-number, input-stands}

-- ---- options

pub none_match : {T : Type 0} (A : Type 0) (B : T → Type 0) (o : Option T) → o ≡ None → A
    → MatchOption o A B
none_match A B None e a = a
none_match A B (Some x) e a = absurd cc

pub some_match : {T : Type 0} (A : Type 0) (B : T → Type 0) (o : Option T) (x : T) → o ≡ Some x
    → B x → MatchOption o A B
some_match {T = T} A B o x e b = subst (λ (p : Option T). MatchOption p A B) (sym e) b

pub match_none : {T : Type 0} (A : Type 0) (B : T → Type 0) (o : Option T) → o ≡ None
    → MatchOption o A B → A
match_none {T = T} A B o e m = subst (λ (p : Option T). MatchOption p A B) e m

pub match_some : {T : Type 0} (A : Type 0) (B : T → Type 0) (o : Option T) (x : T) → o ≡ Some x
    → MatchOption o A B → B x
match_some {T = T} A B o x e m = subst (λ (p : Option T). MatchOption p A B) e m

-- ---- what is appended

adds_none : {T : Type 0} (said out : List T) → AddsMore said said out out
adds_none said out =
    record { added = []; is = sym (append-nil said); appended = sym (append-nil out) }

adds_then : {T : Type 0} (a b c x y z : List T) → AddsMore a b x y → AddsMore b c y z → AddsMore a c
    x z
adds_then {T = T} a b c x y z s t = record {
  added = s.added ++ t.added;
  is = t.is ∙ ap (λ (l : List T). l ++ t.added) s.is ∙ append_assoc a s.added t.added;
  appended = t.appended ∙ ap (λ (l : List T). l ++ t.added) s.appended
      ∙ append_assoc x s.added t.added;
}

adds_behind : (front a b x y : List ℕ) → AddsMore a b x y → AddsMore (front ++ a) (front ++ b) x y
adds_behind front a b x y s = record {
  added = s.added;
  is = ap (λ (l : List ℕ). front ++ l) s.is ∙ sym (append_assoc front a s.added);
  appended = s.appended;
}

says_none : {A E I : Type 0} (step : AskerStep A E I) (out : List ℕ) (shown : List I) → SaysMore
    step step out out shown shown
says_none step out shown =
    record { said = adds_none step.said out; shown = adds_none step.shown shown }

says_then : {A E I : Type 0} (a b c : AskerStep A E I) (out mid written : List ℕ)
    (shown half behind : List I)
    → SaysMore a b out mid shown half → SaysMore b c mid written half behind
    → SaysMore a c out written shown behind
says_then a b c out mid written shown half behind s t = record {
  said = adds_then a.said b.said c.said out mid written s.said t.said;
  shown = adds_then a.shown b.shown c.shown shown half behind s.shown t.shown;
}

-- ---- one message behind another

pub heard_none : {A E I : Type 0} (acts : AgendaActs A E I) (title : Option (List ℕ)) (agenda : A)
    (octets : List ℕ) (step : AskerStep A E I)
    (out : List ℕ) (shown : List I) (c : CallingEnd A E) → Hears acts title agenda octets step c
    → HeardOn true acts title agenda octets step out out shown shown c
heard_none acts title agenda octets step out shown c h = (step, h, says_none step out shown)

pub heard_then : {A E I : Type 0} (more : Bool) (acts : AgendaActs A E I) (title : Option (List ℕ))
    (agenda : A) (octets : List ℕ)
    (step : AskerStep A E I) (out mid written : List ℕ) (shown half behind : List I)
    (between new : CallingEnd A E)
    → HeardOn true acts title agenda octets step out mid shown half between
    → ((next : AskerStep A E I) → Hears acts title agenda octets next between
    → HeardOn more acts title agenda octets next mid written half behind new)
    → HeardOn more acts title agenda octets step out written shown behind new
heard_then true acts title agenda octets step out mid written shown half behind between new a f =
    let b = f a.0 a.1 in (
      b.0,
      b.1,
      says_then step a.0 b.0 out mid written shown half behind a.2 b.2,
    )
heard_then false acts title agenda octets step out mid written shown half behind between new a f =
    let b = f a.0 a.1 in (
      b.0,
      says_then step a.0 (asker_behind acts title agenda octets) out mid written shown half behind
          a.2 b.1,
    )

-- ---- what may be said

calling_side : (role : Role) → end_of role ≡ sorts.Calling → side_of role ≡ sides.Calling
calling_side called e = absurd cc
calling_side (calling title said) e = refl

said_stands : (octets : List ℕ) (told : List Arrival) (role : Role) (v : Course) (number : ℕ)
    (call : Option CallKind) → v.fault ≡ None → CourseStands role octets told v
    → CourseStands role octets told (course_saying (option_map (request_pdu number) call) v)
said_stands octets told role v number None clear s = s
said_stands octets told role v number (Some call) clear s =
    stands_said role octets told v (with_said (request_pdu number call) v) (request_pdu number call)
    clear s refl

awaiting_stands : {A E I : Type 0} (acts : AgendaActs A E I) (octets : List ℕ) (told : List Arrival)
    (s : AskerState A E)
    (v : Course) (awaiting : Awaiting) (p : Asker A) → s.told ≡ told → v.fault ≡ None
    → CourseStands s.role octets told v
    → CourseStands (role_awaiting awaiting s) octets told (course_awaiting acts awaiting p v)
awaiting_stands acts octets told s v awaits.Association p e clear stands = stands
awaiting_stands acts octets told s v awaits.Reply p e clear stands =
    said_stands octets told s.role v p.last (acts.call p.agenda) clear stands
awaiting_stands acts octets told s v awaits.Nothing p e clear stands = stands
awaiting_stands acts octets told s v awaits.Conclusion p e clear stands =
    subst (λ (ts : List Arrival).
    CourseStands (role_concluding s.role ts) octets told (with_said pdus.Conclude v)) (sym e)
    (stands_said s.role octets told v (with_said pdus.Conclude v) pdus.Conclude clear stands refl)
awaiting_stands acts octets told s v awaits.Release p e clear stands =
    stands_standing s.role octets told v (course_released v) (left_by v.known.side v.standing)
    stands refl

-- it stands to the association as before
record IsAsBefore (old new : Course) : Type 0 where
  pub fault : new.fault ≡ old.fault
  pub standing : new.standing ≡ old.standing

same_course : (v : Course) → IsAsBefore v v
same_course v = record { fault = refl; standing = refl }

saying_as_before : (v : Course) (number : ℕ) (call : Option CallKind)
    → IsAsBefore v (course_saying (option_map (request_pdu number) call) v)
saying_as_before v number None = same_course v
saying_as_before v number (Some call) = record { fault = refl; standing = refl }

awaiting_as_before : {A E I : Type 0} (acts : AgendaActs A E I) (v : Course) (awaiting : Awaiting)
    (p : Asker A)
    → v.known.side ≡ sides.Calling → IsAsBefore v (course_awaiting acts awaiting p v)
awaiting_as_before acts v awaits.Association p side = same_course v
awaiting_as_before acts v awaits.Reply p side = saying_as_before v p.last (acts.call p.agenda)
awaiting_as_before acts v awaits.Nothing p side = same_course v
awaiting_as_before acts v awaits.Conclusion p side = record { fault = refl; standing = refl }
awaiting_as_before acts v awaits.Release p side =
    record { fault = refl; standing = ap (λ (side : Side). left_by side v.standing) side }

-- ---- what is handed out

one_out : (o : Option StackIn) (input : StackIn) → cons_option o [] ≡ input ∷ []
    → o ≡ Some input
one_out None input e = absurd cc
one_out (Some other) input e =
    ap (λ (is : List StackIn). Some (get_or is 0 input)) e

handed_last : (passed later : List Arrival) (last : Arrival) (input : StackIn)
    → handed_out passed ≡ [] → later ≡ passed ++ last ∷ [] → handed_out later ≡ input ∷ []
    → stack_in last ≡ Some input
handed_last passed later last input quiet is e =
    one_out (stack_in last) input
    (sym (ap (λ (ts : List Arrival). handed_out ts) is
    ∙ filter_map-append stack_in passed (last ∷ [])
    ∙ ap (λ (is : List StackIn). is ++ handed_out (last ∷ [])) quiet) ∙ e)

lawful_offer : (c : Connecting) (is : Bool)
    → IsLawfulInput (if is then inputs.Offer c.title c.initiate else inputs.BadOffer)
lawful_offer c true = tt
lawful_offer c false = tt

lawful_heard : (h : Heard) → IsLawfulHeard h → IsLawfulInput (input_heard h)
lawful_heard (heards.Connect c) l = lawful_offer c (is_offer c)
lawful_heard (heards.Accept a) l = tt
lawful_heard heards.Refuse l = tt
lawful_heard heards.Finish l = tt
lawful_heard heards.Disconnect l = tt
lawful_heard heards.Abort l = tt
lawful_heard heards.AbortAccept l = tt
lawful_heard (heards.Pdu pdu) l = l
lawful_heard (heards.BadRequest invoke) l = tt

abbrev IfLawful : Option StackIn → Type 0
IfLawful o = MatchOption o (Unit {0}) IsLawfulInput

lawful_told : (t : Arrival) → IsLawfulTold t → IfLawful (stack_in t)
lawful_told (asked r) l = tt
lawful_told (confirmed c) l = tt
lawful_told gone l = tt
lawful_told (heard h) l = lawful_heard h l

-- ---- what comes next

-- what the stack answers
pub record IsNext (role : Role) (octets : List ℕ) (told : List Arrival) (old new : Course)
    (out written : List ℕ) (answer : Result (Option StackIn) StackFault) : Type 0 where
  pub right : IsNextAnswer role octets told old out answer new written
  pub follows : FollowsAnswer answer old.standing new.standing
  pub broken : new.fault ≡ fault_in answer

-- it appends what it says
pub extended_by : (old new more : List ℕ) → new ≡ old ++ more → Extends old new
extended_by old new more e =
    ap (λ (l : List ℕ). take (length old) l) e ∙ take_at old more (length old) refl

pub next_extends : (role : Role) (octets : List ℕ) (told : List Arrival) (old new : Course)
    (out written : List ℕ) (answer : Result (Option StackIn) StackFault)
    → IsNextAnswer role octets told old out answer new written
    → (more : List ℕ) × (written ≡ out ++ more)
next_extends role octets told old new out written (Ok (Some input)) a =
    (answers_to role a.0, a.1.answered)
next_extends role octets told old new out written (Ok None) a =
    (answers_to role a.0, a.1.answered)
next_extends role octets told old new out written (Err f) a =
    (answers_to role a.0, a.1.answered)

-- ---- what it has heard of

-- octets begin with messages that tell these
pub record HasFront (role : Role) (octets : List ℕ) (told : List Arrival) : Type 0 where
  pub messages : List Message
  pub starts : StartsWith sorts.Calling octets messages
  pub tell : Tell role told messages

module _ {A E I : Type 0} (acts : AgendaActs A E I) (title : Option (List ℕ)) (agenda : A)
    (octets : List ℕ) (step : AskerStep A E I)
    (old : CallingEnd A E) (h : Hears acts title agenda octets step old) where
  front_of : (told : List Arrival) (v : Course) → v.fault ≡ None
      → CourseStands step.state.role octets told v → HasFront step.state.role octets told
  front_of told v clear s =
      let r : ReadsMessages step.state.role octets told v =
      match_none (ReadsMessages step.state.role octets told v)
      (λ (f : StackFault). StopsTelling step.state.role octets told f) v.fault clear s.reads in
      record {
        messages = r.messages;
        starts = subst (λ (end : transports.Role). StartsWith end octets r.messages)
            (heard_end acts title agenda h.told step h.heard)
            (front_front (end_of step.state.role) octets r.messages (messages_taken v)
            (stands_front (end_of step.state.role) octets (r.messages ++ messages_taken v) v.line
            r.stands));
        tell = r.tell;
      }

  front_on : (more : List ℕ) (told : List Arrival) → HasFront step.state.role octets told
      → HasFront step.state.role (octets ++ more) told
  front_on more told f = record {
    messages = f.messages;
    starts = front_more sorts.Calling octets more f.messages f.starts;
    tell = f.tell;
  }

  side_of_course : (told : List Arrival) (v : Course) → CourseStands step.state.role octets told v
      → v.known.side ≡ sides.Calling
  side_of_course told v s =
      s.knows.side ∙ calling_side step.state.role (heard_end acts title agenda h.told step h.heard)

  -- ---- a message that hands something out

  module _ (input : StackIn) (course : Course) (out mid : List ℕ)
      (a : IsNextAnswer step.state.role octets h.told old.stack out (Ok (Some input)) course mid)
      (clear : course.fault ≡ None)
      (follows : EndStandsBehind input old.stack.standing course.standing) where
    last_is : stack_in a.3.last ≡ Some input
    last_is = handed_last a.3.passed a.0 a.3.last input a.3.quiet a.3.is a.2

    -- it is lawful
    pub lawful_input : IsLawfulInput input
    lawful_input =
        let front : List Arrival = h.told ++ a.3.passed in
        let all : List Arrival = front ++ a.3.last ∷ [] in
        let f = front_of (h.told ++ a.0) course clear a.1.stands in
        let whole : h.told ++ a.0 ≡ all =
        ap (λ (ts : List Arrival). h.told ++ ts) a.3.is
        ∙ sym (append_assoc h.told a.3.passed (a.3.last ∷ [])) in
        let lawful : All IsLawfulTold all =
        subst (λ (ts : List Arrival). All IsLawfulTold ts) whole
        (told_lawful step.state.role [] (h.told ++ a.0) f.messages f.tell) in
        match_some (Unit {0}) IsLawfulInput (stack_in a.3.last) input last_is
        (lawful_told a.3.last (All-head IsLawfulTold a.3.last []
        (subst (λ (ts : List Arrival). All IsLawfulTold ts)
        (drop-append_seam front (a.3.last ∷ []))
        (All-drop IsLawfulTold (length front) all lawful))))

    abbrev fed : Asker A → CallingEnd A E
    fed p = record old { stack = course; asker = p }

    move_by : (move : AskMove E) (p : Asker A) → HasNumber p
        → StandsForMove move course.standing p.awaiting → MayMove move (fed p)
    move_by moves.Wait p plays stands = tt
    move_by moves.Say p plays stands = record {
      number = plays;
      side = side_of_course (h.told ++ a.0) course a.1.stands;
      fault = clear;
      standing = stands;
    }
    move_by (moves.End end) p plays stands = tt

    -- what comes of it may be done
    pub may_move : MayMove (input_heeded acts input old.asker).1
        (fed (input_heeded acts input old.asker).0)
    may_move = move_by (input_heeded acts input old.asker).1 (input_heeded acts input old.asker).0
        (input-number acts input old.asker h.number)
        (input-stands acts input old.asker old.stack.standing course.standing h.standing follows)

    -- what it has heard then
    abbrev all_told : AskerState A E
    all_told = record step.state { told = step.state.told ++ a.0 }

    abbrev answers : List ℕ
    answers = answers_to step.state.role a.0

    abbrev moved_step : Asker A → AskMove E → List I → AskerStep A E I
    moved_step p move shown =
        let r : AskerStep A E I = moved acts p move all_told in
        a_step r.state (answers ++ r.said) shown

    abbrev next_step : Asker A → AskMove E → List I → AskerStep A E I
    next_step p move shown = with_step step (moved_step p move shown)

    abbrev told : List Arrival
    told = h.told ++ a.0

    input_is : asker_steps acts a.0 step.state ≡ input_steps acts input a.0 step.state
    input_is = subst (λ (ts : List Arrival).
        asker_steps acts ts step.state ≡ input_steps acts input ts step.state) (sym a.3.is)
        (handed_steps acts a.3.passed a.3.last input step.state a.3.quiet last_is h.lasts)

    said_mid : mid ++ [] ≡ out ++ (answers ++ [])
    said_mid = append-nil mid ∙ a.1.answered
        ∙ ap (λ (l : List ℕ). out ++ l) (sym (append-nil answers))

    -- where nothing is said behind the answers
    says_answers : (state : AskerState A E) (shown line : List I)
        → SaysMore step (with_step step (a_step state (answers ++ []) line))
        out (mid ++ []) shown (shown ++ line)
    says_answers state shown line = record {
      said = record { added = answers ++ []; is = refl; appended = said_mid };
      shown = record { added = line; is = refl; appended = refl };
    }

    setup_is : course.setup ≡ setup_after (step.state.told ++ a.0)
    setup_is = a.3.setup
        ∙ ap (λ (ts : List Arrival). setup_after (ts ++ a.0)) (sym h.heard.told_is)

    heard_by : (move : AskMove E) (p : Asker A) (shown line : List I)
        → HasHeard acts title agenda told (next_step p move line) → HasNumber p
        → StandsForMove move course.standing p.awaiting
        → HeardOn (goes_on move) acts title agenda octets step out
        (mid ++ move_said acts move (fed p))
        shown (shown ++ line) (moved_on acts move (fed p))
    heard_by moves.Wait p shown line heard_is plays stands = (
      next_step p moves.Wait line,
      record {
        told = told;
        heard = heard_is;
        asker = refl;
        lasts = h.lasts;
        end = h.end;
        stands = a.1.stands;
        number = plays;
        fault = clear;
        standing = stands;
      },
      says_answers (moved acts p moves.Wait all_told).state shown line,
    )
    heard_by moves.Say p shown line heard_is plays stands =
        let asks : AssociationSetup → List ℕ = λ setup. awaited_said acts setup p.awaiting p in
        let setup : AssociationSetup = setup_after (step.state.told ++ a.0) in
        let same = awaiting_as_before acts course p.awaiting p
        (side_of_course told course a.1.stands) in (
          next_step p moves.Say line,
          record {
            told = told;
            heard = heard_is;
            asker = refl;
            lasts = h.lasts;
            end = h.end;
            stands = awaiting_stands acts octets told all_told course p.awaiting p
                (ap (λ (ts : List Arrival). ts ++ a.0) h.heard.told_is) clear a.1.stands;
            number = plays;
            fault = same.fault ∙ clear;
            standing = same.standing ∙ stands;
          },
          record {
            said = record {
              added = answers ++ asks setup;
              is = refl;
              appended = ap (λ (x : AssociationSetup). mid ++ asks x) setup_is
                  ∙ ap (λ (l : List ℕ). l ++ asks setup) a.1.answered
                  ∙ append_assoc out answers (asks setup);
            };
            shown = record { added = line; is = refl; appended = refl };
          },
        )
    heard_by (moves.End end) p shown line heard_is plays stands =
        let next : AskerStep A E I = next_step p (moves.End end) line in
        let f = front_of told course clear a.1.stands in
        let is : asker_behind acts title agenda octets ≡ next =
        ended_heard acts title agenda octets told next end f.messages heard_is refl f.starts f.tell
        in (
          record {
            asker = sym (ap (λ (r : AskerStep A E I). r.state.asker) is);
            end = sym (ap (λ (r : AskerStep A E I). r.state.end) is);
            goes = λ more.
                let g = front_on more told f in
                ended_heard acts title agenda (octets ++ more) told next end g.messages heard_is
                refl
                g.starts g.tell ∙ sym is;
          },
          subst (λ (r : AskerStep A E I). SaysMore step r out (mid ++ []) shown (shown ++ line))
              (sym is)
              (says_answers (moved acts p (moves.End end) all_told).state shown line),
        )

    -- what is handed out is heard
    heard_at : (shown : List I) (p : Asker A) → p ≡ step.state.asker
        → HeardOn (goes_on (input_heeded acts input p).1) acts title agenda octets step out
        (mid ++ move_said acts (input_heeded acts input p).1 (fed (input_heeded acts input p).0))
        shown (shown ++ input_shown acts input p)
        (moved_on acts (input_heeded acts input p).1 (fed (input_heeded acts input p).0))
    heard_at shown p e =
        let q : Asker A = step.state.asker in
        let is : old.asker ≡ q = h.asker in
        subst (λ (p : Asker A).
        HeardOn (goes_on (input_heeded acts input p).1) acts title agenda octets step out
        (mid ++ move_said acts (input_heeded acts input p).1 (fed (input_heeded acts input p).0))
        shown (shown ++ input_shown acts input p)
        (moved_on acts (input_heeded acts input p).1 (fed (input_heeded acts input p).0)))
        (sym e)
        (heard_by (input_heeded acts input q).1 (input_heeded acts input q).0 shown
        (input_shown acts input q)
        (heard_on acts title agenda h.told a.0 step (input_steps acts input a.0 step.state) h.heard
        input_is (input-told acts input a.0 step.state))
        (input-number acts input q (subst (λ (p : Asker A). HasNumber p) is h.number))
        (input-stands acts input q old.stack.standing course.standing
        (h.standing ∙ ap (λ (p : Asker A). standing_for p.awaiting) is) follows))

    pub heard_input : (more : Bool) (written : List ℕ) (shown behind : List I)
        (new : CallingEnd A E)
        → more ≡ goes_on (input_heeded acts input old.asker).1
        → written ≡ mid ++ move_said acts (input_heeded acts input old.asker).1
        (fed (input_heeded acts input old.asker).0)
        → behind ≡ shown ++ input_shown acts input old.asker
        → new ≡ moved_on acts (input_heeded acts input old.asker).1
        (fed (input_heeded acts input old.asker).0)
        → HeardOn more acts title agenda octets step out written shown behind new
    heard_input more written shown behind new more_is written_is behind_is new_is =
        let m = input_heeded acts input old.asker in
        let w : List ℕ = mid ++ move_said acts m.1 (fed m.0) in
        let b : List I = shown ++ input_shown acts input old.asker in
        subst (λ (c : CallingEnd A E). HeardOn more acts title agenda octets step out written shown
        behind c)
        (sym new_is)
        (subst (λ (l : List I). HeardOn more acts title agenda octets step out written shown l
        (moved_on acts m.1 (fed m.0))) (sym behind_is)
        (subst (λ (l : List ℕ). HeardOn more acts title agenda octets step out l shown b
        (moved_on acts m.1 (fed m.0))) (sym written_is)
        (subst (λ (x : Bool). HeardOn x acts title agenda octets step out w shown b
        (moved_on acts m.1 (fed m.0))) (sym more_is)
        (heard_at shown old.asker h.asker))))

  -- ---- where nothing is handed out

  abbrev quiet_behind : List Arrival → AskerStep A E I
  quiet_behind later = with_step step (quiet_step later step.state)

  quiet_heard : (later : List Arrival) → handed_out later ≡ []
      → HasHeard acts title agenda (h.told ++ later) (quiet_behind later)
  quiet_heard later quiet =
      heard_on acts title agenda h.told later step (quiet_step later step.state) h.heard
      (quiet_steps acts later step.state quiet h.lasts) refl

  pub free : is_offered old.stack.standing ≡ false
  free = ap is_offered h.standing ∙ never_offered old.asker.awaiting

  pub heard_all : (course : Course) (out mid : List ℕ) (shown : List I)
      → IsNextAnswer step.state.role octets h.told old.stack out (Ok None) course mid
      → course.fault ≡ None → course.standing ≡ old.stack.standing
      → HeardOn false acts title agenda octets step out mid shown shown
      (record old { stack = course })
  heard_all course out mid shown a clear follows =
      let told : List Arrival = h.told ++ a.0 in
      let next : AskerStep A E I = quiet_behind a.0 in
      let new : CallingEnd A E = record old { stack = course } in
      let left = subst (λ (b : Bool). MatchBool b (a.0 ≡ [])
      (((rest : List ℕ) × Tells step.state.role octets (h.told ++ a.0) rest)
      × IsCourseSettled course)) free a.3 in
      let heard_is : HasHeard acts title agenda told next = quiet_heard a.0 a.2 in
      let is : asker_behind acts title agenda octets ≡ next =
      all_heard acts title agenda octets left.0.0 told next heard_is left.0.1 in
      let hears : Hears acts title agenda octets next new = record {
        told = told;
        heard = heard_is;
        asker = h.asker;
        lasts = h.lasts;
        end = h.end;
        stands = a.1.stands;
        number = h.number;
        fault = clear;
        standing = follows ∙ h.standing;
      } in
      let says : SaysMore step next out mid shown shown = record {
        said = record
            { added = answers_to step.state.role a.0; is = refl; appended = a.1.answered };
        shown = record { added = []; is = refl; appended = sym (append-nil shown) };
      } in (
        record {
          asker = h.asker ∙ sym (ap (λ (r : AskerStep A E I). r.state.asker) is);
          end = h.end ∙ sym (ap (λ (r : AskerStep A E I). r.state.end) is ∙ h.lasts);
          goes = none_match (HasHeardAll acts title agenda octets new)
              (λ (end : AskEnd E). IsOver acts title agenda octets) old.end h.end
              (record {
                hears = subst (λ (r : AskerStep A E I). Hears acts title agenda octets r new)
                    (sym is) hears;
                settled = left.1;
              });
        },
        subst (λ (r : AskerStep A E I). SaysMore step r out mid shown shown) (sym is) says,
      )

  pub heard_fault : (course : Course) (out mid : List ℕ) (shown : List I) (fault : StackFault)
      → IsNextAnswer step.state.role octets h.told old.stack out (Err fault) course mid
      → HeardOn false acts title agenda octets step out mid shown shown
      (record old { stack = course; end = Some (ends.Refused fault) })
  heard_fault course out mid shown fault a =
      let told : List Arrival = h.told ++ a.0 in
      let next : AskerStep A E I = quiet_behind a.0 in
      let last : AskerStep A E I = step_then next (broken_step fault) in
      let heard_is : HasHeard acts title agenda told next = quiet_heard a.0 a.2 in
      let is : asker_behind acts title agenda octets ≡ last =
      broken_heard acts title agenda octets told next fault heard_is h.lasts a.3 in
      let says : SaysMore step last out mid shown shown = record {
        said = record {
          added = answers_to step.state.role a.0;
          is = append-nil next.said;
          appended = a.1.answered;
        };
        shown = record {
          added = [];
          is = append-nil next.shown;
          appended = sym (append-nil shown);
        };
      } in (
        record {
          asker = h.asker ∙ sym (ap (λ (r : AskerStep A E I). r.state.asker) is);
          end = sym (ap (λ (r : AskerStep A E I). r.state.end) is);
          goes = λ more.
              broken_heard acts title agenda (octets ++ more) told next fault heard_is h.lasts
              (fault_stays step.state.role octets more told fault a.3) ∙ sym is;
        },
        subst (λ (r : AskerStep A E I). SaysMore step r out mid shown shown) (sym is) says,
      )

-- ---- a piece more

pub fed_clear : (fault : Option StackFault) (standing : EndState) (awaiting : Awaiting)
    → state_with fault standing ≡ state_by (standing_for awaiting) → fault ≡ None
fed_clear None standing awaiting e = refl
fed_clear (Some f) standing awaits.Association e = absurd cc
fed_clear (Some f) standing awaits.Reply e = absurd cc
fed_clear (Some f) standing awaits.Nothing e = absurd cc
fed_clear (Some f) standing awaits.Conclusion e = absurd cc
fed_clear (Some f) standing awaits.Release e = absurd cc

pub fed_hears : {A E I : Type 0} (acts : AgendaActs A E I) (title : Option (List ℕ)) (agenda : A)
    (octets piece : List ℕ) (step : AskerStep A E I)
    (old : CallingEnd A E) (course : Course) → (h : Hears acts title agenda octets step old)
    → CourseStands step.state.role (octets ++ piece) h.told course
    → stack_state_of course ≡ stack_state_of old.stack → course.standing ≡ old.stack.standing
    → Hears acts title agenda (octets ++ piece) step (record old { stack = course })
fed_hears acts title agenda octets piece step old course h stands state standing = record {
  told = h.told;
  heard = h.heard;
  asker = h.asker;
  lasts = h.lasts;
  end = h.end;
  stands = stands;
  number = h.number;
  fault = fed_clear course.fault course.standing old.asker.awaiting
      (state ∙ ap (λ (f : Option StackFault). state_with f old.stack.standing) h.fault
      ∙ ap (λ (s : EndState). state_by s) h.standing);
  standing = standing ∙ h.standing;
}

-- it hasn't ended, and has heard all
pub heard_so_far : {A E I : Type 0} (acts : AgendaActs A E I) (title : Option (List ℕ)) (agenda : A)
    (octets : List ℕ) (c : CallingEnd A E)
    → c.end ≡ None → AskerStands acts title agenda octets c → HasHeardAll acts title agenda octets c
heard_so_far {E = E} acts title agenda octets c e s =
    match_none (HasHeardAll acts title agenda octets c)
    (λ (end : AskEnd E). IsOver acts title agenda octets)
    c.end e s.goes

pub piece_taken : {A E I : Type 0} (acts : AgendaActs A E I) (title : Option (List ℕ)) (agenda : A)
    (octets piece : List ℕ)
    (out written : List ℕ) (shown behind : List I) (c : CallingEnd A E)
    → HeardOn false acts title agenda (octets ++ piece) (asker_behind acts title agenda octets)
    out written shown behind c
    → TakesPiece acts title agenda octets piece out written shown behind c
piece_taken acts title agenda octets piece out written shown behind c a = record {
  stands = a.0;
  says = record {
    said = adds_behind (connection_request_octets 1) (asker_behind acts title agenda octets).said
        (asker_behind acts title agenda (octets ++ piece)).said out written a.1.said;
    shown = a.1.shown;
  };
}

-- it has ended before
pub piece_dropped : {A E I : Type 0} (acts : AgendaActs A E I) (title : Option (List ℕ))
    (agenda : A) (octets piece : List ℕ)
    (out : List ℕ) (shown : List I) (c : CallingEnd A E) (end : AskEnd E) → c.end ≡ Some end
    → AskerStands acts title agenda octets c
    → TakesPiece acts title agenda octets piece out out shown shown c
piece_dropped {A = A} {E = E} {I = I} acts title agenda octets piece out shown c end e s =
    let over : IsOver acts title agenda octets =
    match_some (HasHeardAll acts title agenda octets c)
    (λ (end : AskEnd E). IsOver acts title agenda octets)
    c.end end e s.goes in
    let is : asker_behind acts title agenda (octets ++ piece) ≡ asker_behind acts title agenda
    octets =
    over piece in
    piece_taken acts title agenda octets piece out out shown shown c (
      record {
        asker = s.asker ∙ sym (ap (λ (r : AskerStep A E I). r.state.asker) is);
        end = s.end ∙ sym (ap (λ (r : AskerStep A E I). r.state.end) is);
        goes = some_match (HasHeardAll acts title agenda (octets ++ piece) c)
            (λ (end : AskEnd E). IsOver acts title agenda (octets ++ piece)) c.end end e
            (λ more. ap (asker_behind acts title agenda) (append_assoc octets piece more)
            ∙ over (piece ++ more) ∙ sym is);
      },
      subst (λ (r : AskerStep A E I). SaysMore (asker_behind acts title agenda octets) r out out
          shown shown)
          (sym is) (says_none (asker_behind acts title agenda octets) out shown),
    )

-- ---- before anything has come

waiting_alone : (f : Option StackFault) (s : EndState) → state_with f s ≡ states.Waiting
    → (f ≡ None) × (s ≡ standings.Waiting)
waiting_alone None standings.Waiting e = (refl, refl)
waiting_alone None standings.Offered e = absurd cc
waiting_alone None standings.BadlyOffered e = absurd cc
waiting_alone None standings.Accepted e = absurd cc
waiting_alone None standings.Finishing e = absurd cc
waiting_alone None standings.Closed e = absurd cc
waiting_alone (Some f) s e = absurd cc

abbrev pub calling_end : {A E : Type 0} → Course → A → CallingEnd A E
calling_end course agenda = record { stack = course; asker = at_call agenda; end = None }

pub calling_stands : {A E I : Type 0} (acts : AgendaActs A E I) (title : Option (List ℕ))
    (agenda : A) (course : Course)
    → CourseStands (calling title None) [] [] course → IsCourseSettled course
    → stack_state_of course ≡ states.Waiting
    → AskerStands acts title agenda [] (calling_end course agenda)
calling_stands {A = A} {E = E} {I = I} acts title agenda course stands settled waiting =
    let w = waiting_alone course.fault course.standing waiting in
    let start : AskerStep A E I = silent (asker_start acts title agenda) in
    let is : asker_behind acts title agenda [] ≡ start = nothing_behind acts title agenda in
    let new : CallingEnd A E = calling_end course agenda in
    let hears : Hears acts title agenda [] start new = record {
      told = [];
      heard = record { is = refl; told_is = refl };
      asker = refl;
      lasts = refl;
      end = refl;
      stands = stands;
      number = omega arith;
      fault = w.0;
      standing = w.1;
    } in
    record {
      asker = sym (ap (λ (r : AskerStep A E I). r.state.asker) is);
      end = sym (ap (λ (r : AskerStep A E I). r.state.end) is);
      goes = record {
        hears = subst (λ (r : AskerStep A E I). Hears acts title agenda [] r new) (sym is) hears;
        settled = settled;
      };
    }

pub calling_said : {A E I : Type 0} (acts : AgendaActs A E I) (title : Option (List ℕ)) (agenda : A)
    → (asker_of acts title agenda []).said ≡ connection_request_octets 1
calling_said {A = A} {E = E} {I = I} acts title agenda =
    ap (λ (r : AskerStep A E I). connection_request_octets 1 ++ r.said)
    (nothing_behind acts title agenda)
    ∙ append-nil (connection_request_octets 1)
