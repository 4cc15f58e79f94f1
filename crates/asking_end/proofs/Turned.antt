-- A turn of a client: a piece is heard, or dropped.
use Rattle.std.proofs.Common.{◌≡◌, ℕ, List, ◌++◌, Bool, false, Option, Some, None, MatchOption}
use Rattle.std.proofs.Common.{refl}
use Rattle.std.proofs.Common.{sym, ap, subst, ◌∙◌, Result, Ok, Err, OnErr, [], ◌≤◌, length, arith}
use Rattle.std.specs.Prelude.{option_map}
use Rattle.std.proofs.Common.{take, drop, append_assoc}
use Rattle.std.proofs.lemmas.List.{append-nil, take_at, take-append-drop}
use Rattle.std.proofs.Math.Seq.{take-append_seam}
use Rattle.asking_end.specs.Agendas.{ShowsFirst}
use Rattle.ber_values.proofs.Capped.{length-written, part_size-short}
use Rattle.mms_services.specs.declared.pdu.MmsPdu.TheVariants as pdus
use Rattle.mms_services.specs.PduOctets.{pdu_octets, pdu_len}
use Rattle.plain_text.specs.Extends.{Extends}
use Rattle.stack_assoc.specs.declared.messages.fault.StackFault.{StackFault}
use Rattle.stack_assoc.specs.declared.input.StackIn.{StackIn}
use Rattle.stack_assoc.specs.Arrivals.{Arrival, Role}
use Rattle.stack_assoc.specs.Courses.{Course, IsNextAnswer, EndStandsBehind}
use Rattle.stack_assoc.specs.Courses.{is_offered}
use Rattle.stack_assoc.specs.Steps.{left_of}
use Rattle.tase_views.specs.declared.call.CallKind.{CallKind}
use Rattle.asking_end.specs.declared.asker.Awaiting.TheVariants as awaits
use Rattle.asking_end.specs.declared.asker.AskMove.TheVariants as moves
use Rattle.asking_end.specs.Agendas.{AgendaActs}
use Rattle.asking_end.specs.Askers.{AskerStep, asker_behind}
use Rattle.asking_end.specs.Callers.{Hears, IsHearing, HasHeardAll, IsOver, AskerStands, MayBeFed}
use Rattle.asking_end.specs.Callers.{IsCaller, HeardOn, course_saying, course_awaiting, moved_on}
use Rattle.asking_end.specs.Callers.{move_said, goes_on, MayMove}
use Rattle.asking_end.specs.Hearings.{input_heeded, input_shown}
use Rattle.asking_end.specs.Sayings.{request_pdu}
use Rattle.asking_end.specs.declared.asker.AskMove.{AskMove}
use Rattle.asking_end.specs.declared.asker.Asker.{Asker}
use Rattle.asking_end.specs.declared.asker.Awaiting.{Awaiting}
use Rattle.asking_end.specs.declared.calling.CallingEnd.{CallingEnd}
use Rattle.asking_end.specs.declared.end.AskEnd.{AskEnd}
use Rattle.asking_end.proofs.Standing.{never_offered}
use Rattle.asking_end.proofs.Callers.{match_none, some_match, may_move, heard_input}
use Rattle.asking_end.proofs.Callers.{next_extends, extended_by}

match_map : {T : Type 0} (A B : Type 0) (C D : T → Type 0) (o : Option T) → (A → B)
    → ((x : T) → C x → D x) → MatchOption o A C → MatchOption o B D
match_map A B C D None f g m = f m
match_map A B C D (Some x) f g m = g x m

-- a client that stands somewhere may be fed more, or has ended
pub is_caller : {A E I : Type 0} (acts : AgendaActs A E I) (title : Option (List ℕ)) (agenda : A)
    (octets : List ℕ) (c : CallingEnd A E)
    → AskerStands acts title agenda octets c → IsCaller acts c
is_caller {E = E} acts title agenda octets c s =
    match_map (HasHeardAll acts title agenda octets c) (MayBeFed acts c)
    (λ (end : AskEnd E). IsOver acts title agenda octets) (λ (end : AskEnd E). Unit {0}) c.end
    (λ a. record {
      hearing = record {
        title = title;
        agenda = agenda;
        octets = octets;
        step = asker_behind acts title agenda octets;
        hears = a.hears;
      };
      settled = a.settled;
    }) (λ end over. tt) s.goes

-- one that has ended has an end
pub ended_caller : {A E I : Type 0} (acts : AgendaActs A E I) (c : CallingEnd A E) (end : AskEnd E)
    → c.end ≡ Some end
    → IsCaller acts c
ended_caller {E = E} acts c end e =
    some_match (MayBeFed acts c) (λ (end : AskEnd E). Unit {0}) c.end end e tt

pub fed_caller : {A E I : Type 0} (acts : AgendaActs A E I) (c : CallingEnd A E) → c.end ≡ None
    → IsCaller acts c
    → MayBeFed acts c
fed_caller {E = E} acts c e i = match_none (MayBeFed acts c) (λ (end : AskEnd E). Unit {0}) c.end e
    i

pub free_caller : {A E I : Type 0} (acts : AgendaActs A E I) (c : CallingEnd A E) → IsHearing acts c
    → is_offered c.stack.standing ≡ false
free_caller acts c w =
    ap is_offered w.hears.standing ∙ never_offered c.asker.awaiting

-- ---- what is handed out is heard, and what comes of it is done

module _ {A E I : Type 0} (acts : AgendaActs A E I) (title : Option (List ℕ)) (agenda : A)
    (octets : List ℕ) (step : AskerStep A E I)
    (old : CallingEnd A E) (h : Hears acts title agenda octets step old) (input : StackIn)
    (course : Course)
    (out mid : List ℕ)
    (a : IsNextAnswer step.state.role octets h.told old.stack out (Ok (Some input)) course mid)
    (clear : course.fault ≡ None)
    (follows : EndStandsBehind input old.stack.standing course.standing)
    (move : AskMove E) (between : CallingEnd A E)
    (move_is : move ≡ (input_heeded acts input old.asker).1)
    (between_is : between
    ≡ record old { stack = course; asker = (input_heeded acts input old.asker).0 }) where
  pub may_move_on : MayMove move between
  may_move_on =
      subst (λ (m : AskMove E). MayMove m between) (sym move_is)
      (subst (λ (c : CallingEnd A E). MayMove (input_heeded acts input old.asker).1 c)
      (sym between_is)
      (may_move acts title agenda octets step old h input course out mid a clear follows))

  pub heard_moved : (more : Bool) (written : List ℕ) (shown behind : List I) (new : CallingEnd A E)
      → more ≡ goes_on move → written ≡ mid ++ move_said acts move between
      → behind ≡ shown ++ input_shown acts input old.asker → new ≡ moved_on acts move between
      → HeardOn more acts title agenda octets step out written shown behind new
  heard_moved more written shown behind new more_is written_is behind_is new_is =
      let m = (input_heeded acts input old.asker).1 in
      heard_input acts title agenda octets step old h input course out mid a clear follows more
      written
      shown behind new (more_is ∙ ap goes_on move_is)
      (written_is ∙ ap (λ (m : AskMove E). mid ++ move_said acts m between) move_is
      ∙ ap (λ (c : CallingEnd A E). mid ++ move_said acts m c) between_is) behind_is
      (new_is ∙ ap (λ (m : AskMove E). moved_on acts m between) move_is
      ∙ ap (λ (c : CallingEnd A E). moved_on acts m c) between_is)

-- it appends what it says
pub answer_extends : (role : Role) (octets : List ℕ) (told : List Arrival) (old new : Course)
    (out written : List ℕ) (answer : Result (Option StackIn) StackFault)
    → IsNextAnswer role octets told old out answer new written → Extends out written
answer_extends role octets told old new out written answer a =
    let e = next_extends role octets told old new out written answer a in
    extended_by out written e.0 e.1

-- where it goes on, as much is left of the stream as before
said_left : (number : ℕ) (call : Option CallKind) (v : Course)
    → left_of (course_saying (option_map (request_pdu number) call) v) ≡ left_of v
said_left number None v = refl
said_left number (Some call) v = refl

awaiting_left : {A E I : Type 0} (acts : AgendaActs A E I) (awaiting : Awaiting) (p : Asker A)
    (v : Course)
    → left_of (course_awaiting acts awaiting p v) ≡ left_of v
awaiting_left acts awaits.Association p v = refl
awaiting_left acts awaits.Reply p v = said_left p.last (acts.call p.agenda) v
awaiting_left acts awaits.Nothing p v = refl
awaiting_left acts awaits.Conclusion p v = refl
awaiting_left acts awaits.Release p v = refl

pub moved_left : {A E I : Type 0} (acts : AgendaActs A E I) (move : AskMove E) (c : CallingEnd A E)
    → left_of (moved_on acts move c).stack ≡ left_of c.stack
moved_left acts moves.Wait c = refl
moved_left acts moves.Say c = awaiting_left acts c.asker.awaiting c.asker c.stack
moved_left acts (moves.End end) c = refl

-- a conclude is short
pub conclude_few : pdu_len pdus.Conclude ≤ 65000
unfolding pdu_octets
conclude_few =
    let all : length (pdu_octets pdus.Conclude) ≤ 6 =
    omega (arith, length-written 139 [], part_size-short 0 (omega arith)) in
    omega (arith, all)

-- whatever the error
pub on_err : {T E : Type 0} (P : Type 0) (r : Result T E) → P → OnErr r P
on_err P (Ok x) p = tt
on_err P (Err e) p = p

-- what is as before begins with what was before
pub extended_same : (old new : List ℕ) → new ≡ old → Extends old new
extended_same old new e = extended_by old new [] (e ∙ sym (append-nil old))

-- what is shown begins with what was shown before
pub shows_more : {T : Type 0} (old new more : List T) → new ≡ old ++ more → ShowsFirst old new
shows_more {T = T} old new more e =
    ap (λ (l : List T). take (length old) l) e ∙ take_at old more (length old) refl

pub shows_same : {T : Type 0} (old new : List T) → new ≡ old → ShowsFirst old new
shows_same old new e = shows_more old new [] (e ∙ sym (append-nil old))

-- what begins with more begins with less
pub shows_less : {T : Type 0} (xs ys zs : List T) → ShowsFirst (xs ++ ys) zs → ShowsFirst xs zs
shows_less {T = T} xs ys zs e =
    let n = length (xs ++ ys) in
    let whole : zs ≡ xs ++ (ys ++ drop n zs) = sym (take-append-drop n zs)
    ∙ ap (λ (t : List T). t ++ drop n zs) e ∙ append_assoc xs ys (drop n zs) in
    ap (take (length xs)) whole ∙ take-append_seam xs (ys ++ drop n zs)
