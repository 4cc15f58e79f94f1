-- An end that has said something stands where it stood.
use Rattle.std.proofs.Common.{◌≡◌, ℕ, ◌+◌, ◌<◌, ◌≤◌, Bool, true, false, not, ◌&&◌, List, [], ◌∷◌, ◌++◌}
use Rattle.std.proofs.Common.{length, Option, Some, None, MatchOption, refl, sym, ap, subst, arith}
use Rattle.std.specs.List.{list_any}
use Rattle.std.proofs.lemmas.Bool.{lt-leb}
use Rattle.std.proofs.lemmas.List.{length-append}
use Rattle.tpkt_cotp.specs.Streams.{Message, asks, confirms, gone, tsdu}
use Rattle.mms_services.specs.declared.pdu.MmsPdu.{MmsPdu}
use Rattle.stack_assoc.specs.declared.messages.expecting.Expecting.{Expecting}
use Rattle.stack_assoc.specs.Messages.Messages.{message}
use Rattle.stack_assoc.specs.declared.messages.fault.StackFault.{StackFault}
use Rattle.stack_assoc.specs.declared.end_state.EndState.{EndState}
use Rattle.stack_assoc.specs.InTurn.{SpellInTurn}
use Rattle.tpkt_cotp.specs.declared.turn.Role as transport
use Rattle.tpkt_cotp.specs.Lines as lines
use Rattle.stack_assoc.specs.declared.messages.expecting.Side.{Side}
use Rattle.stack_assoc.specs.declared.messages.expecting.Side.TheVariants as sides
use Rattle.stack_assoc.specs.declared.input.StackState.TheVariants as states
use Rattle.stack_assoc.specs.declared.milestones.Milestones.{Milestones}
use Rattle.stack_assoc.specs.Arrivals.{side_of, end_of}
use Rattle.stack_assoc.specs.Knowing.{Knows}
use Rattle.stack_assoc.specs.Courses.{Course, messages_taken, ReadsMessages, CourseStands, state_with}
use Rattle.stack_assoc.specs.Saying.{known_concluding, known_said, says_conclude, with_said}
use Rattle.stack_assoc.specs.Saying.{role_concluding, role_by, role_said}
use Rattle.stack_assoc.specs.Arrivals.{Arrival, asked, confirmed, heard, Role, called, calling, is_concluded}
use Rattle.stack_assoc.specs.Arrivals as told
use Rattle.stack_assoc.specs.Expectations.{expecting_after, setup_after, phase_after}
use Rattle.stack_assoc.specs.Tellings.{TellsNext, Tell, StopsTelling}

abbrev awaiting : Option (List ℕ) → List Arrival → Bool → Expecting
awaiting title before awaited = record {
  side = (expecting_after (calling title None) before).side;
  phase = phase_after (calling title None) before;
  acse = (setup_after before).acse;
  mms = (setup_after before).mms;
  awaited = awaited;
}

-- before conclude was said nothing is awaited
not_awaited : (title : Option (List ℕ)) (n : ℕ) (before : List Arrival) → length before < n
    → expecting_after (calling title (Some n)) before ≡ expecting_after (calling title None) before
not_awaited title n before few =
    ap (λ (b : Bool). awaiting title before (b && not (list_any is_concluded before)))
    (lt-leb n (length before) few)

tells_said : (title : Option (List ℕ)) (n : ℕ) (before : List Arrival) (t : Arrival) (m : Message)
    → length before < n → TellsNext (calling title None) before t m
    → TellsNext (calling title (Some n)) before t m
tells_said title n before (asked r) (asks q) few s = s
tells_said title n before (confirmed c) (confirms d) few s = s
tells_said title n before told.gone gone few s = s
tells_said title n before (heard h) (tsdu place octets) few s =
    let P : Expecting → Type 0 = λ e. (message e octets).says h in
    subst P (sym (not_awaited title n before few)) s
tells_said title n before (asked r) (confirms d) few s = absurd s
tells_said title n before (asked r) gone few s = absurd s
tells_said title n before (asked r) (tsdu place octets) few s = absurd s
tells_said title n before (confirmed c) (asks q) few s = absurd s
tells_said title n before (confirmed c) gone few s = absurd s
tells_said title n before (confirmed c) (tsdu place octets) few s = absurd s
tells_said title n before told.gone (asks q) few s = absurd s
tells_said title n before told.gone (confirms d) few s = absurd s
tells_said title n before told.gone (tsdu place octets) few s = absurd s
tells_said title n before (heard h) (asks q) few s = absurd s
tells_said title n before (heard h) (confirms d) few s = absurd s
tells_said title n before (heard h) gone few s = absurd s

in_turn_said : (title : Option (List ℕ)) (n : ℕ) (before ts : List Arrival) (ms : List Message)
    → length before + length ts ≤ n → SpellInTurn (TellsNext (calling title None)) before ts ms
    → SpellInTurn (TellsNext (calling title (Some n))) before ts ms
in_turn_said title n before [] [] few s = tt
in_turn_said title n before [] (m ∷ ms) few s = absurd s
in_turn_said title n before (t ∷ ts) [] few s = absurd s
in_turn_said title n before (t ∷ ts) (m ∷ ms) few s = (
  tells_said title n before t m (omega (arith, few)) s.0,
  in_turn_said title n (before ++ t ∷ []) ts ms
      (let l = length-append before (t ∷ []) in omega (arith, l, few)) s.1,
)

-- what was told stays so once conclude was said behind it
pub tell_said : (title : Option (List ℕ)) (told : List Arrival) (ms : List Message)
    → Tell (calling title None) told ms → Tell (calling title (Some (length told))) told ms
tell_said title told ms s = in_turn_said title (length told) [] told ms (omega arith) s

same_reads : (role : Role) (octets : List ℕ) (told : List Arrival) (old : Course)
    (standing : EndState) (fault : Option StackFault) → MatchOption fault
    (ReadsMessages role octets told old) (λ f. StopsTelling role octets told f) → MatchOption fault
    (ReadsMessages role octets told (record old { standing = standing })) (λ f. StopsTelling role octets told f)
same_reads role octets told old standing None r =
    record { messages = r.messages; tell = r.tell; stands = r.stands }
same_reads role octets told old standing (Some f) s = s

-- ---- the offer and the association don't matter to where an end stands in its stream

pub stands_standing : (role : Role) (octets : List ℕ) (told : List Arrival) (old new : Course)
    (standing : EndState) → CourseStands role octets told old → new ≡ record old { standing = standing }
    → CourseStands role octets told new
stands_standing role octets told old new standing s is =
    let P : Course → Type 0 = λ v. CourseStands role octets told v in
    subst P (sym is) (record {
      title = s.title;
      knows = s.knows;
      since = s.since;
      setup = s.setup;
      reads = same_reads role octets told old standing old.fault s.reads;
    })

-- ---- what was said

reads_said : (role other : Role) (octets : List ℕ) (told : List Arrival) (old : Course) (k : Milestones)
    (fault : Option StackFault) → fault ≡ None → end_of role ≡ end_of other
    → ((ms : List Message) → Tell role told ms → Tell other told ms) → MatchOption fault
    (ReadsMessages role octets told old) (λ f. StopsTelling role octets told f) → MatchOption fault
    (ReadsMessages other octets told (record old { known = k })) (λ f. StopsTelling other octets told f)
reads_said role other octets told old k None e same to r =
    let P : transport.Role → Type 0 = λ end. lines.Stands end octets (r.messages ++ messages_taken old) old.line
    in
    record { messages = r.messages; tell = to r.messages r.tell; stands = subst P same r.stands }
reads_said role other octets told old k (Some f) e same to s = absurd cc

abbrev pub concluding : Course → Milestones → Course
concluding v k = record v { known = k }

-- what has come is the same once this end has said conclude
knows_concluding : (title : Option (List ℕ)) (said : Option ℕ) (n : ℕ) (told : List Arrival)
    (k : Milestones) → Knows (calling title said) told k
    → Knows (calling title (Some n)) told (known_concluding sides.Calling k)
knows_concluding title said n told k knows = record {
  side = knows.side;
  begun = knows.begun;
  confirmed = knows.confirmed;
  connected = knows.connected;
  accepted = knows.accepted;
  refused = knows.refused;
  concluding = knows.concluding;
  concluded = knows.concluded;
  said = refl;
}

stands_concluding : (role : Role) (octets : List ℕ) (told : List Arrival) (old : Course) (side : Side)
    → old.fault ≡ None → CourseStands role octets told old → side ≡ side_of role
    → CourseStands (role_concluding role told) octets told
    (concluding old (known_concluding side old.known))
stands_concluding called octets told old side none s e =
    let P : Side → Type 0 = λ x. CourseStands called octets told
    (concluding old (known_concluding x old.known)) in
    subst P (sym e) s
stands_concluding (calling title None) octets told old side none s e =
    let P : Side → Type 0 = λ x. CourseStands (calling title (Some (length told))) octets told
    (concluding old (known_concluding x old.known)) in
    subst P (sym e) (record {
      title = s.title;
      knows = knows_concluding title None (length told) _ old.known s.knows;
      since = omega arith;
      setup = s.setup;
      reads = reads_said (calling title None) (calling title (Some (length told))) octets told old
          (known_concluding sides.Calling old.known) old.fault none refl (tell_said title told)
          s.reads;
    })
stands_concluding (calling title (Some n)) octets told old side none s e =
    let P : Side → Type 0 = λ x. CourseStands (calling title (Some n)) octets told
    (concluding old (known_concluding x old.known)) in
    subst P (sym e) (record {
      title = s.title;
      knows = knows_concluding title (Some n) n _ old.known s.knows;
      since = s.since;
      setup = s.setup;
      reads = reads_said (calling title (Some n)) (calling title (Some n)) octets told old
          (known_concluding sides.Calling old.known) old.fault none refl (λ ms t. t) s.reads;
    })

stands_by : (role : Role) (octets : List ℕ) (told : List Arrival) (old : Course) (b : Bool)
    → old.fault ≡ None → CourseStands role octets told old
    → CourseStands (role_by b role told) octets told (concluding old (known_said b old.known))
stands_by role octets told old true none s =
    stands_concluding role octets told old old.known.side none s s.knows.side
stands_by role octets told old false none s = s

pub stands_said : (role : Role) (octets : List ℕ) (told : List Arrival) (old new : Course)
    (pdu : MmsPdu) → old.fault ≡ None → CourseStands role octets told old → new ≡ with_said pdu old
    → CourseStands (role_said role told pdu) octets told new
stands_said role octets told old new pdu none s is =
    let P : Course → Type 0 = λ v. CourseStands (role_said role told pdu) octets told v in
    subst P (sym is) (stands_by role octets told old (says_conclude pdu) none s)

-- a state that is Accepted has no fault
pub accepted_clear : (fault : Option StackFault) (s : EndState)
    → state_with fault s ≡ states.Accepted → fault ≡ None
accepted_clear None s e = refl
accepted_clear (Some f) s e = absurd cc
