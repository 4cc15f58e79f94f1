-- What was heard, one message more.
use Rattle.std.proofs.Common.{◌≡◌, ℕ, Bool, true, false, List, [], ◌∷◌, ◌++◌, Option, Some, None}
use Rattle.std.proofs.Common.{Ok, Err, refl, sym, ap, subst, ◌∙◌, MatchOption, MatchBool}
use Rattle.std.proofs.Common.{inl, inr, arith, length}
use Rattle.std.specs.Prelude.{is_some}
use Rattle.std.proofs.lemmas.List.{append-nil}
use Rattle.std.proofs.lemmas.List.Elements.{filter_map-append}
use Rattle.std.proofs.lemmas.Grind.{flat_map-append}
use Rattle.stack_assoc.specs.declared.messages.fault.StackFault.{StackFault}
use Rattle.stack_assoc.specs.declared.input.StackIn.{StackIn}
use Rattle.stack_assoc.specs.declared.input.StackIn.TheVariants as inputs
use Rattle.stack_assoc.specs.declared.end_state.EndState.{EndState}
use Rattle.stack_assoc.specs.declared.end_state.EndState.TheVariants as standings
use Rattle.tpkt_cotp.specs.Lines as transport
use Rattle.stack_assoc.specs.Arrivals.{Arrival, called, first_in, connect_in}
use Rattle.stack_assoc.specs.Expectations.{setup_after}
use Rattle.stack_assoc.specs.Handing.{stack_in, handed_out, answer_to, answers_to}
use Rattle.stack_assoc.specs.Saying.{with_standing}
use Rattle.stack_assoc.specs.Tellings.{Tells, StopsTelling}
use Rattle.stack_assoc.specs.Courses.{Course, CourseStands, IsNextAnswer, NothingLeft, is_offered}
use Rattle.stack_assoc.specs.Courses.{IsCourseSettled, FollowsAnswer, EndStandsBehind, finishing}
use Rattle.stack_assoc.specs.Courses as courses
use Rattle.tase_conn.specs.Map.Readings.{Reading, TellsReading}
use Rattle.tase_conn.proofs.OfMap.ReadingLaws.{reading_only}
use Rattle.tase_conn.proofs.OfMap.Fronts.{setup_fixed}
use Rattle.tase_verify.specs.declared.association.hearing.Heard.{Heard}
use Rattle.tase_verify.specs.Association.Hearing.{HearsSome, HearsAll, HasHeard, is_offering}

-- ---- what was told stands however the end stands to the association

stands_on : (octets : List ℕ) (told : List Arrival) (v : Course) (standing : EndState)
    → CourseStands called octets told v → CourseStands called octets told (with_standing standing v)
stands_on octets told v standing s = record {
  title = s.title;
  knows = s.knows;
  since = s.since;
  setup = s.setup;
  reads = by v.fault s.reads;
}
  where
    by : (fault : Option StackFault)
        → MatchOption fault (courses.ReadsMessages called octets told v)
        (λ f. StopsTelling called octets told f)
        → MatchOption fault (courses.ReadsMessages called octets told (with_standing standing v))
        (λ f. StopsTelling called octets told f)
    by None r = record { messages = r.messages; tell = r.tell; stands = r.stands }
    by (Some fault) r = r

joined : (told later : List Arrival)
    → handed_out (told ++ later) ≡ handed_out told ++ handed_out later
joined told later = filter_map-append stack_in told later

answered : (told later : List Arrival)
    → answers_to called (told ++ later) ≡ answers_to called told ++ answers_to called later
answered told later = flat_map-append (answer_to called) told later

-- ---- behind an answer of the stack

-- what was handed out is kept
pub heard_input : (octets : List ℕ) (old new : Heard) (input : StackIn) (between : Course)
    (written : List ℕ) → (s : HearsSome octets old)
    → IsNextAnswer called octets s.told old.stack old.confirm.items (Ok (Some input)) between
    written
    → new.stack ≡ with_standing new.stack.standing between
    → new.inputs.items ≡ old.inputs.items ++ input ∷ [] → new.confirm.items ≡ written
    → HearsSome octets new
heard_input octets old new input between written s a stack inputs confirm =
    let further = a.1 in
    record {
      told = s.told ++ a.0;
      stands = subst (λ (v : Course). CourseStands called octets (s.told ++ a.0) v) (sym stack)
          (stands_on octets (s.told ++ a.0) between new.stack.standing further.stands);
      inputs = inputs ∙ ap (λ (handed : List StackIn). handed ++ input ∷ []) s.inputs
          ∙ ap (λ (handed : List StackIn). handed_out s.told ++ handed) (sym a.2)
          ∙ sym (joined s.told a.0);
      confirm = confirm ∙ further.answered
          ∙ ap (λ (os : List ℕ). os ++ answers_to called a.0) s.confirm
          ∙ sym (answered s.told a.0);
    }

-- nothing more is handed out
none_more : (octets : List ℕ) (old new : Heard) (later : List Arrival) (written : List ℕ)
    → (s : HearsSome octets old) → CourseStands called octets (s.told ++ later) new.stack
    → written ≡ old.confirm.items ++ answers_to called later → handed_out later ≡ []
    → new.inputs.items ≡ old.inputs.items → new.confirm.items ≡ written → HearsSome octets new
none_more octets old new later written s stands written_is none inputs confirm = record {
  told = s.told ++ later;
  stands = stands;
  inputs = inputs ∙ s.inputs ∙ sym (append-nil (handed_out s.told))
      ∙ ap (λ (handed : List StackIn). handed_out s.told ++ handed) (sym none)
      ∙ sym (joined s.told later);
  confirm = confirm ∙ written_is ∙ ap (λ (os : List ℕ). os ++ answers_to called later) s.confirm
      ∙ sym (answered s.told later);
}

nothing_left : (octets : List ℕ) (told later : List Arrival) (old new : Course)
    → is_offered old.standing ≡ false → NothingLeft called octets told later old new
    → ((rest : List ℕ) × Tells called octets (told ++ later) rest) × IsCourseSettled new
nothing_left octets told later old new free n =
    subst (λ (b : Bool). MatchBool b (later ≡ [])
    (((rest : List ℕ) × Tells called octets (told ++ later) rest) × IsCourseSettled new)) free n

pub heard_all : (octets : List ℕ) (old new : Heard) (written : List ℕ) → (s : HearsSome octets old)
    → is_offered old.stack.standing ≡ false
    → IsNextAnswer called octets s.told old.stack old.confirm.items (Ok None) new.stack written
    → new.stack.fault ≡ None → new.inputs.items ≡ old.inputs.items → new.confirm.items ≡ written
    → new.broken ≡ false → HearsAll octets new
unfolding none_more
heard_all octets old new written s free a clear inputs confirm broken =
    let left = nothing_left octets s.told a.0 old.stack new.stack free a.3 in
    record {
      some = none_more octets old new a.0 written s a.1.stands a.1.answered a.2 inputs confirm;
      all = subst (λ (fault : Option StackFault). TellsReading octets (s.told ++ a.0) fault)
          (sym clear) left.0;
      broken = broken ∙ ap (λ (fault : Option StackFault). is_some fault) (sym clear);
      settled = left.1;
    }

pub free_broken : (v : Course) (fault : StackFault) → v.fault ≡ Some fault → IsCourseSettled v
free_broken v fault e =
    subst (λ (f : Option StackFault).
    MatchOption f (transport.IsLineSettled v.line) (λ f. Unit {0}))
    (sym e) tt

-- a rule is broken
pub heard_fault : (octets : List ℕ) (old new : Heard) (written : List ℕ) (fault : StackFault)
    → (s : HearsSome octets old)
    → IsNextAnswer called octets s.told old.stack old.confirm.items (Err fault) new.stack written
    → new.stack.fault ≡ Some fault → new.inputs.items ≡ old.inputs.items
    → new.confirm.items ≡ written → new.broken ≡ true → HearsAll octets new
unfolding none_more
heard_fault octets old new written fault s a stopped inputs confirm broken = record {
  some = none_more octets old new a.0 written s a.1.stands a.1.answered a.2 inputs confirm;
  all = subst (λ (f : Option StackFault). TellsReading octets (s.told ++ a.0) f)
      (sym stopped) a.3;
  broken = broken ∙ ap (λ (f : Option StackFault). is_some f) (sym stopped);
  settled = free_broken new.stack fault stopped;
}

-- ---- the offer

-- an end stands to an offer that was handed out, and to no other
finishing_free : (s : EndState) → is_offered s ≡ false → is_offered (finishing s) ≡ false
finishing_free standings.Waiting e = e
finishing_free standings.Offered e = e
finishing_free standings.BadlyOffered e = e
finishing_free standings.Accepted e = refl
finishing_free standings.Finishing e = e
finishing_free standings.Closed e = e

pub offering : (input : StackIn) (old new : EndState) → is_offered old ≡ false
    → EndStandsBehind input old new → is_offered new ≡ is_offering input
offering (inputs.Offer title initiate) old new e s = ap (λ (x : EndState). is_offered x) s
offering inputs.BadOffer old new e s = ap (λ (x : EndState). is_offered x) s
offering (inputs.Accepted initiate) old new e s = ap (λ (x : EndState). is_offered x) s
offering (inputs.Pdu pdu) old new e s = ap (λ (x : EndState). is_offered x) s ∙ e
offering (inputs.BadRequest invoke) old new e s = ap (λ (x : EndState). is_offered x) s ∙ e
offering inputs.Released old new e (inl s) =
    ap (λ (x : EndState). is_offered x) s ∙ finishing_free old e
offering inputs.Released old new e (inr s) = ap (λ (x : EndState). is_offered x) s
offering inputs.Aborted old new e s = ap (λ (x : EndState). is_offered x) s
offering inputs.Refused old new e s = ap (λ (x : EndState). is_offered x) s

-- ---- at the end

pub has_heard : (octets : List ℕ) (heard : Heard) → HearsAll octets heard → HasHeard octets heard
has_heard octets heard h =
    let e = reading_only octets h.some.told heard.stack.fault h.all in
    record {
      inputs = h.some.inputs ∙ ap (λ (r : Reading). handed_out r.told) (sym e);
      confirm = h.some.confirm ∙ ap (λ (r : Reading). answers_to called r.told) (sym e);
      broken = h.broken ∙ ap (λ (r : Reading). is_some r.broken) (sym e);
      setup = λ connect. (setup_fixed octets h.some.told heard.stack h.some.stands
          (ap (λ (r : Reading). is_some (first_in connect_in r.told)) (sym e) ∙ connect)).0
          ∙ ap (λ (r : Reading). setup_after r.told) (sym e);
    }

-- one piece more was fed
pub fed : (octets piece : List ℕ) (old new : Heard) → (s : HearsSome octets old)
    → CourseStands called (octets ++ piece) s.told new.stack
    → new.inputs.items ≡ old.inputs.items → new.confirm.items ≡ old.confirm.items
    → HearsSome (octets ++ piece) new
fed octets piece old new s stands inputs confirm = record {
  told = s.told;
  stands = stands;
  inputs = inputs ∙ s.inputs;
  confirm = confirm ∙ s.confirm;
}

pub none_left : (octets : List ℕ) → length octets ≡ 0 → octets ≡ []
none_left [] e = refl
none_left (octet ∷ octets) e = absurd (omega (arith, e))
