-- What a message that is handed out is to a connection, by how far its association has come.
use Rattle.std.proofs.Common.{◌≡◌, ℕ, ℤ, Bool, true, false, List, [], ◌∷◌, ◌++◌, Option, Some, None}
use Rattle.std.proofs.Common.{refl, sym, ap, subst, ◌∙◌, ◌≤◌, length, arith}
use Rattle.std.specs.Prelude.{is_some, ◌||◌, ◌&&◌, not, bytes_eq, if◌then◌else◌}
use Rattle.std.specs.List.{list_any}
use Rattle.std.proofs.lemmas.Bool.{false≢true}
use Rattle.std.proofs.lemmas.Option.{same_Some, none-some}
use Rattle.std.proofs.lemmas.List.{length-append}
use Rattle.std.proofs.lemmas.List.Folds.{list_any-append}
use Rattle.mms_services.specs.declared.pdu.MmsPdu.{MmsPdu}
use Rattle.mms_services.specs.declared.pdu.MmsPdu.TheVariants as pdus
use Rattle.presentation_profile.specs.Agreements.{acse_of}
use Rattle.acse_assoc.specs.Writing.{mms_context}
use Rattle.stack_assoc.specs.declared.messages.heard.Connecting.{Connecting}
use Rattle.stack_assoc.specs.declared.messages.heard.Heard.{Heard}
use Rattle.stack_assoc.specs.declared.messages.heard.Heard.TheVariants as heards
use Rattle.stack_assoc.specs.declared.input.StackIn.{StackIn}
use Rattle.stack_assoc.specs.declared.input.StackIn.TheVariants as inputs
use Rattle.stack_assoc.specs.declared.end_state.EndState.{EndState}
use Rattle.stack_assoc.specs.declared.end_state.EndState.TheVariants as standings
use Rattle.stack_assoc.specs.Arrivals.{Arrival, asked, confirmed, gone, heard, or_else, first_in}
use Rattle.stack_assoc.specs.Arrivals.{connect_in, is_conclude}
use Rattle.stack_assoc.specs.Handing.{is_offer, is_too_little, input_heard, stack_in, handed_out}
use Rattle.stack_assoc.specs.Courses.{standing_offered, standing_with, standing_behind}
use Rattle.tase_conn.specs.Map.LawfulTold.{IsLawfulTold}
use Rattle.tase_conn.specs.Map.Turns.{turn_of_pdu}
use Rattle.tase_conn.proofs.OfMap.MessageOrder.{HasBegun, PduComes, HeardComes, Comes}
use Rattle.tase_conn.specs.declared.stage.Stage.{Stage}
use Rattle.tase_conn.specs.declared.stage.Stage.TheVariants as stages
use Rattle.tase_conn.specs.declared.stage.Coming.TheVariants as comings
use Rattle.tase_conn.specs.Places.{InputIsDue, Position, position_at, has_begun, has_finished}
use Rattle.tase_conn.specs.Places.{standing_at, with_coming}

-- ---- searches over one message more

is_some_or : {B : Type 0} (a b : Option B) → is_some (or_else a b) ≡ (is_some a || is_some b)
is_some_or None b = refl
is_some_or (Some x) b = refl

or_assoc : (a b c : Bool) → (a || (b || c)) ≡ ((a || b) || c)
or_assoc true b c = refl
or_assoc false b c = refl

pub some-append : {A B : Type 0} (f : A → Option B) (xs ys : List A)
    → is_some (first_in f (xs ++ ys)) ≡ (is_some (first_in f xs) || is_some (first_in f ys))
some-append f [] ys = refl
some-append f (x ∷ xs) ys =
    is_some_or (f x) (first_in f (xs ++ ys))
    ∙ ap (λ (b : Bool). is_some (f x) || b) (some-append f xs ys)
    ∙ or_assoc (is_some (f x)) (is_some (first_in f xs)) (is_some (first_in f ys))
    ∙ ap (λ (b : Bool). b || is_some (first_in f ys)) (sym (is_some_or (f x) (first_in f xs)))

or_true : (a : Bool) → (a || true) ≡ true
or_true true = refl
or_true false = refl

-- whether a connect is among these
abbrev pub connected : List Arrival → Bool
connected told = is_some (first_in connect_in told)

abbrev pub has_conclude : List Arrival → Bool
has_conclude told = list_any is_conclude told

first_behind : (front : List Arrival) (c : Connecting) → connected front ≡ false
    → first_in connect_in (front ++ heard (heards.Connect c) ∷ []) ≡ Some c
first_behind [] c e = refl
first_behind (t ∷ front) c e = behind_one (connect_in t) front c e (first_behind front c)
  where
    behind_one : (o : Option Connecting) (front : List Arrival) (c : Connecting)
        → is_some (or_else o (first_in connect_in front)) ≡ false
        → (connected front ≡ false
        → first_in connect_in (front ++ heard (heards.Connect c) ∷ []) ≡ Some c)
        → or_else o (first_in connect_in (front ++ heard (heards.Connect c) ∷ [])) ≡ Some c
    behind_one None front c e go = go e
    behind_one (Some d) front c e go = absurd (false≢true (sym e))

-- ---- messages of which nothing is handed out

pub quiet_standing : (told : List Arrival) (s : EndState) → handed_out told ≡ []
    → standing_behind s told ≡ s
quiet_standing [] s e = refl
quiet_standing (asked r ∷ told) s e = quiet_standing told s e
quiet_standing (confirmed c ∷ told) s e = quiet_standing told s e
quiet_standing (gone ∷ told) s e = absurd cc
quiet_standing (heard h ∷ told) s e = absurd cc

pub quiet_unconnected : (told : List Arrival) → handed_out told ≡ [] → connected told ≡ false
quiet_unconnected [] e = refl
quiet_unconnected (asked r ∷ told) e = quiet_unconnected told e
quiet_unconnected (confirmed c ∷ told) e = quiet_unconnected told e
quiet_unconnected (gone ∷ told) e = absurd cc
quiet_unconnected (heard h ∷ told) e = absurd cc

pub quiet_unconcluded : (told : List Arrival) → handed_out told ≡ [] → has_conclude told ≡ false
quiet_unconcluded [] e = refl
quiet_unconcluded (asked r ∷ told) e = quiet_unconcluded told e
quiet_unconcluded (confirmed c ∷ told) e = quiet_unconcluded told e
quiet_unconcluded (gone ∷ told) e = absurd cc
quiet_unconcluded (heard h ∷ told) e = absurd cc

-- what is known of the association by messages, and how the end stands
abbrev pub known_by : List Arrival → EndState → Position
known_by told standing = record {
  fault = None;
  standing = standing;
  connected = connected told;
  concluded = has_conclude told;
}

or_false : (b : Bool) → (b || false) ≡ b
or_false true = refl
or_false false = refl

pub quiet_known : (told later : List Arrival) (standing : EndState) → handed_out later ≡ []
    → known_by (told ++ later) (standing_behind standing later) ≡ known_by told standing
quiet_known told later standing e = rw (
  quiet_standing later standing e,
  some-append connect_in told later,
  list_any-append is_conclude told later,
  quiet_unconnected later e,
  quiet_unconcluded later e,
  or_false (connected told),
  or_false (has_conclude told),
) refl

some_front : (front : List Arrival) (t : Arrival) → 1 ≤ length (front ++ t ∷ [])
some_front front t = omega (arith, length-append front (t ∷ []))

-- ---- the message that is handed out

-- where no event waits: it may come behind those before it, and these are known of the association
pub record IsNext (front : List Arrival) (last : Arrival) (stage : Stage) : Type 0 where
  pub comes : Comes front last
  pub lawful : IsLawfulTold last
  pub known : known_by front (standing_at stage) ≡ position_at stage

-- it is due, and what is known of the association is known with it
pub record IsNoted (front : List Arrival) (last : Arrival) (stage : Stage) (input : StackIn) : Type 0
  where
    pub due : InputIsDue (front ++ last ∷ []) stage input
    pub known : known_by (front ++ last ∷ []) (standing_with (standing_at stage) last)
        ≡ with_coming (comings.Input input) (position_at stage)

enough : (a b c : Bool) → (a && (b && not c)) ≡ true → c ≡ false
enough true true true e = absurd (false≢true e)
enough true true false e = refl
enough true false c e = absurd (false≢true e)
enough false b c e = absurd (false≢true e)

-- ---- what is due

-- before an association, and behind its close, no PDU asks for anything
unbegun : (front : List Arrival) → connected front ≡ false → HasBegun front → ⊥
unbegun front e b = false≢true (sym e ∙ b.connect)

over : (front : List Arrival) → has_conclude front ≡ true → HasBegun front → ⊥
over front d b = false≢true (sym b.conclude ∙ d)

no_turn : (front : List Arrival) (p : MmsPdu) → (HasBegun front → ⊥) → PduComes front p
    → turn_of_pdu p ≡ None
no_turn front (pdus.Request invoke request) none c = absurd (none c)
no_turn front pdus.Conclude none c = absurd (none c)
no_turn front (pdus.Response invoke response) none c = refl
no_turn front (pdus.Error x) none c = refl
no_turn front (pdus.Report r) none c = refl
no_turn front (pdus.Reject r) none c = refl
no_turn front (pdus.Initiate offer) none c = refl
no_turn front (pdus.Initiated offer) none c = refl
no_turn front pdus.InitiateError none c = refl
no_turn front pdus.Concluded none c = refl

offer_due : (b : Bool) (front : List Arrival) (c : Connecting) → connected front ≡ false
    → (b ≡ true → is_too_little c.initiate ≡ false)
    → InputIsDue (front ++ heard (heards.Connect c) ∷ []) stages.Early
    (if b then inputs.Offer c.title c.initiate else inputs.BadOffer)
offer_due false front c e offer = tt
offer_due true front c e offer = record {
  connect = c;
  first = first_behind front c e;
  title_is = refl;
  initiate_is = refl;
  enough = offer refl;
}

abort_due : (front : List Arrival) (t : Arrival) (stage : Stage)
    → InputIsDue (front ++ t ∷ []) stage inputs.Aborted
abort_due front t stages.Early = some_front front t
abort_due front t (stages.Open peer detail) = some_front front t
abort_due front t (stages.Closed peer) = some_front front t

heard_due : (front : List Arrival) (h : Heard) (stage : Stage) → connected front ≡ has_begun stage
    → has_conclude front ≡ has_finished stage → HeardComes front h → IsLawfulTold (heard h)
    → InputIsDue (front ++ heard h ∷ []) stage (input_heard h)
heard_due front (heards.Connect c) stages.Early e d m l =
    offer_due (is_offer c) front c e
    (enough (is_some (acse_of c.contexts)) (bytes_eq c.context mms_context)
    (is_too_little c.initiate))
heard_due front (heards.Connect c) (stages.Open peer detail) e d m l =
    absurd (false≢true (sym m ∙ e))
heard_due front (heards.Connect c) (stages.Closed peer) e d m l = absurd (false≢true (sym m ∙ e))
heard_due front (heards.Accept a) stage e d m l = absurd m
heard_due front heards.Refuse stage e d m l = absurd m
heard_due front heards.Disconnect stage e d m l = absurd m
heard_due front heards.Finish stages.Early e d m l = absurd (false≢true (sym e ∙ m))
heard_due front heards.Finish (stages.Open peer detail) e d m l = tt
heard_due front heards.Finish (stages.Closed peer) e d m l = tt
heard_due front heards.Abort stage e d m l = abort_due front (heard heards.Abort) stage
heard_due front heards.AbortAccept stage e d m l =
    abort_due front (heard heards.AbortAccept) stage
heard_due front (heards.Pdu p) stages.Early e d m l = no_turn front p (unbegun front e) m
heard_due front (heards.Pdu p) (stages.Open peer detail) e d m l = l
heard_due front (heards.Pdu p) (stages.Closed peer) e d m l = no_turn front p (over front d) m
heard_due front (heards.BadRequest invoke) stages.Early e d m l = absurd (unbegun front e m)
heard_due front (heards.BadRequest invoke) (stages.Open peer detail) e d m l = tt
heard_due front (heards.BadRequest invoke) (stages.Closed peer) e d m l = absurd (over front d m)

-- ---- what is known

abbrev with_told : Arrival → Position → Position
with_told t p = record p {
  standing = standing_with p.standing t;
  connected = p.connected || connected (t ∷ []);
  concluded = p.concluded || has_conclude (t ∷ []);
}

known_more : (front : List Arrival) (last : Arrival) (standing : EndState)
    → known_by (front ++ last ∷ []) (standing_with standing last)
    ≡ with_told last (known_by front standing)
known_more front last standing =
    rw (some-append connect_in front (last ∷ []), list_any-append is_conclude front (last ∷ [])) refl

known_offer : (b : Bool) (c : Connecting) (stage : Stage)
    → (let p : Position = record {
      fault = None;
      standing = standing_offered b;
      connected = has_begun stage || true;
      concluded = has_finished stage || false;
    } in p) ≡ with_coming (comings.Input (if b then inputs.Offer c.title c.initiate else inputs.BadOffer))
    (position_at stage)
known_offer true c stage = rw (or_true (has_begun stage), or_false (has_finished stage)) refl
known_offer false c stage = rw (or_true (has_begun stage), or_false (has_finished stage)) refl

heard_known : (front : List Arrival) (h : Heard) (stage : Stage) → HeardComes front h
    → with_told (heard h) (position_at stage)
    ≡ with_coming (comings.Input (input_heard h)) (position_at stage)
heard_known front (heards.Connect c) stage m = known_offer (is_offer c) c stage
heard_known front (heards.Accept a) stage m = absurd m
heard_known front heards.Refuse stage m = absurd m
heard_known front heards.Disconnect stage m = absurd m
heard_known front heards.Finish stage m =
    rw (or_false (has_begun stage), or_false (has_finished stage)) refl
heard_known front heards.Abort stage m =
    rw (or_false (has_begun stage), or_false (has_finished stage)) refl
heard_known front heards.AbortAccept stage m =
    rw (or_false (has_begun stage), or_false (has_finished stage)) refl
heard_known front (heards.Pdu p) stage m =
    rw (or_false (has_begun stage), or_false (is_conclude (heard (heards.Pdu p)))) refl
heard_known front (heards.BadRequest invoke) stage m =
    rw (or_false (has_begun stage), or_false (has_finished stage)) refl

-- ---- a message of which this is handed out

pub noted : (front : List Arrival) (last : Arrival) (stage : Stage) (input : StackIn)
    → IsNext front last stage → stack_in last ≡ Some input → IsNoted front last stage input
noted front (asked r) stage input n e = absurd (none-some input e)
noted front (confirmed c) stage input n e = absurd (none-some input e)
noted front gone stage input n e =
    subst (λ (i : StackIn). IsNoted front gone stage i) (same_Some inputs.Aborted input e) (record {
      due = abort_due front gone stage;
      known = known_more front gone (standing_at stage)
          ∙ ap (λ (p : Position). with_told gone p) n.known
          ∙ rw (or_false (has_begun stage), or_false (has_finished stage)) refl;
    })
noted front (heard h) stage input n e =
    let begun = ap (λ (p : Position). p.connected) n.known in
    subst (λ (i : StackIn). IsNoted front (heard h) stage i) (same_Some (input_heard h) input e)
    (record {
      due = heard_due front h stage begun (ap (λ (p : Position). p.concluded) n.known) n.comes
          n.lawful;
      known = known_more front (heard h) (standing_at stage)
          ∙ ap (λ (p : Position). with_told (heard h) p) n.known
          ∙ heard_known front h stage n.comes;
    })
