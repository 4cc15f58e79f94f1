-- Which messages come behind which at the called end: a connect behind none, a finish behind a
-- connect, a request and conclude behind a connect and before conclude; and none that answers one.
use Rattle.std.proofs.Common.{◌≡◌, ℕ, Bool, true, false, List, [], ◌∷◌, ◌++◌, Option, Some}
use Rattle.std.proofs.Common.{None, refl, sym, ap, subst, ◌∙◌, inl, inr, arith}
use Rattle.std.specs.Prelude.{is_some, if◌then◌else◌}
use Rattle.std.specs.Option.{option_map}
use Rattle.std.specs.List.{list_any}
use Rattle.std.proofs.lemmas.Bool.{false≢true}
use Rattle.ber_values.specs.declared.external.External.{External}
use Rattle.ber_values.specs.declared.fault.Span.{Span}
use Rattle.session_profile.specs.declared.spdu.Spdu.{Spdu}
use Rattle.session_profile.specs.declared.spdu.Spdu.TheVariants as spdus
use Rattle.presentation_profile.specs.declared.offers.Offered.{Offered}
use Rattle.presentation_profile.specs.declared.ppdu.Ppdu.{Ppdu}
use Rattle.presentation_profile.specs.declared.ppdu.Ppdu.TheVariants as ppdus
use Rattle.acse_assoc.specs.declared.apdu.Apdu.{Apdu}
use Rattle.acse_assoc.specs.declared.apdu.Apdu.TheVariants as apdus
use Rattle.mms_services.specs.declared.initiate.Initiate.{Initiate}
use Rattle.mms_services.specs.declared.pdu.MmsPdu.{MmsPdu}
use Rattle.mms_services.specs.declared.pdu.MmsPdu.TheVariants as pdus
use Rattle.stack_assoc.specs.declared.messages.expecting.Expecting.{Expecting}
use Rattle.stack_assoc.specs.declared.messages.expecting.Phase.{Phase}
use Rattle.stack_assoc.specs.declared.messages.expecting.Phase.TheVariants as phases
use Rattle.stack_assoc.specs.declared.messages.fault.StackFault.{StackFault}
use Rattle.stack_assoc.specs.declared.messages.heard.Heard.{Heard}
use Rattle.stack_assoc.specs.declared.messages.heard.Heard.TheVariants as heards
use Rattle.stack_assoc.specs.Messages.Meanings.{Meaning, says_just, says_nothing, says_some, inside}
use Rattle.stack_assoc.specs.Messages.Meanings.{where_allowed}
use Rattle.stack_assoc.specs.Messages.Setting.{initiate_in_pdu, initiated_of, connecting, accepting, aarq_in}
use Rattle.stack_assoc.specs.Messages.Setting.{offers_in, connect_at, aare_in, user_in, results_in}
use Rattle.stack_assoc.specs.Messages.Setting.{accept_at}
use Rattle.stack_assoc.specs.Messages.Messages.{data_at, user_data_in, carry_at, said_in_turn, message}
use Rattle.stack_assoc.specs.Messages.Turns.{may_connect, may_answer, may_finish, may_disconnect}
use Rattle.stack_assoc.specs.Messages.Turns.{may_ask, pdu_may_come, spdu_may_come}
use Rattle.stack_assoc.specs.Messages.Turns.{is_before, is_held, is_open}
use Rattle.tpkt_cotp.specs.Streams.{Message, asks, confirms, tsdu}
use Rattle.tpkt_cotp.specs.Streams as transport
use Rattle.stack_assoc.specs.Arrivals.{Arrival, asked, confirmed, gone, heard, called, first_in}
use Rattle.stack_assoc.specs.Arrivals.{connect_in, is_conclude}
use Rattle.stack_assoc.specs.InTurn.{SpellInTurn}
use Rattle.stack_assoc.specs.Expectations.{expecting_after}
use Rattle.stack_assoc.specs.Tellings.{TellsNext}
use Rattle.tase_conn.specs.Map.Readings.{TellsReading}

-- ---- kinds of messages

abbrev pub kind_of : Heard → ℕ
kind_of (heards.Connect c) = 0
kind_of (heards.Accept a) = 1
kind_of heards.Refuse = 2
kind_of heards.Finish = 3
kind_of heards.Disconnect = 4
kind_of heards.Abort = 5
kind_of heards.AbortAccept = 6
kind_of (heards.Pdu p) = 7
kind_of (heards.BadRequest invoke) = 7

pub no_says : (fault : StackFault) (h : Heard) → (says_nothing {X = Heard} fault).says h → ⊥
unfolding says_nothing
no_says fault h s = s

pub just_kind : (value h : Heard) → (says_just value).says h → kind_of h ≡ kind_of value
unfolding says_just
just_kind value h s = ap kind_of s

just_same : (value h : Heard) → (says_just value).says h → h ≡ value
unfolding says_just
just_same value h s = s

some_kind : (fault : StackFault) (found : Option Initiate) (make : Initiate → Heard) (n : ℕ)
    → ((i : Initiate) → kind_of (make i) ≡ n) → (h : Heard)
    → (says_some fault (option_map make found)).says h → kind_of h ≡ n
some_kind fault None make n k h s = absurd (no_says fault h s)
some_kind fault (Some i) make n k h s = just_kind (make i) h s ∙ k i

pub inside_says : {X : Type 0} (outer : Meaning X) (inner : X → Meaning Heard) (h : Heard)
    → (inside outer inner).says h → (x : X) × outer.says x × (inner x).says h
unfolding inside
inside_says outer inner h s = s

aarq_kind : (octets : List ℕ) (session presented : Option (List ℕ)) (contexts : List Offered)
    (apdu : Apdu) (h : Heard) → (aarq_in octets session presented contexts apdu).says h
    → kind_of h ≡ 0
aarq_kind octets session presented contexts (apdus.Aarq request) h s =
    let i = inside_says _ _ h s in
    some_kind _ (initiate_in_pdu i.0) (connecting session presented contexts request) 0 (λ x. refl) h
    i.2
aarq_kind octets session presented contexts (apdus.Aare response) h s = absurd (no_says _ h s)
aarq_kind octets session presented contexts apdus.Rlrq h s = absurd (no_says _ h s)
aarq_kind octets session presented contexts apdus.Rlre h s = absurd (no_says _ h s)
aarq_kind octets session presented contexts apdus.Abrt h s = absurd (no_says _ h s)

offers_kind : (octets : List ℕ) (session : Option (List ℕ)) (ppdu : Ppdu) (h : Heard)
    → (offers_in octets session ppdu).says h → kind_of h ≡ 0
offers_kind octets session (ppdus.Connect presented contexts id body) h s =
    let i = inside_says _ _ h s in aarq_kind octets session presented contexts i.0 h i.2
offers_kind octets session (ppdus.Accept presented results id body) h s = absurd (no_says _ h s)
offers_kind octets session (ppdus.Carry id body) h s = absurd (no_says _ h s)

pub connect_kind : (octets : List ℕ) (session : Option (List ℕ)) (body : Span) (h : Heard)
    → (connect_at octets session body).says h → kind_of h ≡ 0
unfolding connect_at
connect_kind octets session body h s =
    let i = inside_says _ _ h s in offers_kind octets session i.0 h i.2

user_kind : (octets : List ℕ) (acse : ℕ) (user : Option External) (h : Heard)
    → (user_in octets acse user).says h → kind_of h ≡ 1
user_kind octets acse (Some user) h s =
    let i = inside_says _ _ h s in
    some_kind _ (initiated_of i.0) (accepting acse user.id) 1 (λ x. refl) h i.2
user_kind octets acse None h s = absurd (no_says _ h s)

aare_kind : (octets : List ℕ) (acse : ℕ) (apdu : Apdu) (h : Heard)
    → (aare_in octets acse apdu).says h → kind_of h ≡ 1
aare_kind octets acse (apdus.Aarq request) h s = absurd (no_says _ h s)
aare_kind octets acse (apdus.Aare response) h s = user_kind octets acse response.user h s
aare_kind octets acse apdus.Rlrq h s = absurd (no_says _ h s)
aare_kind octets acse apdus.Rlre h s = absurd (no_says _ h s)
aare_kind octets acse apdus.Abrt h s = absurd (no_says _ h s)

results_kind : (e : Expecting) (octets : List ℕ) (ppdu : Ppdu) (h : Heard)
    → (results_in e octets ppdu).says h → kind_of h ≡ 1
results_kind e octets (ppdus.Connect presented contexts id body) h s = absurd (no_says _ h s)
results_kind e octets (ppdus.Accept presented results id body) h s =
    let i = inside_says _ _ h s in aare_kind octets id i.0 h i.2
results_kind e octets (ppdus.Carry id body) h s = absurd (no_says _ h s)

pub accept_kind : (e : Expecting) (octets : List ℕ) (body : Span) (h : Heard)
    → (accept_at e octets body).says h → kind_of h ≡ 1
unfolding accept_at
accept_kind e octets body h s =
    let i = inside_says _ _ h s in results_kind e octets i.0 h i.2

-- ---- what may come

-- a message that comes where this is expected may come there
abbrev MayCome : Expecting → Heard → Type 0
MayCome e (heards.Connect c) = may_connect e.side e.phase ≡ true
MayCome e (heards.Accept a) = may_answer e.side e.phase ≡ true
MayCome e heards.Refuse = may_answer e.side e.phase ≡ true
MayCome e heards.Finish = may_finish e.side e.phase ≡ true
MayCome e heards.Disconnect = may_disconnect e.side e.phase ≡ true
MayCome e heards.Abort = Unit {0}
MayCome e heards.AbortAccept = Unit {0}
MayCome e (heards.Pdu p) = pdu_may_come e p ≡ true
MayCome e (heards.BadRequest invoke) = may_ask e.side e.phase ≡ true

connect_may : (e : Expecting) (h : Heard) → kind_of h ≡ 0 → may_connect e.side e.phase ≡ true
    → MayCome e h
connect_may e (heards.Connect c) k may = may
connect_may e (heards.Accept a) k may = absurd (omega (arith, k))
connect_may e heards.Refuse k may = absurd (omega (arith, k))
connect_may e heards.Finish k may = absurd (omega (arith, k))
connect_may e heards.Disconnect k may = absurd (omega (arith, k))
connect_may e heards.Abort k may = tt
connect_may e heards.AbortAccept k may = tt
connect_may e (heards.Pdu p) k may = absurd (omega (arith, k))
connect_may e (heards.BadRequest invoke) k may = absurd (omega (arith, k))

accept_may : (e : Expecting) (h : Heard) → kind_of h ≡ 1 → may_answer e.side e.phase ≡ true
    → MayCome e h
accept_may e (heards.Connect c) k may = absurd (omega (arith, k))
accept_may e (heards.Accept a) k may = may
accept_may e heards.Refuse k may = may
accept_may e heards.Finish k may = absurd (omega (arith, k))
accept_may e heards.Disconnect k may = absurd (omega (arith, k))
accept_may e heards.Abort k may = tt
accept_may e heards.AbortAccept k may = tt
accept_may e (heards.Pdu p) k may = absurd (omega (arith, k))
accept_may e (heards.BadRequest invoke) k may = absurd (omega (arith, k))

data_may : (e : Expecting) (octets : List ℕ) (body : Span) (h : Heard)
    → (data_at e octets body).says h → MayCome e h
unfolding data_at
data_may e octets body h (inl s) = subst (λ (x : Heard). MayCome e x) (sym s.3) s.2
data_may e octets body h (inr s) = subst (λ (x : Heard). MayCome e x) (sym s.2) s.1.may

user_data_may : (e : Expecting) (octets : List ℕ) (ppdu : Ppdu) (h : Heard)
    → (user_data_in e octets ppdu).says h → MayCome e h
user_data_may e octets (ppdus.Connect presented contexts id body) h s = absurd (no_says _ h s)
user_data_may e octets (ppdus.Accept presented results id body) h s = absurd (no_says _ h s)
user_data_may e octets (ppdus.Carry id body) h s = data_may e octets body h s

carry_may : (e : Expecting) (octets : List ℕ) (body : Span) (h : Heard)
    → (carry_at e octets body).says h → MayCome e h
unfolding carry_at
carry_may e octets body h s =
    let i = inside_says _ _ h s in user_data_may e octets i.0 h i.2

pub allowed : (b : Bool) (fault : StackFault) (m : Meaning Heard) (h : Heard)
    → (where_allowed b fault m).says h → (b ≡ true) × m.says h
allowed true fault m h s = (refl, s)
allowed false fault m h s = absurd (no_says fault h s)

just_may : (e : Expecting) (value h : Heard) → MayCome e value → (says_just value).says h
    → MayCome e h
just_may e value h may s =
    subst (λ (x : Heard). MayCome e x) (sym (just_same value h s)) may

said_may : (e : Expecting) (octets : List ℕ) (spdu : Spdu) (h : Heard)
    → (said_in_turn e octets spdu).says h → MayCome e h
said_may e octets (spdus.Connect presented body) h s =
    let a = allowed (may_connect e.side e.phase) _ _ h s in
    connect_may e h (connect_kind octets presented body h a.1) a.0
said_may e octets (spdus.Accept presented body) h s =
    let a = allowed (spdu_may_come e.side e.phase (spdus.Accept presented body)) _ _ h s in
    accept_may e h (accept_kind e octets body h a.1) a.0
said_may e octets spdus.Refuse h s =
    let a = allowed (spdu_may_come e.side e.phase spdus.Refuse) _ _ h s in
    just_may e heards.Refuse h a.0 a.1
said_may e octets (spdus.Carry body) h s =
    let a = allowed (spdu_may_come e.side e.phase (spdus.Carry body)) _ _ h s in
    carry_may e octets body h a.1
said_may e octets spdus.Finish h s =
    let a = allowed (spdu_may_come e.side e.phase spdus.Finish) _ _ h s in
    just_may e heards.Finish h a.0 a.1
said_may e octets spdus.Disconnect h s =
    let a = allowed (spdu_may_come e.side e.phase spdus.Disconnect) _ _ h s in
    just_may e heards.Disconnect h a.0 a.1
said_may e octets spdus.Abort h s = just_may e heards.Abort h tt s
said_may e octets spdus.AbortAccept h s = just_may e heards.AbortAccept h tt s

message_may : (e : Expecting) (octets : List ℕ) (h : Heard) → (message e octets).says h
    → MayCome e h
unfolding message
message_may e octets h s = let i = inside_says _ _ h s in said_may e octets i.0 h i.2

-- ---- behind the messages before it

-- a connect has come, and no conclude
pub record HasBegun (before : List Arrival) : Type 0 where
  pub connect : is_some (first_in connect_in before) ≡ true
  pub conclude : list_any is_conclude before ≡ false

abbrev pub PduComes : List Arrival → MmsPdu → Type 0
PduComes before (pdus.Request invoke request) = HasBegun before
PduComes before pdus.Conclude = HasBegun before
PduComes before _ = Unit {0}

-- no answer to a connect comes to the called end, nor one to a finish
abbrev pub HeardComes : List Arrival → Heard → Type 0
HeardComes before (heards.Connect c) = is_some (first_in connect_in before) ≡ false
HeardComes before (heards.Accept a) = ⊥
HeardComes before heards.Refuse = ⊥
HeardComes before heards.Finish = is_some (first_in connect_in before) ≡ true
HeardComes before heards.Disconnect = ⊥
HeardComes before heards.Abort = Unit {0}
HeardComes before heards.AbortAccept = Unit {0}
HeardComes before (heards.Pdu p) = PduComes before p
HeardComes before (heards.BadRequest invoke) = HasBegun before

abbrev pub Comes : List Arrival → Arrival → Type 0
Comes before (heard h) = HeardComes before h
Comes before _ = Unit {0}

abbrev pub AllCome : List Arrival → List Arrival → Type 0
AllCome before [] = Unit {0}
AllCome before (t ∷ told) = Comes before t × AllCome (before ++ t ∷ []) told

abbrev phase_by : Bool → Bool → Phase
phase_by a c = if a then (if c then phases.Concluded else phases.Associated)
    else phases.Unassociated

unconnected : (a c : Bool) → is_before (phase_by a c) ≡ true → a ≡ false
unconnected true true e = absurd (false≢true e)
unconnected true false e = absurd (false≢true e)
unconnected false c e = refl

connected : (a c : Bool) → is_open (phase_by a c) ≡ true → (a ≡ true) × (c ≡ false)
connected true true e = absurd (false≢true e)
connected true false e = (refl, refl)
connected false c e = absurd (false≢true e)

held : (a c : Bool) → is_held (phase_by a c) ≡ true → a ≡ true
held true c e = refl
held false c e = absurd (false≢true e)

begun : (before : List Arrival)
    → is_open (phase_by (is_some (first_in connect_in before)) (list_any is_conclude before)) ≡ true
    → HasBegun before
begun before e =
    let c = connected (is_some (first_in connect_in before)) (list_any is_conclude before) e in
    record { connect = c.0; conclude = c.1 }

pdu_comes : (before : List Arrival) (p : MmsPdu)
    → pdu_may_come (expecting_after called before) p ≡ true → PduComes before p
pdu_comes before (pdus.Request invoke request) m = begun before m
pdu_comes before (pdus.Response invoke response) m = tt
pdu_comes before (pdus.Error e) m = tt
pdu_comes before (pdus.Report r) m = tt
pdu_comes before (pdus.Reject r) m = tt
pdu_comes before (pdus.Initiate offer) m = tt
pdu_comes before (pdus.Initiated offer) m = tt
pdu_comes before pdus.InitiateError m = tt
pdu_comes before pdus.Conclude m = begun before m
pdu_comes before pdus.Concluded m = tt

heard_comes : (before : List Arrival) (h : Heard) → MayCome (expecting_after called before) h
    → HeardComes before h
heard_comes before (heards.Connect c) m =
    unconnected (is_some (first_in connect_in before)) (list_any is_conclude before) m
heard_comes before (heards.Accept a) m = absurd (false≢true m)
heard_comes before heards.Refuse m = absurd (false≢true m)
heard_comes before heards.Finish m =
    held (is_some (first_in connect_in before)) (list_any is_conclude before) m
heard_comes before heards.Disconnect m = absurd (false≢true m)
heard_comes before heards.Abort m = tt
heard_comes before heards.AbortAccept m = tt
heard_comes before (heards.Pdu p) m = pdu_comes before p m
heard_comes before (heards.BadRequest invoke) m = begun before m

comes : (before : List Arrival) (t : Arrival) (m : Message) → TellsNext called before t m
    → Comes before t
comes before (asked r) m s = tt
comes before (confirmed c) m s = tt
comes before gone m s = tt
comes before (heard h) (asks q) s = absurd s
comes before (heard h) (confirms c) s = absurd s
comes before (heard h) transport.gone s = absurd s
comes before (heard h) (tsdu place octets) s =
    heard_comes before h (message_may (expecting_after called before) octets h s)

all_come : (before told : List Arrival) (messages : List Message)
    → SpellInTurn (TellsNext called) before told messages
    → AllCome before told
all_come before [] messages s = tt
all_come before (t ∷ told) [] s = absurd s
all_come before (t ∷ told) (m ∷ messages) s =
    (comes before t m s.0, all_come (before ++ t ∷ []) told messages s.1)

-- all that octets tell comes so
pub told_come : (octets : List ℕ) (told : List Arrival) (broken : Option StackFault)
    → TellsReading octets told broken → AllCome [] told
told_come octets told None r = all_come [] told r.1.messages r.1.tell
told_come octets told (Some fault) (inl r) = all_come [] told r.messages r.tell
told_come octets told (Some fault) (inr r) = all_come [] told r.messages r.tell
