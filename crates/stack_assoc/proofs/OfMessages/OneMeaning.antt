-- Each message is read exactly, so that it has one reading.
use Rattle.std.proofs.Common.{◌≡◌, ℕ, List, Bool, true, false, Option, Some, None, Result, Ok, Err, refl, sym, ap, subst, ◌∙◌, inl, inr}
use Rattle.std.specs.Option.{option_map}
use Rattle.ber_values.specs.declared.external.External.{External}
use Rattle.ber_values.specs.declared.fault.BerFault.{BerFault}
use Rattle.ber_values.specs.declared.fault.Span.{Span}
use Rattle.ber_values.specs.Faults.{◌>>=◌}
use Rattle.ber_values.specs.Grammars.{Grammar, IsGrammar, taken}
use Rattle.ber_values.specs.Reading.{Taken, IsReading}
use Rattle.ber_values.proofs.Reading as ber
use Rattle.session_profile.specs.declared.spdu.Spdu.{Spdu}
use Rattle.session_profile.specs.declared.spdu.Spdu.TheVariants as spdus
use Rattle.session_profile.specs.Spdus.{SpellsSpdu, SpduFault, spdu_in}
use Rattle.presentation_profile.specs.declared.offers.Offered.{Offered}
use Rattle.presentation_profile.specs.declared.expected.Expected as presentation
use Rattle.presentation_profile.specs.declared.expected.Expected.TheVariants as expects
use Rattle.presentation_profile.specs.declared.ppdu.Ppdu.{Ppdu}
use Rattle.presentation_profile.specs.declared.ppdu.Ppdu.TheVariants as ppdus
use Rattle.presentation_profile.specs.Ppdus.{ppdu}
use Rattle.acse_assoc.specs.declared.expected.Expected as acse
use Rattle.acse_assoc.specs.declared.apdu.Apdu.{Apdu}
use Rattle.acse_assoc.specs.declared.apdu.Apdu.TheVariants as apdus
use Rattle.acse_assoc.specs.Apdus.{apdu}
use Rattle.mms_services.specs.declared.pdu.MmsPdu.{MmsPdu}
use Rattle.mms_services.specs.Numbered.{numbered_request}
use Rattle.mms_services.specs.Pdus.{pdu, HasInvoke, IsInvokeOf}
use Rattle.mms_services.proofs.NumberedRead.{number_begun, number_taken}
use Rattle.stack_assoc.specs.declared.messages.expecting.Expecting.{Expecting}
use Rattle.stack_assoc.specs.declared.messages.fault.Layer.{Layer}
use Rattle.stack_assoc.specs.declared.messages.fault.Layer.TheVariants as layers
use Rattle.stack_assoc.specs.declared.messages.fault.StackFault.{StackFault}
use Rattle.stack_assoc.specs.declared.messages.heard.Heard.TheVariants as heard
use Rattle.stack_assoc.specs.Messages.Meanings.{Meaning, says_just, says_nothing, says_some, read_then, inside, where_allowed, IsReadAs, HasOneMeaning}
use Rattle.stack_assoc.specs.Messages.Turns.{spdu_may_come, may_ask, offered_by}
use Rattle.stack_assoc.specs.Messages.Layers.{fault_of, out_of_order, octets_at, place_after, read_in_layer, in_layer, spdu_of, ppdu_at, apdu_at, pdu_at}
use Rattle.stack_assoc.specs.Messages.Setting.{connecting, initiate_in_pdu, initiate_in, aarq_in, request_expected, offers_in, connect_at, accepting, initiated_of, initiated_in, user_in, aare_in, answer_expected, results_in, accept_at}
use Rattle.stack_assoc.specs.Messages.Messages.{bad_request_read, heard_of_pdu, data_at, user_data_in, carry_at, said_by, said_in_turn, message}
use Rattle.stack_assoc.proofs.OfMessages.Exact.{read-ok, read-err, only_one, no_fault, breaks_so, one_fault, says_none, just_read, nothing-read, inside-read, inside-broken}
use Rattle.stack_assoc.proofs.OfMessages.LayersRead.{data-read, bad-read, fault-read, no_number}

-- what is read exactly has one meaning
pub one_of_read : {X : Type 0} (m : Meaning X) (read : Result X StackFault) → IsReadAs m read → HasOneMeaning m
one_of_read m (Ok x) r = inl ((x, r.found, λ y s. sym (only_one m x r y s)), no_fault m x r)
one_of_read m (Err f) r = inr (says_none m f r, (f, breaks_so m f r, λ g b. sym (one_fault m f r g b)))

-- and is read in one way
pub read_alike : {X : Type 0} (m : Meaning X) (one other : Result X StackFault) → IsReadAs m one → IsReadAs m other → one ≡ other
read_alike m one (Ok x) r s = r.only x s.found
read_alike m one (Err f) r s = (r.fault f).1 (breaks_so m f s)

-- ---- the pieces

-- the reading is exact
abbrev pub IsExact : {X : Type 0} → Meaning X → Type 0
IsExact meaning = IsReadAs meaning meaning.reading

just_exact : {X : Type 0} (x : X) → IsExact (says_just x)
unfolding says_just
just_exact x = just_read x

nothing_exact : {X : Type 0} (f : StackFault) → IsExact (says_nothing {X = X} f)
unfolding says_nothing
nothing_exact f = nothing-read f

some_exact : {X : Type 0} (f : StackFault) (o : Option X) → IsExact (says_some f o)
some_exact f None = nothing_exact f
some_exact f (Some x) = just_exact x

allowed_exact : {X : Type 0} (may : Bool) (f : StackFault) (m : Meaning X) → IsExact m → IsExact (where_allowed may f m)
allowed_exact true f m exact = exact
allowed_exact false f m exact = nothing_exact f

inside_by : {X Y : Type 0} (outer : Meaning X) (inner : X → Meaning Y) (read : Result X StackFault) → IsReadAs outer read → ((x : X) → IsExact (inner x)) → IsReadAs (inside outer inner) (read_then read (λ x. (inner x).reading))
inside_by outer inner (Ok x) o i = inside-read outer inner x (inner x).reading o (i x)
inside_by outer inner (Err f) o i = inside-broken outer inner f o

inside_exact : {X Y : Type 0} (outer : Meaning X) (inner : X → Meaning Y) → IsExact outer → ((x : X) → IsExact (inner x)) → IsExact (inside outer inner)
unfolding inside
inside_exact outer inner o i = inside_by outer inner outer.reading o i

layer_by : {X : Type 0} (layer : Layer) (placed : ℕ → ℕ) (g : Grammar X) (at : ℕ) (octets : List ℕ) (r : Result (Taken X) BerFault) → IsReading (Taken X) (g.begins at octets) (g.fault at octets) r → IsReadAs (in_layer layer placed g at octets) (read_in_layer layer placed (r >>= λ t. Ok t.value))
unfolding in_layer
layer_by {X} layer placed g at octets (Ok t) r =
    read-ok (in_layer layer placed g at octets) t.value (t, r.found t refl, refl)
    (λ y h. ap (λ (u : Taken X). u.value) (ber.Ok_is t h.0 (r.only h.0 h.1)) ∙ h.2)
    (λ f h. ber.not_both t h.0 (r.first h.0 h.1))
layer_by {X} layer placed g at octets (Err b) r =
    read-err (in_layer layer placed g at octets) (fault_of layer (placed b.place) b.why) (b, r.fault b refl, refl)
    (λ f h. ap (λ (d : BerFault). fault_of layer (placed d.place) d.why) (ber.Err_is {X = Taken X} b h.0 (r.first h.0 h.1)) ∙ sym h.2)
    (λ y h. ber.not_both h.0 b (sym (r.only h.0 h.1)))

layer_exact : {X : Type 0} (layer : Layer) (placed : ℕ → ℕ) (g : Grammar X) (at : ℕ) (octets : List ℕ) → IsGrammar g → IsExact (in_layer layer placed g at octets)
unfolding in_layer
layer_exact layer placed g at octets exact = layer_by layer placed g at octets (g.reading at octets) (exact at octets)

-- ---- the laws of the layers

pub record Laws : Type 0 where
  pub spdus : (tsdu : List ℕ) → IsReading Spdu (λ spdu. SpellsSpdu spdu tsdu) (SpduFault tsdu) (spdu_in tsdu)
  pub ppdus : (e : presentation.Expected) → IsGrammar (ppdu e)
  pub apdus : (e : acse.Expected) → IsGrammar (apdu e)
  pub mms : IsGrammar pdu
  pub numbers : IsGrammar numbered_request

spdu_by : (tsdu : List ℕ) (r : Result Spdu BerFault) → IsReading Spdu (λ spdu. SpellsSpdu spdu tsdu) (SpduFault tsdu) r → IsReadAs (spdu_of tsdu) (read_in_layer layers.Session (λ n. n) r)
unfolding spdu_of
spdu_by tsdu (Ok s) r =
    read-ok (spdu_of tsdu) s (r.found s refl) (λ t h. ber.Ok_is s t (r.only t h)) (λ f h. ber.not_both s h.0 (r.first h.0 h.1))
spdu_by tsdu (Err b) r =
    read-err (spdu_of tsdu) (fault_of layers.Session b.place b.why) (b, r.fault b refl, refl)
    (λ f h. ap (λ (d : BerFault). fault_of layers.Session d.place d.why) (ber.Err_is {X = Spdu} b h.0 (r.first h.0 h.1)) ∙ sym h.2)
    (λ t h. ber.not_both t b (sym (r.only t h)))

spdu_exact : Laws → (tsdu : List ℕ) → IsExact (spdu_of tsdu)
unfolding spdu_of
spdu_exact laws tsdu = spdu_by tsdu (spdu_in tsdu) (laws.spdus tsdu)

ppdu_exact : Laws → (e : presentation.Expected) (tsdu : List ℕ) (body : Span) → IsExact (ppdu_at e tsdu body)
unfolding ppdu_at
ppdu_exact laws e tsdu body = layer_exact layers.Presentation (λ n. n) (ppdu e) body.from (octets_at tsdu body) (laws.ppdus e)

apdu_exact : Laws → (e : acse.Expected) (tsdu : List ℕ) (body : Span) → IsExact (apdu_at e tsdu body)
unfolding apdu_at
apdu_exact laws e tsdu body = layer_exact layers.Acse (λ n. n) (apdu e) body.from (octets_at tsdu body) (laws.apdus e)

mms_exact : Laws → (tsdu : List ℕ) (body : Span) → IsExact (pdu_at tsdu body)
unfolding pdu_at
mms_exact laws tsdu body = layer_exact layers.Mms (place_after body.from) pdu 0 (octets_at tsdu body) laws.mms

-- ---- a connect

aarq_exact : Laws → (tsdu : List ℕ) (session called : Option (List ℕ)) (contexts : List Offered) (a : Apdu) → IsExact (aarq_in tsdu session called contexts a)
aarq_exact laws tsdu session called contexts (apdus.Aarq request) =
    inside_exact (pdu_at tsdu request.user.body) (initiate_in session called contexts request) (mms_exact laws tsdu request.user.body)
    (λ p. some_exact (out_of_order layers.Mms) (option_map (connecting session called contexts request) (initiate_in_pdu p)))
aarq_exact laws tsdu session called contexts _ = nothing_exact (out_of_order layers.Acse)

offers_exact : Laws → (tsdu : List ℕ) (session : Option (List ℕ)) (p : Ppdu) → IsExact (offers_in tsdu session p)
offers_exact laws tsdu session (ppdus.Connect called contexts id body) =
    inside_exact (apdu_at (request_expected contexts) tsdu body) (aarq_in tsdu session called contexts) (apdu_exact laws (request_expected contexts) tsdu body) (aarq_exact laws tsdu session called contexts)
offers_exact laws tsdu session _ = nothing_exact (out_of_order layers.Presentation)

connect_exact : Laws → (tsdu : List ℕ) (session : Option (List ℕ)) (body : Span) → IsExact (connect_at tsdu session body)
unfolding connect_at
connect_exact laws tsdu session body = inside_exact (ppdu_at expects.Connect tsdu body) (offers_in tsdu session) (ppdu_exact laws expects.Connect tsdu body) (offers_exact laws tsdu session)

-- ---- an accept

user_exact : Laws → (tsdu : List ℕ) (acse : ℕ) (user : Option External) → IsExact (user_in tsdu acse user)
user_exact laws tsdu acse (Some user) =
    inside_exact (pdu_at tsdu user.body) (initiated_in acse user.id) (mms_exact laws tsdu user.body)
    (λ p. some_exact (out_of_order layers.Mms) (option_map (accepting acse user.id) (initiated_of p)))
user_exact laws tsdu acse None = nothing_exact (out_of_order layers.Acse)

aare_exact : Laws → (tsdu : List ℕ) (acse : ℕ) (a : Apdu) → IsExact (aare_in tsdu acse a)
aare_exact laws tsdu acse (apdus.Aare response) = user_exact laws tsdu acse response.user
aare_exact laws tsdu acse _ = nothing_exact (out_of_order layers.Acse)

results_exact : Laws → (e : Expecting) (tsdu : List ℕ) (p : Ppdu) → IsExact (results_in e tsdu p)
results_exact laws e tsdu (ppdus.Accept called results id body) =
    inside_exact (apdu_at (answer_expected e) tsdu body) (aare_in tsdu id) (apdu_exact laws (answer_expected e) tsdu body) (aare_exact laws tsdu id)
results_exact laws e tsdu _ = nothing_exact (out_of_order layers.Presentation)

accept_exact : Laws → (e : Expecting) (tsdu : List ℕ) (body : Span) → IsExact (accept_at e tsdu body)
unfolding accept_at
accept_exact laws e tsdu body =
    let expected = expects.Accept (offered_by e.side e.acse) in
    inside_exact (ppdu_at expected tsdu body) (results_in e tsdu) (ppdu_exact laws expected tsdu body) (results_exact laws e tsdu)

-- ---- data

-- the number that was read, or none
abbrev number_read : Result (Taken ℕ) BerFault → Option ℕ
number_read (Ok t) = Some t.value
number_read (Err f) = None

some_is : (n m : ℕ) → Some n ≡ Some m → n ≡ m
some_is n m e = cc

none_is : (n : ℕ) → None ≡ Some n → ⊥
none_is n e = cc

invoke_by : (octets : List ℕ) (r : Result (Taken ℕ) BerFault) → IsReading (Taken ℕ) (numbered_request.begins 0 octets) (numbered_request.fault 0 octets) r → IsInvokeOf octets (number_read r)
invoke_by octets (Ok t) r invoke = (
  λ e. subst (HasInvoke octets) (some_is t.value invoke e) (number_begun octets t (r.found t refl)),
  λ h. let u = taken invoke h.request.head.next h.request.rest in
      ap (λ (v : Taken ℕ). Some v.value) (ber.Ok_is t u (r.only u (number_taken octets invoke h))),
)
invoke_by octets (Err f) r invoke = (
  λ e. absurd (none_is invoke e),
  λ h. let u = taken invoke h.request.head.next h.request.rest in
      absurd (ber.not_both u f (sym (r.only u (number_taken octets invoke h)))),
)

-- a PDU with a fault, whose number was read or not
bad_by : (e : Expecting) (tsdu : List ℕ) (body : Span) (f : StackFault) → IsReadAs (pdu_at tsdu body) (Err f) → (ask : Bool) → may_ask e.side e.phase ≡ ask → (r : Result (Taken ℕ) BerFault) → IsInvokeOf (octets_at tsdu body) (number_read r) → IsReadAs (data_at e tsdu body) (bad_request_read ask f r)
bad_by e tsdu body f p true may (Ok t) number = bad-read e tsdu body f t.value may number p
bad_by e tsdu body f p true may (Err other) number = fault-read e tsdu body f (no_number e tsdu body true None may number refl) p
bad_by e tsdu body f p false may r number = fault-read e tsdu body f (no_number e tsdu body false (number_read r) may number refl) p

data_by : Laws → (e : Expecting) (tsdu : List ℕ) (body : Span) (r : Result MmsPdu StackFault) → IsReadAs (pdu_at tsdu body) r → IsReadAs (data_at e tsdu body) (heard_of_pdu e (octets_at tsdu body) r)
data_by laws e tsdu body (Ok p) r = data-read e tsdu body p r
data_by laws e tsdu body (Err f) r =
    let octets = octets_at tsdu body in
    let read = numbered_request.reading 0 octets in
    bad_by e tsdu body f r (may_ask e.side e.phase) refl read (invoke_by octets read (laws.numbers 0 octets))

data_exact : Laws → (e : Expecting) (tsdu : List ℕ) (body : Span) → IsExact (data_at e tsdu body)
unfolding data_at
data_exact laws e tsdu body = data_by laws e tsdu body (pdu_at tsdu body).reading (mms_exact laws tsdu body)

user_data_exact : Laws → (e : Expecting) (tsdu : List ℕ) (p : Ppdu) → IsExact (user_data_in e tsdu p)
user_data_exact laws e tsdu (ppdus.Carry id body) = data_exact laws e tsdu body
user_data_exact laws e tsdu _ = nothing_exact (out_of_order layers.Presentation)

carry_exact : Laws → (e : Expecting) (tsdu : List ℕ) (body : Span) → IsExact (carry_at e tsdu body)
unfolding carry_at
carry_exact laws e tsdu body = inside_exact (ppdu_at (expects.Carry e.mms) tsdu body) (user_data_in e tsdu) (ppdu_exact laws (expects.Carry e.mms) tsdu body) (user_data_exact laws e tsdu)

-- ---- the whole

said_exact : Laws → (e : Expecting) (tsdu : List ℕ) (s : Spdu) → IsExact (said_by e tsdu s)
said_exact laws e tsdu (spdus.Connect called body) = connect_exact laws tsdu called body
said_exact laws e tsdu (spdus.Accept called body) = accept_exact laws e tsdu body
said_exact laws e tsdu (spdus.Carry body) = carry_exact laws e tsdu body
said_exact laws e tsdu spdus.Refuse = just_exact heard.Refuse
said_exact laws e tsdu spdus.Finish = just_exact heard.Finish
said_exact laws e tsdu spdus.Disconnect = just_exact heard.Disconnect
said_exact laws e tsdu spdus.Abort = just_exact heard.Abort
said_exact laws e tsdu spdus.AbortAccept = just_exact heard.AbortAccept

pub message_exact : Laws → (e : Expecting) (tsdu : List ℕ) → IsExact (message e tsdu)
unfolding message
message_exact laws e tsdu = inside_exact (spdu_of tsdu) (said_in_turn e tsdu) (spdu_exact laws tsdu)
    (λ s. allowed_exact (spdu_may_come e.side e.phase s) (out_of_order layers.Session) (said_by e tsdu s) (said_exact laws e tsdu s))
