-- A connect that was read as a message has at most sixteen offers, with ids of 16 bits.
use Rattle.std.proofs.Common.{◌≡◌, ℕ, ◌≤◌, Bool, true, false, List, [], ◌∷◌, Option, Some}
use Rattle.std.proofs.Common.{None, refl, sym, subst, inl, inr, arith}
use Rattle.std.specs.List.{All}
use Rattle.std.specs.Prelude.{if◌then◌else◌, ◌==◌}
use Rattle.std.proofs.lemmas.List.Elements.{All-filter}
use Rattle.ber_values.specs.declared.fault.Span.{Span}
use Rattle.session_profile.specs.declared.spdu.Spdu.{Spdu}
use Rattle.session_profile.specs.declared.spdu.Spdu.TheVariants as spdus
use Rattle.presentation_profile.specs.declared.expected.Expected.TheVariants as expects
use Rattle.presentation_profile.specs.declared.offers.Offered.{Offered}
use Rattle.presentation_profile.specs.declared.ppdu.Ppdu.{Ppdu}
use Rattle.presentation_profile.specs.declared.ppdu.Ppdu.TheVariants as ppdus
use Rattle.acse_assoc.specs.declared.apdu.Apdu.{Apdu}
use Rattle.acse_assoc.specs.declared.apdu.Apdu.TheVariants as apdus
use Rattle.acse_assoc.specs.declared.request.AssociateRequest.{AssociateRequest}
use Rattle.mms_services.specs.declared.initiate.Initiate.{Initiate}
use Rattle.stack_assoc.specs.declared.messages.expecting.Expecting.{Expecting}
use Rattle.stack_assoc.specs.declared.messages.heard.Heard.{Heard}
use Rattle.stack_assoc.specs.declared.messages.heard.Heard.TheVariants as heards
use Rattle.stack_assoc.specs.declared.messages.fault.StackFault.{StackFault}
use Rattle.stack_assoc.specs.declared.messages.fault.Layer.TheVariants as layers
use Rattle.stack_assoc.specs.Messages.Meanings.{Meaning, inside, says_just, says_some, says_nothing}
use Rattle.stack_assoc.specs.Messages.Meanings.{where_allowed}
use Rattle.ber_values.specs.declared.external.External.{External}
use Rattle.std.specs.Prelude.{option_map}
use Rattle.stack_assoc.specs.Messages.Layers.{octets_at, out_of_order, ppdu_at, apdu_at, pdu_at, spdu_of, in_layer}
use Rattle.stack_assoc.specs.Messages.Turns.{spdu_may_come, offered_by}
use Rattle.stack_assoc.specs.Messages.Setting.{connect_at, accept_at, offers_in, aarq_in, initiate_in, request_expected}
use Rattle.stack_assoc.specs.Messages.Setting.{connecting, initiate_in_pdu, results_in, aare_in, user_in}
use Rattle.stack_assoc.specs.Messages.Setting.{initiated_in, accepting, initiated_of, answer_expected}
use Rattle.stack_assoc.specs.Messages.Messages.{message, said_by, said_in_turn, carry_at, user_data_in, data_at}
use Rattle.presentation_profile.specs.Agreements.{acse_name, mms_name, is_of, offers_of, acse_among}
use Rattle.stack_assoc.specs.Expectations.{id_or}
use Rattle.stack_assoc.specs.Steps.{IsModest}
use Rattle.stack_assoc.proofs.FewOffers.{AreFew, HasFewId, IsFewPpdu, ppdu_few}

-- the offers of a connect
abbrev pub HasFew : Heard → Type 0
HasFew (heards.Connect c) = AreFew c.contexts
HasFew _ = Unit {0}

just-few : (h x : Heard) → HasFew x → (says_just x).says h → HasFew h
unfolding says_just
just-few h x few e = subst HasFew (sym e) few

nothing-few : (f : StackFault) (h : Heard) → (says_nothing f).says h → HasFew h
unfolding says_nothing
nothing-few f h e = absurd e

inside-few : {X : Type 0} (outer : Meaning X) (inner : X → Meaning Heard) (h : Heard)
    → ((x : X) → outer.says x → (inner x).says h → HasFew h) → (inside outer inner).says h → HasFew h
unfolding inside
inside-few outer inner h each s = each s.0 s.1 s.2

some-few : (f : StackFault) (o : Option Heard) (h : Heard) → ((x : Heard) → o ≡ Some x → HasFew x)
    → (says_some f o).says h → HasFew h
some-few f None h each s = nothing-few f h s
some-few f (Some x) h each s = just-few h x (each x refl) s

-- ---- a connect

initiate-few : (session called : Option (List ℕ)) (contexts : List Offered)
    (request : AssociateRequest) (f : StackFault) (o : Option Initiate) (h : Heard)
    → AreFew contexts
    → (says_some f (option_map (connecting session called contexts request) o)).says h → HasFew h
initiate-few session called contexts request f None h few s = nothing-few f h s
initiate-few session called contexts request f (Some i) h few s =
    just-few h (connecting session called contexts request i) few s

aarq-few : (tsdu : List ℕ) (session called : Option (List ℕ)) (contexts : List Offered) (a : Apdu)
    (h : Heard) → AreFew contexts → (aarq_in tsdu session called contexts a).says h → HasFew h
aarq-few tsdu session called contexts (apdus.Aarq request) h few s =
    inside-few (pdu_at tsdu request.user.body) (initiate_in session called contexts request) h
    (λ pdu says one. initiate-few session called contexts request (out_of_order layers.Mms)
    (initiate_in_pdu pdu) h few one) s
aarq-few tsdu session called contexts (apdus.Aare response) h few s =
    nothing-few (out_of_order layers.Acse) h s
aarq-few tsdu session called contexts apdus.Rlrq h few s = nothing-few (out_of_order layers.Acse) h s
aarq-few tsdu session called contexts apdus.Rlre h few s = nothing-few (out_of_order layers.Acse) h s
aarq-few tsdu session called contexts apdus.Abrt h few s = nothing-few (out_of_order layers.Acse) h s

offers-few : (tsdu : List ℕ) (session : Option (List ℕ)) (p : Ppdu) (h : Heard) → IsFewPpdu p
    → (offers_in tsdu session p).says h → HasFew h
offers-few tsdu session (ppdus.Connect called contexts id body) h few s =
    inside-few (apdu_at (request_expected contexts) tsdu body) (aarq_in tsdu session called contexts) h
    (λ a says one. aarq-few tsdu session called contexts a h few one) s
offers-few tsdu session (ppdus.Accept called found id body) h few s =
    nothing-few (out_of_order layers.Presentation) h s
offers-few tsdu session (ppdus.Carry id body) h few s =
    nothing-few (out_of_order layers.Presentation) h s

ppdu-few : (tsdu : List ℕ) (span : Span) (p : Ppdu) → (ppdu_at expects.Connect tsdu span).says p
    → IsFewPpdu p
unfolding ppdu_at in_layer
ppdu-few tsdu span p s = subst IsFewPpdu s.2
    (ppdu_few expects.Connect span.from (octets_at tsdu span) s.0 s.1)

connect-few : (tsdu : List ℕ) (session : Option (List ℕ)) (body : Span) (h : Heard)
    → (connect_at tsdu session body).says h → HasFew h
unfolding connect_at
connect-few tsdu session body h s =
    inside-few (ppdu_at expects.Connect tsdu body) (offers_in tsdu session) h
    (λ p says one. offers-few tsdu session p h (ppdu-few tsdu body p says) one) s

-- ---- an accept, and data

accepted-few : (acse mms : ℕ) (f : StackFault) (o : Option Initiate) (h : Heard)
    → (says_some f (option_map (accepting acse mms) o)).says h → HasFew h
accepted-few acse mms f None h s = nothing-few f h s
accepted-few acse mms f (Some i) h s = just-few h (accepting acse mms i) tt s

user-few : (tsdu : List ℕ) (acse : ℕ) (user : Option External) (h : Heard)
    → (user_in tsdu acse user).says h → HasFew h
user-few tsdu acse None h s = nothing-few (out_of_order layers.Acse) h s
user-few tsdu acse (Some user) h s =
    inside-few (pdu_at tsdu user.body) (initiated_in acse user.id) h
    (λ pdu says one. accepted-few acse user.id (out_of_order layers.Mms) (initiated_of pdu) h one) s

aare-few : (tsdu : List ℕ) (acse : ℕ) (a : Apdu) (h : Heard) → (aare_in tsdu acse a).says h → HasFew h
aare-few tsdu acse (apdus.Aarq request) h s = nothing-few (out_of_order layers.Acse) h s
aare-few tsdu acse (apdus.Aare response) h s = user-few tsdu acse response.user h s
aare-few tsdu acse apdus.Rlrq h s = nothing-few (out_of_order layers.Acse) h s
aare-few tsdu acse apdus.Rlre h s = nothing-few (out_of_order layers.Acse) h s
aare-few tsdu acse apdus.Abrt h s = nothing-few (out_of_order layers.Acse) h s

results-few : (e : Expecting) (tsdu : List ℕ) (p : Ppdu) (h : Heard) → (results_in e tsdu p).says h
    → HasFew h
results-few e tsdu (ppdus.Connect called contexts id body) h s =
    nothing-few (out_of_order layers.Presentation) h s
results-few e tsdu (ppdus.Accept called found id body) h s =
    inside-few (apdu_at (answer_expected e) tsdu body) (aare_in tsdu id) h
    (λ a says one. aare-few tsdu id a h one) s
results-few e tsdu (ppdus.Carry id body) h s = nothing-few (out_of_order layers.Presentation) h s

accept-few : (e : Expecting) (tsdu : List ℕ) (body : Span) (h : Heard)
    → (accept_at e tsdu body).says h → HasFew h
unfolding accept_at
accept-few e tsdu body h s =
    inside-few (ppdu_at (expects.Accept (offered_by e.side e.acse)) tsdu body) (results_in e tsdu) h
    (λ p says one. results-few e tsdu p h one) s

data-few : (e : Expecting) (tsdu : List ℕ) (body : Span) (h : Heard) → (data_at e tsdu body).says h
    → HasFew h
unfolding data_at
data-few e tsdu body h (inl s) = subst HasFew (sym s.3) tt
data-few e tsdu body h (inr s) = subst HasFew (sym s.2) tt

user_data-few : (e : Expecting) (tsdu : List ℕ) (p : Ppdu) (h : Heard)
    → (user_data_in e tsdu p).says h → HasFew h
user_data-few e tsdu (ppdus.Connect called contexts id body) h s =
    nothing-few (out_of_order layers.Presentation) h s
user_data-few e tsdu (ppdus.Accept called found id body) h s =
    nothing-few (out_of_order layers.Presentation) h s
user_data-few e tsdu (ppdus.Carry id body) h s = data-few e tsdu body h s

carry-few : (e : Expecting) (tsdu : List ℕ) (body : Span) (h : Heard) → (carry_at e tsdu body).says h
    → HasFew h
unfolding carry_at
carry-few e tsdu body h s =
    inside-few (ppdu_at (expects.Carry e.mms) tsdu body) (user_data_in e tsdu) h
    (λ p says one. user_data-few e tsdu p h one) s

-- ---- the whole

said-few : (e : Expecting) (tsdu : List ℕ) (spdu : Spdu) (h : Heard) → (said_by e tsdu spdu).says h
    → HasFew h
said-few e tsdu (spdus.Connect called body) h s = connect-few tsdu called body h s
said-few e tsdu (spdus.Accept called body) h s = accept-few e tsdu body h s
said-few e tsdu spdus.Refuse h s = just-few h heards.Refuse tt s
said-few e tsdu (spdus.Carry body) h s = carry-few e tsdu body h s
said-few e tsdu spdus.Finish h s = just-few h heards.Finish tt s
said-few e tsdu spdus.Disconnect h s = just-few h heards.Disconnect tt s
said-few e tsdu spdus.Abort h s = just-few h heards.Abort tt s
said-few e tsdu spdus.AbortAccept h s = just-few h heards.AbortAccept tt s

turn-few : (may : Bool) (f : StackFault) (m : Meaning Heard) (h : Heard) → (m.says h → HasFew h)
    → (where_allowed may f m).says h → HasFew h
turn-few true f m h each s = each s
turn-few false f m h each s = nothing-few f h s

pub message-few : (e : Expecting) (tsdu : List ℕ) (h : Heard) → (message e tsdu).says h → HasFew h
unfolding message
message-few e tsdu h s = inside-few (spdu_of tsdu) (said_in_turn e tsdu) h
    (λ spdu says one. turn-few (spdu_may_come e.side e.phase spdu) (out_of_order layers.Session)
    (said_by e tsdu spdu) h (said-few e tsdu spdu h) one) s

-- ---- as the stack says it

id-few : (same : Bool) (id : ℕ) → id ≤ 65535 → id_or 1 (if same then None else Some id) ≤ 65535
id-few true id few = omega arith
id-few false id few = few

among-few : (acse mms : List Offered) → All HasFewId acse → id_or 1 (acse_among acse mms) ≤ 65535
among-few [] mms ids = omega arith
among-few (a ∷ []) [] ids = omega arith
among-few (a ∷ []) (m ∷ []) ids = id-few (a.id == m.id) a.id (ids 0 a (omega arith))
among-few (a ∷ []) (m ∷ n ∷ ms) ids = omega arith
among-few (a ∷ b ∷ acse) mms ids = omega arith

few-modest : (h : Heard) → HasFew h → IsModest h
few-modest (heards.Connect c) few = (
  few.few,
  among-few (offers_of acse_name c.contexts) (offers_of mms_name c.contexts)
      (All-filter (is_of acse_name) HasFewId c.contexts few.ids),
)
few-modest (heards.Accept a) few = tt
few-modest heards.Refuse few = tt
few-modest heards.Finish few = tt
few-modest heards.Disconnect few = tt
few-modest heards.Abort few = tt
few-modest heards.AbortAccept few = tt
few-modest (heards.Pdu p) few = tt
few-modest (heards.BadRequest invoke) few = tt

pub message-modest : (e : Expecting) (tsdu : List ℕ) (h : Heard) → (message e tsdu).says h
    → IsModest h
message-modest e tsdu h s = few-modest h (message-few e tsdu h s)
