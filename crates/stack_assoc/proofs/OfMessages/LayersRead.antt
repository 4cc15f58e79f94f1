-- The readers of the layers are exact as readers of a layer of a message.
use Rattle.std.proofs.Common.{◌≡◌, ℕ, List, Bool, true, false, cond, Option, Some, None, Result, Ok, Err, IfOk, ◌↔◌, refl, sym, ap, subst, ◌∙◌, inl, inr}
use Rattle.std.proofs.lemmas.Bool.{false≢true}
use Rattle.ber_values.specs.declared.fault.BerFault.{BerFault}
use Rattle.ber_values.specs.declared.fault.Span.{Span}
use Rattle.ber_values.specs.Grammars.{Grammar}
use Rattle.ber_values.specs.Reading.{Taken}
use Rattle.ber_values.specs.Readers.{IsReadBy, taken_whole}
use Rattle.ber_values.proofs.Reading as ber
use Rattle.session_profile.specs.declared.fault.SessionFault.{SessionFault}
use Rattle.session_profile.specs.declared.spdu.Spdu.{Spdu}
use Rattle.session_profile.specs.Spdus.{SpellsSpdu, SpduFault}
use Rattle.session_profile.specs.Seen as session
use Rattle.mms_services.specs.declared.pdu.MmsPdu.{MmsPdu}
use Rattle.mms_services.specs.declared.fault.MmsFault.{MmsFault}
use Rattle.mms_services.specs.Pdus.{pdu, without_invoke, IsInvokeOf}
use Rattle.ber_values.specs.Faults.{fault_at as ber_fault_at}
use Rattle.stack_assoc.specs.declared.messages.expecting.Expecting.{Expecting}
use Rattle.stack_assoc.specs.declared.messages.fault.Layer.{Layer}
use Rattle.stack_assoc.specs.declared.messages.fault.Layer.TheVariants as layers
use Rattle.stack_assoc.specs.declared.messages.fault.StackFault.{StackFault}
use Rattle.stack_assoc.specs.declared.messages.heard.Heard.TheVariants as heard
use Rattle.stack_assoc.specs.Messages.Meanings.{IsReadAs}
use Rattle.stack_assoc.specs.Messages.Layers.{fault_of, out_of_order, octets_at, place_after, spdu_of, in_layer, pdu_at}
use Rattle.stack_assoc.specs.Messages.Turns.{pdu_may_come, may_ask}
use Rattle.stack_assoc.specs.Messages.Messages.{IsBadRequest, data_at}
use Rattle.stack_assoc.proofs.OfMessages.Exact.{read-ok, read-err, only_one, no_fault, breaks_so, one_fault, says_none}

-- ---- a grammar

pub layer-read : {X : Type 0} (layer : Layer) (placed : ℕ → ℕ) (g : Grammar X) (at : ℕ) (octets : List ℕ) (x : X) (r : Result X BerFault) → r ≡ Ok x → IsReadBy g (taken_whole at octets) at octets r → IsReadAs (in_layer layer placed g at octets) (Ok x)
unfolding in_layer
layer-read {X} layer placed g at octets x r is by =
    let r = subst (λ (s : Result X BerFault). IsReadBy g (taken_whole at octets) at octets s) is by in
    read-ok (in_layer layer placed g at octets) x (taken_whole at octets x, r.found, refl)
    (λ y h. ap (λ (t : Taken X). t.value) (r.only h.0 h.1) ∙ h.2)
    (λ f h. ber.not_both x h.0 ((r.fault h.0).1 h.1))

pub layer-broken : {X : Type 0} (layer : Layer) (placed : ℕ → ℕ) (g : Grammar X) (at : ℕ) (octets : List ℕ) (b : BerFault) (r : Result X BerFault) → r ≡ Err b → IsReadBy g (taken_whole at octets) at octets r → (f : StackFault) → f ≡ fault_of layer (placed b.place) b.why → IsReadAs (in_layer layer placed g at octets) (Err f)
unfolding in_layer
layer-broken {X} layer placed g at octets b r is by f so =
    let r = subst (λ (s : Result X BerFault). IsReadBy g (taken_whole at octets) at octets s) is by in
    read-err (in_layer layer placed g at octets) f (b, (r.fault b).0 refl, so)
    (λ h k. so ∙ ap (λ (d : BerFault). fault_of layer (placed d.place) d.why) (ber.Err_is {X = X} b k.0 ((r.fault k.0).1 k.1)) ∙ sym k.2)
    (λ y h. r.only h.0 h.1)

-- ---- the session

abbrev spdu_done : Spdu → Result Spdu SessionFault
spdu_done s = Ok s

abbrev spdu_failed : SessionFault → Result Spdu SessionFault
spdu_failed f = Err f

ok_is : (s t : Spdu) → spdu_done s ≡ spdu_done t → s ≡ t
ok_is s t e = cc

err_is : (f g : SessionFault) → spdu_failed f ≡ spdu_failed g → f ≡ g
err_is f g e = cc

not_ok : (s : Spdu) (f : SessionFault) → spdu_done s ≡ spdu_failed f → ⊥
not_ok s f e = cc

pub spdu-read : (tsdu : List ℕ) (s : Spdu) (r : Result Spdu SessionFault) → r ≡ Ok s → IfOk r (λ t. SpellsSpdu t tsdu) → ((t : Spdu) → SpellsSpdu t tsdu → r ≡ Ok t) → ((f : SessionFault) → (r ≡ Err f) ↔ SpduFault tsdu (session.ber_fault_of f)) → IsReadAs (spdu_of tsdu) (Ok s)
unfolding spdu_of
spdu-read tsdu s r is found only fault =
    read-ok (spdu_of tsdu) s (subst (λ (q : Result Spdu SessionFault). IfOk q (λ t. SpellsSpdu t tsdu)) is found)
    (λ t h. ok_is s t (sym is ∙ only t h))
    (λ f h. not_ok s (session.session_fault_of h.0) (sym is ∙ (fault (session.session_fault_of h.0)).1 h.1))

pub spdu-broken : (tsdu : List ℕ) (b : SessionFault) (r : Result Spdu SessionFault) → r ≡ Err b → ((t : Spdu) → SpellsSpdu t tsdu → r ≡ Ok t) → ((f : SessionFault) → (r ≡ Err f) ↔ SpduFault tsdu (session.ber_fault_of f)) → (g : StackFault) → g ≡ fault_of layers.Session b.place b.why → IsReadAs (spdu_of tsdu) (Err g)
unfolding spdu_of
spdu-broken tsdu b r is only fault g so =
    read-err (spdu_of tsdu) g (session.ber_fault_of b, (fault b).0 is, so)
    (λ f h. so ∙ ap (λ (d : SessionFault). fault_of layers.Session d.place d.why) (err_is b (session.session_fault_of h.0) (sym is ∙ (fault (session.session_fault_of h.0)).1 h.1)) ∙ sym h.2)
    (λ t h. not_ok t b (sym (only t h) ∙ is))

-- ---- PDUs of MMS

pub pdu-read : (tsdu : List ℕ) (body : Span) (p : MmsPdu) (r : Result MmsPdu MmsFault) → r ≡ Ok p → IsReadBy pdu (taken_whole 0 (octets_at tsdu body)) 0 (octets_at tsdu body) (without_invoke r) → IsReadAs (pdu_at tsdu body) (Ok p)
unfolding pdu_at
pdu-read tsdu body p r is by = layer-read layers.Mms (place_after body.from) pdu 0 (octets_at tsdu body) p (without_invoke r) (ap (λ (s : Result MmsPdu MmsFault). without_invoke s) is) by

pub pdu-broken : (tsdu : List ℕ) (body : Span) (f : MmsFault) (r : Result MmsPdu MmsFault) → r ≡ Err f → IsReadBy pdu (taken_whole 0 (octets_at tsdu body)) 0 (octets_at tsdu body) (without_invoke r) → (g : StackFault) → g ≡ fault_of layers.Mms (place_after body.from f.place) f.why → IsReadAs (pdu_at tsdu body) (Err g)
unfolding pdu_at
pdu-broken tsdu body f r is by g so = layer-broken layers.Mms (place_after body.from) pdu 0 (octets_at tsdu body) (ber_fault_at f.place f.why) (without_invoke r) (ap (λ (s : Result MmsPdu MmsFault). without_invoke s) is) by g so

-- ---- data

pdu_is : (p q : MmsPdu) → p ≡ q → heard.Pdu p ≡ heard.Pdu q
pdu_is p q e = ap (λ (x : MmsPdu). heard.Pdu x) e

-- a PDU that was read may come or not, as the only one does
same_turn : (e : Expecting) (p q : MmsPdu) (a b : Bool) → p ≡ q → pdu_may_come e p ≡ a → pdu_may_come e q ≡ b → a ≡ b
same_turn e p q a b is one two = sym one ∙ ap (λ (x : MmsPdu). pdu_may_come e x) is ∙ two

turn : (e : Expecting) (tsdu : List ℕ) (body : Span) (p : MmsPdu) (may : Bool) → pdu_may_come e p ≡ may → IsReadAs (pdu_at tsdu body) (Ok p) → IsReadAs (data_at e tsdu body) (cond may (Ok (heard.Pdu p)) (Err (out_of_order layers.Mms)))
unfolding data_at
turn e tsdu body p true may r =
    let one = pdu_at tsdu body in
    read-ok (data_at e tsdu body) (heard.Pdu p) (inl (p, r.found, may, refl))
    (λ h s. elim s [
      | inl a ↦ pdu_is p a.0 (only_one one p r a.0 a.1) ∙ sym a.3
      | inr b ↦ absurd (no_fault one p r b.1.broken.0 b.1.broken.1)
    ])
    (λ f s. elim s [
      | inl a ↦ false≢true (sym (same_turn e p a.0 true false (only_one one p r a.0 a.1) may a.2))
      | inr b ↦ no_fault one p r f b.1
    ])
turn e tsdu body p false may r =
    let one = pdu_at tsdu body in
    read-err (data_at e tsdu body) (out_of_order layers.Mms) (inl (p, r.found, may, refl))
    (λ g s. elim s [
      | inl a ↦ sym a.3
      | inr b ↦ absurd (no_fault one p r g b.1)
    ])
    (λ h s. elim s [
      | inl a ↦ false≢true (same_turn e p a.0 false true (only_one one p r a.0 a.1) may a.2)
      | inr b ↦ no_fault one p r b.1.broken.0 b.1.broken.1
    ])

pub data-read : (e : Expecting) (tsdu : List ℕ) (body : Span) (p : MmsPdu) → IsReadAs (pdu_at tsdu body) (Ok p) → IsReadAs (data_at e tsdu body) (cond (pdu_may_come e p) (Ok (heard.Pdu p)) (Err (out_of_order layers.Mms)))
data-read e tsdu body p r = turn e tsdu body p (pdu_may_come e p) refl r

some_is : (n m : ℕ) → Some n ≡ Some m → n ≡ m
some_is n m e = cc

none_is : (n : ℕ) → None ≡ Some n → ⊥
none_is n e = cc

pub bad-read : (e : Expecting) (tsdu : List ℕ) (body : Span) (f : StackFault) (invoke : ℕ) → may_ask e.side e.phase ≡ true → IsInvokeOf (octets_at tsdu body) (Some invoke) → IsReadAs (pdu_at tsdu body) (Err f) → IsReadAs (data_at e tsdu body) (Ok (heard.BadRequest invoke))
unfolding data_at
bad-read e tsdu body f invoke may number r =
    let one = pdu_at tsdu body in
    let bad : IsBadRequest e tsdu body invoke = record { may = may; number = (number invoke).0 refl; broken = (f, breaks_so one f r) } in
    read-ok (data_at e tsdu body) (heard.BadRequest invoke) (inr (invoke, bad, refl))
    (λ h s. elim s [
      | inl a ↦ absurd (says_none one f r a.0 a.1)
      | inr b ↦ ap (λ (n : ℕ). heard.BadRequest n) (some_is invoke b.0 ((number b.0).1 b.1.number)) ∙ sym b.2
    ])
    (λ g s. elim s [
      | inl a ↦ says_none one f r a.0 a.1
      | inr b ↦ b.0 invoke bad
    ])

pub fault-read : (e : Expecting) (tsdu : List ℕ) (body : Span) (f : StackFault) → ((invoke : ℕ) → IsBadRequest e tsdu body invoke → ⊥) → IsReadAs (pdu_at tsdu body) (Err f) → IsReadAs (data_at e tsdu body) (Err f)
unfolding data_at
fault-read e tsdu body f none r =
    let one = pdu_at tsdu body in
    read-err (data_at e tsdu body) f (inr (none, breaks_so one f r))
    (λ g s. elim s [
      | inl a ↦ absurd (says_none one f r a.0 a.1)
      | inr b ↦ one_fault one f r g b.1
    ])
    (λ h s. elim s [
      | inl a ↦ says_none one f r a.0 a.1
      | inr b ↦ none b.0 b.1
    ])

-- what is told of the number of a faulty request
pub told_number : (ask : Bool) (invoke : Option ℕ) (n : ℕ) → Some n ≡ cond ask invoke None → (ask ≡ true) × (invoke ≡ Some n)
told_number true invoke n e = (refl, sym e)
told_number false invoke n e = absurd (none_is n (sym e))

pub no_number : (e : Expecting) (tsdu : List ℕ) (body : Span) (ask : Bool) (invoke : Option ℕ) → may_ask e.side e.phase ≡ ask → IsInvokeOf (octets_at tsdu body) invoke → None ≡ cond ask invoke None → (n : ℕ) → IsBadRequest e tsdu body n → ⊥
no_number e tsdu body true invoke may number told n bad = none_is n (told ∙ (number n).1 bad.number)
no_number e tsdu body false invoke may number told n bad = false≢true (sym may ∙ bad.may)
