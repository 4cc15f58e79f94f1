-- Reading an SPDU is exact.
use Rattle.std.proofs.Common.{◌≡◌, ◌≢◌, ℕ, ◌+◌, true, false, cond, eqb, List, [], ◌∷◌, ◌++◌, Result, Ok, Err, MatchResult, refl, sym, ap, subst, ◌∙◌, inl, inr, ◌⊎◌}
use Rattle.std.proofs.lemmas.Bool.{cond_both, eqb-true, eqb-false, eq-eqb, ne_eqb, false≢true}
use Rattle.ber_values.specs.declared.fault.BerFault.{BerFault}
use Rattle.ber_values.specs.declared.fault.Span.{Span}
use Rattle.ber_values.specs.declared.fault.Why.TheVariants as whys
use Rattle.ber_values.specs.Faults.{fault_at, ◌>>=◌}
use Rattle.ber_values.specs.Reading.{Taken, IsReading, HasOneReading}
use Rattle.ber_values.proofs.Reading.{IsReading-from, IsReading-then, IsReading-as, HasOneReading-from}
use Rattle.ber_values.proofs.Grammars.{IsReading-done, IsReading-failed, IsReading-test}
use Rattle.session_profile.specs.declared.spdu.Spdu.{Spdu}
use Rattle.session_profile.specs.declared.spdu.Spdu.TheVariants.{Connect, Accept, Refuse, Carry, Finish, Disconnect, Abort, AbortAccept}
use Rattle.session_profile.specs.Parameters.{Parameter, BeginsParameter, ParameterFault, parameter_in, spdu_end_in}
use Rattle.session_profile.specs.Rules.{SpellsAll, FaultAmong, all_parameters_in}
use Rattle.session_profile.specs.Connections.{Connection, connection}
use Rattle.session_profile.specs.Spdus.{IsCoded, IsWhole, SpellsSpdu, WantedOctetFault, FrontFault, is_code, CodedFault, WholeFault, SpduFault, wanted_octet_in, fixed_front_in, carried_data, connected, accepted_connection, plain_in, spdu_coded_in, whole_spdu_in, spdu_in}
use Rattle.session_profile.proofs.Parameters.{parameter_reads, identifier_is}
use Rattle.session_profile.proofs.Rules.{all_reads}
use Rattle.session_profile.proofs.Connections.{connection_rules}

-- ---- the end, and a front that is known

not_nil : (first : ℕ) (octets : List ℕ) → (first ∷ octets) ≡ [] → ⊥
not_nil first octets e = cc

end_reads : {X : Type 0} (x : X) (at : ℕ) (octets : List ℕ) → IsReading X (λ y. (octets ≡ []) × (y ≡ x)) (λ f. (octets ≢ []) × (f ≡ fault_at at whys.Tag)) (spdu_end_in x at octets)
end_reads {X} x at [] = IsReading-as X (λ y. y ≡ x) (λ y. ([] ≡ []) × (y ≡ x)) (λ f. ⊥) (λ f. ([] ≢ []) × (f ≡ fault_at at whys.Tag)) (Ok x) (λ y h. (refl, h)) (λ y h. h.1) (λ f h. absurd h) (λ f h. absurd (h.0 refl)) (IsReading-done X x)
end_reads {X} x at (first ∷ octets) = IsReading-as X (λ y. ⊥) (λ y. ((first ∷ octets) ≡ []) × (y ≡ x)) (λ f. f ≡ fault_at at whys.Tag) (λ f. ((first ∷ octets) ≢ []) × (f ≡ fault_at at whys.Tag)) (Err (fault_at at whys.Tag)) (λ y h. absurd h) (λ y h. absurd (not_nil first octets h.0)) (λ f h. (not_nil first octets, h)) (λ f h. h.1) (IsReading-failed X (fault_at at whys.Tag))

abbrev Fronted : {X : Type 0} → List ℕ → List ℕ → (List ℕ → X) → X → Type 0
Fronted wanted octets made x = (rest : List ℕ) × (octets ≡ wanted ++ rest) × (x ≡ made rest)

cons_parts : (x y : ℕ) (xs ys : List ℕ) → (x ∷ xs) ≡ (y ∷ ys) → (x ≡ y) × (xs ≡ ys)
cons_parts x y xs ys e = (cc, cc)

cons_same : (x y : ℕ) (xs ys : List ℕ) → x ≡ y → xs ≡ ys → (x ∷ xs) ≡ (y ∷ ys)
cons_same x y xs ys a b = cc

octet_reads : (at want : ℕ) (octets : List ℕ) → IsReading (List ℕ) (λ rest. octets ≡ want ∷ rest) (WantedOctetFault at want octets) (wanted_octet_in at want octets)
octet_reads at want [] =
    IsReading-as (List ℕ) (λ rest. ⊥) (λ rest. [] ≡ want ∷ rest) _ (WantedOctetFault at want []) _ (λ rest h. absurd h) (λ rest h. absurd (not_nil want rest (sym h))) (λ f h. h) (λ f h. h) (IsReading-failed (List ℕ) (fault_at at whys.Short))
octet_reads at want (first ∷ octets) =
    IsReading-as (List ℕ) _ (λ rest. (first ∷ octets) ≡ want ∷ rest) _ (WantedOctetFault at want (first ∷ octets)) _
    (λ rest h. elim h [ inl a ↦ cons_same first want octets rest (eqb-true first want a.0) (sym a.1) | inr b ↦ absurd b.1 ])
    (λ rest h. let p = cons_parts first want octets rest h in inl (eq-eqb first want p.0, sym p.1))
    (λ f h. elim h [ inl a ↦ absurd a.1 | inr b ↦ (eqb-false first want b.0, b.1) ])
    (λ f h. inr (ne_eqb first want h.0, h.1))
    (IsReading-test (List ℕ) (λ rest. rest ≡ octets) (λ rest. ⊥) (λ f. ⊥) (λ f. f ≡ fault_at at whys.Value) (eqb first want) (Ok octets) (Err (fault_at at whys.Value))
    (λ e. IsReading-done (List ℕ) octets) (λ e. IsReading-failed (List ℕ) (fault_at at whys.Value)))

front_reads : {X : Type 0} (at : ℕ) (wanted octets : List ℕ) (made : List ℕ → X) → IsReading X (Fronted wanted octets made) (FrontFault at wanted octets) (fixed_front_in at wanted octets made)
front_reads {X} at [] octets made =
    IsReading-as X _ (Fronted [] octets made) (λ f. ⊥) (λ f. ⊥) _ (λ x e. (octets, refl, e)) (λ x h. h.2 ∙ ap made (sym h.1)) (λ f h. h) (λ f h. h) (IsReading-done X (made octets))
front_reads {X} at (want ∷ wanted) octets made =
    IsReading-as X _ (Fronted (want ∷ wanted) octets made) _ (FrontFault at (want ∷ wanted) octets) _
    (λ x h. (h.2.0, h.1 ∙ ap (λ (os : List ℕ). want ∷ os) h.2.1, h.2.2)) (λ x h. (wanted ++ h.0, h.1, (h.0, refl, h.2)))
    (λ f h. h) (λ f h. h)
    (IsReading-then (List ℕ) X (λ rest. octets ≡ want ∷ rest) (WantedOctetFault at want octets) (wanted_octet_in at want octets) (λ rest. Fronted wanted rest made) (λ rest. FrontFault (at + 1) wanted rest) (λ rest. fixed_front_in (at + 1) wanted rest made)
    (octet_reads at want octets) (λ rest s. front_reads (at + 1) wanted rest made))

-- ---- contents by their code

abbrev CodedRight : Parameter → Result Spdu BerFault → Type 0
CodedRight p read = MatchResult read (λ spdu. IsCoded spdu p) (CodedFault p)

answers_right : (p : Parameter) (Spelled : Connection → Type 0) (First : BerFault → Type 0) (read : Result Connection BerFault) (made : Connection → Spdu) → IsReading Connection Spelled First read → ((c : Connection) → Spelled c → IsCoded (made c) p) → ((f : BerFault) → First f → CodedFault p f) → CodedRight p (read >>= λ c. Ok (made c))
answers_right p Spelled First (Ok c) made one good bad = good c (one.found c refl)
answers_right p Spelled First (Err f) made one good bad = bad f (one.fault f refl)

connection_reads : (p : Parameter) → IsReading Connection (λ c. SpellsAll connection p.body c p.contents) (FaultAmong connection p.body p.contents) (all_parameters_in connection p.body p.contents)
connection_reads p = all_reads connection connection_rules p.body p.contents

plain_right : (p : Parameter) → eqb p.identifier 13 ≡ false → eqb p.identifier 14 ≡ false → is_code p.identifier ≡ true → CodedRight p (plain_in p.identifier)
plain_right p a b known =
    let i = p.identifier in
    cond_both (eqb i 12) (Ok Refuse) (cond (eqb i 9) (Ok Finish) (cond (eqb i 10) (Ok Disconnect) (cond (eqb i 25) (Ok Abort) (cond (eqb i 26) (Ok AbortAccept) (Err (fault_at 0 whys.Tag)))))) (CodedRight p) (λ e. eqb-true i 12 e)
    (λ c. cond_both (eqb i 9) (Ok Finish) (cond (eqb i 10) (Ok Disconnect) (cond (eqb i 25) (Ok Abort) (cond (eqb i 26) (Ok AbortAccept) (Err (fault_at 0 whys.Tag))))) (CodedRight p) (λ e. eqb-true i 9 e)
    (λ d. cond_both (eqb i 10) (Ok Disconnect) (cond (eqb i 25) (Ok Abort) (cond (eqb i 26) (Ok AbortAccept) (Err (fault_at 0 whys.Tag)))) (CodedRight p) (λ e. eqb-true i 10 e)
    (λ g. cond_both (eqb i 25) (Ok Abort) (cond (eqb i 26) (Ok AbortAccept) (Err (fault_at 0 whys.Tag))) (CodedRight p) (λ e. eqb-true i 25 e)
    (λ h. cond_both (eqb i 26) (Ok AbortAccept) (Err (fault_at 0 whys.Tag)) (CodedRight p) (λ e. eqb-true i 26 e)
    (λ j. let unknown : is_code p.identifier ≡ false = rw (a, b, c, d, g, h, j) refl in absurd (false≢true (sym unknown ∙ known)))))))

coded_right : (p : Parameter) → is_code p.identifier ≡ true → CodedRight p (spdu_coded_in p)
unfolding spdu_coded_in
coded_right p known =
    let i = p.identifier in
    cond_both (eqb i 13) (all_parameters_in connection p.body p.contents >>= λ c. Ok (connected c)) (cond (eqb i 14) (all_parameters_in connection p.body p.contents >>= λ c. Ok (accepted_connection c)) (plain_in i)) (CodedRight p)
    (λ e. answers_right p (λ c. SpellsAll connection p.body c p.contents) (FaultAmong connection p.body p.contents) (all_parameters_in connection p.body p.contents) connected (connection_reads p) (λ c s. (eqb-true i 13 e, s)) (λ f h. (inl (eqb-true i 13 e), h)))
    (λ a. cond_both (eqb i 14) (all_parameters_in connection p.body p.contents >>= λ c. Ok (accepted_connection c)) (plain_in i) (CodedRight p)
    (λ e. answers_right p (λ c. SpellsAll connection p.body c p.contents) (FaultAmong connection p.body p.contents) (all_parameters_in connection p.body p.contents) accepted_connection (connection_reads p) (λ c s. (eqb-true i 14 e, s)) (λ f h. (inr (eqb-true i 14 e), h)))
    (λ b. plain_right p a b known))

coded_only : (p : Parameter) (spdu : Spdu) → IsCoded spdu p → spdu_coded_in p ≡ Ok spdu
unfolding spdu_coded_in
coded_only p (Connect called body) h = rw h.0 (ap (λ (read : Result Connection BerFault). read >>= λ c. Ok (connected c)) ((connection_reads p).only (record { called = called; body = body }) h.1))
coded_only p (Accept called body) h = rw h.0 (ap (λ (read : Result Connection BerFault). read >>= λ c. Ok (accepted_connection c)) ((connection_reads p).only (record { called = called; body = body }) h.1))
coded_only p Refuse h = rw h refl
coded_only p (Carry body) h = absurd h
coded_only p Finish h = rw h refl
coded_only p Disconnect h = rw h refl
coded_only p Abort h = rw h refl
coded_only p AbortAccept h = rw h refl

coded_first : (p : Parameter) (f : BerFault) → CodedFault p f → spdu_coded_in p ≡ Err f
unfolding spdu_coded_in
coded_first p f h = elim h.0 [
  | inl e ↦ rw e (ap (λ (read : Result Connection BerFault). read >>= λ c. Ok (connected c)) ((connection_reads p).first f h.1))
  | inr e ↦ rw e (ap (λ (read : Result Connection BerFault). read >>= λ c. Ok (accepted_connection c)) ((connection_reads p).first f h.1))
]

coded_reads : (p : Parameter) → is_code p.identifier ≡ true → IsReading Spdu (λ spdu. IsCoded spdu p) (CodedFault p) (spdu_coded_in p)
coded_reads p known = IsReading-from Spdu (λ spdu. IsCoded spdu p) (CodedFault p) (spdu_coded_in p) (coded_right p known) (coded_only p) (coded_first p)

-- ---- the whole TSDU

whole_reads : (code : ℕ) (octets : List ℕ) → is_code code ≡ true → IsReading Spdu (λ spdu. IsWhole spdu (code ∷ octets)) (WholeFault (code ∷ octets)) (whole_spdu_in (code ∷ octets))
unfolding whole_spdu_in
whole_reads code octets known =
    let tsdu : List ℕ = code ∷ octets in
    IsReading-as Spdu _ (λ spdu. IsWhole spdu tsdu) _ (WholeFault tsdu) _
    (λ spdu h. record { taken = h.0; spelled = h.1; coded = subst (λ (s : Spdu). IsCoded s h.0.value) (sym h.2.2.1) h.2.1; ends = h.2.2.0 })
    (λ spdu h. (h.taken, h.spelled, (spdu, h.coded, (h.ends, refl))))
    (λ f h. h) (λ f h. h)
    (IsReading-then (Taken Parameter) Spdu (BeginsParameter 0 tsdu) (ParameterFault 0 tsdu) (parameter_in 0 tsdu)
    (λ t y. (spdu : Spdu) × IsCoded spdu t.value × ((t.rest ≡ []) × (y ≡ spdu)))
    (λ t f. CodedFault t.value f ⊎ ((spdu : Spdu) × IsCoded spdu t.value × ((t.rest ≢ []) × (f ≡ fault_at t.next whys.Tag))))
    (λ t. spdu_coded_in t.value >>= λ spdu. spdu_end_in spdu t.next t.rest)
    (parameter_reads 0 tsdu)
    (λ t s. IsReading-then Spdu Spdu (λ spdu. IsCoded spdu t.value) (CodedFault t.value) (spdu_coded_in t.value) (λ spdu y. (t.rest ≡ []) × (y ≡ spdu)) (λ spdu f. (t.rest ≢ []) × (f ≡ fault_at t.next whys.Tag)) (λ spdu. spdu_end_in spdu t.next t.rest)
    (coded_reads t.value (subst (λ (i : ℕ). is_code i ≡ true) (sym (identifier_is 0 code octets t s)) known))
    (λ spdu c. end_reads spdu t.next t.rest)))

abbrev Known : ℕ → Type 0
Known code = (eqb code 1 ≡ false) × (is_code code ≡ true)

coded_known : (spdu : Spdu) (p : Parameter) → IsCoded spdu p → Known p.identifier
coded_known (Connect called body) p h = rw h.0 (refl, refl)
coded_known (Accept called body) p h = rw h.0 (refl, refl)
coded_known Refuse p h = rw h (refl, refl)
coded_known (Carry body) p h = absurd h
coded_known Finish p h = rw h (refl, refl)
coded_known Disconnect p h = rw h (refl, refl)
coded_known Abort p h = rw h (refl, refl)
coded_known AbortAccept p h = rw h (refl, refl)

whole_spelled : (spdu : Spdu) (tsdu : List ℕ) → IsWhole spdu tsdu → SpellsSpdu spdu tsdu
whole_spelled (Connect called body) tsdu h = h
whole_spelled (Accept called body) tsdu h = h
whole_spelled Refuse tsdu h = h
whole_spelled (Carry body) tsdu h = absurd h.coded
whole_spelled Finish tsdu h = h
whole_spelled Disconnect tsdu h = h
whole_spelled Abort tsdu h = h
whole_spelled AbortAccept tsdu h = h

abbrev Known_or_data : ℕ → List ℕ → Spdu → Type 0
Known_or_data code octets spdu = ((eqb code 1 ≡ true) × Fronted (0 ∷ 1 ∷ 0 ∷ []) octets carried_data spdu)
    ⊎ ((eqb code 1 ≡ false) × (((is_code code ≡ true) × IsWhole spdu (code ∷ octets)) ⊎ ((is_code code ≡ false) × ⊥)))

from_whole : (code : ℕ) (octets : List ℕ) (spdu : Spdu) → IsWhole spdu (code ∷ octets) → Known_or_data code octets spdu
from_whole code octets spdu h =
    let known : Known code = subst Known (identifier_is 0 code octets h.taken h.spelled) (coded_known spdu h.taken.value h.coded) in
    inr (known.0, inl (known.1, h))

from_spelled : (code : ℕ) (octets : List ℕ) (spdu : Spdu) → SpellsSpdu spdu (code ∷ octets) → Known_or_data code octets spdu
from_spelled code octets (Connect called body) h = from_whole code octets (Connect called body) h
from_spelled code octets (Accept called body) h = from_whole code octets (Accept called body) h
from_spelled code octets Refuse h = from_whole code octets Refuse h
from_spelled code octets (Carry body) h =
    let p = cons_parts code 1 octets (0 ∷ 1 ∷ 0 ∷ h.0) h.1 in
    inl (eq-eqb code 1 p.0, (h.0, p.1, ap (λ (span : Span). Carry span) h.2))
from_spelled code octets Finish h = from_whole code octets Finish h
from_spelled code octets Disconnect h = from_whole code octets Disconnect h
from_spelled code octets Abort h = from_whole code octets Abort h
from_spelled code octets AbortAccept h = from_whole code octets AbortAccept h

to_spelled : (code : ℕ) (octets : List ℕ) (spdu : Spdu) → Known_or_data code octets spdu → SpellsSpdu spdu (code ∷ octets)
to_spelled code octets spdu (inl h) =
    subst (λ (s : Spdu). SpellsSpdu s (code ∷ octets)) (sym h.1.2) (h.1.0, cons_same code 1 octets (0 ∷ 1 ∷ 0 ∷ h.1.0) (eqb-true code 1 h.0) h.1.1, refl)
to_spelled code octets spdu (inr (a, inl h)) = whole_spelled spdu (code ∷ octets) h.1
to_spelled code octets spdu (inr (a, inr h)) = absurd h.1

nothing_whole : (spdu : Spdu) → IsWhole spdu [] → ⊥
nothing_whole spdu h = let e = h.spelled.parts in cc

nothing_spelled : (spdu : Spdu) → SpellsSpdu spdu [] → ⊥
nothing_spelled (Connect called body) h = nothing_whole _ h
nothing_spelled (Accept called body) h = nothing_whole _ h
nothing_spelled Refuse h = nothing_whole _ h
nothing_spelled (Carry body) h = not_nil 1 (0 ∷ 1 ∷ 0 ∷ h.0) (sym h.1)
nothing_spelled Finish h = nothing_whole _ h
nothing_spelled Disconnect h = nothing_whole _ h
nothing_spelled Abort h = nothing_whole _ h
nothing_spelled AbortAccept h = nothing_whole _ h

pub spdu_reads : (tsdu : List ℕ) → IsReading Spdu (λ spdu. SpellsSpdu spdu tsdu) (SpduFault tsdu) (spdu_in tsdu)
unfolding spdu_in
spdu_reads [] =
    IsReading-as Spdu (λ spdu. ⊥) (λ spdu. SpellsSpdu spdu []) _ (SpduFault []) _ (λ spdu h. absurd h) nothing_spelled (λ f h. h) (λ f h. h) (IsReading-failed Spdu (fault_at 0 whys.Short))
spdu_reads (code ∷ octets) =
    IsReading-as Spdu (Known_or_data code octets) (λ spdu. SpellsSpdu spdu (code ∷ octets)) _ (SpduFault (code ∷ octets)) _
    (to_spelled code octets) (from_spelled code octets)
    (λ f h. elim h [
      | inl a ↦ inl (eqb-true code 1 a.0, a.1)
      | inr b ↦ elim b.1 [ inl a ↦ inr (inl (eqb-false code 1 b.0, a.0, a.1)) | inr c ↦ inr (inr (eqb-false code 1 b.0, c.0, c.1)) ]
    ])
    (λ f h. elim h [
      | inl a ↦ inl (eq-eqb code 1 a.0, a.1)
      | inr b ↦ elim b [ inl a ↦ inr (ne_eqb code 1 a.0, inl (a.1, a.2)) | inr c ↦ inr (ne_eqb code 1 c.0, inr (c.1, c.2)) ]
    ])
    (IsReading-test Spdu (Fronted (0 ∷ 1 ∷ 0 ∷ []) octets carried_data) _ (FrontFault 1 (0 ∷ 1 ∷ 0 ∷ []) octets) _ (eqb code 1) (fixed_front_in 1 (0 ∷ 1 ∷ 0 ∷ []) octets carried_data) _
    (λ e. front_reads 1 (0 ∷ 1 ∷ 0 ∷ []) octets carried_data)
    (λ e. IsReading-test Spdu (λ spdu. IsWhole spdu (code ∷ octets)) (λ spdu. ⊥) (WholeFault (code ∷ octets)) (λ f. f ≡ fault_at 0 whys.Tag) (is_code code) (whole_spdu_in (code ∷ octets)) (Err (fault_at 0 whys.Tag))
    (λ known. whole_reads code octets known) (λ unknown. IsReading-failed Spdu (fault_at 0 whys.Tag))))

pub spdu_one_reading : (tsdu : List ℕ) → HasOneReading Spdu (λ spdu. SpellsSpdu spdu tsdu) (SpduFault tsdu)
spdu_one_reading tsdu = HasOneReading-from Spdu (λ spdu. SpellsSpdu spdu tsdu) (SpduFault tsdu) (spdu_in tsdu) (spdu_reads tsdu)
