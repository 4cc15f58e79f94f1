-- Reading a parameter is exact.
use Rattle.std.proofs.Common.{◌≡◌, ℕ, ◌+◌, ◌<◌, ◌≤◌, ltb, List, [], ◌∷◌, ◌++◌, length, take, drop, Ok, Err, refl, sym, ap, subst, ◌∙◌, inl, inr, arith}
use Rattle.std.proofs.lemmas.Bool.{ltb-true, ltb-false, lt-ltb, le-ltb}
use Rattle.std.proofs.lemmas.List.{take_at, drop_at, take-append-drop, length-append, length-take}
use Rattle.ber_values.specs.declared.fault.BerFault.{BerFault}
use Rattle.ber_values.specs.declared.fault.Why.TheVariants as whys
use Rattle.ber_values.specs.Faults.{fault_at}
use Rattle.ber_values.specs.Reading.{Taken, Begins, IsReading}
use Rattle.ber_values.specs.Grammars.{taken}
use Rattle.ber_values.proofs.Reading.{IsReading-then, IsReading-as}
use Rattle.ber_values.proofs.Grammars.{IsReading-done, IsReading-failed, IsReading-test}
use Rattle.session_profile.specs.Lengths.{SpellsSessionLength, SessionLengthFault, session_length_in}
use Rattle.session_profile.specs.Parameters.{Parameter, BeginsParameter, ParameterFault, parameter, sized_parameter_in, parameter_in}
use Rattle.session_profile.proofs.Lengths.{length_reads}

abbrev sized : ℕ → ℕ → Taken ℕ → Taken Parameter
sized identifier at size = taken (parameter identifier at size) (size.next + size.value) (drop size.value size.rest)

abbrev Fits : ℕ → ℕ → Taken ℕ → Taken Parameter → Type 0
Fits identifier at size t = (size.value ≤ length size.rest) × (t ≡ sized identifier at size)

abbrev Passes : ℕ → Taken ℕ → BerFault → Type 0
Passes at size f = (length size.rest < size.value) × (f ≡ fault_at (at + 1) whys.Length)

fits_reads : (identifier at : ℕ) (size : Taken ℕ) → IsReading (Taken Parameter) (Fits identifier at size) (Passes at size) (sized_parameter_in identifier at size)
fits_reads identifier at size =
    IsReading-as (Taken Parameter) _ (Fits identifier at size) _ (Passes at size) _
    (λ t h. elim h [ inl a ↦ absurd a.1 | inr b ↦ (ltb-false (length size.rest) size.value b.0, b.1) ])
    (λ t h. inr (le-ltb (length size.rest) size.value h.0, h.1))
    (λ f h. elim h [ inl a ↦ (ltb-true (length size.rest) size.value a.0, a.1) | inr b ↦ absurd b.1 ])
    (λ f h. inl (lt-ltb (length size.rest) size.value h.0, h.1))
    (IsReading-test (Taken Parameter) (λ t. ⊥) (λ t. t ≡ sized identifier at size) (λ f. f ≡ fault_at (at + 1) whys.Length) (λ f. ⊥) (ltb (length size.rest) size.value) (Err (fault_at (at + 1) whys.Length)) (Ok (sized identifier at size)) (λ e. IsReading-failed (Taken Parameter) (fault_at (at + 1) whys.Length)) (λ e. IsReading-done (Taken Parameter) (sized identifier at size)))

cons_heads : (x y : ℕ) (xs ys : List ℕ) → (x ∷ xs) ≡ (y ∷ ys) → (x ≡ y) × (xs ≡ ys)
cons_heads x y xs ys e = (cc, cc)

taken_is : (t : Taken Parameter) (identifier place body next : ℕ) (contents rest : List ℕ) → t.value.identifier ≡ identifier → t.value.place ≡ place → t.value.body ≡ body → t.value.contents ≡ contents → t.next ≡ next → t.rest ≡ rest
    → t ≡ taken (record { identifier = identifier; place = place; body = body; contents = contents }) next rest
taken_is t identifier place body next contents rest a b c d e f = rw (sym a, sym b, sym c, sym d, sym e, sym f) refl

begun_from : (identifier at : ℕ) (octets : List ℕ) (size : Taken ℕ) → Begins ℕ SpellsSessionLength (at + 1) octets size → size.value ≤ length size.rest → BeginsParameter at (identifier ∷ octets) (sized identifier at size)
begun_from identifier at octets size b within =
    let len : length (take size.value size.rest) ≡ size.value = omega (arith, length-take size.value size.rest, within) in
    record {
      size = b.spelling;
      spelled = subst (λ (n : ℕ). SpellsSessionLength n b.spelling) (sym len) b.spelled;
      parts = ap (λ (os : List ℕ). identifier ∷ os) (b.parts ∙ ap (λ (os : List ℕ). b.spelling ++ os) (sym (take-append-drop size.value size.rest)));
      place = refl;
      body = b.place;
      next = ap (λ (n : ℕ). size.next + n) (sym len);
    }

sized_to : (identifier at : ℕ) (octets : List ℕ) (t : Taken Parameter) → BeginsParameter at (identifier ∷ octets) t
    → (size : Taken ℕ) × Begins ℕ SpellsSessionLength (at + 1) octets size × Fits identifier at size t
sized_to identifier at octets t h =
    let all : List ℕ = t.value.contents ++ t.rest in
    let n : ℕ = length t.value.contents in
    let p = cons_heads identifier t.value.identifier octets (h.size ++ all) h.parts in
    let size : Taken ℕ = taken n t.value.body all in (
      size,
      record { spelling = h.size; spelled = h.spelled; parts = p.1; place = h.body },
      (omega (arith, length-append t.value.contents t.rest), taken_is t identifier at t.value.body (t.value.body + n) (take n all) (drop n all) (sym p.0) h.place refl (sym (take_at t.value.contents t.rest n refl)) h.next (sym (drop_at t.value.contents t.rest n refl))),
    )

pub nothing_begun : (at : ℕ) (t : Taken Parameter) → BeginsParameter at [] t → ⊥
nothing_begun at t h = let e = h.parts in cc

pub parameter_reads : (at : ℕ) (octets : List ℕ) → IsReading (Taken Parameter) (BeginsParameter at octets) (ParameterFault at octets) (parameter_in at octets)
unfolding parameter_in
parameter_reads at [] =
    IsReading-as (Taken Parameter) (λ t. ⊥) (BeginsParameter at []) _ (ParameterFault at []) _ (λ t h. absurd h) (nothing_begun at) (λ f h. h) (λ f h. h) (IsReading-failed (Taken Parameter) (fault_at at whys.Short))
parameter_reads at (identifier ∷ octets) =
    IsReading-as (Taken Parameter) _ (BeginsParameter at (identifier ∷ octets)) _ (ParameterFault at (identifier ∷ octets)) _
    (λ t h. subst (BeginsParameter at (identifier ∷ octets)) (sym h.2.1) (begun_from identifier at octets h.0 h.1 h.2.0))
    (sized_to identifier at octets)
    (λ f h. elim h [ inl a ↦ inl a | inr b ↦ inr (record { size = b.0; spelled = b.1; past = b.2.0; is = b.2.1 }) ])
    (λ f h. elim h [ inl a ↦ inl a | inr b ↦ inr (b.size, b.spelled, (b.past, b.is)) ])
    (IsReading-then (Taken ℕ) (Taken Parameter) (Begins ℕ SpellsSessionLength (at + 1) octets) (SessionLengthFault (at + 1) octets) (session_length_in (at + 1) octets) (Fits identifier at) (Passes at) (sized_parameter_in identifier at)
    (length_reads (at + 1) octets) (λ size s. fits_reads identifier at size))

-- a parameter takes an identifier and a length at least
pub takes_octets : (at : ℕ) (octets : List ℕ) (t : Taken Parameter) → BeginsParameter at octets t → length t.rest < length octets
takes_octets at octets t h =
    let e : length octets ≡ length (t.value.identifier ∷ (h.size ++ (t.value.contents ++ t.rest))) = ap length h.parts in
    omega (arith, e, length-append h.size (t.value.contents ++ t.rest), length-append t.value.contents t.rest)

-- its identifier is the first octet
pub identifier_is : (at first : ℕ) (octets : List ℕ) (t : Taken Parameter) → BeginsParameter at (first ∷ octets) t → t.value.identifier ≡ first
identifier_is at first octets t h = sym (cons_heads first t.value.identifier octets (h.size ++ (t.value.contents ++ t.rest)) h.parts).0
