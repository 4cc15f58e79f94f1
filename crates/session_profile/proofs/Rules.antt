-- Reading parameters under rules is exact.
use Rattle.std.proofs.Common.{◌≡◌, ℕ, zero, suc, ◌<◌, ◌≤◌, Bool, true, false, cond, List, [], ◌∷◌, ◌++◌, length, Option, Some, None, Result, Ok, Err, refl, sym, ap, subst, ◌∙◌, inl, inr, ◌⊎◌, arith}
use Rattle.std.proofs.lemmas.List.{append-nil, append_assoc}
use Rattle.ber_values.specs.declared.fault.BerFault.{BerFault}
use Rattle.ber_values.specs.declared.fault.Why.TheVariants as whys
use Rattle.ber_values.specs.Faults.{fault_at, ◌>>=◌}
use Rattle.ber_values.specs.Reading.{Taken, IsReading}
use Rattle.ber_values.proofs.Reading.{IsReading-then, IsReading-as, bind_ok}
use Rattle.ber_values.proofs.Grammars.{IsReading-done, IsReading-failed, IsReading-test, IsReading-map}
use Rattle.session_profile.specs.Parameters.{Parameter, BeginsParameter, ParameterFault, BeginsParameters, parameter_in}
use Rattle.session_profile.specs.Rules.{Rules, MayFollow, SpellsAll, BreaksAfter, FaultAmong, sound_in, next_in, whole_or_short, more_parameters_in, rest_in, all_parameters_in}
use Rattle.session_profile.proofs.Parameters.{parameter_reads, takes_octets, identifier_is, nothing_begun}

-- reading by the rules follows what they say
pub record IsRules {S V : Type 0} (r : Rules S V) : Type 0 where
  pub adds : (ps : List Parameter) (p : Parameter) → r.seen (ps ++ p ∷ []) ≡ r.with_one (r.seen ps) p
  pub judges : (p : Parameter) → IsReading (Unit {0}) (λ u. r.is_sound p) (r.breaks p) (r.judged p)

-- ---- one parameter

abbrev Sound : {S V : Type 0} → Rules S V → ℕ → List ℕ → Taken Parameter → Type 0
Sound r at octets t = BeginsParameter at octets t × r.is_sound t.value

abbrev SoundFault : {S V : Type 0} → Rules S V → ℕ → List ℕ → BerFault → Type 0
SoundFault r at octets f = ParameterFault at octets f ⊎ ((t : Taken Parameter) × BeginsParameter at octets t × r.breaks t.value f)

sound_reads : {S V : Type 0} (r : Rules S V) → IsRules r → (at : ℕ) (octets : List ℕ) → IsReading (Taken Parameter) (Sound r at octets) (SoundFault r at octets) (sound_in r at octets)
sound_reads r rules at octets =
    IsReading-as (Taken Parameter) _ (Sound r at octets) _ (SoundFault r at octets) _
    (λ t h. subst (Sound r at octets) (sym h.2.2) (h.1, h.2.1)) (λ t h. (t, h.0, (tt, h.1, refl))) (λ f h. h) (λ f h. h)
    (IsReading-then (Taken Parameter) (Taken Parameter) (BeginsParameter at octets) (ParameterFault at octets) (parameter_in at octets) (λ t y. (u : Unit {0}) × r.is_sound t.value × (y ≡ t)) (λ t f. r.breaks t.value f) (λ t. r.judged t.value >>= λ u. Ok t)
    (parameter_reads at octets) (λ t s. IsReading-map (Unit {0}) (Taken Parameter) (λ u. r.is_sound t.value) (r.breaks t.value) (r.judged t.value) (λ u. t) (rules.judges t.value)))

abbrev Next : {S V : Type 0} → Rules S V → List Parameter → ℕ → ℕ → List ℕ → Taken Parameter → Type 0
Next r before at identifier octets t = (r.may_follow (r.seen before) identifier ≡ true) × Sound r at (identifier ∷ octets) t

next_reads : {S V : Type 0} (r : Rules S V) → IsRules r → (before : List Parameter) (at identifier : ℕ) (octets : List ℕ) → IsReading (Taken Parameter) (Next r before at identifier octets) (BreaksAfter r before at (identifier ∷ octets)) (next_in r (r.seen before) at (identifier ∷ octets))
next_reads r rules before at identifier octets =
    let may : Bool = r.may_follow (r.seen before) identifier in
    IsReading-as (Taken Parameter) _ (Next r before at identifier octets) _ (BreaksAfter r before at (identifier ∷ octets)) _
    (λ t h. elim h [ inl a ↦ a | inr b ↦ absurd b.1 ]) (λ t h. inl h)
    (λ f h. elim h [ inl a ↦ inr a | inr b ↦ inl b ]) (λ f h. elim h [ inl a ↦ inr a | inr b ↦ inl b ])
    (IsReading-test (Taken Parameter) (Sound r at (identifier ∷ octets)) (λ t. ⊥) (SoundFault r at (identifier ∷ octets)) (λ f. f ≡ fault_at at whys.Tag) may (sound_in r at (identifier ∷ octets)) (Err (fault_at at whys.Tag)) (λ e. sound_reads r rules at (identifier ∷ octets)) (λ e. IsReading-failed (Taken Parameter) (fault_at at whys.Tag)))

-- ---- all the rest

abbrev Lacks : {V : Type 0} → Option V → ℕ → BerFault → Type 0
Lacks value at f = (value ≡ None) × (f ≡ fault_at at whys.Short)

abbrev Has : {V : Type 0} → Option V → V → Type 0
Has value v = value ≡ Some v

whole_reads : {V : Type 0} (value : Option V) (at : ℕ) → IsReading V (Has value) (Lacks value at) (whole_or_short value at)
whole_reads {V} None at =
    IsReading-as V (λ v. ⊥) (Has {V = V} None) (λ f. f ≡ fault_at at whys.Short) (Lacks {V = V} None at) _ (λ v h. absurd h) (λ v e. absurd cc) (λ f h. (refl, h)) (λ f h. h.1) (IsReading-failed V (fault_at at whys.Short))
whole_reads {V} (Some x) at =
    IsReading-as V (λ v. v ≡ x) (Has (Some x)) (λ f. ⊥) (Lacks (Some x) at) _ (λ v h. ap (λ (y : V). Some y) (sym h)) (λ v e. cc) (λ f h. absurd h) (λ f h. let e = h.0 in absurd cc) (IsReading-done V x)

record More {S V : Type 0} (r : Rules S V) (before : List Parameter) (at : ℕ) (octets : List ℕ) (value : V) : Type 0 where
  parameters : List Parameter
  end : ℕ
  spelled : BeginsParameters at octets parameters end []
  kept : MayFollow r before parameters
  is : r.value (r.seen (before ++ parameters)) ≡ Some value

record MoreFault {S V : Type 0} (r : Rules S V) (before : List Parameter) (at : ℕ) (octets : List ℕ) (f : BerFault) : Type 0 where
  after : List Parameter
  next : ℕ
  rest : List ℕ
  spelled : BeginsParameters at octets after next rest
  kept : MayFollow r before after
  breaks : BreaksAfter r (before ++ after) next rest f

more_ended : {S V : Type 0} (r : Rules S V) (before : List Parameter) (at : ℕ) (value : V) (ps : List Parameter) (end : ℕ) → BeginsParameters at [] ps end [] → r.value (r.seen (before ++ ps)) ≡ Some value → r.value (r.seen before) ≡ Some value
more_ended r before at value [] end s is = subst (λ (b : List Parameter). r.value (r.seen b) ≡ Some value) (append-nil before) is
more_ended r before at value (p ∷ ps) end s is = absurd (nothing_begun at s.0 s.1)

fault_ended : {S V : Type 0} (r : Rules S V) (before : List Parameter) (at : ℕ) (f : BerFault) (ps : List Parameter) (next : ℕ) (rest : List ℕ) → BeginsParameters at [] ps next rest → BreaksAfter r (before ++ ps) next rest f → BreaksAfter r before at [] f
fault_ended r before at f [] next rest s breaks =
    subst (λ (b : List Parameter). BreaksAfter r b at [] f) (append-nil before) (subst (λ (n : ℕ). BreaksAfter r (before ++ []) n [] f) s.0 (subst (λ (os : List ℕ). BreaksAfter r (before ++ []) next os f) s.1 breaks))
fault_ended r before at f (p ∷ ps) next rest s breaks = absurd (nothing_begun at s.0 s.1)

end_reads : {S V : Type 0} (r : Rules S V) (before : List Parameter) (at : ℕ) → IsReading V (More r before at []) (MoreFault r before at []) (whole_or_short (r.value (r.seen before)) at)
end_reads {S} {V} r before at =
    IsReading-as V _ (More r before at []) _ (MoreFault r before at []) _
    (λ v e. record { parameters = []; end = at; spelled = (refl, refl); kept = tt; is = subst (λ (b : List Parameter). r.value (r.seen b) ≡ Some v) (sym (append-nil before)) e })
    (λ v h. more_ended r before at v h.parameters h.end h.spelled h.is)
    (λ f h. record { after = []; next = at; rest = []; spelled = (refl, refl); kept = tt; breaks = subst (λ (b : List Parameter). BreaksAfter r b at [] f) (sym (append-nil before)) h })
    (λ f h. fault_ended r before at f h.after h.next h.rest h.spelled h.breaks)
    (whole_reads (r.value (r.seen before)) at)

abbrev After : {S V : Type 0} → Rules S V → List Parameter → ℕ → ℕ → List ℕ → V → Type 0
After r before at identifier octets value = (t : Taken Parameter) × Next r before at identifier octets t × More r (before ++ t.value ∷ []) t.next t.rest value

abbrev FaultAfter : {S V : Type 0} → Rules S V → List Parameter → ℕ → ℕ → List ℕ → BerFault → Type 0
FaultAfter r before at identifier octets f = BreaksAfter r before at (identifier ∷ octets) f ⊎ ((t : Taken Parameter) × Next r before at identifier octets t × MoreFault r (before ++ t.value ∷ []) t.next t.rest f)

may_be : {S V : Type 0} (r : Rules S V) (before : List Parameter) (at identifier : ℕ) (octets : List ℕ) (t : Taken Parameter) → Next r before at identifier octets t → r.may_follow (r.seen before) t.value.identifier ≡ true
may_be r before at identifier octets t h = subst (λ (i : ℕ). r.may_follow (r.seen before) i ≡ true) (sym (identifier_is at identifier octets t h.1.0)) h.0

is_next : {S V : Type 0} (r : Rules S V) (before : List Parameter) (at identifier : ℕ) (octets : List ℕ) (t : Taken Parameter) → BeginsParameter at (identifier ∷ octets) t → r.may_follow (r.seen before) t.value.identifier ≡ true → r.is_sound t.value → Next r before at identifier octets t
is_next r before at identifier octets t b may sound = (subst (λ (i : ℕ). r.may_follow (r.seen before) i ≡ true) (identifier_is at identifier octets t b) may, (b, sound))

one_more : {S V : Type 0} (r : Rules S V) (before : List Parameter) (at identifier : ℕ) (octets : List ℕ) (value : V) → After r before at identifier octets value → More r before at (identifier ∷ octets) value
one_more r before at identifier octets value h =
    let t = h.0 in
    let m = h.2 in
    record {
      parameters = t.value ∷ m.parameters;
      end = m.end;
      spelled = (t, h.1.1.0, refl, m.spelled);
      kept = (may_be r before at identifier octets t h.1, h.1.1.1, m.kept);
      is = subst (λ (b : List Parameter). r.value (r.seen b) ≡ Some value) (append_assoc before (t.value ∷ []) m.parameters) m.is;
    }

more_one : {S V : Type 0} (r : Rules S V) (before : List Parameter) (at identifier : ℕ) (octets : List ℕ) (value : V) (ps : List Parameter) (end : ℕ) → BeginsParameters at (identifier ∷ octets) ps end [] → MayFollow r before ps → r.value (r.seen (before ++ ps)) ≡ Some value → After r before at identifier octets value
more_one r before at identifier octets value [] end s kept is = absurd (let e = s.1 in cc)
more_one r before at identifier octets value (p ∷ ps) end s kept is =
    let t = s.0 in
    let k : MayFollow r before (t.value ∷ ps) = subst (λ (q : Parameter). MayFollow r before (q ∷ ps)) s.2 kept in
    let i : r.value (r.seen (before ++ t.value ∷ ps)) ≡ Some value = subst (λ (q : Parameter). r.value (r.seen (before ++ q ∷ ps)) ≡ Some value) s.2 is in (
      t,
      is_next r before at identifier octets t s.1 k.0 k.1,
      record { parameters = ps; end = end; spelled = s.3; kept = k.2; is = subst (λ (b : List Parameter). r.value (r.seen b) ≡ Some value) (sym (append_assoc before (t.value ∷ []) ps)) i },
    )

fault_more : {S V : Type 0} (r : Rules S V) (before : List Parameter) (at identifier : ℕ) (octets : List ℕ) (f : BerFault) → FaultAfter r before at identifier octets f → MoreFault r before at (identifier ∷ octets) f
fault_more r before at identifier octets f (inl h) =
    record { after = []; next = at; rest = identifier ∷ octets; spelled = (refl, refl); kept = tt; breaks = subst (λ (b : List Parameter). BreaksAfter r b at (identifier ∷ octets) f) (sym (append-nil before)) h }
fault_more r before at identifier octets f (inr h) =
    let t = h.0 in
    let m = h.2 in
    record {
      after = t.value ∷ m.after;
      next = m.next;
      rest = m.rest;
      spelled = (t, h.1.1.0, refl, m.spelled);
      kept = (may_be r before at identifier octets t h.1, h.1.1.1, m.kept);
      breaks = subst (λ (b : List Parameter). BreaksAfter r b m.next m.rest f) (append_assoc before (t.value ∷ []) m.after) m.breaks;
    }

more_fault : {S V : Type 0} (r : Rules S V) (before : List Parameter) (at identifier : ℕ) (octets : List ℕ) (f : BerFault) (ps : List Parameter) (next : ℕ) (rest : List ℕ) → BeginsParameters at (identifier ∷ octets) ps next rest → MayFollow r before ps → BreaksAfter r (before ++ ps) next rest f → FaultAfter r before at identifier octets f
more_fault r before at identifier octets f [] next rest s kept breaks =
    inl (subst (λ (b : List Parameter). BreaksAfter r b at (identifier ∷ octets) f) (append-nil before) (subst (λ (n : ℕ). BreaksAfter r (before ++ []) n (identifier ∷ octets) f) s.0 (subst (λ (os : List ℕ). BreaksAfter r (before ++ []) next os f) s.1 breaks)))
more_fault r before at identifier octets f (p ∷ ps) next rest s kept breaks =
    let t = s.0 in
    let k : MayFollow r before (t.value ∷ ps) = subst (λ (q : Parameter). MayFollow r before (q ∷ ps)) s.2 kept in
    let i : BreaksAfter r (before ++ t.value ∷ ps) next rest f = subst (λ (q : Parameter). BreaksAfter r (before ++ q ∷ ps) next rest f) s.2 breaks in
    inr (
      t,
      is_next r before at identifier octets t s.1 k.0 k.1,
      record { after = ps; next = next; rest = rest; spelled = s.3; kept = k.2; breaks = subst (λ (b : List Parameter). BreaksAfter r b next rest f) (sym (append_assoc before (t.value ∷ []) ps)) i },
    )

more_reads : {S V : Type 0} (r : Rules S V) → IsRules r → (room : ℕ) (before : List Parameter) (at : ℕ) (octets : List ℕ) → length octets ≤ room → IsReading V (More r before at octets) (MoreFault r before at octets) (more_parameters_in r room (r.seen before) at octets)
more_reads r rules zero before at [] le = end_reads r before at
more_reads r rules (suc room) before at [] le = end_reads r before at
more_reads r rules zero before at (identifier ∷ octets) le = absurd (omega (arith, le))
more_reads {S} {V} r rules (suc room) before at (identifier ∷ octets) le =
    IsReading-as V (After r before at identifier octets) (More r before at (identifier ∷ octets)) (FaultAfter r before at identifier octets) (MoreFault r before at (identifier ∷ octets)) _
    (λ v h. one_more r before at identifier octets v h) (λ v h. more_one r before at identifier octets v h.parameters h.end h.spelled h.kept h.is)
    (λ f h. fault_more r before at identifier octets f h) (λ f h. more_fault r before at identifier octets f h.after h.next h.rest h.spelled h.kept h.breaks)
    (IsReading-then (Taken Parameter) V (Next r before at identifier octets) (BreaksAfter r before at (identifier ∷ octets)) (next_in r (r.seen before) at (identifier ∷ octets)) (λ t v. More r (before ++ t.value ∷ []) t.next t.rest v) (λ t f. MoreFault r (before ++ t.value ∷ []) t.next t.rest f) (λ t. more_parameters_in r room (r.with_one (r.seen before) t.value) t.next t.rest)
    (next_reads r rules before at identifier octets)
    (λ t h. subst (λ (s : S). IsReading V (More r (before ++ t.value ∷ []) t.next t.rest) (MoreFault r (before ++ t.value ∷ []) t.next t.rest) (more_parameters_in r room s t.next t.rest)) (rules.adds before t.value)
    (more_reads r rules room (before ++ t.value ∷ []) t.next t.rest (omega (arith, le, takes_octets at (identifier ∷ octets) t h.1.0)))))

pub all_reads : {S V : Type 0} (r : Rules S V) → IsRules r → (at : ℕ) (octets : List ℕ) → IsReading V (λ v. SpellsAll r at v octets) (FaultAmong r at octets) (all_parameters_in r at octets)
unfolding all_parameters_in rest_in
all_reads {S} {V} r rules at octets =
    IsReading-as V (More r [] at octets) (λ v. SpellsAll r at v octets) (MoreFault r [] at octets) (FaultAmong r at octets) _
    (λ v h. record { parameters = h.parameters; end = h.end; spelled = h.spelled; kept = h.kept; is = h.is })
    (λ v h. record { parameters = h.parameters; end = h.end; spelled = h.spelled; kept = h.kept; is = h.is })
    (λ f h. record { before = h.after; next = h.next; rest = h.rest; spelled = h.spelled; kept = h.kept; breaks = h.breaks })
    (λ f h. record { after = h.before; next = h.next; rest = h.rest; spelled = h.spelled; kept = h.kept; breaks = h.breaks })
    (more_reads r rules (length octets) [] at octets (omega arith))

-- ---- one step of reading the rest

bind_same : {X Y : Type 0} (read : Result X BerFault) (f g : X → Result Y BerFault) → ((x : X) → read ≡ Ok x → f x ≡ g x) → (read >>= f) ≡ (read >>= g)
bind_same (Ok x) f g same = same x refl
bind_same (Err e) f g same = refl

-- an octet is taken by each parameter that may come next
next_takes : {S V : Type 0} (r : Rules S V) (s : S) (at : ℕ) (octets : List ℕ) (t : Taken Parameter) → next_in r s at octets ≡ Ok t → length t.rest < length octets
next_takes r s at [] t e = absurd (not_failed t (fault_at at whys.Short) (sym e))
  where
    not_failed : (x : Taken Parameter) (f : BerFault) → Ok x ≡ Err f → ⊥
    not_failed x f e = cc
next_takes r s at (identifier ∷ octets) t e =
    takes_octets at (identifier ∷ octets) t (taken_of (r.may_follow s identifier) e)
  where
    sound_begins : (read : Result (Unit {0}) BerFault) (u t : Taken Parameter) → BeginsParameter at (identifier ∷ octets) u → (read >>= λ x. Ok u) ≡ Ok t → BeginsParameter at (identifier ∷ octets) t
    sound_begins (Ok x) u t b e = let is : u ≡ t = cc in subst (BeginsParameter at (identifier ∷ octets)) is b
    sound_begins (Err f) u t b e = absurd cc

    taken_of : (may : Bool) → cond may (sound_in r at (identifier ∷ octets)) (Err (fault_at at whys.Tag)) ≡ Ok t → BeginsParameter at (identifier ∷ octets) t
    taken_of true e = let b = bind_ok (parameter_in at (identifier ∷ octets)) (λ u. r.judged u.value >>= λ x. Ok u) t e in sound_begins (r.judged b.0.value) b.0 t ((parameter_reads at (identifier ∷ octets)).found b.0 b.1) b.2
    taken_of false e = absurd cc

more_room : {S V : Type 0} (r : Rules S V) (n m : ℕ) (s : S) (at : ℕ) (octets : List ℕ) → length octets ≤ n → length octets ≤ m → more_parameters_in r n s at octets ≡ more_parameters_in r m s at octets
more_room r zero zero s at [] a b = refl
more_room r zero (suc m) s at [] a b = refl
more_room r (suc n) zero s at [] a b = refl
more_room r (suc n) (suc m) s at [] a b = refl
more_room r zero m s at (identifier ∷ octets) a b = absurd (omega (arith, a))
more_room r (suc n) zero s at (identifier ∷ octets) a b = absurd (omega (arith, b))
more_room r (suc n) (suc m) s at (identifier ∷ octets) a b =
    bind_same (next_in r s at (identifier ∷ octets)) (λ t. more_parameters_in r n (r.with_one s t.value) t.next t.rest) (λ t. more_parameters_in r m (r.with_one s t.value) t.next t.rest)
    (λ t e. let lt = next_takes r s at (identifier ∷ octets) t e in more_room r n m (r.with_one s t.value) t.next t.rest (omega (arith, a, lt)) (omega (arith, b, lt)))

pub rest_end : {S V : Type 0} (r : Rules S V) (s : S) (at : ℕ) (octets : List ℕ) → length octets ≡ 0 → rest_in r s at octets ≡ whole_or_short (r.value s) at
unfolding rest_in
rest_end r s at [] e = refl
rest_end r s at (identifier ∷ octets) e = absurd (omega (arith, e))

pub rest_fault : {S V : Type 0} (r : Rules S V) (s : S) (at : ℕ) (octets : List ℕ) (f : BerFault) → 0 < length octets → next_in r s at octets ≡ Err f → rest_in r s at octets ≡ Err f
unfolding rest_in
rest_fault r s at [] f lt e = absurd (omega (arith, lt))
rest_fault {S} {V} r s at (identifier ∷ octets) f lt e = ap (λ (read : Result (Taken Parameter) BerFault). read >>= λ t. more_parameters_in r (length octets) (r.with_one s t.value) t.next t.rest) e

pub rest_step : {S V : Type 0} (r : Rules S V) (s : S) (at : ℕ) (octets : List ℕ) (t : Taken Parameter) → 0 < length octets → next_in r s at octets ≡ Ok t → rest_in r s at octets ≡ rest_in r (r.with_one s t.value) t.next t.rest
unfolding rest_in
rest_step r s at [] t lt e = absurd (omega (arith, lt))
rest_step {S} {V} r s at (identifier ∷ octets) t lt e =
    ap (λ (read : Result (Taken Parameter) BerFault). read >>= λ t. more_parameters_in r (length octets) (r.with_one s t.value) t.next t.rest) e
    ∙ more_room r (length octets) (length t.rest) (r.with_one s t.value) t.next t.rest (omega (arith, next_takes r s at (identifier ∷ octets) t e)) (omega arith)
