-- Contents that are elements are read exactly, where their elements are.
use Rattle.std.proofs.Common.{◌≡◌, ◌≢◌, ℕ, zero, suc, ◌+◌, ◌-◌, ◌^◌, ◌≤◌, ◌<◌, drop, Bool, true, false, cond, eqb, ltb, List, [], ◌∷◌, ◌++◌, length, Result, Ok, Err, refl, sym, ap, subst, ◌∙◌, inl, inr, ◌⊎◌, append_assoc, append-nil, arith}
use Rattle.std.proofs.lemmas.Bool.{ltb-true, ltb-false, lt-ltb, le-ltb, eqb-true, false≢true}
use Rattle.std.proofs.lemmas.List.{length_push, length-drop}
use Rattle.ber_values.specs.declared.fault.BerFault.{BerFault}
use Rattle.ber_values.specs.declared.fault.Why.TheVariants as whys
use Rattle.ber_values.specs.declared.head.Head.{Head}
use Rattle.ber_values.specs.Faults.{fault_at}
use Rattle.ber_values.specs.Reading.{Taken, IsReading}
use Rattle.ber_values.specs.Grammars.{Grammar, IsGrammar, taken}
use Rattle.ber_values.specs.declared.stop.Stop.{Stop}
use Rattle.ber_values.specs.declared.stop.Stop.TheVariants as stops
use Rattle.ber_values.specs.Stops.{StopsAs}
use Rattle.ber_values.specs.Parts.{IsContentsGrammar}
use Rattle.ber_values.specs.Lists.{BeginsList, SpellsList, BreaksList, ListFault, more_in, count_in, list_in}
use Rattle.ber_values.proofs.Reading.{IsReading-then, IsReading-as}
use Rattle.ber_values.proofs.Grammars.{IsReading-done, IsReading-failed, IsReading-test}

-- these elements, after others
pub record MoreList {X : Type 0} (g : Grammar X) (least room : ℕ) (before : List X) (at : ℕ) (octets : List ℕ) (all : List X) : Type 0 where
  pub xs : List X
  pub end : ℕ
  pub spelled : BeginsList g at octets xs end []
  pub is : all ≡ before ++ xs
  pub enough : least ≤ length before + length xs
  pub few : length xs ≤ room

-- what breaks after these elements, after others
pub record MoreFault {X : Type 0} (g : Grammar X) (least room count at : ℕ) (octets : List ℕ) (f : BerFault) : Type 0 where
  pub xs : List X
  pub next : ℕ
  pub rest : List ℕ
  pub spelled : BeginsList g at octets xs next rest
  pub few : length xs ≤ room
  pub breaks : ((rest ≡ []) × (count + length xs < least) × (f ≡ fault_at next whys.Short)) ⊎ (((rest ≢ []) × (length xs < room) × g.fault next rest f) ⊎ ((rest ≢ []) × (length xs ≡ room) × (f ≡ fault_at next whys.Tag)))

-- ---- the end

ended_list : {X : Type 0} (g : Grammar X) (least room : ℕ) (before : List X) (at : ℕ) (all : List X) → least ≤ length before → all ≡ before → MoreList g least room before at [] all
ended_list g least room before at all enough is = record { xs = []; end = at; spelled = (refl, refl); is = is ∙ sym (append-nil before); enough = omega arith; few = omega arith }

list_ended : {X : Type 0} (g : Grammar X) (least room : ℕ) (before : List X) (at : ℕ) (all xs : List X) (end : ℕ) → BeginsList g at [] xs end [] → all ≡ before ++ xs → least ≤ length before + length xs → (least ≤ length before) × (all ≡ before)
list_ended g least room before at all [] end s is enough = (omega (arith, enough), is ∙ append-nil before)
list_ended g least room before at all (x ∷ xs) end s is enough = absurd (s.1 refl)

ended_fault : {X : Type 0} (g : Grammar X) (least room count at : ℕ) (f : BerFault) → count < least → f ≡ fault_at at whys.Short → MoreFault g least room count at [] f
ended_fault g least room count at f few is = record { xs = []; next = at; rest = []; spelled = (refl, refl); few = omega arith; breaks = inl (refl, omega arith, is) }

fault_ended : {X : Type 0} (g : Grammar X) (least room count at : ℕ) (f : BerFault) (xs : List X) (next : ℕ) (rest : List ℕ) → BeginsList g at [] xs next rest
    → ((rest ≡ []) × (count + length xs < least) × (f ≡ fault_at next whys.Short)) ⊎ (((rest ≢ []) × (length xs < room) × g.fault next rest f) ⊎ ((rest ≢ []) × (length xs ≡ room) × (f ≡ fault_at next whys.Tag)))
    → (count < least) × (f ≡ fault_at at whys.Short)
fault_ended g least room count at f [] next rest s (inl b) = (omega (arith, b.1), b.2 ∙ ap (λ (n : ℕ). fault_at n whys.Short) s.0)
fault_ended g least room count at f [] next rest s (inr (inl b)) = absurd (b.0 s.1)
fault_ended g least room count at f [] next rest s (inr (inr b)) = absurd (b.0 s.1)
fault_ended g least room count at f (x ∷ xs) next rest s b = absurd (s.1 refl)

end_reads : {X : Type 0} (g : Grammar X) (least room : ℕ) (before : List X) (at : ℕ) → IsReading (List X) (MoreList g least room before at []) (MoreFault g least room (length before) at []) (cond (ltb (length before) least) (Err (fault_at at whys.Short)) (Ok before))
end_reads {X} g least room before at =
    IsReading-as (List X) _ (MoreList g least room before at []) _ (MoreFault g least room (length before) at []) _
    (λ all h. elim h [ inl a ↦ absurd a.1 | inr b ↦ ended_list g least room before at all (ltb-false (length before) least b.0) b.1 ])
    (λ all h. let p = list_ended g least room before at all h.xs h.end h.spelled h.is h.enough in inr (le-ltb (length before) least p.0, p.1))
    (λ f h. elim h [ inl a ↦ ended_fault g least room (length before) at f (ltb-true (length before) least a.0) a.1 | inr b ↦ absurd b.1 ])
    (λ f h. let p = fault_ended g least room (length before) at f h.xs h.next h.rest h.spelled h.breaks in inl (lt-ltb (length before) least p.0, p.1))
    (IsReading-test (List X) (λ all. ⊥) (λ all. all ≡ before) (λ f. f ≡ fault_at at whys.Short) (λ f. ⊥) (ltb (length before) least) (Err (fault_at at whys.Short)) (Ok before) (λ e. IsReading-failed (List X) (fault_at at whys.Short)) (λ e. IsReading-done (List X) before))

-- ---- no room

not_nil : (first : ℕ) (octets : List ℕ) → (first ∷ octets) ≡ [] → ⊥
not_nil first octets e = cc

no_more : {X : Type 0} (g : Grammar X) (at first : ℕ) (octets : List ℕ) (xs : List X) (end : ℕ) → BeginsList g at (first ∷ octets) xs end [] → length xs ≤ 0 → ⊥
no_more g at first octets [] end s few = not_nil first octets (sym s.1)
no_more g at first octets (x ∷ xs) end s few = omega (arith, few)

full_fault : {X : Type 0} (g : Grammar X) (least count at first : ℕ) (octets : List ℕ) (f : BerFault) → f ≡ fault_at at whys.Tag → MoreFault g least 0 count at (first ∷ octets) f
full_fault g least count at first octets f is = record { xs = []; next = at; rest = first ∷ octets; spelled = (refl, refl); few = omega arith; breaks = inr (inr (not_nil first octets, refl, is)) }

fault_full : {X : Type 0} (g : Grammar X) (least count at first : ℕ) (octets : List ℕ) (f : BerFault) (xs : List X) (next : ℕ) (rest : List ℕ) → BeginsList g at (first ∷ octets) xs next rest → length xs ≤ 0
    → ((rest ≡ []) × (count + length xs < least) × (f ≡ fault_at next whys.Short)) ⊎ (((rest ≢ []) × (length xs < 0) × g.fault next rest f) ⊎ ((rest ≢ []) × (length xs ≡ 0) × (f ≡ fault_at next whys.Tag)))
    → f ≡ fault_at at whys.Tag
fault_full g least count at first octets f [] next rest s few (inl b) = absurd (not_nil first octets (sym s.1 ∙ b.0))
fault_full g least count at first octets f [] next rest s few (inr (inl b)) = absurd (omega (arith, b.1))
fault_full g least count at first octets f [] next rest s few (inr (inr b)) = b.2 ∙ ap (λ (n : ℕ). fault_at n whys.Tag) s.0
fault_full g least count at first octets f (x ∷ xs) next rest s few b = absurd (omega (arith, few))

full_reads : {X : Type 0} (g : Grammar X) (least : ℕ) (before : List X) (at first : ℕ) (octets : List ℕ) → IsReading (List X) (MoreList g least 0 before at (first ∷ octets)) (MoreFault g least 0 (length before) at (first ∷ octets)) (Err (fault_at at whys.Tag))
full_reads {X} g least before at first octets =
    IsReading-as (List X) (λ all. ⊥) (MoreList g least 0 before at (first ∷ octets)) _ (MoreFault g least 0 (length before) at (first ∷ octets)) _
    (λ all h. absurd h) (λ all h. no_more g at first octets h.xs h.end h.spelled h.few)
    (λ f h. full_fault g least (length before) at first octets f h) (λ f h. fault_full g least (length before) at first octets f h.xs h.next h.rest h.spelled h.few h.breaks)
    (IsReading-failed (List X) (fault_at at whys.Tag))

-- ---- one more

abbrev After : {X : Type 0} → Grammar X → ℕ → ℕ → List X → ℕ → List ℕ → List X → Type 0
After {X} g least room before at octets all = (t : Taken X) × g.begins at octets t × MoreList g least room (before ++ t.value ∷ []) t.next t.rest all

abbrev FaultAfter : {X : Type 0} → Grammar X → ℕ → ℕ → List X → ℕ → List ℕ → BerFault → Type 0
FaultAfter {X} g least room before at octets f = g.fault at octets f ⊎ ((t : Taken X) × g.begins at octets t × MoreFault g least room (length (before ++ t.value ∷ [])) t.next t.rest f)

one_more : {X : Type 0} (g : Grammar X) (least room : ℕ) (before : List X) (at first : ℕ) (octets : List ℕ) (all : List X) → After g least room before at (first ∷ octets) all → MoreList g least (suc room) before at (first ∷ octets) all
one_more g least room before at first octets all h =
    let t = h.0 in
    let m = h.2 in
    let len : length (before ++ t.value ∷ []) ≡ length before + 1 = length_push before t.value in
    record {
      xs = t.value ∷ m.xs;
      end = m.end;
      spelled = (t, not_nil first octets, h.1, refl, m.spelled);
      is = m.is ∙ append_assoc before (t.value ∷ []) m.xs;
      enough = omega (arith, m.enough, len);
      few = omega (arith, m.few);
    }

more_one : {X : Type 0} (g : Grammar X) (least room : ℕ) (before : List X) (at first : ℕ) (octets : List ℕ) (all xs : List X) (end : ℕ) → BeginsList g at (first ∷ octets) xs end [] → all ≡ before ++ xs → least ≤ length before + length xs → length xs ≤ suc room → After g least room before at (first ∷ octets) all
more_one g least room before at first octets all [] end s is enough few = absurd (not_nil first octets (sym s.1))
more_one g least room before at first octets all (x ∷ xs) end s is enough few =
    let t = s.0 in
    let len : length (before ++ t.value ∷ []) ≡ length before + 1 = length_push before t.value in (
      t,
      s.2,
      record {
        xs = xs;
        end = end;
        spelled = s.4;
        is = is ∙ ap (λ y. before ++ (y ∷ xs)) s.3 ∙ sym (append_assoc before (t.value ∷ []) xs);
        enough = omega (arith, enough, len);
        few = omega (arith, few);
      },
    )

more_breaks : {X : Type 0} (g : Grammar X) (least room count after next n : ℕ) (rest : List ℕ) (f : BerFault) → after ≡ count + 1
    → ((rest ≡ []) × (after + n < least) × (f ≡ fault_at next whys.Short)) ⊎ (((rest ≢ []) × (n < room) × g.fault next rest f) ⊎ ((rest ≢ []) × (n ≡ room) × (f ≡ fault_at next whys.Tag)))
    → ((rest ≡ []) × (count + suc n < least) × (f ≡ fault_at next whys.Short)) ⊎ (((rest ≢ []) × (suc n < suc room) × g.fault next rest f) ⊎ ((rest ≢ []) × (suc n ≡ suc room) × (f ≡ fault_at next whys.Tag)))
more_breaks g least room count after next n rest f e (inl b) = inl (b.0, omega (arith, b.1), b.2)
more_breaks g least room count after next n rest f e (inr (inl b)) = inr (inl (b.0, omega (arith, b.1), b.2))
more_breaks g least room count after next n rest f e (inr (inr b)) = inr (inr (b.0, ap suc b.1, b.2))

breaks_more : {X : Type 0} (g : Grammar X) (least room count after next n : ℕ) (rest : List ℕ) (f : BerFault) → after ≡ count + 1
    → ((rest ≡ []) × (count + suc n < least) × (f ≡ fault_at next whys.Short)) ⊎ (((rest ≢ []) × (suc n < suc room) × g.fault next rest f) ⊎ ((rest ≢ []) × (suc n ≡ suc room) × (f ≡ fault_at next whys.Tag)))
    → ((rest ≡ []) × (after + n < least) × (f ≡ fault_at next whys.Short)) ⊎ (((rest ≢ []) × (n < room) × g.fault next rest f) ⊎ ((rest ≢ []) × (n ≡ room) × (f ≡ fault_at next whys.Tag)))
breaks_more g least room count after next n rest f e (inl b) = inl (b.0, omega (arith, b.1), b.2)
breaks_more g least room count after next n rest f e (inr (inl b)) = inr (inl (b.0, omega (arith, b.1), b.2))
breaks_more g least room count after next n rest f e (inr (inr b)) = inr (inr (b.0, omega (arith, b.1), b.2))

fault_more : {X : Type 0} (g : Grammar X) (least room : ℕ) (before : List X) (at first : ℕ) (octets : List ℕ) (f : BerFault) → FaultAfter g least room before at (first ∷ octets) f → MoreFault g least (suc room) (length before) at (first ∷ octets) f
fault_more g least room before at first octets f (inl h) = record { xs = []; next = at; rest = first ∷ octets; spelled = (refl, refl); few = omega arith; breaks = inr (inl (not_nil first octets, omega arith, h)) }
fault_more g least room before at first octets f (inr h) =
    let t = h.0 in
    let m = h.2 in
    record {
      xs = t.value ∷ m.xs;
      next = m.next;
      rest = m.rest;
      spelled = (t, not_nil first octets, h.1, refl, m.spelled);
      few = omega (arith, m.few);
      breaks = more_breaks g least room (length before) (length (before ++ t.value ∷ [])) m.next (length m.xs) m.rest f (length_push before t.value) m.breaks;
    }

more_fault : {X : Type 0} (g : Grammar X) (least room : ℕ) (before : List X) (at first : ℕ) (octets : List ℕ) (f : BerFault) (xs : List X) (next : ℕ) (rest : List ℕ) → BeginsList g at (first ∷ octets) xs next rest → length xs ≤ suc room
    → ((rest ≡ []) × (length before + length xs < least) × (f ≡ fault_at next whys.Short)) ⊎ (((rest ≢ []) × (length xs < suc room) × g.fault next rest f) ⊎ ((rest ≢ []) × (length xs ≡ suc room) × (f ≡ fault_at next whys.Tag)))
    → FaultAfter g least room before at (first ∷ octets) f
more_fault g least room before at first octets f [] next rest s few (inl b) = absurd (not_nil first octets (sym s.1 ∙ b.0))
more_fault g least room before at first octets f [] next rest s few (inr (inl b)) = inl (subst (λ (os : List ℕ). g.fault at os f) s.1 (subst (λ (n : ℕ). g.fault n rest f) s.0 b.2))
more_fault g least room before at first octets f [] next rest s few (inr (inr b)) = absurd (omega (arith, b.1))
more_fault g least room before at first octets f (x ∷ xs) next rest s few b =
    let t = s.0 in
    inr (t, s.2, record { xs = xs; next = next; rest = rest; spelled = s.4; few = omega (arith, few); breaks = breaks_more g least room (length before) (length (before ++ t.value ∷ [])) next (length xs) rest f (length_push before t.value) b })

pub more_reads : {X : Type 0} (g : Grammar X) → IsGrammar g → (least room : ℕ) (before : List X) (at : ℕ) (octets : List ℕ) → IsReading (List X) (MoreList g least room before at octets) (MoreFault g least room (length before) at octets) (more_in g least room before at octets)
unfolding more_in
more_reads g one least zero before at [] = end_reads g least 0 before at
more_reads g one least (suc room) before at [] = end_reads g least (suc room) before at
more_reads g one least zero before at (first ∷ octets) = full_reads g least before at first octets
more_reads {X} g one least (suc room) before at (first ∷ octets) =
    IsReading-as (List X) (After g least room before at (first ∷ octets)) (MoreList g least (suc room) before at (first ∷ octets)) (FaultAfter g least room before at (first ∷ octets)) (MoreFault g least (suc room) (length before) at (first ∷ octets)) _
    (λ all h. one_more g least room before at first octets all h) (λ all h. more_one g least room before at first octets all h.xs h.end h.spelled h.is h.enough h.few)
    (λ f h. fault_more g least room before at first octets f h) (λ f h. more_fault g least room before at first octets f h.xs h.next h.rest h.spelled h.few h.breaks)
    (IsReading-then (Taken X) (List X) (g.begins at (first ∷ octets)) (g.fault at (first ∷ octets)) (g.reading at (first ∷ octets)) (λ t all. MoreList g least room (before ++ t.value ∷ []) t.next t.rest all) (λ t f. MoreFault g least room (length (before ++ t.value ∷ [])) t.next t.rest f) (λ t. more_in g least room (before ++ t.value ∷ []) t.next t.rest)
    (one at (first ∷ octets)) (λ t s. more_reads g one least room (before ++ t.value ∷ []) t.next t.rest))

-- ---- the whole

whole_breaks : {X : Type 0} (g : Grammar X) (least room at n : ℕ) (rest : List ℕ) (f : BerFault)
    → ((rest ≡ []) × (0 + n < least) × (f ≡ fault_at at whys.Short)) ⊎ (((rest ≢ []) × (n < room) × g.fault at rest f) ⊎ ((rest ≢ []) × (n ≡ room) × (f ≡ fault_at at whys.Tag)))
    → BreaksList g least room n at rest f
whole_breaks g least room at n rest f (inl b) = inl (b.0, omega (arith, b.1), b.2)
whole_breaks g least room at n rest f (inr b) = inr b

breaks_whole : {X : Type 0} (g : Grammar X) (least room at n : ℕ) (rest : List ℕ) (f : BerFault) → BreaksList g least room n at rest f
    → ((rest ≡ []) × (0 + n < least) × (f ≡ fault_at at whys.Short)) ⊎ (((rest ≢ []) × (n < room) × g.fault at rest f) ⊎ ((rest ≢ []) × (n ≡ room) × (f ≡ fault_at at whys.Tag)))
breaks_whole g least room at n rest f (inl b) = inl (b.0, omega (arith, b.1), b.2)
breaks_whole g least room at n rest f (inr b) = inr b

spells_list : {X : Type 0} (g : Grammar X) (least most at : ℕ) (octets : List ℕ) (all xs : List X) (end : ℕ) → BeginsList g at octets xs end [] → all ≡ xs → least ≤ 0 + length xs → length xs ≤ most → SpellsList g least most at all octets
spells_list {X} g least most at octets all xs end s is enough few = subst (λ (ys : List X). SpellsList g least most at ys octets) (sym is) (record { end = end; spelled = s; enough = omega (arith, enough); few = few })

whole_reads : {X : Type 0} (g : Grammar X) → IsGrammar g → (least most at : ℕ) (octets : List ℕ) → IsReading (List X) (λ xs. SpellsList g least most at xs octets) (λ f. ListFault g least most at octets f) (more_in g least most [] at octets)
whole_reads {X} g one least most at octets =
    IsReading-as (List X) (MoreList g least most [] at octets) (λ xs. SpellsList g least most at xs octets) (MoreFault g least most 0 at octets) (λ f. ListFault g least most at octets f) _
    (λ all h. spells_list g least most at octets all h.xs h.end h.spelled h.is h.enough h.few)
    (λ all h. record { xs = all; end = h.end; spelled = h.spelled; is = refl; enough = omega (arith, h.enough); few = h.few })
    (λ f h. record { before = h.xs; next = h.next; rest = h.rest; spelled = h.spelled; few = h.few; breaks = whole_breaks g least most h.next (length h.xs) h.rest f h.breaks })
    (λ f h. record { xs = h.before; next = h.next; rest = h.rest; spelled = h.spelled; few = h.few; breaks = breaks_whole g least most h.next (length h.before) h.rest f h.breaks })
    (more_reads g one least most [] at octets)

pub count_reads : {X : Type 0} (least most : ℕ) (g : Grammar X) → IsGrammar g → IsContentsGrammar (count_in least most g)
unfolding count_in
count_reads least most g one head octets = whole_reads g one least most head.body octets

pub list_reads : {X : Type 0} (least : ℕ) (g : Grammar X) → IsGrammar g → IsContentsGrammar (list_in least g)
unfolding list_in
list_reads least g one head octets = whole_reads g one least (length octets) head.body octets

-- ---- a loop over elements

-- these elements were read, and what is still read makes the total
pub record ListSoFar {X : Type 0} (g : Grammar X) (least most : ℕ) (xs : List X) (at : ℕ) (octets : List ℕ) (total : Result (List X) BerFault) : Type 0 where
  pub reads : more_in g least (most - length xs) xs at octets ≡ total

pub so_far-begins : {X : Type 0} (g : Grammar X) (least most at : ℕ) (octets : List ℕ) → ListSoFar g least most [] at octets (more_in g least most [] at octets)
so_far-begins g least most at octets = record { reads = ap (λ k. more_in g least k [] at octets) (omega arith) }

more_step : {X : Type 0} (g : Grammar X) (least room : ℕ) (xs : List X) (at : ℕ) (octets : List ℕ) (t : Taken X) → 0 < length octets → g.reading at octets ≡ Ok t → more_in g least (suc room) xs at octets ≡ more_in g least room (xs ++ t.value ∷ []) t.next t.rest
unfolding more_in
more_step g least room xs at [] t some read = absurd (omega (arith, some))
more_step g least room xs at (first ∷ octets) t some read = rw read refl

more_fails : {X : Type 0} (g : Grammar X) (least room : ℕ) (xs : List X) (at : ℕ) (octets : List ℕ) (f : BerFault) → 0 < length octets → g.reading at octets ≡ Err f → more_in g least (suc room) xs at octets ≡ Err f
unfolding more_in
more_fails g least room xs at [] f some read = absurd (omega (arith, some))
more_fails g least room xs at (first ∷ octets) f some read = rw read refl

more_ends : {X : Type 0} (g : Grammar X) (least room : ℕ) (xs : List X) (at : ℕ) (octets : List ℕ) → length octets ≡ 0 → least ≤ length xs → more_in g least room xs at octets ≡ Ok xs
unfolding more_in
more_ends g least room xs at [] none enough = rw (le-ltb (length xs) least enough) refl
more_ends g least room xs at (first ∷ octets) none enough = absurd (omega (arith, none))

more_misses : {X : Type 0} (g : Grammar X) (least room : ℕ) (xs : List X) (at : ℕ) (octets : List ℕ) → length octets ≡ 0 → length xs < least → more_in g least room xs at octets ≡ Err (fault_at at whys.Short)
unfolding more_in
more_misses g least room xs at [] none few = rw (lt-ltb (length xs) least few) refl
more_misses g least room xs at (first ∷ octets) none few = absurd (omega (arith, none))

more_full : {X : Type 0} (g : Grammar X) (least : ℕ) (xs : List X) (at : ℕ) (octets : List ℕ) → 0 < length octets → more_in g least 0 xs at octets ≡ Err (fault_at at whys.Tag)
unfolding more_in
more_full g least xs at [] some = absurd (omega (arith, some))
more_full g least xs at (first ∷ octets) some = refl

-- one element more was read
pub so_far-more : {X : Type 0} (g : Grammar X) (least most : ℕ) (xs : List X) (at : ℕ) (octets : List ℕ) (total : Result (List X) BerFault) (x : X) (next : ℕ) (rest : List ℕ) → length xs < most → 0 < length octets → g.reading at octets ≡ Ok (taken x next rest)
    → ListSoFar g least most xs at octets total → ListSoFar g least most (xs ++ x ∷ []) next rest total
so_far-more g least most xs at octets total x next rest room some read s =
    let len : length (xs ++ x ∷ []) ≡ length xs + 1 = length_push xs x in
    let k : most - length xs ≡ suc (most - length (xs ++ x ∷ [])) = omega (arith, len, room) in
    record { reads = sym (more_step g least (most - length (xs ++ x ∷ [])) xs at octets (taken x next rest) some read) ∙ ap (λ n. more_in g least n xs at octets) (sym k) ∙ s.reads }

-- an element is faulty
pub so_far-fails : {X : Type 0} (g : Grammar X) (least most : ℕ) (xs : List X) (at : ℕ) (octets : List ℕ) (total : Result (List X) BerFault) (f : BerFault) → length xs < most → 0 < length octets → g.reading at octets ≡ Err f
    → ListSoFar g least most xs at octets total → total ≡ Err f
so_far-fails g least most xs at octets total f room some read s =
    let k : most - length xs ≡ suc (most - length xs - 1) = omega (arith, room) in
    sym s.reads ∙ ap (λ n. more_in g least n xs at octets) k ∙ more_fails g least (most - length xs - 1) xs at octets f some read

-- reading an element stopped
pub so_far-stops : {X : Type 0} (g : Grammar X) (least most : ℕ) (xs : List X) (at : ℕ) (octets : List ℕ) (total : Result (List X) BerFault) (stop : Stop) → length xs < most → 0 < length octets → StopsAs stop (g.reading at octets)
    → ListSoFar g least most xs at octets total → StopsAs stop total
so_far-stops g least most xs at octets total stops.Memory room some read s = tt
so_far-stops g least most xs at octets total (stops.Fault f) room some read s = so_far-fails g least most xs at octets total f room some read s

-- no octets are left
pub so_far-ends : {X : Type 0} (g : Grammar X) (least most : ℕ) (xs : List X) (at : ℕ) (octets : List ℕ) (total : Result (List X) BerFault) → length octets ≡ 0 → least ≤ length xs → ListSoFar g least most xs at octets total → total ≡ Ok xs
so_far-ends g least most xs at octets total none enough s = sym s.reads ∙ more_ends g least (most - length xs) xs at octets none enough

-- none are left, and more elements are wanted
pub so_far-misses : {X : Type 0} (g : Grammar X) (least most : ℕ) (xs : List X) (at : ℕ) (octets : List ℕ) (total : Result (List X) BerFault) → length octets ≡ 0 → length xs < least → ListSoFar g least most xs at octets total → total ≡ Err (fault_at at whys.Short)
so_far-misses g least most xs at octets total none few s = sym s.reads ∙ more_misses g least (most - length xs) xs at octets none few

-- octets are left, and no more elements may stand there
pub so_far-full : {X : Type 0} (g : Grammar X) (least most : ℕ) (xs : List X) (at : ℕ) (octets : List ℕ) (total : Result (List X) BerFault) → 0 < length octets → length xs ≡ most → ListSoFar g least most xs at octets total → total ≡ Err (fault_at at whys.Tag)
so_far-full g least most xs at octets total some full s =
    let k : most - length xs ≡ 0 = omega (arith, full) in
    sym s.reads ∙ ap (λ n. more_in g least n xs at octets) k ∙ more_full g least xs at octets some

-- ---- a loop over all elements of contents

-- what a loop keeps: the elements so far, and the octets that are left
pub record MembersSoFar {X : Type 0} (g : Grammar X) (least most : ℕ) (xs : List X) (at : ℕ) (octets : List ℕ) (total : Result (List X) BerFault) : Type 0 where
  pub placed : at + length octets < 2 ^ 64
  pub fewer : length xs + length octets ≤ most
  pub reads : ListSoFar g least most xs at octets total

pub members-begin : {X : Type 0} (g : Grammar X) (least : ℕ) (head : Head) (octets : List ℕ) → head.body + length octets < 2 ^ 64 → MembersSoFar g least (length octets) [] head.body octets ((list_in least g).reading head octets)
unfolding list_in
members-begin g least head octets placed = record { placed = placed; fewer = omega arith; reads = so_far-begins g least (length octets) head.body octets }

-- one element more was read
pub members-more : {X : Type 0} {g : Grammar X} {least most : ℕ} {xs : List X} {at : ℕ} {octets : List ℕ} {total : Result (List X) BerFault} → MembersSoFar g least most xs at octets total → 0 < length octets → (x : X) (next : ℕ) → g.reading at octets ≡ Ok (taken x next (drop (next - at) octets)) → at < next → next ≤ at + length octets
    → MembersSoFar g least most (xs ++ x ∷ []) next (drop (next - at) octets) total
members-more {g = g} {least = least} {most = most} {xs = xs} {at = at} {octets = octets} {total = total} s some x next read first last =
    let len : length (drop (next - at) octets) ≡ length octets - (next - at) = length-drop (next - at) octets in
    let more : length (xs ++ x ∷ []) ≡ length xs + 1 = length_push xs x in
    record {
      placed = omega (arith, len, first, last, s.placed);
      fewer = omega (arith, len, more, first, last, s.fewer);
      reads = so_far-more g least most xs at octets total x next (drop (next - at) octets) (omega (arith, some, s.fewer)) some read s.reads;
    }

-- reading an element stopped
pub members-stop : {X : Type 0} {g : Grammar X} {least most : ℕ} {xs : List X} {at : ℕ} {octets : List ℕ} {total : Result (List X) BerFault} → MembersSoFar g least most xs at octets total → 0 < length octets → (stop : Stop) → StopsAs stop (g.reading at octets) → StopsAs stop total
members-stop {g = g} {least = least} {most = most} {xs = xs} {at = at} {octets = octets} {total = total} s some stop read = so_far-stops g least most xs at octets total stop (omega (arith, some, s.fewer)) some read s.reads

-- no octets are left, and more elements are wanted
pub members-short : {X : Type 0} {g : Grammar X} {least most : ℕ} {xs : List X} {at : ℕ} {octets : List ℕ} {total : Result (List X) BerFault} → MembersSoFar g least most xs at octets total → length octets ≡ 0 → length xs < least → total ≡ Err (fault_at at whys.Short)
members-short {g = g} {least = least} {most = most} {xs = xs} {at = at} {octets = octets} {total = total} s none few = so_far-misses g least most xs at octets total none few s.reads

-- no octets are left, and there are elements enough
pub members-end : {X : Type 0} {g : Grammar X} {least most : ℕ} {xs : List X} {at : ℕ} {octets : List ℕ} {total : Result (List X) BerFault} → MembersSoFar g least most xs at octets total → length octets ≡ 0 → least ≤ length xs → total ≡ Ok xs
members-end {g = g} {least = least} {most = most} {xs = xs} {at = at} {octets = octets} {total = total} s none enough = so_far-ends g least most xs at octets total none enough s.reads

-- what `is_empty` tells of the octets that are left
pub some_left : (octets : List ℕ) (empty : Bool) → empty ≡ eqb (length octets) 0 → empty ≡ false → 0 < length octets
some_left [] empty is e = absurd (false≢true (sym e ∙ is))
some_left (first ∷ octets) empty is e = omega arith

pub none_left : (octets : List ℕ) (empty : Bool) → empty ≡ eqb (length octets) 0 → empty ≡ true → length octets ≡ 0
none_left octets empty is e = eqb-true (length octets) 0 (sym is ∙ e)
