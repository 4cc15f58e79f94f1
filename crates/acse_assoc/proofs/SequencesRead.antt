-- Passing over elements whose numbers rise, said of lists of elements.
use Rattle.std.proofs.Common.{◌≡◌, ◌≢◌, ℕ, zero, suc, ◌+◌, ◌<◌, ◌≤◌, true, false, List, []}
use Rattle.std.proofs.Common.{◌∷◌, ◌++◌, length, refl, sym, ap, subst, ◌∙◌, inl}
use Rattle.std.proofs.Common.{inr, ◌⊎◌, append_assoc, arith}
use Rattle.std.specs.Prelude.{nat_le}
use Rattle.std.proofs.lemmas.Bool.{false≢true, eq-eqb, leb-false, cases_Bool}
use Rattle.std.proofs.lemmas.List.{length-append}
use Rattle.std.proofs.lemmas.List.Elements.{All-nil, All-cons}
use Rattle.ber_values.specs.declared.tag.Tag.{Tag}
use Rattle.ber_values.specs.Reading.{Taken, Begins}
use Rattle.ber_values.specs.Tags.{SpellsTag}
use Rattle.ber_values.specs.Grammars.{taken, gives, then_in, branch_in, first_is, has_tag}
use Rattle.ber_values.specs.Grammars.{by_length}
use Rattle.ber_values.specs.Runs.{AnyElement, IsSoundElement, element_octets, elements_octets}
use Rattle.ber_values.proofs.Runs.{after_tag, element-parts, element-tagged, element-skipped}
use Rattle.ber_values.proofs.Runs.{element-first, element-some, skipped-element, tag-one}
use Rattle.acse_assoc.specs.Rising.{is_tag_numbered, may_pass, by_tag, rising_within}
use Rattle.ber_values.specs.Grammars.{is_context}
use Rattle.acse_assoc.specs.Rising.{rising_in}
use Rattle.acse_assoc.specs.Sequences.{LacksElement}
use Rattle.acse_assoc.proofs.Sequences.{context-first, first-context, named-tagged}
use Rattle.acse_assoc.proofs.Sequences.{stops-at, RisesFrom, LacksTag, above-lacks, PassRising}
use Rattle.acse_assoc.proofs.Sequences.{after_run}

-- ---- what is passed over are elements

-- what stands next may not be passed over
abbrev pub StopsRising : ℕ → Taken ℕ → Type 0
StopsRising number t = (first_is is_context t.rest ≡ false)
    ⊎ ((tag : Taken Tag) × Begins Tag SpellsTag t.next t.rest tag
    × (may_pass number t.value tag.value ≡ false))

-- octets begin with elements that are passed over
pub record TakesRising (number least at : ℕ) (octets : List ℕ) (t : Taken ℕ) : Type 0 where
  pub run : List AnyElement
  pub passes : PassRising number least run
  pub parts : octets ≡ elements_octets run ++ t.rest
  pub place : t.next ≡ at + length (elements_octets run)
  pub after : t.value ≡ after_run least run
  pub stops : StopsRising number t

takes_none : (number least at : ℕ) (octets : List ℕ) (t : Taken ℕ)
    → StopsRising number (taken least at octets) → t ≡ taken least at octets
    → TakesRising number least at octets t
takes_none number least at octets t stops is = subst (TakesRising number least at octets) (sym is)
    (record {
      run = [];
      passes = tt;
      parts = refl;
      place = omega arith;
      after = refl;
      stops = stops;
    })

takes_more : (number least at next : ℕ) (octets after : List ℕ) (t : Taken ℕ) (e : AnyElement)
    → IsSoundElement e → e.tag.class ≡ 2 → may_pass number least e.tag ≡ true
    → octets ≡ element_octets e ++ after → next ≡ at + length (element_octets e)
    → TakesRising number (e.tag.number + 1) next after t → TakesRising number least at octets t
takes_more number least at next octets after t e s class may parts place r = record {
  run = e ∷ r.run;
  passes = (s, class, may, r.passes);
  parts = parts ∙ ap (λ os. element_octets e ++ os) r.parts
      ∙ sym (append_assoc (element_octets e) (elements_octets r.run) t.rest);
  place = omega (arith, place, r.place, length-append (element_octets e) (elements_octets r.run));
  after = r.after;
  stops = r.stops;
}

same_tag : (at : ℕ) (octets rest : List ℕ) (tag : Taken Tag) (e : AnyElement)
    → Begins Tag SpellsTag at octets tag → IsSoundElement e → octets ≡ element_octets e ++ rest
    → tag.value ≡ e.tag
same_tag at octets rest tag e spelled s parts =
    ap (λ (t : Taken Tag). t.value)
    (tag-one at octets tag
    (record { value = e.tag; next = at + length e.tagged; rest = after_tag e rest }) spelled
    (subst (λ (os : List ℕ). Begins Tag SpellsTag at os
    (record { value = e.tag; next = at + length e.tagged; rest = after_tag e rest }))
    (sym parts) (element-tagged e at rest s)))

within-takes : (number room least at : ℕ) (octets : List ℕ) (t : Taken ℕ) → length octets ≤ room
    → (rising_within number room least).begins at octets t → TakesRising number least at octets t
unfolding rising_within by_tag branch_in then_in gives
within-takes number zero least at [] t few b = takes_none number least at [] t (inl refl) b
within-takes number zero least at (x ∷ octets) t few b = absurd (omega (arith, few))
within-takes number (suc room) least at octets t few (inr (other, is)) =
    takes_none number least at octets t (inl other) is
within-takes number (suc room) least at octets t few
    (inl (context, (tag, spelled, inr (may, is)))) = takes_none number least at octets t
    (inr (tag, spelled, may)) is
within-takes number (suc room) least at octets t few
    (inl (context, (tag, spelled, inl (may, (u, skipped, more))))) =
    let b = skipped-element at octets u skipped in
    let e = b.0 in
    let same : tag.value ≡ e.tag = same_tag at octets u.rest tag e spelled b.1 b.2 in
    let class = first-context e b.1
    (sym (element-first is_context e u.rest b.1) ∙ ap (first_is is_context) (sym b.2)
    ∙ context) in
    let fewer : length u.rest ≤ room = omega
    (arith, few, element-some e b.1, ap length b.2, length-append (element_octets e) u.rest) in
    takes_more number least at u.next octets u.rest t e b.1 class
    (subst (λ (g : Tag). may_pass number least g ≡ true) same may) b.2 b.3
    (within-takes number room (e.tag.number + 1) u.next u.rest t fewer
    (subst (λ (g : Tag). (rising_within number room (g.number + 1)).begins u.next u.rest t) same
    more))

pub rising-takes : (number least at : ℕ) (octets : List ℕ) (t : Taken ℕ)
    → (rising_in number least).begins at octets t → TakesRising number least at octets t
unfolding rising_in by_length
rising-takes number least at octets t b = within-takes number (length octets) least at octets t
    (omega arith) b

pub tagged-first : (tag : ℕ) (e : AnyElement) (rest : List ℕ) → e.tagged ≡ tag ∷ []
    → has_tag tag (element_octets e ++ rest) ≡ true
tagged-first tag e rest is = ap (has_tag tag) (element-parts e rest)
    ∙ subst (λ (os : List ℕ). has_tag tag (os ++ after_tag e rest) ≡ true) (sym is)
    (eq-eqb tag tag refl)

-- where the element of a number doesn't stand next, behind what is passed over for it, it is absent
pub absent : (n least at : ℕ) (es : List AnyElement) → n < 31 → RisesFrom least es
    → StopsRising n (taken least at (elements_octets es)) → (nat_le least n ≡ false)
    ⊎ (has_tag (160 + n) (elements_octets es) ≡ false) → LacksElement (160 + n) es
absent n least at [] small r stops none = All-nil (LacksTag (160 + n))
absent n least at (e ∷ es) small r stops (inl late) = above-lacks n least (e ∷ es) small
    (leb-false least n late) r
absent n least at (e ∷ es) small r stops (inr other) =
    let whole = elements_octets (e ∷ es) in
    let is_other : e.tagged ≢ (160 + n) ∷ [] = λ is. false≢true
    (sym other ∙ tagged-first (160 + n) e (elements_octets es) is) in
    let above : n < e.tag.number = elim stops [
      | inl outside ↦ absurd
          (false≢true (sym outside ∙ element-first is_context e (elements_octets es) r.0
          ∙ context-first e r.0 r.1))
      | inr t ↦ next (stops-at n least e.tag r.2
          (subst (λ (g : Tag). may_pass n least g ≡ false)
          (same_tag at whole (elements_octets es) t.0 e t.1 r.0 refl) t.2)) is_other
    ] in
    All-cons (LacksTag (160 + n)) e es is_other
    (above-lacks n (e.tag.number + 1) es small (omega (arith, above)) r.3)
  where
    next : (n < e.tag.number) ⊎ (is_tag_numbered n e.tag ≡ true) → e.tagged ≢ (160 + n) ∷ []
        → n < e.tag.number
    next (inl above) is_other = above
    next (inr named) is_other = absurd (is_other (named-tagged n e r.0 r.1 named))

-- ---- elements are passed over

-- the first of these elements may not be passed over: it is the one of the number, or a later one
abbrev pub BeginsBeyond : ℕ → List AnyElement → Type 0
BeginsBeyond number [] = Unit {0}
BeginsBeyond number (e ∷ es) = (number < e.tag.number) ⊎ (e.tagged ≡ (160 + number) ∷ [])

pub record Splits (number room least at : ℕ) (es : List AnyElement) : Type 0 where
  pub run : List AnyElement
  pub rest : List AnyElement
  pub whole : es ≡ run ++ rest
  pub passes : PassRising number least run
  pub rises : RisesFrom (after_run least run) rest
  pub beyond : BeginsBeyond number rest
  pub begins : (rising_within number room least).begins at (elements_octets es)
      (taken (after_run least run) (at + length (elements_octets run)) (elements_octets rest))

splits : (number room least at : ℕ) (es : List AnyElement) → RisesFrom least es
    → length (elements_octets es) ≤ room → Splits number room least at es
unfolding rising_within by_tag branch_in then_in gives
splits number zero least at [] r few =
    record {
      run = [];
      rest = [];
      whole = refl;
      passes = tt;
      rises = tt;
      beyond = tt;
      begins = ap (λ (k : ℕ). taken least k []) (omega arith);
    }
splits number (suc room) least at [] r few =
    record {
      run = [];
      rest = [];
      whole = refl;
      passes = tt;
      rises = tt;
      beyond = tt;
      begins = inr (refl, ap (λ (k : ℕ). taken least k []) (omega arith));
    }
splits number zero least at (e ∷ es) r few = absurd
    (omega (arith, few, element-some e r.0, length-append (element_octets e) (elements_octets es)))
splits number (suc room) least at (e ∷ es) r few =
    let behind = elements_octets es in
    let place = at + length (element_octets e) in
    let fewer : length behind ≤ room = omega
    (arith, few, element-some e r.0, length-append (element_octets e) behind) in
    let context : first_is is_context (elements_octets (e ∷ es)) ≡ true =
    element-first is_context e behind r.0 ∙ context-first e r.0 r.1 in
    let tag : Taken Tag =
    record { value = e.tag; next = at + length e.tagged; rest = after_tag e behind } in
    elim (cases_Bool (may_pass number least e.tag)) [
      | inl may ↦ (let s = splits number room (e.tag.number + 1) place es r.3 fewer in
          let next = rising_within number room (e.tag.number + 1) in
          let after = after_run (e.tag.number + 1) s.run in
          let last = elements_octets s.rest in
          let far : place + length (elements_octets s.run)
          ≡ at + length (elements_octets (e ∷ s.run)) =
          omega (arith, length-append (element_octets e) (elements_octets s.run)) in
          let more =
          subst (λ (k : ℕ). next.begins place behind (taken after k last)) far s.begins in
          record {
            run = e ∷ s.run;
            rest = s.rest;
            whole = ap (λ (xs : List AnyElement). e ∷ xs) s.whole;
            passes = (r.0, r.1, may, s.passes);
            rises = s.rises;
            beyond = s.beyond;
            begins = inl (
              context,
              (
                tag,
                element-tagged e at behind r.0,
                inl (may, (taken tt place behind, element-skipped e at behind r.0, more)),
              ),
            );
          })
      | inr stop ↦ record {
        run = [];
        rest = e ∷ es;
        whole = refl;
        passes = tt;
        rises = r;
        beyond = elim (stops-at number least e.tag r.2 stop)
            [ inl above ↦ inl above | inr named ↦ inr (named-tagged number e r.0 r.1 named) ];
        begins = inl (
          context,
          (
            tag,
            element-tagged e at behind r.0,
            inr (stop, ap (λ (k : ℕ). taken least k (elements_octets (e ∷ es))) (omega arith)),
          ),
        );
      }
    ]

pub rising-splits : (number least at : ℕ) (es : List AnyElement) → RisesFrom least es
    → Splits number (length (elements_octets es)) least at es
rising-splits number least at es r = splits number (length (elements_octets es)) least at es r
    (omega arith)

pub splits-rising : (number least at : ℕ) (es : List AnyElement) (t : Taken ℕ)
    → (rising_within number (length (elements_octets es)) least).begins at (elements_octets es) t
    → (rising_in number least).begins at (elements_octets es) t
unfolding rising_in by_length
splits-rising number least at es t b = b
