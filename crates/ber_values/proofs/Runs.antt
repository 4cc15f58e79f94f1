-- Elements one behind another: what stands behind a tag is told by the grammars, and passing over
-- elements takes the longest run of them.
use Rattle.std.proofs.Common.{◌≡◌, ◌≢◌, ℕ, zero, suc, ◌+◌, ◌-◌, ◌%◌, ◌<◌, ◌≤◌, Bool, true, false}
use Rattle.std.proofs.Common.{List, [], ◌∷◌, ◌++◌, length, take, drop, ◌↔◌, refl, sym, eqb, ◌&&◌}
use Rattle.std.proofs.Common.{ap, subst, ◌∙◌, inl, inr, append_assoc, append-nil, arith}
use Rattle.std.specs.List.{All}
use Rattle.std.proofs.lemmas.Bool.{false≢true, and_parts}
use Rattle.std.proofs.lemmas.List.{length-append, length-take, take_at, drop_at, take-append-drop}
use Rattle.std.proofs.lemmas.List.Elements.{All-nil, All-cons, All-head, All-tail}
use Rattle.ber_values.specs.declared.fault.BerFault.{BerFault}
use Rattle.ber_values.specs.declared.fault.Why.{Why}
use Rattle.ber_values.specs.declared.fault.Why.TheVariants as whys
use Rattle.ber_values.specs.declared.tag.Tag.{Tag}
use Rattle.ber_values.specs.declared.head.Head.{Head}
use Rattle.ber_values.specs.Reading.{Taken, Begins, IsReading}
use Rattle.ber_values.specs.Tags.{tag_with, SpellsTag, SpellsLength}
use Rattle.ber_values.specs.Extents.{Extent, sized, definite, this_octet_in, spanned, closing}
use Rattle.ber_values.specs.Extents.{is_element, closed, indefinite, is_indefinite, extent_to}
use Rattle.ber_values.specs.Heads.{head_of, HeadFault, element_by, extent_within}
use Rattle.ber_values.specs.Heads.{extent_of}
use Rattle.ber_values.specs.Grammars.{Grammar, taken, gives, then_in, map_in, branch_in, first_is}
use Rattle.ber_values.specs.Grammars.{by_length, passed_within, passed_in}
use Rattle.ber_values.specs.Passing.{skip, pass_in}
use Rattle.ber_values.specs.Parts.{Contents, Parted, parted, part_in, is_constructed}
use Rattle.ber_values.specs.Runs.{AnyElement, element_octets, elements_octets, HasPassingTag}
use Rattle.ber_values.specs.Runs.{IsElementBy, StandsBehind, IsSoundElement, BeginsPassed}
use Rattle.ber_values.specs.Runs.{BeginsRun, TakesRun, BreaksRun}
use Rattle.ber_values.proofs.Reading.{Ok_is, IsReading-as}
use Rattle.ber_values.proofs.Heads.{extent_reads}
use Rattle.ber_values.proofs.Grammars.{pass_reads}
use Rattle.ber_values.proofs.Tags.{tag_reads, not_marked}

-- ---- one element

-- what stands behind a tag
abbrev pub behind : List ℕ → List ℕ → List ℕ → List ℕ
behind sized contents closing = sized ++ (contents ++ closing)

-- contents that were told stand between these octets
abbrev pub IsBetween : ℕ → List ℕ → List ℕ → Extent → Type 0
IsBetween at sized contents extent =
    (extent.body ≡ at + length sized) × (extent.contents ≡ contents)

-- the grammars of what stands behind a tag tell just such octets
pub record AreTold (extents : Bool → Grammar Extent)
    (Behind : Bool → List ℕ → List ℕ → List ℕ → Type 0) : Type 0 where
  pub to : (c : Bool) (at : ℕ) (octets : List ℕ) (t : Taken Extent)
      → (extents c).begins at octets t
      → (sized : List ℕ) × (contents : List ℕ) × (closing : List ℕ)
      × Behind c sized contents closing × (octets ≡ behind sized contents closing ++ t.rest)
      × (t.next ≡ at + length (behind sized contents closing))
      × IsBetween at sized contents t.value
  pub from : (c : Bool) (at : ℕ) (sized contents closing rest : List ℕ)
      → Behind c sized contents closing → (extent : Extent)
      × (extents c).begins at (behind sized contents closing ++ rest)
      (taken extent (at + length (behind sized contents closing)) rest)
      × IsBetween at sized contents extent

-- the octets behind an element's tag
abbrev pub behind_tag : AnyElement → List ℕ
behind_tag e = behind e.sized e.contents e.closing

-- these, and what follows the element
abbrev pub after_tag : AnyElement → List ℕ → List ℕ
after_tag e rest = behind_tag e ++ rest

pub element-parts : (e : AnyElement) (rest : List ℕ)
    → element_octets e ++ rest ≡ e.tagged ++ after_tag e rest
element-parts e rest = append_assoc e.tagged (behind_tag e) rest

pub element-size : (e : AnyElement)
    → length (element_octets e) ≡ length e.tagged + length (behind_tag e)
element-size e = length-append e.tagged (behind_tag e)

pub tag-begins : (e : AnyElement) (at : ℕ) (rest : List ℕ) → SpellsTag e.tag e.tagged
    → Begins Tag SpellsTag at (element_octets e ++ rest)
    (record { value = e.tag; next = at + length e.tagged; rest = after_tag e rest })
tag-begins e at rest s =
    record { spelling = e.tagged; spelled = s; parts = element-parts e rest; place = refl }

first_of_tagged : (skips : ℕ → Bool) (tag : Tag) (tagged more : List ℕ) → SpellsTag tag tagged
    → first_is skips (tagged ++ more) ≡ first_is skips tagged
first_of_tagged skips tag [] more s = elim s [ ]
first_of_tagged skips tag (first ∷ tagged) more s = refl

some_tagged : (tag : Tag) (tagged : List ℕ) → SpellsTag tag tagged → 0 < length tagged
some_tagged tag [] s = elim s [ ]
some_tagged tag (first ∷ tagged) s = omega arith

-- the first octet of an element is that of its tag
pub tag-first : (skips : ℕ → Bool) (e : AnyElement) (rest : List ℕ) → SpellsTag e.tag e.tagged
    → first_is skips (element_octets e ++ rest) ≡ first_is skips e.tagged
tag-first skips e rest s = ap (first_is skips) (element-parts e rest)
    ∙ first_of_tagged skips e.tag e.tagged (after_tag e rest) s

tag-some : (e : AnyElement) → SpellsTag e.tag e.tagged → 0 < length (element_octets e)
tag-some e s = omega (arith, element-size e, some_tagged e.tag e.tagged s)

-- an element at the front of octets, of which the first has the place at
abbrev pub BeginsElementBy : (Bool → List ℕ → List ℕ → List ℕ → Type 0) → ℕ → List ℕ → ℕ → List ℕ → Type 0
BeginsElementBy Behind at octets next rest = (e : AnyElement) × IsElementBy Behind e
    × (octets ≡ element_octets e ++ rest) × (next ≡ at + length (element_octets e))

run_place : (at one next : ℕ) (e : AnyElement) (run : List AnyElement)
    → one ≡ at + length (element_octets e) → next ≡ one + length (elements_octets run)
    → next ≡ at + length (elements_octets (e ∷ run))
run_place at one next e run first rest = omega
    (arith, first, rest, length-append (element_octets e) (elements_octets run))

-- elements, and what a run of them is
module _ (extents : Bool → Grammar Extent) (Behind : Bool → List ℕ → List ℕ → List ℕ → Type 0)
    (told : AreTold extents Behind) where
  pub element-by : (e : AnyElement) (at : ℕ) (rest : List ℕ) → IsElementBy Behind e
      → (element_by extents).begins at (element_octets e ++ rest)
      (taken tt (at + length (element_octets e)) rest)
  unfolding element_by
  element-by e at rest s =
      let tag : Taken Tag =
      record { value = e.tag; next = at + length e.tagged; rest = after_tag e rest } in
      let found =
      told.from e.tag.constructed tag.next e.sized e.contents e.closing rest s.behind in
      let extent = taken found.0 (tag.next + length (behind_tag e)) rest in
      let head = head_of tag extent in
      let next : at + length (element_octets e) ≡ head.next = omega (arith, element-size e) in
      let count : length (element_octets e) ≡ head.next - at = omega (arith, next) in
      let after : rest ≡ drop (head.next - at) (element_octets e ++ rest) = sym
      (drop_at (element_octets e) rest (head.next - at) count) in (
        head,
        record {
          tag = tag;
          extent = extent;
          tag_spelled = tag-begins e at rest s.tag;
          extent_spelled = found.1;
          is = refl;
        },
        ap (λ (k : ℕ). taken tt k rest) next ∙ ap (λ (os : List ℕ). taken tt head.next os) after,
      )

  pub by-element : (at : ℕ) (octets : List ℕ) (t : Taken (Unit {0}))
      → (element_by extents).begins at octets t → BeginsElementBy Behind at octets t.next t.rest
  unfolding element_by
  by-element at octets t (head, h, is) =
      let tag = h.tag in
      let found = told.to tag.value.constructed tag.next tag.rest h.extent h.extent_spelled in
      let e : AnyElement = record {
        tag = tag.value;
        tagged = h.tag_spelled.spelling;
        sized = found.0;
        contents = found.1;
        closing = found.2;
      } in
      let parts : octets ≡ element_octets e ++ h.extent.rest =
      h.tag_spelled.parts ∙ ap (λ os. e.tagged ++ os) found.4
      ∙ sym (append_assoc e.tagged (behind_tag e) h.extent.rest) in
      let ends : head.next ≡ h.extent.next = ap (λ (x : Head). x.next) h.is in
      let next : t.next ≡ head.next = ap (λ (u : Taken (Unit {0})). u.next) is in
      let place : head.next ≡ at + length (element_octets e) = omega
      (arith, ends, h.tag_spelled.place, found.5, element-size e) in
      let rest : t.rest ≡ h.extent.rest = ap (λ (u : Taken (Unit {0})). u.rest) is
      ∙ ap (drop (head.next - at)) parts
      ∙ drop_at (element_octets e) h.extent.rest (head.next - at) (omega (arith, place)) in (
        e,
        record { tag = h.tag_spelled.spelled; behind = found.3 },
        parts ∙ ap (λ os. element_octets e ++ os) (sym rest),
        next ∙ place,
      )

  -- octets begin with such elements, each of which passes a test
  abbrev pub Passes : (ℕ → Bool) → List ℕ → List AnyElement → List ℕ → Type 0
  Passes skips octets run rest = All (IsElementBy Behind) run
      × (octets ≡ elements_octets run ++ rest) × All (HasPassingTag skips) run

  passes_none : (skips : ℕ → Bool) (octets : List ℕ) → Passes skips octets [] octets
  passes_none skips octets =
      (All-nil (IsElementBy Behind), refl, All-nil (HasPassingTag skips))

  passes_more : (skips : ℕ → Bool) (e : AnyElement) (octets after rest : List ℕ)
      (run : List AnyElement) → IsElementBy Behind e → first_is skips octets ≡ true
      → octets ≡ element_octets e ++ after → Passes skips after run rest
      → Passes skips octets (e ∷ run) rest
  passes_more skips e octets after rest run s first parts b = (
    All-cons (IsElementBy Behind) e run s b.0,
    parts ∙ ap (λ os. element_octets e ++ os) b.1
        ∙ sym (append_assoc (element_octets e) (elements_octets run) rest),
    All-cons (HasPassingTag skips) e run
        (sym (tag-first skips e after s.tag) ∙ ap (first_is skips) (sym parts) ∙ first) b.2,
  )

  abbrev pub Takes : (ℕ → Bool) → ℕ → List ℕ → Taken (Unit {0}) → Type 0
  Takes skips at octets t = (run : List AnyElement)
      × (Passes skips octets run t.rest × (first_is skips t.rest ≡ false))
      × (t.next ≡ at + length (elements_octets run))

  pub within-run : (skips : ℕ → Bool) (n at : ℕ) (octets : List ℕ) (t : Taken (Unit {0}))
      → length octets ≤ n → (passed_within (element_by extents) skips n).begins at octets t
      → Takes skips at octets t
  unfolding passed_within branch_in then_in gives
  within-run skips zero at [] t few b = (
    [],
    (
      subst (λ (os : List ℕ). Passes skips [] [] os)
          (sym (ap (λ (u : Taken (Unit {0})). u.rest) b)) (passes_none skips []),
      ap (λ (u : Taken (Unit {0})). first_is skips u.rest) b,
    ),
    ap (λ (u : Taken (Unit {0})). u.next) b ∙ omega arith,
  )
  within-run skips zero at (first ∷ octets) t few b = absurd (omega (arith, few))
  within-run skips (suc n) at octets t few (inl (first, (u, one, more))) =
      let e = by-element at octets u one in
      let fewer : length u.rest ≤ n = omega (
        arith,
        few,
        tag-some e.0 e.1.tag,
        ap length e.2,
        length-append (element_octets e.0) u.rest,
      ) in
      let r = within-run skips n u.next u.rest t fewer more in (
        e.0 ∷ r.0,
        (passes_more skips e.0 octets u.rest t.rest r.0 e.1 first e.2 r.1.0, r.1.1),
        run_place at u.next t.next e.0 r.0 e.3 r.2,
      )
  within-run skips (suc n) at octets t few (inr (first, is)) = (
    [],
    (
      subst (λ (os : List ℕ). Passes skips octets [] os)
          (sym (ap (λ (u : Taken (Unit {0})). u.rest) is)) (passes_none skips octets),
      ap (λ (u : Taken (Unit {0})). first_is skips u.rest) is ∙ first,
    ),
    ap (λ (u : Taken (Unit {0})). u.next) is ∙ omega arith,
  )

  -- a run is passed over
  pub run-within : (skips : ℕ → Bool) (n at : ℕ) (run : List AnyElement) (rest : List ℕ)
      → All (IsElementBy Behind) run → All (HasPassingTag skips) run
      → first_is skips rest ≡ false → length (elements_octets run ++ rest) ≤ n
      → (passed_within (element_by extents) skips n).begins at (elements_octets run ++ rest)
      (taken tt (at + length (elements_octets run)) rest)
  unfolding passed_within branch_in then_in gives
  run-within skips zero at [] rest sound passed stops few = ap (λ (k : ℕ). taken tt k rest)
      (omega arith)
  run-within skips (suc n) at [] rest sound passed stops few = inr
      (stops, ap (λ (k : ℕ). taken tt k rest) (omega arith))
  run-within skips zero at (e ∷ run) rest sound passed stops few = absurd
      (omega (
        arith,
        few,
        tag-some e (All-head (IsElementBy Behind) e run sound).tag,
        length-append (elements_octets (e ∷ run)) rest,
        length-append (element_octets e) (elements_octets run),
      ))
  run-within skips (suc n) at (e ∷ run) rest sound passed stops few =
      let one = All-head (IsElementBy Behind) e run sound in
      let behind = elements_octets run ++ rest in
      let place = at + length (element_octets e) in
      let parts : element_octets e ++ behind ≡ elements_octets (e ∷ run) ++ rest = sym
      (append_assoc (element_octets e) (elements_octets run) rest) in
      let fewer : length behind ≤ n = omega (
        arith,
        few,
        tag-some e one.tag,
        ap length parts,
        length-append (element_octets e) behind,
      ) in
      let ends : place + length (elements_octets run) ≡ at + length (elements_octets (e ∷ run)) =
      omega (arith, length-append (element_octets e) (elements_octets run)) in
      let first : first_is skips (elements_octets (e ∷ run) ++ rest) ≡ true = ap (first_is skips)
      (sym parts) ∙ tag-first skips e behind one.tag
      ∙ All-head (HasPassingTag skips) e run passed in
      let g = element_by extents in
      inl (
        first,
        (
          taken tt place behind,
          subst (λ (os : List ℕ). g.begins at os (taken tt place behind)) parts
              (element-by e at behind one),
          subst (λ (k : ℕ). (passed_within g skips n).begins place behind (taken tt k rest)) ends
              (run-within skips n place run rest (All-tail (IsElementBy Behind) e run sound)
              (All-tail (HasPassingTag skips) e run passed) stops fewer),
        ),
      )

-- ---- what stands behind a tag

abbrev IsSized : Bool → List ℕ → List ℕ → List ℕ → Type 0
IsSized c sized contents closing = SpellsLength (length contents) sized × (closing ≡ [])

sized-parts : (size contents closing rest : List ℕ) → closing ≡ []
    → behind size contents closing ++ rest ≡ size ++ (contents ++ rest)
sized-parts size contents closing rest none =
    ap (λ (os : List ℕ). (size ++ (contents ++ os)) ++ rest) none
    ∙ ap (λ (os : List ℕ). (size ++ os) ++ rest) (append-nil contents)
    ∙ append_assoc size contents rest

sized-size : (size contents closing : List ℕ) → closing ≡ []
    → length (behind size contents closing) ≡ length size + length contents
sized-size size contents closing none = omega (
  arith,
  length-append size (contents ++ closing),
  length-append contents closing,
  ap length none,
)

sized-told : AreTold (λ c. definite) IsSized
unfolding definite
sized-told = record {
  to = λ c at octets t b.
      let size = b.size in
      let contents = take size.value size.rest in
      let spelling = b.size_spelled.spelling in
      let len : size.value ≡ length contents = omega
      (arith, length-take size.value size.rest, b.within) in
      let rest : t.rest ≡ drop size.value size.rest = ap (λ (u : Taken Extent). u.rest) b.is in
      let next : t.next ≡ size.next + size.value = ap (λ (u : Taken Extent). u.next) b.is in (
        spelling,
        contents,
        [],
        (subst (λ (n : ℕ). SpellsLength n spelling) len b.size_spelled.spelled, refl),
        b.size_spelled.parts
            ∙ ap (λ os. spelling ++ os) (sym (take-append-drop size.value size.rest))
            ∙ ap (λ os. spelling ++ (contents ++ os)) (sym rest)
            ∙ sym (sized-parts spelling contents [] t.rest refl),
        omega (arith, next, b.size_spelled.place, len, sized-size spelling contents [] refl),
        (
          ap (λ (u : Taken Extent). u.value.body) b.is ∙ b.size_spelled.place,
          ap (λ (u : Taken Extent). u.value.contents) b.is,
        ),
      );
  from = λ c at size contents closing rest s.
      let taken_size : Taken ℕ = record {
        value = length contents;
        next = at + length size;
        rest = contents ++ rest;
      } in
      let parts = sized-parts size contents closing rest s.1 in
      let ends : at + length size + length contents
      ≡ at + length (behind size contents closing) =
      omega (arith, sized-size size contents closing s.1) in
      let extent = (sized taken_size).value in (
        extent,
        record {
          size = taken_size;
          size_spelled = record { spelling = size; spelled = s.0; parts = parts; place = refl };
          within = omega (arith, length-append contents rest);
          is = ap (λ (k : ℕ). taken extent k rest) (sym ends)
              ∙ ap (λ (os : List ℕ). taken extent (at + length size + length contents) os)
              (sym (drop_at contents rest (length contents) refl));
        },
        (refl, take_at contents rest (length contents) refl),
      );
}

octet-to : (octet at : ℕ) (octets : List ℕ) (t : Taken (Unit {0})) (why : Why)
    → (this_octet_in octet why).begins at octets t → (octets ≡ octet ∷ t.rest) × (t.next ≡ at + 1)
unfolding this_octet_in
octet-to octet at [] t why b = absurd b
octet-to octet at (first ∷ rest) t why (same, is) = (
  ap (λ (x : ℕ). x ∷ rest) same
      ∙ ap (λ (os : List ℕ). octet ∷ os) (sym (ap (λ (u : Taken (Unit {0})). u.rest) is)),
  ap (λ (u : Taken (Unit {0})). u.next) is,
)

closing-to : (at : ℕ) (octets : List ℕ) (t : Taken (Unit {0})) → closing.begins at octets t
    → (octets ≡ 0 ∷ 0 ∷ t.rest) × (t.next ≡ at + 2)
unfolding closing then_in
closing-to at octets t (u, one, two) =
    let first = octet-to 0 at octets u whys.Tag one in
    let second = octet-to 0 u.next u.rest t whys.Length two in
    (first.0 ∙ ap (λ (os : List ℕ). 0 ∷ os) second.0, omega (arith, first.1, second.1))

closing-from : (at : ℕ) (rest : List ℕ)
    → closing.begins at (0 ∷ 0 ∷ rest) (taken tt (at + 1 + 1) rest)
unfolding closing then_in this_octet_in
closing-from at rest = (taken tt (at + 1) (0 ∷ rest), (refl, refl), (refl, refl))

-- octets that stand in place of a length, elements, and the end of contents
closed_parts : (run : List AnyElement) (rest : List ℕ)
    → 128 ∷ (elements_octets run ++ 0 ∷ 0 ∷ rest)
    ≡ behind (128 ∷ []) (elements_octets run) (0 ∷ 0 ∷ []) ++ rest
closed_parts run rest = ap (λ (os : List ℕ). 128 ∷ os)
    (sym (append_assoc (elements_octets run) (0 ∷ 0 ∷ []) rest))

-- elements, and grammars that tell what stands behind their tags
module _ (extents : Bool → Grammar Extent)
    (Behind : Bool → List ℕ → List ℕ → List ℕ → Type 0) (told : AreTold extents Behind) where
  closed-to : (at : ℕ) (octets : List ℕ) (t : Taken Extent)
      → (indefinite (element_by extents)).begins at octets t
      → (run : List AnyElement) × All (IsElementBy Behind) run
      × All (HasPassingTag is_element) run
      × (octets ≡ 128 ∷ (elements_octets run ++ 0 ∷ 0 ∷ t.rest))
      × (t.next ≡ at + 1 + length (elements_octets run) + 2)
      × (t.value.body ≡ at + 1) × (t.value.contents ≡ elements_octets run)
  unfolding indefinite closed then_in spanned map_in passed_in by_length
  closed-to at octets t (u, mark, (v, (w, passed, spans), (x, ends, is))) =
      let first = octet-to 128 at octets u whys.Length mark in
      let r = within-run extents Behind told is_element (length u.rest) u.next u.rest w
      (omega arith) passed in
      let run = r.0 in
      let last = closing-to v.next v.rest x ends in
      let after : w.rest ≡ 0 ∷ 0 ∷ t.rest = sym (ap (λ (e : Taken Extent). e.rest) spans) ∙ last.0
      ∙ ap (λ (os : List ℕ). 0 ∷ 0 ∷ os) (sym (ap (λ (e : Taken Extent). e.rest) is)) in
      let next : v.next ≡ w.next = ap (λ (e : Taken Extent). e.next) spans in
      let end : t.next ≡ x.next = ap (λ (e : Taken Extent). e.next) is in
      let value : t.value ≡ extent_to u.next u.rest w.next =
      ap (λ (e : Taken Extent). e.value) is ∙ ap (λ (e : Taken Extent). e.value) spans in
      let count : w.next - u.next ≡ length (elements_octets run) = omega (arith, r.2) in (
        run,
        r.1.0.0,
        r.1.0.2,
        first.0 ∙ ap (λ (os : List ℕ). 128 ∷ os)
            (r.1.0.1 ∙ ap (λ (os : List ℕ). elements_octets run ++ os) after),
        omega (arith, first.1, r.2, next, last.1, end),
        ap (λ (e : Extent). e.body) value ∙ first.1,
        ap (λ (e : Extent). e.contents) value ∙ ap (λ (n : ℕ). take n u.rest) count
            ∙ ap (take (length (elements_octets run))) r.1.0.1
            ∙ take_at (elements_octets run) w.rest (length (elements_octets run)) refl,
      )

  closed-from : (at : ℕ) (run : List AnyElement) (rest : List ℕ) → All (IsElementBy Behind) run
      → All (HasPassingTag is_element) run → (indefinite (element_by extents)).begins at
      (128 ∷ (elements_octets run ++ 0 ∷ 0 ∷ rest))
      (taken (extent_to (at + 1) (elements_octets run ++ 0 ∷ 0 ∷ rest)
      (at + 1 + length (elements_octets run))) (at + 1 + length (elements_octets run) + 1 + 1)
      rest)
  unfolding indefinite closed then_in spanned map_in this_octet_in passed_in by_length
  closed-from at run rest sound passed =
      let inner = elements_octets run ++ 0 ∷ 0 ∷ rest in
      let end = at + 1 + length (elements_octets run) in
      let extent = extent_to (at + 1) inner end in (
        taken tt (at + 1) inner,
        (refl, refl),
        (
          taken extent end (0 ∷ 0 ∷ rest),
          (
            taken tt end (0 ∷ 0 ∷ rest),
            run-within extents Behind told is_element (length inner) (at + 1) run (0 ∷ 0 ∷ rest)
                sound passed refl (omega arith),
            refl,
          ),
          (taken tt (end + 1 + 1) rest, closing-from end rest, refl),
        ),
      )

and_false : (b c : Bool) → c ≡ false → (b && c) ≡ false
and_false true c e = e
and_false false c e = refl

behind_same : (a b c x y z : List ℕ) → a ≡ x → b ≡ y → c ≡ z → behind a b c ≡ behind x y z
behind_same a b c x y z one two three =
    ap (λ (os : List ℕ). behind os b c) one ∙ ap (λ (os : List ℕ). behind x os c) two
    ∙ ap (λ (os : List ℕ). behind x y os) three

told-within : (room : ℕ) → AreTold (extent_within room) (StandsBehind room)
unfolding extent_within branch_in
told-within zero = sized-told
told-within (suc room) =
    let told = told-within room in
    record {
      to = λ c at octets t b. elim b [
        | inl marked ↦ (
            let found = closed-to (extent_within room) (StandsBehind room) told at octets t marked.1
            in
            let run = found.0 in
            let constructed = (and_parts c (first_is (λ first. eqb first 128) octets) marked.0).0 in (
              128 ∷ [],
              elements_octets run,
              0 ∷ 0 ∷ [],
              inr (constructed, run, found.1, found.2, refl, refl, refl),
              found.3 ∙ closed_parts run t.rest,
              omega (arith, found.4, length-append (elements_octets run) (0 ∷ 0 ∷ [])),
              (found.5, found.6),
            ))
        | inr plain ↦ (
            let found = sized-told.to c at octets t plain.1 in
            (found.0, found.1, found.2, inl found.3, found.4, found.5, found.6))
      ];
      from = λ c at sized contents closing rest b. elim b [
        | inl s ↦ (
            let found = sized-told.from c at sized contents closing rest s in
            let whole = behind sized contents closing ++ rest in
            let other : first_is (λ first. eqb first 128) whole ≡ false =
            ap (first_is (λ first. eqb first 128)) (sized-parts sized contents closing rest s.1)
            ∙ not_marked (length contents) sized (contents ++ rest) s.0 in
            (found.0, inr (and_false c _ other, found.1), found.2))
        | inr closed ↦ (
            let run = closed.1 in
            let inner = elements_octets run ++ 0 ∷ 0 ∷ rest in
            let end = at + 1 + length (elements_octets run) in
            let extent = extent_to (at + 1) inner end in
            let begins = closed-from (extent_within room) (StandsBehind room) told at run rest
            closed.2 closed.3 in
            let same = behind_same sized contents closing (128 ∷ []) (elements_octets run)
            (0 ∷ 0 ∷ []) closed.4 closed.5 closed.6 in
            let parts : 128 ∷ inner ≡ behind sized contents closing ++ rest =
            closed_parts run rest ∙ ap (λ os. os ++ rest) (sym same) in
            let ends : end + 1 + 1 ≡ at + length (behind sized contents closing) = omega
            (arith, ap length same, length-append (elements_octets run) (0 ∷ 0 ∷ [])) in
            let P : List ℕ → Type 0 = λ os. (extent_within (suc room) c).begins at os
            (taken extent (at + length (behind sized contents closing)) rest) in
            let marked : is_indefinite c (128 ∷ inner) ≡ true =
            ap (λ (b : Bool). b && true) closed.0 in
            let count : end - (at + 1) ≡ length (elements_octets run) = omega arith in (
              extent,
              subst P parts (inl (
                marked,
                subst (λ (k : ℕ). (indefinite (element_by (extent_within room))).begins at (128 ∷ inner)
                    (taken extent k rest)) ends begins,
              )),
              (
                omega (arith, ap length closed.4),
                ap (λ (n : ℕ). take n inner) count
                    ∙ take_at (elements_octets run) (0 ∷ 0 ∷ rest) (length (elements_octets run)) refl
                    ∙ sym closed.5,
              ),
            ))
      ];
    }

pub extent-told : AreTold extent_of (StandsBehind 16)
unfolding extent_of
extent-told = told-within 16

-- ---- elements that are sound

pub element-first : (skips : ℕ → Bool) (e : AnyElement) (rest : List ℕ) → IsSoundElement e
    → first_is skips (element_octets e ++ rest) ≡ first_is skips e.tagged
element-first skips e rest s = tag-first skips e rest s.tag

pub element-some : (e : AnyElement) → IsSoundElement e → 0 < length (element_octets e)
element-some e s = tag-some e s.tag

pub element-tagged : (e : AnyElement) (at : ℕ) (rest : List ℕ) → IsSoundElement e
    → Begins Tag SpellsTag at (element_octets e ++ rest)
    (record { value = e.tag; next = at + length e.tagged; rest = after_tag e rest })
element-tagged e at rest s = tag-begins e at rest s.tag

-- a sound element at the front is passed over
pub element-skipped : (e : AnyElement) (at : ℕ) (rest : List ℕ) → IsSoundElement e
    → skip.begins at (element_octets e ++ rest) (taken tt (at + length (element_octets e)) rest)
unfolding skip
element-skipped e at rest s = element-by extent_of (StandsBehind 16) extent-told e at rest s

-- what is passed over is a sound element
pub skipped-element : (at : ℕ) (octets : List ℕ) (t : Taken (Unit {0})) → skip.begins at octets t
    → BeginsElementBy (StandsBehind 16) at octets t.next t.rest
unfolding skip
skipped-element at octets t b = by-element extent_of (StandsBehind 16) extent-told at octets t b

split_same : (xs ys vs ws : List ℕ) → length xs ≡ length ys → xs ++ vs ≡ ys ++ ws → (xs ≡ ys)
    × (vs ≡ ws)
split_same xs ys vs ws len e = (
  sym (take_at xs vs (length xs) refl) ∙ ap (take (length xs)) e
      ∙ take_at ys ws (length xs) (sym len),
  sym (drop_at xs vs (length xs) refl) ∙ ap (drop (length xs)) e
      ∙ drop_at ys ws (length xs) (sym len),
)

pub tag-one : (at : ℕ) (octets : List ℕ) (a b : Taken Tag) → Begins Tag SpellsTag at octets a
    → Begins Tag SpellsTag at octets b → a ≡ b
tag-one at octets a b one two = Ok_is a b
    (sym ((tag_reads at octets).only a one) ∙ (tag_reads at octets).only b two)

-- what stands behind a tag is told from what follows it
behind-one : (c : Bool) (a b d x y z xs ys : List ℕ) → StandsBehind 16 c a b d
    → StandsBehind 16 c x y z → behind a b d ++ xs ≡ behind x y z ++ ys
    → (a ≡ x) × (b ≡ y) × (d ≡ z) × (xs ≡ ys)
behind-one c a b d x y z xs ys one two e =
    let first = extent-told.from c 0 a b d xs one in
    let second = extent-told.from c 0 x y z ys two in
    let P : List ℕ → Type 0 = λ os.
    (extent_of c).begins 0 os (taken second.0 (0 + length (behind x y z)) ys) in
    let reads = extent_reads c 0 (behind a b d ++ xs) in
    let same : taken first.0 (0 + length (behind a b d)) xs
    ≡ taken second.0 (0 + length (behind x y z)) ys = Ok_is _ _
    (sym (reads.only _ first.1) ∙ reads.only _ (subst P (sym e) second.1)) in
    let size : length a ≡ length x = omega (
      arith,
      first.2.0,
      second.2.0,
      ap (λ (t : Taken Extent). t.value.body) same,
    ) in
    let contents : b ≡ y = sym first.2.1 ∙ ap (λ (t : Taken Extent). t.value.contents) same
    ∙ second.2.1 in
    let whole = split_same (behind a b d) (behind x y z) xs ys
    (omega (arith, ap (λ (t : Taken Extent). t.next) same)) e in
    let front = split_same a x (b ++ d) (y ++ z) size whole.0 in
    let back = split_same b y d z (ap length contents) front.1 in
    (front.0, contents, back.1, whole.1)

same_fields : (a b : AnyElement) → a.tag ≡ b.tag → a.tagged ≡ b.tagged → a.sized ≡ b.sized
    → a.contents ≡ b.contents → a.closing ≡ b.closing → a ≡ b
same_fields a b one two three four five =
    ap (λ (t : Tag). record a { tag = t }) one
    ∙ ap (λ (os : List ℕ). record {
      tag = b.tag;
      tagged = os;
      sized = a.sized;
      contents = a.contents;
      closing = a.closing;
    }) two
    ∙ ap (λ (os : List ℕ). record {
      tag = b.tag;
      tagged = b.tagged;
      sized = os;
      contents = a.contents;
      closing = a.closing;
    }) three
    ∙ ap (λ (os : List ℕ). record {
      tag = b.tag;
      tagged = b.tagged;
      sized = b.sized;
      contents = os;
      closing = a.closing;
    }) four
    ∙ ap (λ (os : List ℕ). record {
      tag = b.tag;
      tagged = b.tagged;
      sized = b.sized;
      contents = b.contents;
      closing = os;
    }) five

pub element-one : (a b : AnyElement) (xs ys : List ℕ) → IsSoundElement a → IsSoundElement b
    → element_octets a ++ xs ≡ element_octets b ++ ys → (a ≡ b) × (xs ≡ ys)
element-one a b xs ys one two e =
    let tags = tag-one 0 (element_octets a ++ xs) _ _ (tag-begins a 0 xs one.tag)
    (subst (λ (os : List ℕ). Begins Tag SpellsTag 0 os
    (record { value = b.tag; next = 0 + length b.tagged; rest = after_tag b ys })) (sym e)
    (tag-begins b 0 ys two.tag)) in
    let tag : a.tag ≡ b.tag = ap (λ (t : Taken Tag). t.value) tags in
    let first = split_same a.tagged b.tagged (after_tag a xs) (after_tag b ys)
    (omega (arith, ap (λ (t : Taken Tag). t.next) tags))
    (sym (element-parts a xs) ∙ e ∙ element-parts b ys) in
    let P : Tag → Type 0 = λ t. StandsBehind 16 t.constructed b.sized b.contents b.closing in
    let second = behind-one a.tag.constructed a.sized a.contents a.closing b.sized b.contents
    b.closing xs ys one.behind (subst P (sym tag) two.behind) first.1 in
    (same_fields a b tag first.0 second.0 second.1 second.2, second.3)

-- ---- passing over elements takes a run

pub pass-is_run : (skips : ℕ → Bool) (at : ℕ) (octets : List ℕ) (t : Taken (Unit {0}))
    → (pass_in skips).begins at octets t ↔ TakesRun skips at octets t
unfolding pass_in passed_in by_length skip
pass-is_run skips at octets t = (
  λ b. let r = within-run extent_of (StandsBehind 16) extent-told skips (length octets) at octets t
      (omega arith) b in
      (r.0, (record { sound = r.1.0.0; parts = r.1.0.1; passed = r.1.0.2 }, r.1.1), r.2),
  λ r. let b = r.1.0 in
      let same : length (elements_octets r.0 ++ t.rest) ≤ length octets = omega
      (arith, ap length b.parts) in
      let g = passed_within (element_by extent_of) skips (length octets) in
      subst (λ (os : List ℕ). g.begins at os t) (sym b.parts)
      (subst (λ (k : ℕ). g.begins at (elements_octets r.0 ++ t.rest)
      (taken tt k t.rest)) (sym r.2)
      (run-within extent_of (StandsBehind 16) extent-told skips (length octets) at r.0 t.rest
      b.sound b.passed r.1.1 same)),
)

-- ---- the run is the longest, and the only one

-- elements that pass, at the front of the same octets, are the front of the run
pub run-longest : (skips : ℕ → Bool) (octets : List ℕ) (run more : List AnyElement)
    (rest after : List ℕ) → BeginsRun skips octets run rest → BeginsPassed skips octets more after
    → (others : List AnyElement) × (run ≡ more ++ others)
run-longest skips octets run [] rest after b c = (run, refl)
run-longest skips octets [] (m ∷ more) rest after b c =
    let one = All-head IsSoundElement m more c.sound in
    let whole : rest ≡ element_octets m ++ (elements_octets more ++ after) = sym b.0.parts ∙ c.parts
    ∙ append_assoc (element_octets m) (elements_octets more) after in
    absurd (false≢true (sym b.1 ∙ ap (first_is skips) whole
    ∙ element-first skips m (elements_octets more ++ after) one
    ∙ All-head (HasPassingTag skips) m more c.passed))
run-longest skips octets (e ∷ run) (m ∷ more) rest after b c =
    let both : element_octets e ++ (elements_octets run ++ rest) ≡ element_octets m ++
    (elements_octets more ++ after) = sym
    (append_assoc (element_octets e) (elements_octets run) rest) ∙ sym b.0.parts ∙ c.parts
    ∙ append_assoc (element_octets m) (elements_octets more) after in
    let same = element-one e m (elements_octets run ++ rest) (elements_octets more ++ after)
    (All-head IsSoundElement e run b.0.sound) (All-head IsSoundElement m more c.sound) both in
    let behind = run-longest skips (elements_octets run ++ rest) run more rest after (
      record {
        sound = All-tail IsSoundElement e run b.0.sound;
        parts = refl;
        passed = All-tail (HasPassingTag skips) e run b.0.passed;
      },
      b.1,
    )
    (record {
      sound = All-tail IsSoundElement m more c.sound;
      parts = same.1;
      passed = All-tail (HasPassingTag skips) m more c.passed;
    }) in (
      behind.0,
      ap (λ (x : AnyElement). x ∷ run) same.0
          ∙ ap (λ (xs : List AnyElement). m ∷ xs) behind.1,
    )

no_more : {X : Type 0} (xs ys : List X) → xs ≡ xs ++ ys → ys ≡ []
no_more {X} xs [] e = refl
no_more {X} xs (y ∷ ys) e = absurd (omega (arith, ap length e, length-append xs (y ∷ ys)))

pub run-one : (skips : ℕ → Bool) (octets : List ℕ) (run other : List AnyElement)
    (rest after : List ℕ) → BeginsRun skips octets run rest → BeginsRun skips octets other after
    → run ≡ other
run-one skips octets run other rest after b c =
    let one = run-longest skips octets run other rest after b c.0 in
    let two = run-longest skips octets other run after rest c b.0 in
    let whole : run ≡ run ++ (two.0 ++ one.0) = one.1 ∙ ap (λ xs. xs ++ one.0) two.1
    ∙ append_assoc run two.0 one.0 in
    let none : one.0 ≡ [] = nothing_behind two.0 one.0 (no_more run (two.0 ++ one.0) whole) in
    one.1 ∙ ap (λ xs. other ++ xs) none ∙ append-nil other
  where
    nothing_behind : (xs ys : List AnyElement) → xs ++ ys ≡ [] → ys ≡ []
    nothing_behind [] ys e = e
    nothing_behind (x ∷ xs) ys e = absurd cc

-- ---- the first fault

run_none : (skips : ℕ → Bool) (octets : List ℕ) → BeginsPassed skips octets [] octets
run_none skips octets =
    record { sound = All-nil IsSoundElement; parts = refl; passed = All-nil (HasPassingTag skips) }

run_more : (skips : ℕ → Bool) (e : AnyElement) (octets after rest : List ℕ) (run : List AnyElement)
    → IsSoundElement e → first_is skips octets ≡ true → octets ≡ element_octets e ++ after
    → BeginsPassed skips after run rest → BeginsPassed skips octets (e ∷ run) rest
run_more skips e octets after rest run s first parts b = record {
  sound = All-cons IsSoundElement e run s b.sound;
  parts = parts ∙ ap (λ os. element_octets e ++ os) b.parts
      ∙ sym (append_assoc (element_octets e) (elements_octets run) rest);
  passed = All-cons (HasPassingTag skips) e run
      (sym (element-first skips e after s) ∙ ap (first_is skips) (sym parts) ∙ first) b.passed;
}

pub within-breaks : (skips : ℕ → Bool) (n at : ℕ) (octets : List ℕ) (f : BerFault)
    → length octets ≤ n → (passed_within skip skips n).fault at octets f → BreaksRun skips at octets f
unfolding passed_within branch_in then_in gives skip element_by
within-breaks skips zero at octets f few b = absurd b
within-breaks skips (suc n) at octets f few (inr (first, b)) = absurd b
within-breaks skips (suc n) at octets f few (inl (first, inl b)) = (
  [],
  octets,
  run_none skips octets,
  first,
  subst (λ (k : ℕ). HeadFault k octets f) (omega arith) b,
)
within-breaks skips (suc n) at octets f few (inl (first, inr (u, one, more))) =
    let e = by-element extent_of (StandsBehind 16) extent-told at octets u one in
    let fewer : length u.rest ≤ n = omega (
      arith,
      few,
      element-some e.0 e.1,
      ap length e.2,
      length-append (element_octets e.0) u.rest,
    ) in
    let r = within-breaks skips n u.next u.rest f fewer more in (
      e.0 ∷ r.0,
      r.1,
      run_more skips e.0 octets u.rest r.1 r.0 e.1 first e.2 r.2,
      r.3,
      subst (λ (k : ℕ). HeadFault k r.1 f)
          (run_place at u.next (u.next + length (elements_octets r.0)) e.0 r.0 e.3 refl) r.4,
    )

breaks_behind : (skips : ℕ → Bool) (n at : ℕ) (run : List AnyElement) (rest : List ℕ) (f : BerFault)
    → All IsSoundElement run → All (HasPassingTag skips) run → first_is skips rest ≡ true
    → HeadFault (at + length (elements_octets run)) rest f
    → length (elements_octets run ++ rest) ≤ n
    → (passed_within skip skips n).fault at (elements_octets run ++ rest) f
unfolding passed_within branch_in then_in gives skip element_by
breaks_behind skips zero at [] [] f sound passed first breaks few = absurd (false≢true first)
breaks_behind skips zero at [] (x ∷ rest) f sound passed first breaks few = absurd
    (omega (arith, few))
breaks_behind skips (suc n) at [] rest f sound passed first breaks few = inl
    (first, inl (subst (λ (k : ℕ). HeadFault k rest f) (omega arith) breaks))
breaks_behind skips zero at (e ∷ run) rest f sound passed first breaks few = absurd
    (omega (
      arith,
      few,
      element-some e (All-head IsSoundElement e run sound),
      length-append (elements_octets (e ∷ run)) rest,
      length-append (element_octets e) (elements_octets run),
    ))
breaks_behind skips (suc n) at (e ∷ run) rest f sound passed first breaks few =
    let one = All-head IsSoundElement e run sound in
    let behind = elements_octets run ++ rest in
    let place = at + length (element_octets e) in
    let parts : element_octets e ++ behind ≡ elements_octets (e ∷ run) ++ rest = sym
    (append_assoc (element_octets e) (elements_octets run) rest) in
    let fewer : length behind ≤ n = omega (
      arith,
      few,
      element-some e one,
      ap length parts,
      length-append (element_octets e) behind,
    ) in
    let ends : at + length (elements_octets (e ∷ run)) ≡ place + length (elements_octets run) =
    omega (arith, length-append (element_octets e) (elements_octets run)) in
    let passes : first_is skips (elements_octets (e ∷ run) ++ rest) ≡ true = ap (first_is skips)
    (sym parts) ∙ element-first skips e behind one
    ∙ All-head (HasPassingTag skips) e run passed in
    inl (
      passes,
      inr (
        taken tt place behind,
        subst (λ (os : List ℕ). skip.begins at os (taken tt place behind)) parts
            (element-by extent_of (StandsBehind 16) extent-told e at behind one),
        breaks_behind skips n place run rest f (All-tail IsSoundElement e run sound)
            (All-tail (HasPassingTag skips) e run passed) first
            (subst (λ (k : ℕ). HeadFault k rest f) ends breaks) fewer,
      ),
    )

pub pass-breaks : (skips : ℕ → Bool) (at : ℕ) (octets : List ℕ) (f : BerFault)
    → (pass_in skips).fault at octets f ↔ BreaksRun skips at octets f
unfolding pass_in passed_in by_length
pass-breaks skips at octets f = (
  within-breaks skips (length octets) at octets f (omega arith),
  λ r. let b = r.2 in
      subst (λ (os : List ℕ). (passed_within skip skips (length octets)).fault at os f) (sym b.parts)
      (breaks_behind skips (length octets) at r.0 r.1 f b.sound b.passed r.3 r.4
      (omega (arith, ap length b.parts))),
)

pub pass-reads_run : (skips : ℕ → Bool) (at : ℕ) (octets : List ℕ)
    → IsReading (Taken (Unit {0})) (TakesRun skips at octets) (BreaksRun skips at octets)
    ((pass_in skips).reading at octets)
pass-reads_run skips at octets =
    IsReading-as (Taken (Unit {0})) ((pass_in skips).begins at octets) (TakesRun skips at octets)
    ((pass_in skips).fault at octets) (BreaksRun skips at octets)
    ((pass_in skips).reading at octets) (λ t. (pass-is_run skips at octets t).0)
    (λ t. (pass-is_run skips at octets t).1) (λ f. (pass-breaks skips at octets f).0)
    (λ f. (pass-breaks skips at octets f).1) (pass_reads skips at octets)

-- ---- elements of a tag

-- where the contents of an element stand
abbrev pub body_at : ℕ → AnyElement → ℕ
body_at at e = at + length e.tagged + length e.sized

-- an element of a tag at the front is a sound one
pub part-element : {X : Type 0} (tag : ℕ) (c : Contents X) (at : ℕ) (octets : List ℕ) (t : Taken X)
    → tag % 32 ≢ 31 → (part_in tag c).begins at octets t → (e : AnyElement) × IsSoundElement e
    × (octets ≡ element_octets e ++ t.rest) × (t.next ≡ at + length (element_octets e))
    × (e.tagged ≡ tag ∷ []) × c.spells (body_at at e) t.value e.contents
unfolding part_in
part-element {X} tag c at octets t single (part, h, (x, spelled, is)) =
    let found = extent-told.to (is_constructed tag) (at + 1) h.after_tag h.extent h.extent_spelled in
    let e : AnyElement = record {
      tag = tag_with tag (tag % 32) false;
      tagged = tag ∷ [];
      sized = found.0;
      contents = found.1;
      closing = found.2;
    } in
    let parts : octets ≡ element_octets e ++ h.extent.rest =
    h.tagged ∙ ap (λ (os : List ℕ). tag ∷ os) found.4 in
    let body : part.head.body ≡ body_at at e =
    ap (λ (p : Parted). p.head.body) h.is ∙ found.6.0 in
    let next : t.next ≡ h.extent.next =
    ap (λ (u : Taken X). u.next) is ∙ ap (λ (p : Parted). p.head.next) h.is in
    let rest : t.rest ≡ h.extent.rest = ap (λ (u : Taken X). u.rest) is
    ∙ ap (λ (p : Parted). p.rest) h.is in
    let inner : part.contents ≡ e.contents = ap (λ (p : Parted). p.contents) h.is ∙ found.6.1 in (
      e,
      record { tag = (single, refl); behind = found.3 },
      parts ∙ ap (λ os. element_octets e ++ os) (sym rest),
      omega (arith, next, found.5, element-size e),
      refl,
      subst (λ (k : ℕ). c.spells k t.value e.contents) body
          (subst (λ (os : List ℕ). c.spells part.head.body t.value os) inner
          (subst (λ (y : X). c.spells part.head.body y part.contents)
          (sym (ap (λ (u : Taken X). u.value) is)) spelled)),
    )

tag_of_one : (tag : ℕ) (t : Tag) (tagged : List ℕ) → SpellsTag t tagged → tagged ≡ tag ∷ []
    → t ≡ tag_with tag (tag % 32) false
tag_of_one tag t tagged s is = (subst (λ (os : List ℕ). SpellsTag t os) is s).1

-- a sound element of a tag at the front is one
pub element-part : {X : Type 0} (tag : ℕ) (c : Contents X) (at : ℕ) (e : AnyElement) (rest : List ℕ)
    (x : X) → IsSoundElement e → e.tagged ≡ tag ∷ [] → c.spells (body_at at e) x e.contents
    → (part_in tag c).begins at (element_octets e ++ rest)
    (taken x (at + length (element_octets e)) rest)
unfolding part_in
element-part {X} tag c at e rest x s tagged spelled =
    let after = after_tag e rest in
    let one : length e.tagged ≡ 1 = ap length tagged in
    let P : Tag → Type 0 = λ t. StandsBehind 16 t.constructed e.sized e.contents e.closing in
    let found = extent-told.from (is_constructed tag) (at + 1) e.sized e.contents e.closing rest
    (subst P (tag_of_one tag e.tag e.tagged s.tag tagged) s.behind) in
    let extent = taken found.0 (at + 1 + length (behind_tag e)) rest in
    let body : body_at at e ≡ found.0.body = omega (arith, one, found.2.0) in
    let ends : at + length (element_octets e) ≡ extent.next = omega
    (arith, one, element-size e) in (
      parted tag at extent,
      record {
        after_tag = after;
        extent = extent;
        tagged = element-parts e rest ∙ ap (λ os. os ++ after) tagged;
        extent_spelled = found.1;
        is = refl;
      },
      (
        x,
        subst (λ (os : List ℕ). c.spells found.0.body x os) (sym found.2.1)
            (subst (λ (k : ℕ). c.spells k x e.contents) body spelled),
        ap (λ (k : ℕ). taken x k rest) ends,
      ),
    )
