-- Elements, their contents and what is passed over are read exactly.
use Rattle.std.proofs.Common.{◌≡◌, ◌≢◌, ℕ, suc, Bool, true, false, cond, eqb, List, []}
use Rattle.std.proofs.Common.{◌∷◌, length, Ok, Err, refl, sym, ap, subst, ◌∙◌, inl, inr}
use Rattle.std.proofs.Common.{Some, None, ◌<◌, ◌-◌, ◌+◌, ◌++◌, ◌^◌, drop, arith}
use Rattle.std.proofs.lemmas.Bool.{eqb-true, eqb-false, eq-eqb, ne_eqb}
use Rattle.std.proofs.lemmas.List.{length-append}
use Rattle.ber_values.specs.declared.fault.BerFault.{BerFault}
use Rattle.ber_values.specs.declared.fault.Why.TheVariants as whys
use Rattle.ber_values.specs.Faults.{fault_at, ◌>>=◌}
use Rattle.ber_values.specs.Extents.{Extent}
use Rattle.ber_values.specs.Heads.{extent_of}
use Rattle.ber_values.specs.Reading.{Taken, IsReading}
use Rattle.ber_values.specs.Grammars.{Grammar, IsGrammar, taken, gives, map_in, branch_in}
use Rattle.ber_values.specs.Grammars.{has_tag}
use Rattle.ber_values.specs.Passing.{skip, pass_in}
use Rattle.ber_values.specs.Parts.{Contents, IsContentsGrammar, Parted, parted, is_constructed}
use Rattle.ber_values.specs.Parts.{BeginsPart, PartFault, sized_part_in, parted_in, part_in}
use Rattle.ber_values.specs.Parts.{choose_in, maybe_in, contents_as, contents_where, end_in}
use Rattle.ber_values.specs.Parts.{whole_in, all_in}
use Rattle.ber_values.proofs.Reading.{IsReading-then, IsReading-as}
use Rattle.ber_values.proofs.Heads.{element_reads, extent_reads}
use Rattle.ber_values.proofs.Following.{extent-after}
use Rattle.ber_values.specs.Writing.{length_octets, written}
use Rattle.ber_values.proofs.Written.{extent_written, extent-written}
pub use Rattle.ber_values.proofs.Combining.{IsReading-done, IsReading-failed, IsReading-map}
pub use Rattle.ber_values.proofs.Combining.{IsReading-test, gives_reads, then_reads, map_reads}
pub use Rattle.ber_values.proofs.Combining.{branch_reads, refused_reads, by_length_reads}
pub use Rattle.ber_values.proofs.Combining.{passed_within_reads, passed_reads, times_reads}
pub use Rattle.ber_values.proofs.Combining.{fold_reads}

pub skip_reads : IsGrammar skip
unfolding skip
skip_reads = element_reads extent_of extent_reads

pub pass_reads : (skips : ℕ → Bool) → IsGrammar (pass_in skips)
unfolding pass_in
pass_reads skips = passed_reads skip skips skip_reads

-- ---- elements

-- what stands behind a tag that was taken
abbrev SizedPart : ℕ → ℕ → List ℕ → Parted → Type 0
SizedPart tag at octets part = (extent : Taken Extent)
    × (extent_of (is_constructed tag)).begins (at + 1) octets extent × (part ≡ parted tag at extent)

abbrev SizedFault : ℕ → ℕ → List ℕ → BerFault → Type 0
SizedFault tag at octets f = (extent_of (is_constructed tag)).fault (at + 1) octets f

sized_part_reads : (tag at : ℕ) (octets : List ℕ) → IsReading Parted (SizedPart tag at octets)
    (SizedFault tag at octets) (sized_part_in tag at octets)
unfolding sized_part_in
sized_part_reads tag at octets =
    let g = extent_of (is_constructed tag) in
    IsReading-map (Taken Extent) Parted (g.begins (at + 1) octets) (g.fault (at + 1) octets)
    (g.reading (at + 1) octets) (parted tag at) (extent_reads (is_constructed tag) (at + 1) octets)

cons_heads : (x y : ℕ) (xs ys : List ℕ) → (x ∷ xs) ≡ (y ∷ ys) → (x ≡ y) × (xs ≡ ys)
cons_heads x y xs ys e = (cc, cc)

tagged_from : (tag at first : ℕ) (octets : List ℕ) (part : Parted) → first ≡ tag
    → SizedPart tag at octets part → BeginsPart tag at (first ∷ octets) part
tagged_from tag at first octets part e h = record {
  after_tag = octets;
  extent = h.0;
  tagged = ap (λ (x : ℕ). x ∷ octets) e;
  extent_spelled = h.1;
  is = h.2;
}

tagged_to : (tag at first : ℕ) (octets : List ℕ) (part : Parted)
    → BeginsPart tag at (first ∷ octets) part → (first ≡ tag) × SizedPart tag at octets part
tagged_to tag at first octets part h =
    let p = cons_heads first tag octets h.after_tag h.tagged in
    let P : List ℕ → Type 0 = λ os.
    (extent_of (is_constructed tag)).begins (at + 1) os h.extent in
    (p.0, (h.extent, subst P (sym p.1) h.extent_spelled, h.is))

nothing_begun : (tag at : ℕ) (part : Parted) → BeginsPart tag at [] part → ⊥
nothing_begun tag at part h = let e = h.tagged in cc

pub parted_reads : (tag at : ℕ) (octets : List ℕ) → IsReading Parted (BeginsPart tag at octets) (PartFault tag at octets) (parted_in tag at octets)
unfolding parted_in
parted_reads tag at [] =
    IsReading-as Parted (λ part. ⊥) (BeginsPart tag at []) _ (PartFault tag at []) _ (λ part h. absurd h) (nothing_begun tag at) (λ f h. h) (λ f h. h) (IsReading-failed Parted (fault_at at whys.Short))
parted_reads tag at (first ∷ octets) =
    IsReading-as Parted _ (BeginsPart tag at (first ∷ octets)) _ (PartFault tag at (first ∷ octets)) _
    (λ part h. elim h [ inl a ↦ tagged_from tag at first octets part (eqb-true first tag a.0) a.1 | inr b ↦ absurd b.1 ])
    (λ part h. let p = tagged_to tag at first octets part h in inl (eq-eqb first tag p.0, p.1))
    (λ f h. elim h [ inl a ↦ inr (eqb-true first tag a.0, a.1) | inr b ↦ inl (eqb-false first tag b.0, b.1) ])
    (λ f h. elim h [ inl a ↦ inr (ne_eqb first tag a.0, a.1) | inr b ↦ inl (eq-eqb first tag b.0, b.1) ])
    (IsReading-test Parted (SizedPart tag at octets) (λ part. ⊥) (SizedFault tag at octets) (λ f. f ≡ fault_at at whys.Tag) (eqb first tag) (sized_part_in tag at octets) (Err (fault_at at whys.Tag)) (λ e. sized_part_reads tag at octets) (λ e. IsReading-failed Parted (fault_at at whys.Tag)))

pub part_reads : {X : Type 0} (tag : ℕ) (c : Contents X) → IsContentsGrammar c → IsGrammar (part_in tag c)
unfolding part_in
part_reads {X} tag c one at octets =
    IsReading-then Parted (Taken X) (BeginsPart tag at octets) (PartFault tag at octets) (parted_in tag at octets) (λ part t. (x : X) × c.spells part.head.body x part.contents × (t ≡ taken x part.head.next part.rest)) (λ part f. c.fault part.head part.contents f) (λ part. c.reading part.head part.contents >>= λ x. Ok (taken x part.head.next part.rest))
    (parted_reads tag at octets)
    (λ part s. IsReading-map X (Taken X) (λ x. c.spells part.head.body x part.contents) (c.fault part.head part.contents) (c.reading part.head part.contents) (λ x. taken x part.head.next part.rest) (one part.head part.contents))

pub choose_reads : {X : Type 0} (tag : ℕ) (c : Contents X) (other : Grammar X) → IsContentsGrammar c → IsGrammar other → IsGrammar (choose_in tag c other)
unfolding choose_in
choose_reads tag c other one two = branch_reads (has_tag tag) (part_in tag c) other (part_reads tag c one) two

pub maybe_reads : {X : Type 0} (tag : ℕ) (c : Contents X) → IsContentsGrammar c → IsGrammar (maybe_in tag c)
unfolding maybe_in
maybe_reads {X} tag c one = branch_reads (has_tag tag) (map_in Some (part_in tag c)) (gives None) (map_reads Some (part_in tag c) (part_reads tag c one)) (gives_reads None)

-- ---- contents

pub as_reads : {X Y : Type 0} (f : X → Y) (c : Contents X) → IsContentsGrammar c → IsContentsGrammar (contents_as f c)
unfolding contents_as
as_reads {X} {Y} f c one head octets = IsReading-map X Y (λ x. c.spells head.body x octets) (c.fault head octets) (c.reading head octets) f (one head octets)

pub where_reads : {X : Type 0} (test : X → Bool) (c : Contents X) → IsContentsGrammar c → IsContentsGrammar (contents_where test c)
unfolding contents_where
where_reads {X} test c one head octets =
    IsReading-then X X (λ x. c.spells head.body x octets) (c.fault head octets) (c.reading head octets) (λ x y. (test x ≡ true) × (y ≡ x)) (λ x f. (test x ≡ false) × (f ≡ fault_at head.body whys.Value)) (λ x. cond (test x) (Ok x) (Err (fault_at head.body whys.Value)))
    (one head octets)
    (λ x s. IsReading-as X _ (λ y. (test x ≡ true) × (y ≡ x)) _ (λ f. (test x ≡ false) × (f ≡ fault_at head.body whys.Value)) _
    (λ y h. elim h [ inl a ↦ a | inr b ↦ absurd b.1 ]) (λ y h. inl h) (λ f h. elim h [ inl a ↦ absurd a.1 | inr b ↦ b ]) (λ f h. inr h)
    (IsReading-test X (λ y. y ≡ x) (λ y. ⊥) (λ f. ⊥) (λ f. f ≡ fault_at head.body whys.Value) (test x) (Ok x) (Err (fault_at head.body whys.Value)) (λ e. IsReading-done X x) (λ e. IsReading-failed X (fault_at head.body whys.Value))))

-- what is read of one thing and of the end after it
end_reads : {X : Type 0} (x : X) (at : ℕ) (octets : List ℕ) → IsReading X (λ y. (octets ≡ []) × (y ≡ x)) (λ f. (octets ≢ []) × (f ≡ fault_at at whys.Tag)) (end_in at octets >>= λ u. Ok x)
end_reads {X} x at [] = IsReading-as X (λ y. y ≡ x) (λ y. ([] ≡ []) × (y ≡ x)) (λ f. ⊥) (λ f. ([] ≢ []) × (f ≡ fault_at at whys.Tag)) (Ok x) (λ y h. (refl, h)) (λ y h. h.1) (λ f h. absurd h) (λ f h. h.0 refl) (IsReading-done X x)
end_reads {X} x at (first ∷ octets) = IsReading-as X (λ y. ⊥) (λ y. ((first ∷ octets) ≡ []) × (y ≡ x)) (λ f. f ≡ fault_at at whys.Tag) (λ f. ((first ∷ octets) ≢ []) × (f ≡ fault_at at whys.Tag)) (Err (fault_at at whys.Tag)) (λ y h. absurd h) (λ y h. let e = h.0 in cc) (λ f h. (λ e. cc, h)) (λ f h. h.1) (IsReading-failed X (fault_at at whys.Tag))

pub all_reads : {X : Type 0} (g : Grammar X) → IsGrammar g → IsContentsGrammar (all_in g)
unfolding all_in
all_reads {X} g one head octets =
    IsReading-then (Taken X) X (g.begins head.body octets) (g.fault head.body octets) (g.reading head.body octets) (λ t x. (t.rest ≡ []) × (x ≡ t.value)) (λ t f. (t.rest ≢ []) × (f ≡ fault_at t.next whys.Tag)) (λ t. end_in t.next t.rest >>= λ u. Ok t.value)
    (one head.body octets) (λ t s. end_reads t.value t.next t.rest)

pub whole_reads : {X : Type 0} (g : Grammar X) → IsGrammar g → IsGrammar (whole_in g)
unfolding whole_in
whole_reads {X} g one at octets =
    IsReading-then (Taken X) (Taken X) (g.begins at octets) (g.fault at octets) (g.reading at octets) (λ t u. (t.rest ≡ []) × (u ≡ t)) (λ t f. (t.rest ≢ []) × (f ≡ fault_at t.next whys.Tag)) (λ t. end_in t.next t.rest >>= λ u. Ok t)
    (one at octets) (λ t s. end_reads t t.next t.rest)

-- ---- places of elements

-- the octets after an element are those from its next place on
pub part-rest : (tag at : ℕ) (octets : List ℕ) (part : Parted) → BeginsPart tag at octets part
    → part.rest ≡ drop (part.head.next - at) octets
part-rest tag at octets part h =
    let after = extent-after (is_constructed tag) (at + 1) h.after_tag h.extent h.extent_spelled in
    let next = h.extent.next in
    let count : next - at ≡ suc (next - (at + 1)) = omega (arith, after.0) in
    let whole : drop (next - at) octets ≡ drop (next - (at + 1)) h.after_tag =
    ap (λ (os : List ℕ). drop (next - at) os) h.tagged
    ∙ ap (λ (k : ℕ). drop k (tag ∷ h.after_tag)) count in
    subst (λ (p : Parted). p.rest ≡ drop (p.head.next - at) octets) (sym h.is)
    (after.1 ∙ sym whole)

pub part_rest-read : (tag at : ℕ) (octets : List ℕ) (part : Parted) → parted_in tag at octets ≡ Ok part → part.rest ≡ drop (part.head.next - at) octets
part_rest-read tag at octets part e = part-rest tag at octets part ((parted_reads tag at octets).found part e)

-- ---- written elements

-- an element that was written begins what follows it, with the value of its contents
pub part-written : {X : Type 0} (tag : ℕ) (c : Contents X) (at : ℕ) (x : X) (contents rest : List ℕ) → length contents < 2 ^ 32
    → c.spells (at + 1 + length (length_octets (length contents))) x contents
    → (part_in tag c).begins at (written tag contents ++ rest) (taken x (at + length (written tag contents)) rest)
unfolding part_in
part-written {X} tag c at x contents rest few spelled =
    let n = length contents in
    let from = at + 1 + length (length_octets n) in
    let ends : at + length (written tag contents) ≡ from + n =
    omega (arith, length-append (length_octets n) contents) in
    let extent : Taken Extent = extent_written (at + 1) contents rest in (
      parted tag at extent,
      record {
        after_tag = (length_octets n ++ contents) ++ rest;
        extent = extent;
        tagged = refl;
        extent_spelled = extent-written (is_constructed tag) (at + 1) contents rest few;
        is = refl;
      },
      (x, spelled, ap (λ (k : ℕ). taken x k rest) ends),
    )

-- the element of a tag is chosen
pub choose-written : {X : Type 0} (tag : ℕ) (c : Contents X) (other : Grammar X) (at : ℕ) (x : X) (contents rest : List ℕ) → length contents < 2 ^ 32
    → c.spells (at + 1 + length (length_octets (length contents))) x contents
    → (choose_in tag c other).begins at (written tag contents ++ rest) (taken x (at + length (written tag contents)) rest)
unfolding choose_in branch_in
choose-written tag c other at x contents rest few spelled = inl (eq-eqb tag tag refl, part-written tag c at x contents rest few spelled)

-- what begins with another tag is left to the others
pub choose-other : {X : Type 0} (tag : ℕ) (c : Contents X) (other : Grammar X) (at : ℕ) (octets : List ℕ) (t : Taken X) → has_tag tag octets ≡ false → other.begins at octets t → (choose_in tag c other).begins at octets t
unfolding choose_in branch_in
choose-other tag c other at octets t no_tag begins = inr (no_tag, begins)
