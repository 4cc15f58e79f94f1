-- Contents that hold no elements are read exactly.
use Rattle.std.proofs.Common.{◌≡◌, ◌≢◌, ℕ, zero, suc, ◌+◌, ◌^◌, ◌<◌, true, false, ◌&&◌, eqb, List, [], ◌∷◌, length, get_or, ℤ, Option, Ok, Err, refl, sym, ap, ◌∙◌, inl, inr, ◌⊎◌, arith}
use Rattle.std.specs.Prelude.{int_le, nat_le}
use Rattle.std.specs.List.{list_all}
use Rattle.std.proofs.lemmas.Bool.{eqb-true, eqb-false, eq-eqb, ne_eqb, false≢true}
use Rattle.ber_values.specs.declared.fault.BerFault.{BerFault}
use Rattle.ber_values.specs.declared.fault.Why.TheVariants as whys
use Rattle.ber_values.specs.declared.fault.Span.{Span}
use Rattle.ber_values.specs.Faults.{fault_at}
use Rattle.ber_values.specs.Visible.{is_visible_octet}
use Rattle.ber_values.specs.Reading.{IsReading}
use Rattle.ber_values.specs.Contents.{HasLength, has_length}
use Rattle.ber_values.specs.Parts.{IsContentsGrammar}
use Rattle.ber_values.specs.Leaves.{integer, unsigned, boolean, bits, oid, visible, natural_in, natural, octet_in, octet, raw, span_at, span, SpellsText, text_in, visible_within, integer_within, unsigned_within, selector_of, selector_in, selector, same_from, FirstWrong, fixed}
use Rattle.ber_values.proofs.Reading.{IsReading-as}
use Rattle.ber_values.proofs.Elements.{contents_read, length_kept, length_test, below_reads, integer_reads, unsigned_reads, boolean_reads, bits_read, oid_reads, visible_reads}
use Rattle.ber_values.proofs.Grammars.{IsReading-done, IsReading-failed, IsReading-test, where_reads}

pub integer_contents : IsContentsGrammar integer
unfolding integer
integer_contents head octets = integer_reads head octets

pub unsigned_contents : IsContentsGrammar unsigned
unfolding unsigned
unsigned_contents head octets = unsigned_reads head octets

pub boolean_contents : IsContentsGrammar boolean
unfolding boolean
boolean_contents head octets = boolean_reads head octets

pub bits_contents : IsContentsGrammar bits
unfolding bits
bits_contents head octets = bits_read head octets

pub oid_contents : IsContentsGrammar oid
unfolding oid
oid_contents head octets = oid_reads head octets

pub visible_contents : IsContentsGrammar visible
unfolding visible
visible_contents head octets = visible_reads head octets

never : true ≡ false → ⊥
never e = false≢true (sym e)

pub natural_contents : IsContentsGrammar natural
unfolding natural natural_in
natural_contents head octets = below_reads (2 ^ 63) head octets

one_octet : (octets : List ℕ) → has_length 1 1 octets ≡ true → octets ≡ get_or octets 0 0 ∷ []
one_octet [] e = absurd (false≢true e)
one_octet (x ∷ []) e = refl
one_octet (x ∷ y ∷ octets) e = let p = length_kept 1 1 (x ∷ y ∷ octets) e in absurd (omega (arith, p.1))

pub octet_contents : IsContentsGrammar octet
unfolding octet octet_in
octet_contents head octets =
    contents_read ℕ (λ v. octets ≡ v ∷ []) (HasLength 1 1 octets) ⊥ (has_length 1 1 octets) true (get_or octets 0 0) head
    (record {
      length_kept = length_kept 1 1 octets;
      length_test = length_test 1 1 octets;
      spelled = λ a k. one_octet octets a;
      broken = λ a k. absurd (never k);
      from_spelled = λ x s. (ap (has_length 1 1) s, refl, sym (ap (λ (os : List ℕ). get_or os 0 0) s));
      from_broken = λ b. absurd b;
    })

pub raw_contents : IsContentsGrammar raw
unfolding raw
raw_contents head octets = IsReading-done (List ℕ) octets

pub span_contents : IsContentsGrammar span
unfolding span
span_contents head octets = IsReading-done Span (span_at head.body octets)

pub text_contents : (least most : ℕ) → IsContentsGrammar (visible_within least most)
unfolding visible_within text_in
text_contents least most head octets =
    contents_read (List ℕ) (λ v. SpellsText least most v octets) (HasLength least most octets) (list_all is_visible_octet octets ≡ false) (has_length least most octets) (list_all is_visible_octet octets) octets head
    (record {
      length_kept = length_kept least most octets;
      length_test = length_test least most octets;
      spelled = λ a k. (length_kept least most octets a, k, refl);
      broken = λ a k. k;
      from_spelled = λ x s. (length_test least most octets s.0, s.1, s.2);
      from_broken = λ b. b;
    })

pub integer_within_contents : (low high : ℤ) → IsContentsGrammar (integer_within low high)
unfolding integer_within
integer_within_contents low high = where_reads (λ z. int_le low z && int_le z high) integer integer_contents

pub unsigned_within_contents : (low high : ℕ) → IsContentsGrammar (unsigned_within low high)
unfolding unsigned_within
unsigned_within_contents low high = where_reads (λ n. nat_le low n && nat_le n high) unsigned unsigned_contents

pub selector_contents : IsContentsGrammar selector
unfolding selector selector_in
selector_contents head octets =
    contents_read (Option (List ℕ)) (λ v. HasLength 0 32 octets × (v ≡ selector_of octets)) (HasLength 0 32 octets) ⊥ (has_length 0 32 octets) true (selector_of octets) head
    (record {
      length_kept = length_kept 0 32 octets;
      length_test = length_test 0 32 octets;
      spelled = λ a k. (length_kept 0 32 octets a, refl);
      broken = λ a k. absurd (never k);
      from_spelled = λ x s. (length_test 0 32 octets s.0, refl, s.1);
      from_broken = λ b. absurd b;
    })

-- ---- fixed octets

later_wrong : (at : ℕ) (x y : ℕ) (xs ys : List ℕ) (f : BerFault) → y ≡ x → FirstWrong (at + 1) xs ys f → FirstWrong at (x ∷ xs) (y ∷ ys) f
later_wrong at x y xs ys f e w = record {
  index = suc w.index;
  within = omega (arith, w.within);
  same_before = same_next x y w.index xs ys e w.same_before;
  wrong = w.wrong;
  is = w.is ∙ ap (λ (n : ℕ). fault_at n whys.Value) (omega arith);
}
  where
    same_next : (x y n : ℕ) (xs ys : List ℕ) → y ≡ x → ((i : ℕ) → i < n → get_or ys i 0 ≡ get_or xs i 0) → (i : ℕ) → i < suc n → get_or (y ∷ ys) i 0 ≡ get_or (x ∷ xs) i 0
    same_next x y n xs ys e s zero lt = e
    same_next x y n xs ys e s (suc i) lt = s i (omega (arith, lt))

wrong_parts : (at x y : ℕ) (xs ys : List ℕ) (f : BerFault) (index : ℕ) → index < length (y ∷ ys) → ((i : ℕ) → i < index → get_or (y ∷ ys) i 0 ≡ get_or (x ∷ xs) i 0) → get_or (y ∷ ys) index 0 ≢ get_or (x ∷ xs) index 0 → f ≡ fault_at (at + index) whys.Value
    → ((y ≡ x) × FirstWrong (at + 1) xs ys f) ⊎ ((y ≢ x) × (f ≡ fault_at at whys.Value))
wrong_parts at x y xs ys f zero within same wrong is = inr (wrong, is ∙ ap (λ (n : ℕ). fault_at n whys.Value) (omega arith))
wrong_parts at x y xs ys f (suc index) within same wrong is =
    inl (same 0 (omega arith), record { index = index; within = omega (arith, within); same_before = λ i lt. same (suc i) (omega (arith, lt)); wrong = wrong; is = is ∙ ap (λ (n : ℕ). fault_at n whys.Value) (omega arith) })

unit_only : (u : Unit {0}) → tt ≡ u
unit_only u = refl

same_reads : (at : ℕ) (wanted octets : List ℕ) → length octets ≡ length wanted → IsReading (Unit {0}) (λ u. octets ≡ wanted) (FirstWrong at wanted octets) (same_from at wanted octets)
same_reads at [] [] len = IsReading-as (Unit {0}) (λ u. u ≡ tt) (λ u. [] ≡ []) (λ f. ⊥) (FirstWrong at [] []) (Ok tt) (λ u h. refl) (λ u h. unit_only u) (λ f b. absurd b) (λ f w. omega (arith, w.within)) (IsReading-done (Unit {0}) tt)
same_reads at [] (y ∷ ys) len = absurd (omega (arith, len))
same_reads at (x ∷ xs) [] len = absurd (omega (arith, len))
same_reads at (x ∷ xs) (y ∷ ys) len =
    IsReading-as (Unit {0}) _ (λ u. (y ∷ ys) ≡ (x ∷ xs)) _ (FirstWrong at (x ∷ xs) (y ∷ ys)) _
    (λ u h. elim h [ inl a ↦ (let head : y ≡ x = eqb-true y x a.0 in let tail : ys ≡ xs = a.1 in cc) | inr b ↦ absurd b.1 ])
    (λ u h. let head : y ≡ x = cc in let tail : ys ≡ xs = cc in inl (eq-eqb y x head, tail))
    (λ f h. elim h [ inl a ↦ later_wrong at x y xs ys f (eqb-true y x a.0) a.1 | inr b ↦ record { index = 0; within = omega arith; same_before = λ i lt. absurd (omega (arith, lt)); wrong = eqb-false y x b.0; is = b.1 ∙ ap (λ (n : ℕ). fault_at n whys.Value) (omega arith) } ])
    (λ f w. elim (wrong_parts at x y xs ys f w.index w.within w.same_before w.wrong w.is) [ inl a ↦ inl (eq-eqb y x a.0, a.1) | inr b ↦ inr (ne_eqb y x b.0, b.1) ])
    (IsReading-test (Unit {0}) (λ u. ys ≡ xs) (λ u. ⊥) (FirstWrong (at + 1) xs ys) (λ f. f ≡ fault_at at whys.Value) (eqb y x) (same_from (at + 1) xs ys) (Err (fault_at at whys.Value))
    (λ e. same_reads (at + 1) xs ys (omega (arith, len))) (λ e. IsReading-failed (Unit {0}) (fault_at at whys.Value)))

pub fixed_contents : (wanted : List ℕ) → IsContentsGrammar (fixed wanted)
unfolding fixed
fixed_contents wanted head octets =
    IsReading-as (Unit {0}) _ (λ u. octets ≡ wanted) _ (λ f. ((length octets ≢ length wanted) × (f ≡ fault_at head.length_at whys.Length)) ⊎ ((length octets ≡ length wanted) × FirstWrong head.body wanted octets f)) _
    (λ u h. elim h [ inl a ↦ a.1 | inr b ↦ absurd b.1 ])
    (λ u h. inl (eq-eqb (length octets) (length wanted) (ap length h), h))
    (λ f h. elim h [ inl a ↦ inr (eqb-true (length octets) (length wanted) a.0, a.1) | inr b ↦ inl (eqb-false (length octets) (length wanted) b.0, b.1) ])
    (λ f h. elim h [ inl a ↦ inr (ne_eqb (length octets) (length wanted) a.0, a.1) | inr b ↦ inl (eq-eqb (length octets) (length wanted) b.0, b.1) ])
    (IsReading-test (Unit {0}) (λ u. octets ≡ wanted) (λ u. ⊥) (FirstWrong head.body wanted octets) (λ f. f ≡ fault_at head.length_at whys.Length) (eqb (length octets) (length wanted)) (same_from head.body wanted octets) (Err (fault_at head.length_at whys.Length))
    (λ e. same_reads head.body wanted octets (eqb-true (length octets) (length wanted) e)) (λ e. IsReading-failed (Unit {0}) (fault_at head.length_at whys.Length)))
