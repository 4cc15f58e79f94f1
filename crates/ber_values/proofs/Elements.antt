-- Reading contents of each kind is exact, and so is reading elements.
use Rattle.std.proofs.Common.{◌≡◌, ℕ, zero, suc, ◌^◌, ◌<◌, ◌≤◌, Bool, true, false, not, ◌||◌, eqb, ltb, leb, List, [], ◌∷◌, length, drop, get_or, ℤ, pos, negsuc, ◌<ℤ◌, ◌≤ℤ◌, Result, Ok, Err, MatchResult, refl, sym, ap, subst, ◌∙◌, inl, inr, ◌⊎◌, arith}
use Rattle.std.specs.List.{list_all}
use Rattle.std.proofs.lemmas.Bool.{and_parts, and_cases, and_from, ltb-true, ltb-false, leb-true, lt-ltb, le-ltb, le-leb, ne_eqb, false≢true, or_right, or_parts, and_left, and_right, not_from_false}
use Rattle.std.proofs.lemmas.Bool.Decides.{nat_tests}
use Rattle.std.proofs.lemmas.Int.{ints}
use Rattle.ber_values.specs.declared.fault.BerFault.{BerFault}
use Rattle.ber_values.specs.declared.fault.Why.TheVariants as whys
use Rattle.ber_values.specs.declared.head.Head.{Head}
use Rattle.ber_values.specs.Faults.{fault_at, ◌>>=◌}
use Rattle.ber_values.specs.Bits.{Bits}
use Rattle.ber_values.specs.Visible.{is_visible_octet}
use Rattle.ber_values.specs.Reading.{IsReading, HasOneReading}
use Rattle.ber_values.specs.Contents.{HasLength, has_length, ContentsFault, contents_in}
use Rattle.ber_values.specs.Numbers.{twos_complement, SpellsInteger, IntegerFault, integer_in, SpellsUnsigned, UnsignedFault, is_number_below, unsigned_of, unsigned_in}
use Rattle.ber_values.specs.Booleans.{SpellsBoolean, BooleanFault, boolean_in}
use Rattle.ber_values.specs.BitContents.{bits_with, SpellsBits, BreaksBits, BitsFault, keeps_bits, bits_in}
use Rattle.ber_values.specs.TextContents.{SpellsOid, OidFault, oid_in, SpellsVisible, VisibleFault, visible_in}
use Rattle.ber_values.specs.Heads.{SpellsHead, HeadFault, head_in}
use Rattle.ber_values.specs.Elements.{Kind, integer, unsigned, boolean, bits, oid, visible, Value, SpellsContents, FaultOf, contents_from, Element, SpellsElement, ElementFault}
use Rattle.ber_values.proofs.Reading.{IsReading-from, IsReading-then, IsReading-as, HasOneReading-from}
use Rattle.ber_values.proofs.Heads.{head_reads}

-- the tests of a kind's contents say what its rules say
pub record Tests (X : Type 0) (Spelled : X → Type 0) (Allowed Broken : Type 0) (allowed kept : Bool) (value : X) : Type 0 where
  pub length_kept : allowed ≡ true → Allowed
  pub length_test : Allowed → allowed ≡ true
  pub spelled : allowed ≡ true → kept ≡ true → Spelled value
  pub broken : allowed ≡ true → kept ≡ false → Broken
  pub from_spelled : (x : X) → Spelled x → (allowed ≡ true) × (kept ≡ true) × (x ≡ value)
  pub from_broken : Broken → kept ≡ false

contents_right : (X : Type 0) (Spelled : X → Type 0) (Allowed Broken : Type 0) (allowed kept : Bool) (value : X) (head : Head) → Tests X Spelled Allowed Broken allowed kept value → MatchResult (contents_in allowed kept value head) Spelled (ContentsFault Allowed Broken head)
contents_right X Spelled Allowed Broken true true value head t = t.spelled refl refl
contents_right X Spelled Allowed Broken true false value head t = inr (t.length_kept refl, t.broken refl refl, refl)
contents_right X Spelled Allowed Broken false kept value head t = inl (λ a. false≢true (t.length_test a), refl)

contents_only : (X : Type 0) (allowed kept : Bool) (value x : X) (head : Head) → allowed ≡ true → kept ≡ true → x ≡ value → contents_in allowed kept value head ≡ Ok x
contents_only X allowed kept value x head a k is = rw (a, k) (ap (λ (y : X). Ok y) (sym is))

refused_length : (X : Type 0) (allowed kept : Bool) (value : X) (head : Head) → (allowed ≡ true → ⊥) → contents_in allowed kept value head ≡ Err (fault_at head.length_at whys.Length)
refused_length X true kept value head refused = absurd (refused refl)
refused_length X false kept value head refused = refl

refused_value : (X : Type 0) (allowed kept : Bool) (value : X) (head : Head) → allowed ≡ true → kept ≡ false → contents_in allowed kept value head ≡ Err (fault_at head.body whys.Value)
refused_value X allowed kept value head a k = rw (a, k) refl

contents_first : (X : Type 0) (Spelled : X → Type 0) (Allowed Broken : Type 0) (allowed kept : Bool) (value : X) (head : Head) → Tests X Spelled Allowed Broken allowed kept value → (f : BerFault) → ContentsFault Allowed Broken head f → contents_in allowed kept value head ≡ Err f
contents_first X Spelled Allowed Broken allowed kept value head t f (inl (refused, is)) = refused_length X allowed kept value head (λ a. refused (t.length_kept a)) ∙ ap (λ (g : BerFault). Err g) (sym is)
contents_first X Spelled Allowed Broken allowed kept value head t f (inr (fine, broken, is)) = refused_value X allowed kept value head (t.length_test fine) (t.from_broken broken) ∙ ap (λ (g : BerFault). Err g) (sym is)

-- contents that are read by such tests are read exactly
pub contents_read : (X : Type 0) (Spelled : X → Type 0) (Allowed Broken : Type 0) (allowed kept : Bool) (value : X) (head : Head) → Tests X Spelled Allowed Broken allowed kept value → IsReading X Spelled (ContentsFault Allowed Broken head) (contents_in allowed kept value head)
contents_read X Spelled Allowed Broken allowed kept value head t =
    IsReading-from X Spelled (ContentsFault Allowed Broken head) (contents_in allowed kept value head) (contents_right X Spelled Allowed Broken allowed kept value head t)
    (λ x s. let p = t.from_spelled x s in contents_only X allowed kept value x head p.0 p.1 p.2)
    (contents_first X Spelled Allowed Broken allowed kept value head t)

pub length_kept : (least most : ℕ) (octets : List ℕ) → has_length least most octets ≡ true → HasLength least most octets
length_kept least most octets e = let p = and_parts (leb least (length octets)) (leb (length octets) most) e in (leb-true _ _ p.0, leb-true _ _ p.1)

pub length_test : (least most : ℕ) (octets : List ℕ) → HasLength least most octets → has_length least most octets ≡ true
length_test least most octets h = and_from (leb least (length octets)) (leb (length octets) most) (le-leb _ _ h.0) (le-leb _ _ h.1)

never : true ≡ false → ⊥
never e = false≢true (sym e)

pub integer_reads : (head : Head) (octets : List ℕ) → IsReading ℤ (λ v. SpellsInteger v octets) (IntegerFault head octets) (integer_in head octets)
unfolding integer_in
integer_reads head octets =
    contents_read ℤ (λ v. SpellsInteger v octets) (HasLength 1 8 octets) ⊥ (has_length 1 8 octets) true (twos_complement octets) head
    (record { length_kept = length_kept 1 8 octets; length_test = length_test 1 8 octets; spelled = λ a k. (length_kept 1 8 octets a, refl); broken = λ a k. absurd (never k); from_spelled = λ x s. (length_test 1 8 octets s.0, refl, s.1); from_broken = λ b. absurd b })

is_below-from : (limit : ℕ) (z : ℤ) → is_number_below limit z ≡ true
    → (pos (unsigned_of z) ≡ z) × (unsigned_of z < limit)
is_below-from limit (pos n) e = (refl, ltb-true n limit e)
is_below-from limit (negsuc n) e = absurd (false≢true e)

not_below : (limit : ℕ) (z : ℤ) → is_number_below limit z ≡ false → (z <ℤ pos 0) ⊎ (pos limit ≤ℤ z)
not_below limit (pos n) e = let le : limit ≤ n = ltb-false n limit e in inr (omega (arith, ints))
not_below limit (negsuc n) e = inl (omega (arith, ints))

from_not_below : (limit : ℕ) (z : ℤ) → (z <ℤ pos 0) ⊎ (pos limit ≤ℤ z) → is_number_below limit z ≡ false
from_not_below limit (pos n) (inl below) = absurd (omega (arith, ints, below))
from_not_below limit (pos n) (inr above) = le-ltb n limit (omega (arith, ints, above))
from_not_below limit (negsuc n) h = refl

below_is : (limit : ℕ) (z : ℤ) (x : ℕ) → pos x ≡ z → x < limit
    → (is_number_below limit z ≡ true) × (x ≡ unsigned_of z)
below_is limit (pos n) x e lt =
    let same : x ≡ n = cc in (lt-ltb n limit (omega (arith, same, lt)), same)
below_is limit (negsuc n) x e lt = absurd cc

-- reading an integer from 0 up to a limit is exact
pub below_reads : (limit : ℕ) (head : Head) (octets : List ℕ)
    → IsReading ℕ (λ v. SpellsInteger (pos v) octets × (v < limit))
    (ContentsFault (HasLength 1 8 octets) ((twos_complement octets <ℤ pos 0) ⊎ (pos limit ≤ℤ twos_complement octets)) head)
    (contents_in (has_length 1 8 octets) (is_number_below limit (twos_complement octets)) (unsigned_of (twos_complement octets)) head)
below_reads limit head octets =
    let z = twos_complement octets in
    contents_read ℕ (λ v. SpellsInteger (pos v) octets × (v < limit)) (HasLength 1 8 octets) ((z <ℤ pos 0) ⊎ (pos limit ≤ℤ z)) (has_length 1 8 octets) (is_number_below limit z) (unsigned_of z) head
    (record {
      length_kept = length_kept 1 8 octets;
      length_test = length_test 1 8 octets;
      spelled = λ a k. let p = is_below-from limit z k in ((length_kept 1 8 octets a, p.0), p.1);
      broken = λ a k. not_below limit z k;
      from_spelled = λ x s. let p = below_is limit z x s.0.1 s.1 in (length_test 1 8 octets s.0.0, p.0, p.1);
      from_broken = from_not_below limit z;
    })

pub unsigned_reads : (head : Head) (octets : List ℕ) → IsReading ℕ (λ v. SpellsUnsigned v octets) (UnsignedFault head octets) (unsigned_in head octets)
unfolding unsigned_in
unsigned_reads head octets = below_reads (2 ^ 32) head octets

one_octet : (octets : List ℕ) → has_length 1 1 octets ≡ true → octets ≡ get_or octets 0 0 ∷ []
one_octet [] e = absurd (false≢true e)
one_octet (x ∷ []) e = refl
one_octet (x ∷ y ∷ octets) e = let p = length_kept 1 1 (x ∷ y ∷ octets) e in absurd (omega (arith, p.1))

pub boolean_reads : (head : Head) (octets : List ℕ) → IsReading Bool (λ v. SpellsBoolean v octets) (BooleanFault head octets) (boolean_in head octets)
unfolding boolean_in
boolean_reads head octets =
    contents_read Bool (λ v. SpellsBoolean v octets) (HasLength 1 1 octets) ⊥ (has_length 1 1 octets) true (not (eqb (get_or octets 0 0) 0)) head
    (record {
      length_kept = length_kept 1 1 octets;
      length_test = length_test 1 1 octets;
      spelled = λ a k. (get_or octets 0 0, one_octet octets a, refl);
      broken = λ a k. absurd (never k);
      from_spelled = λ x s. (ap (has_length 1 1) s.1, refl, s.2 ∙ ap (λ (os : List ℕ). not (eqb (get_or os 0 0) 0)) (sym s.1));
      from_broken = λ b. absurd b;
    })

or_left_false : (b : Bool) → b ≡ false → (b || false) ≡ false
or_left_false true e = e
or_left_false false e = refl

above_zero : (n : ℕ) → eqb n 0 ≡ false → 0 < n
above_zero zero e = absurd (false≢true (sym e))
above_zero (suc n) e = omega arith

some_octets : (x : ℕ) (octets : List ℕ) → not (eqb (length (x ∷ octets)) 0) ≡ true
some_octets x octets = not_from_false _ (ne_eqb (suc (length octets)) 0 (λ e. omega arith))

keeps_from : (unused : ℕ) (octets : List ℕ) → keeps_bits unused octets ≡ true → (unused < 8) × (octets ≡ [] → unused ≡ 0)
keeps_from unused [] e = (grind (arith, nat_tests, and_parts), λ _. grind (arith, nat_tests, and_parts))
keeps_from unused (x ∷ octets) e = (grind (arith, nat_tests, and_parts), λ n. absurd cc)

keeps_to : (unused : ℕ) (octets : List ℕ) → unused < 8 → (octets ≡ [] → unused ≡ 0) → keeps_bits unused octets ≡ true
keeps_to unused [] few some = let none : unused ≡ 0 = some refl in rw none refl
keeps_to unused (x ∷ octets) few some = and_from (ltb unused 8) (eqb unused 0 || not (eqb (suc (length octets)) 0)) (lt-ltb unused 8 few) (or_right (eqb unused 0) (not (eqb (suc (length octets)) 0)) (some_octets x octets))

breaks_from : (unused : ℕ) (octets : List ℕ) → keeps_bits unused octets ≡ false → (8 ≤ unused) ⊎ ((octets ≡ []) × (0 < unused))
breaks_from unused [] e = elim (and_cases (ltb unused 8) (eqb unused 0 || false) e) [ inl many ↦ inl (ltb-false unused 8 many) | inr none ↦ inr (refl, above_zero unused (or_parts (eqb unused 0) false none).0) ]
breaks_from unused (x ∷ octets) e = elim (and_cases (ltb unused 8) (eqb unused 0 || not (eqb (suc (length octets)) 0)) e) [ inl many ↦ inl (ltb-false unused 8 many) | inr none ↦ absurd (never (sym (some_octets x octets) ∙ (or_parts (eqb unused 0) (not (eqb (suc (length octets)) 0)) none).1)) ]

breaks_to : (unused : ℕ) (octets : List ℕ) → (8 ≤ unused) ⊎ ((octets ≡ []) × (0 < unused)) → keeps_bits unused octets ≡ false
breaks_to unused octets (inl many) = and_left (ltb unused 8) (eqb unused 0 || not (eqb (length octets) 0)) (le-ltb unused 8 many)
breaks_to unused octets (inr (none, some)) = rw none (and_right (ltb unused 8) (eqb unused 0 || false) (or_left_false (eqb unused 0) (ne_eqb unused 0 (λ e. omega (arith, e, some)))))

bits_spelled : (octets : List ℕ) → ltb 0 (length octets) ≡ true → keeps_bits (get_or octets 0 0) (drop 1 octets) ≡ true → SpellsBits (bits_with (get_or octets 0 0) (drop 1 octets)) octets
bits_spelled [] a k = absurd (false≢true a)
bits_spelled (unused ∷ octets) a k = let p = keeps_from unused octets k in (p.0, p.1, refl)

bits_broken : (octets : List ℕ) → ltb 0 (length octets) ≡ true → keeps_bits (get_or octets 0 0) (drop 1 octets) ≡ false → BreaksBits octets
bits_broken [] a k = absurd (false≢true a)
bits_broken (unused ∷ octets) a k = breaks_from unused octets k

from_bits : (octets : List ℕ) (x : Bits) → SpellsBits x octets → (ltb 0 (length octets) ≡ true) × (keeps_bits (get_or octets 0 0) (drop 1 octets) ≡ true) × (x ≡ bits_with (get_or octets 0 0) (drop 1 octets))
from_bits [] x s = elim s [ ]
from_bits (unused ∷ octets) x s = (lt-ltb 0 (suc (length octets)) (omega arith), keeps_to unused octets s.0 s.1, s.2)

from_broken_bits : (octets : List ℕ) → BreaksBits octets → keeps_bits (get_or octets 0 0) (drop 1 octets) ≡ false
from_broken_bits [] b = elim b [ ]
from_broken_bits (unused ∷ octets) b = breaks_to unused octets b

pub bits_read : (head : Head) (octets : List ℕ) → IsReading Bits (λ v. SpellsBits v octets) (BitsFault head octets) (bits_in head octets)
unfolding bits_in
bits_read head octets =
    contents_read Bits (λ v. SpellsBits v octets) (0 < length octets) (BreaksBits octets) (ltb 0 (length octets)) (keeps_bits (get_or octets 0 0) (drop 1 octets)) (bits_with (get_or octets 0 0) (drop 1 octets)) head
    (record { length_kept = ltb-true 0 (length octets); length_test = lt-ltb 0 (length octets); spelled = bits_spelled octets; broken = bits_broken octets; from_spelled = from_bits octets; from_broken = from_broken_bits octets })

pub oid_reads : (head : Head) (octets : List ℕ) → IsReading (List ℕ) (λ v. SpellsOid v octets) (OidFault head octets) (oid_in head octets)
unfolding oid_in
oid_reads head octets =
    contents_read (List ℕ) (λ v. SpellsOid v octets) (HasLength 1 32 octets) ⊥ (has_length 1 32 octets) true octets head
    (record {
      length_kept = length_kept 1 32 octets;
      length_test = length_test 1 32 octets;
      spelled = λ a k. let p = length_kept 1 32 octets a in ((omega (arith, p.0), p.1), refl);
      broken = λ a k. absurd (never k);
      from_spelled = λ x s. (length_test 1 32 octets (omega (arith, s.0.0), s.0.1), refl, s.1);
      from_broken = λ b. absurd b;
    })

pub visible_reads : (head : Head) (octets : List ℕ) → IsReading (List ℕ) (λ v. SpellsVisible v octets) (VisibleFault head octets) (visible_in head octets)
unfolding visible_in
visible_reads head octets =
    contents_read (List ℕ) (λ v. SpellsVisible v octets) (length octets ≤ 64) (list_all is_visible_octet octets ≡ false) (leb (length octets) 64) (list_all is_visible_octet octets) octets head
    (record {
      length_kept = leb-true (length octets) 64;
      length_test = le-leb (length octets) 64;
      spelled = λ a k. ((leb-true (length octets) 64 a, k), refl);
      broken = λ a k. k;
      from_spelled = λ x s. (le-leb (length octets) 64 s.0.0, s.0.1, s.1);
      from_broken = λ b. b;
    })

abbrev pub kind_in : (kind : Kind) → Head → List ℕ → Result (Value kind) BerFault
kind_in integer head octets = integer_in head octets
kind_in unsigned head octets = unsigned_in head octets
kind_in boolean head octets = boolean_in head octets
kind_in bits head octets = bits_in head octets
kind_in oid head octets = oid_in head octets
kind_in visible head octets = visible_in head octets

pub kind_reads : (kind : Kind) (head : Head) (octets : List ℕ) → IsReading (Value kind) (λ v. SpellsContents kind v octets) (FaultOf kind head octets) (kind_in kind head octets)
kind_reads integer head octets = integer_reads head octets
kind_reads unsigned head octets = unsigned_reads head octets
kind_reads boolean head octets = boolean_reads head octets
kind_reads bits head octets = bits_read head octets
kind_reads oid head octets = oid_reads head octets
kind_reads visible head octets = visible_reads head octets

-- the value beside its head
with_head : (kind : Kind) (head : Head) (octets : List ℕ) → IsReading (Element kind) (λ e. (value : Value kind) × SpellsContents kind value octets × (e ≡ record { head = head; value = value })) (λ f. FaultOf kind head octets f ⊎ ((value : Value kind) × SpellsContents kind value octets × ⊥)) (kind_in kind head octets >>= λ value. Ok (record { head = head; value = value }))
with_head kind head octets =
    IsReading-then (Value kind) (Element kind) (λ v. SpellsContents kind v octets) (FaultOf kind head octets) (kind_in kind head octets) (λ value e. e ≡ record { head = head; value = value }) (λ value f. ⊥) (λ value. Ok (record { head = head; value = value }))
    (kind_reads kind head octets)
    (λ value s. IsReading-from (Element kind) (λ e. e ≡ record { head = head; value = value }) (λ f. ⊥) (Ok (record { head = head; value = value })) refl (λ e is. ap (λ (x : Element kind). Ok x) (sym is)) (λ f b. absurd b))

-- reading an element from the left
pub element_in : (kind : Kind) → ℕ → List ℕ → Result (Element kind) BerFault
element_in kind at octets = head_in at octets >>= λ head. kind_in kind head (contents_from at octets head) >>= λ value. Ok (record { head = head; value = value })

pub element_reads : (kind : Kind) (at : ℕ) (octets : List ℕ) → IsReading (Element kind) (SpellsElement kind at octets) (ElementFault kind at octets) (element_in kind at octets)
unfolding element_in
element_reads kind at octets =
    IsReading-as (Element kind) _ (SpellsElement kind at octets) _ (ElementFault kind at octets) (element_in kind at octets)
    (λ e h. subst (SpellsElement kind at octets) (sym h.2.2) (h.1, h.2.1))
    (λ e h. (e.head, h.0, (e.value, h.1, refl)))
    (λ f h. elim h [ inl first ↦ inl first | inr later ↦ inr (record { head = later.0; spelled = later.1; breaks = elim later.2 [ inl here ↦ here | inr never_so ↦ absurd never_so.2 ] }) ])
    (λ f h. elim h [ inl first ↦ inl first | inr later ↦ inr (later.head, later.spelled, inl later.breaks) ])
    (IsReading-then Head (Element kind) (SpellsHead at octets) (HeadFault at octets) (head_in at octets)
    (λ head e. (value : Value kind) × SpellsContents kind value (contents_from at octets head) × (e ≡ record { head = head; value = value }))
    (λ head f. FaultOf kind head (contents_from at octets head) f ⊎ ((value : Value kind) × SpellsContents kind value (contents_from at octets head) × ⊥))
    (λ head. kind_in kind head (contents_from at octets head) >>= λ value. Ok (record { head = head; value = value }))
    (head_reads at octets) (λ head s. with_head kind head (contents_from at octets head)))

-- octets have one reading for each kind of element
pub element_one_reading : (kind : Kind) (at : ℕ) (octets : List ℕ) → HasOneReading (Element kind) (SpellsElement kind at octets) (ElementFault kind at octets)
element_one_reading kind at octets = HasOneReading-from (Element kind) (SpellsElement kind at octets) (ElementFault kind at octets) (element_in kind at octets) (element_reads kind at octets)
