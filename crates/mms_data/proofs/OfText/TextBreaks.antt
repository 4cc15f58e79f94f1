-- Where a text breaks: in its first word, or behind its datum.
use Rattle.std.proofs.Common.{◌≡◌, ◌≢◌, ◌⊎◌, ℕ, zero, suc, ◌+◌, ◌-◌, ◌≤◌, ◌<◌, ◌==◌, Bool, true}
use Rattle.std.proofs.Common.{false, cond, nat_lt, List, [], ◌∷◌, ◌++◌, length, take, drop}
use Rattle.std.proofs.Common.{position, get_or, Option, Some, None}
use Rattle.std.proofs.Common.{refl, sym, ap, ◌∙◌, inl, inr, subst, append_assoc, append-nil, arith}
use Rattle.std.specs.List.{prefix_len}
use Rattle.std.proofs.Math.Seq.{take-append_seam}
use Rattle.std.proofs.lemmas.Bool.{cases_lt, and_parts}
use Rattle.std.proofs.lemmas.Bool.Decides.{nat_tests}
use Rattle.std.proofs.lemmas.List.{length-append, length-drop, take-append-drop}
use Rattle.std.proofs.lemmas.List.Folds.{list_all-append}
use Rattle.std.proofs.lemmas.List.Quantifiers.{position-Some}
use Rattle.mms_data.specs.declared.data.octets.TheConstants.{MOST_DEPTH}
use Rattle.mms_data.specs.Datum.{Datum, unsigned}
use Rattle.mms_data.specs.Datum.{structure, array, Data, no_data, datum}
use Rattle.mms_data.specs.Lawful.{IsLawful, KeepsUnsigned, KeepUnsigned}
use Rattle.mms_data.specs.Text.Texts.{data_text}
use Rattle.mms_data.specs.Text.WordValue.{is_mark, mark_in, up_to, from, word_of, after_word, word_value}
use Rattle.mms_data.specs.Text.WordFront.{word_front}
use Rattle.mms_data.specs.Text.TextRead.{IsLeaf, IsEnd, IsTextual, AreTextual, HasText}
use Rattle.mms_data.specs.Text.TextRead.{BeginsDatum, BegunDatum, BreaksDatum, begins_with, Shares}
use Rattle.mms_data.specs.Text.TextRead.{IsFront, BreaksAt, BreaksBefore}
use Rattle.mms_data.proofs.OfText.Marks.{unmarked, AreUnmarked, leaf_unmarked, word_whole}
use Rattle.mms_data.proofs.OfText.LeafRead.{leaf_stands}
use Rattle.mms_data.proofs.OfText.SameParts.{same_datum, leaf_or_bracket, first_octet}
use Rattle.mms_data.proofs.OfText.TextLevels.{split, front_behind, begun_whole, not_longer}
use Rattle.mms_data.proofs.OfText.TextLevels.{some_depth}
use Rattle.mms_data.proofs.OfText.WordKinds.{BegunWord, word_begun, word_passes, front_within}

drop_ends : (os : List ℕ) (i : ℕ) → i < length os → is_mark (get_or os i 0) ≡ true
    → IsEnd (drop i os)
drop_ends [] i h e = absurd (omega (arith, h))
drop_ends (c ∷ cs) zero h e = e
drop_ends (c ∷ cs) (suc i) h e = drop_ends cs i (omega (arith, h)) e

from_ends : (os : List ℕ) (place : Option ℕ) → position is_mark os ≡ place
    → IsEnd (from place os)
from_ends os None e = tt
from_ends os (Some i) e =
    let there = position-Some is_mark os i 0 e in drop_ends os i there.0 there.1

-- behind the first word nothing stands, or a mark
pub after_word_ends : (os : List ℕ) → IsEnd (after_word os)
after_word_ends os = from_ends os (mark_in os) refl

-- octets without a mark stand before the word behind them
front_of_word : (xs rest : List ℕ) → AreUnmarked xs → word_of (xs ++ rest) ≡ xs ++ word_of rest
front_of_word [] rest e = refl
front_of_word (x ∷ xs) rest e =
    let parts = and_parts (unmarked x) _ e in
    word_next x (xs ++ rest) parts.0 ∙ ap (λ t. x ∷ t) (front_of_word xs rest parts.1)
  where
    one_more : (p : ℕ) → 1 + p ≡ suc p
    one_more p = omega arith

    next_by : (x : ℕ) (os : List ℕ) (b : Bool) → nat_lt (prefix_len unmarked os) (length os) ≡ b
        → up_to (cond b (Some (1 + prefix_len unmarked os)) None) (x ∷ os)
        ≡ x ∷ up_to (cond b (Some (prefix_len unmarked os)) None) os
    next_by x os true e = ap (λ n. take n (x ∷ os)) (one_more (prefix_len unmarked os))
    next_by x os false e = refl

    shorter : (p n : ℕ) → nat_lt (1 + p) (suc n) ≡ nat_lt p n
    shorter p n = grind (arith, nat_tests)

    word_next : (x : ℕ) (os : List ℕ) → unmarked x ≡ true → word_of (x ∷ os) ≡ x ∷ word_of os
    word_next x os e =
        rw (e, shorter (prefix_len unmarked os) (length os)) (next_by x os _ refl)

unmarked_front : (xs ys : List ℕ) → AreUnmarked (xs ++ ys) → AreUnmarked xs
unmarked_front xs ys e =
    (and_parts _ _ (sym (list_all-append unmarked xs ys) ∙ e)).0

-- the front part that is shared is empty
first_shared : (c : ℕ) (os : List ℕ) (l : ℕ) (spelling x : List ℕ) → begins_with c os ≡ false
    → spelling ≡ c ∷ x → Shares os l spelling → l ≡ length os
first_shared c os l spelling x other begins s = by_front s.front s.parts s.spelled
  where
    by_front : (front : List ℕ) → os ≡ front ++ s.rest → spelling ≡ front ++ s.more
        → l ≡ length os
    by_front [] parts spelled = sym s.end ∙ ap length (sym parts)
    by_front (f ∷ fs) parts spelled =
        let same : f ≡ c = first_octet f c (fs ++ s.more) x (sym spelled ∙ begins) in
        let first : begins_with c os ≡ (f == c) = ap (begins_with c) parts in
        absurd (grind (arith, nat_tests))

-- what is known of a text whose first word stands for nothing
pub record NoWord (os : List ℕ) (left : ℕ) : Type 0 where
  pub brace : begins_with 123 os ≡ false
  pub bracket : begins_with 91 os ≡ false
  pub both : os ≡ word_of os ++ after_word os
  pub refused : word_value (word_of os) ≡ None
  pub front : left + word_front (word_of os) ≡ length os

refused_leaf : (os : List ℕ) (d : Datum) (rest : List ℕ) → IsLeaf d → IsTextual d → IsEnd rest
    → word_value (word_of os) ≡ None → os ≡ data_text d ++ rest → ⊥
refused_leaf os d rest leaf t end refused e =
    let word : word_of os ≡ data_text d =
    ap word_of e ∙ word_whole (data_text d) rest (leaf_unmarked d leaf t) end in
    let k : Some d ≡ None = sym (leaf_stands d leaf t) ∙ ap word_value (sym word) ∙ refused in
    absurd cc

ends_alike : (g : ℕ) (gs more rest tail : List ℕ) → IsEnd tail → tail ≡ (g ∷ gs) ++ more
    → IsEnd ((g ∷ gs) ++ rest)
ends_alike g gs more rest tail end e = subst (λ (t : List ℕ). IsEnd t) e end

-- a front part of the text of a datum without members goes no further than the word does
leaf_longest : (os : List ℕ) (left : ℕ) → NoWord os left → (d : Datum) (tail : List ℕ)
    → IsLeaf d → IsTextual d → IsEnd tail → (l : ℕ) → Shares os l (data_text d ++ tail)
    → left ≤ l
leaf_longest os left k d tail leaf t end l s =
    elim (cases_lt (length (data_text d)) (length s.front)) [
      | inl longer ↦ beyond longer
      | inr within ↦
          let cut = split s.front s.more (data_text d) tail (sym s.spelled) within in
          let free : AreUnmarked s.front = unmarked_front s.front cut.0
          (subst (λ (t : List ℕ). AreUnmarked t) cut.1 (leaf_unmarked d leaf t)) in
          let word : word_of os ≡ s.front ++ word_of s.rest =
          ap word_of s.parts ∙ front_of_word s.front s.rest free in
          let far = word_passes d leaf t s.front cut.0 (word_of s.rest) (sym cut.1) in
          let sizes : length os ≡ length s.front + length s.rest =
          ap length s.parts ∙ length-append s.front s.rest in
          omega (arith, far, ap word_front word, sizes, s.end, k.front)
    ]
  where
    beyond_by : (gs : List ℕ) → length (data_text d) < length s.front
        → s.front ≡ data_text d ++ gs → tail ≡ gs ++ s.more → left ≤ l
    beyond_by [] longer front rest =
        absurd (omega (arith, longer, ap length front ∙ length-append (data_text d) []))
    beyond_by (g ∷ gs) longer front rest =
        absurd (refused_leaf os d ((g ∷ gs) ++ s.rest) leaf t
        (ends_alike g gs s.more s.rest tail end rest) k.refused
        (s.parts ∙ ap (λ f. f ++ s.rest) front ∙ append_assoc (data_text d) (g ∷ gs) s.rest))

    beyond : length (data_text d) < length s.front → left ≤ l
    beyond longer =
        let cut = split (data_text d) tail s.front s.more s.spelled (omega (arith, longer)) in
        beyond_by cut.0 longer cut.1 cut.2

-- what a text begins with whose first octet is none of a spelling's
bracket_shared : (os : List ℕ) (left : ℕ) → NoWord os left → (spelling rest : List ℕ)
    → (spelling ≡ 123 ∷ rest) ⊎ (spelling ≡ 91 ∷ rest) → (l : ℕ) → Shares os l spelling
    → l ≡ length os
bracket_shared os left k spelling rest (inl e) l s = first_shared 123 os l spelling rest k.brace e s
bracket_shared os left k spelling rest (inr e) l s =
    first_shared 91 os l spelling rest k.bracket e s

bracket_not : (c : ℕ) (os x : List ℕ) → begins_with c os ≡ false → os ≡ c ∷ x → ⊥
bracket_not c [] x other e = absurd cc
bracket_not c (f ∷ fs) x other e =
    let same : f ≡ c = first_octet f c fs x e in absurd (grind (arith, nat_tests))

bracket_unspelled : (os : List ℕ) (left : ℕ) → NoWord os left → (t tail rest : List ℕ)
    → (t ≡ 123 ∷ rest) ⊎ (t ≡ 91 ∷ rest) → os ≡ t ++ tail → ⊥
bracket_unspelled os left k t tail rest (inl e) same =
    bracket_not 123 os (rest ++ tail) k.brace (same ∙ ap (λ u. u ++ tail) e)
bracket_unspelled os left k t tail rest (inr e) same =
    bracket_not 91 os (rest ++ tail) k.bracket (same ∙ ap (λ u. u ++ tail) e)

behind_tail : (t tail rest : List ℕ) → (t ≡ 123 ∷ rest) ⊎ (t ≡ 91 ∷ rest)
    → (t ++ tail ≡ 123 ∷ (rest ++ tail)) ⊎ (t ++ tail ≡ 91 ∷ (rest ++ tail))
behind_tail t tail rest (inl e) = inl (ap (λ u. u ++ tail) e)
behind_tail t tail rest (inr e) = inr (ap (λ u. u ++ tail) e)

begun_word : (n : ℕ) (os : List ℕ) (left : ℕ) → n ≢ 0 → NoWord os left → BegunDatum n os left
begun_word n os left some k =
    let word : List ℕ = word_of os in
    let count : ℕ = word_front word in
    let b : BegunWord word = word_begun word in
    let sizes : length os ≡ length word + length (after_word os) =
    ap length k.both ∙ length-append word (after_word os) in
    let behind : length (drop count word ++ after_word os) ≡ left =
    length-append (drop count word) (after_word os)
    ∙ omega (arith, length-drop count word, sizes, k.front, front_within word) in
    record {
      value = b.value;
      lawful = record { shallow = omega (arith, some, b.shallow); parts = b.parts };
      shares = record {
        front = take count word;
        rest = drop count word ++ after_word os;
        more = b.more;
        parts = k.both ∙ ap (λ t. t ++ after_word os) (sym (take-append-drop count word))
            ∙ append_assoc (take count word) (drop count word) (after_word os);
        end = behind;
        spelled = b.spelled;
      };
    }

-- a text whose first word stands for nothing breaks in that word
pub word_breaks : (n : ℕ) (os : List ℕ) (left : ℕ) → n ≢ 0 → NoWord os left
    → BreaksDatum n os left
word_breaks n os left some k = record {
  none = λ zero. absurd (some zero);
  begins = λ _. begun_word n os left some k;
  longest = λ d tail w end l s. elim (leaf_or_bracket d) [
    | inl leaf ↦ leaf_longest os left k d tail leaf w.parts end l s
    | inr b ↦ omega (
      arith,
      k.front,
      bracket_shared os left k (data_text d ++ tail)
          (b.0 ++ tail) (behind_tail (data_text d) tail b.0 b.1) l s,
    )
  ];
  unspelled = λ d tail w end e. elim (leaf_or_bracket d) [
    | inl leaf ↦ refused_leaf os d tail leaf w.parts end k.refused e
    | inr b ↦ bracket_unspelled os left k (data_text d) tail b.0 b.1 e
  ];
}

-- what is known of a whole text that breaks
record BreaksWhole (os : List ℕ) (left : ℕ) : Type 0 where
  pub begins : BegunDatum MOST_DEPTH os left
  pub longest : (d : Datum) → HasText d → (l : ℕ) → Shares os l (data_text d ++ []) → left ≤ l
  pub unspelled : (d : Datum) → HasText d → os ≢ data_text d ++ []

front_is : (os : List ℕ) (place left : ℕ) (spelling : List ℕ) → place + left ≡ length os
    → (s : Shares os left spelling) → take place os ≡ s.front
front_is os place left spelling counted s =
    let size : place ≡ length s.front =
    omega (arith, counted, s.end, ap length s.parts ∙ length-append s.front s.rest) in
    ap (λ n. take n os) size ∙ ap (take (length s.front)) s.parts
    ∙ take-append_seam s.front s.rest

shares_front : (os : List ℕ) (n : ℕ) → (f : IsFront (take n os))
    → Shares os (length os - n) (data_text f.value ++ [])
shares_front os n f = record {
  front = take n os;
  rest = drop n os;
  more = f.more;
  parts = sym (take-append-drop n os);
  end = length-drop n os;
  spelled = append-nil (data_text f.value) ∙ f.spelled;
}

whole_breaks : (os : List ℕ) (left : ℕ) → BreaksWhole os left → BreaksBefore os left
whole_breaks os left k place counted = record {
  within = omega (arith, counted);
  begins = record {
    value = k.begins.value;
    lawful = k.begins.lawful;
    more = k.begins.shares.more;
    spelled = k.begins.shares.spelled
        ∙ ap (λ f. f ++ k.begins.shares.more)
        (sym (front_is os place left _ counted k.begins.shares));
  };
  longest = λ n within f. omega (
    arith,
    counted,
    within,
    k.longest f.value f.lawful (length os - n) (shares_front os n f),
  );
  unspelled = λ d lawful e. k.unspelled d lawful (e ∙ sym (append-nil (data_text d)));
}

-- a text that begins with no datum breaks where that does
pub datum_breaks : (os : List ℕ) (left : ℕ) → BreaksDatum MOST_DEPTH os left → BreaksBefore os left
datum_breaks os left k = whole_breaks os left (record {
  begins = k.begins (omega arith);
  longest = λ d w l s. k.longest d [] w tt l s;
  unspelled = λ d w. k.unspelled d [] w tt;
})

nothing_behind : (n : ℕ) (os : List ℕ) (d : Datum) (rest : List ℕ) → BeginsDatum n os d rest
    → (e : Datum) → IsTextual e → (l : ℕ) → Shares os l (data_text e ++ []) → length rest ≤ l
nothing_behind n os d rest b e t l s = not_longer (length rest) l (λ less.
    let p = front_behind n os d rest b e [] t tt l s less in
    let k : [] ≡ p.0 ∷ p.2 = p.4 in absurd cc)

-- a text breaks behind its datum, where something stands there
pub after_breaks : (os : List ℕ) (d : Datum) (rest : List ℕ) → BeginsDatum MOST_DEPTH os d rest
    → rest ≢ [] → BreaksBefore os (length rest)
after_breaks os d rest b more = whole_breaks os (length rest) (record {
  begins = begun_whole MOST_DEPTH os d rest b;
  longest = λ e w l s. nothing_behind MOST_DEPTH os d rest b e w.parts l s;
  unspelled = λ e w k.
      let same = same_datum d e rest [] b.lawful.parts w.parts b.whole (λ leaf. tt)
      (sym b.spelled ∙ k) in
      more same.1;
})

-- a text is that of one datum at most
pub one_datum : (d e : Datum) → IsTextual d → IsTextual e → data_text d ≡ data_text e → d ≡ e
one_datum d e t u k = (same_datum d e [] [] t u (λ leaf. tt) (λ leaf. tt) (ap (λ o. o ++ []) k)).0

-- a text breaks at one place at most
pub one_place : (os : List ℕ) (p q : ℕ) → BreaksAt os p → BreaksAt os q → p ≡ q
one_place os p q a b =
    omega (arith, a.longest q b.within b.begins, b.longest p a.within a.begins)

mutual
  keeps : (d : Datum) → IsTextual d → KeepsUnsigned d
  keeps (unsigned n) t = t
  keeps (structure ds) t = keep ds t
  keeps (array ds) t = keep ds t
  keeps _ t = tt

  keep : (ds : Data) → AreTextual ds → KeepUnsigned ds
  keep no_data t = tt
  keep (datum d ds) t = (keeps d t.0, keep ds t.1)

-- what a text spells is lawful
pub lawful : (d : Datum) → HasText d → IsLawful d
lawful d h = record { shallow = h.shallow; numbers = keeps d h.parts }

-- where no level is left nothing may stand
pub no_levels : (n : ℕ) (os : List ℕ) → n ≡ 0 → BreaksDatum n os (length os)
no_levels n os none = record {
  none = λ _. refl;
  begins = λ some. absurd (omega (arith, some, none));
  longest = λ d tail w end l s.
      absurd (omega (arith, some_depth d, w.shallow, none));
  unspelled = λ d tail w end e. absurd (omega (arith, some_depth d, w.shallow, none));
}

-- what was read is all that the text spells
pub read_only : (os : List ℕ) (x : Datum) → BeginsDatum MOST_DEPTH os x [] → (d : Datum)
    → HasText d → os ≡ data_text d → x ≡ d
read_only os x b d h e =
    one_datum x d b.lawful.parts h.parts (sym (append-nil (data_text x)) ∙ sym b.spelled ∙ e)

pub some_left : (rest : List ℕ) (b : Bool) → b ≡ (length rest == 0) → b ≡ false → rest ≢ []
some_left [] b e f none = let k : true ≡ false = sym e ∙ f in absurd cc
some_left (x ∷ xs) b e f none = absurd cc
