-- The word of a title is read back as the title.
use Rattle.std.proofs.Common.{◌≡◌, ℕ, ◌+◌, ◌-◌, ◌*◌, ◌/◌, ◌%◌, ◌<◌, ◌≤◌, min, true}
use Rattle.std.proofs.Common.{false, not, ◌&&◌, ◌==◌, eqb, leb, List, [], ◌∷◌, ◌++◌, length}
use Rattle.std.proofs.Common.{map, All, Option, Some, None, refl, sym, ap, ◌∙◌, inl, inr, arith}
use Rattle.std.proofs.Common.{bytes_eq, append_assoc, decimal}
use Rattle.std.specs.Prelude.{codes, option_and_then}
use Rattle.std.specs.Option.{option_map}
use Rattle.std.specs.List.{slice_split, onto_first, flat_map, join_with_byte}
use Rattle.std.specs.Cmp.Lexicographic.{bytes_decides}
use Rattle.std.specs.Int.Digits.{digits_of, number_from_digits_after}
use Rattle.std.specs.Char.{is_ascii_digit}
use Rattle.std.specs.Str.{all_ascii_digits}
use Rattle.std.specs.Str.Parse.{digits_value}
use Rattle.std.proofs.lemmas.Bool.{cond-true, cond-false, and_parts, and_from, leb-true, le-leb}
use Rattle.std.proofs.lemmas.Bool.{lt-leb, ne_eqb, cases_Bool}
use Rattle.std.proofs.lemmas.Bool.Decides.{nat_tests}
use Rattle.std.proofs.lemmas.Int.Digits.{number_digits_of}
use Rattle.std.proofs.lemmas.List.Elements.{All-head, All-tail}
use Rattle.std.proofs.lemmas.Fmt.{digits_decimal}
use Rattle.std.proofs.lemmas.Str.Parse.{IsNumeralModel, numerals_by_value, tells_all_ascii_digits}
use Rattle.plain_text.specs.Words.{each_in}
use Rattle.plain_text.specs.Numbers.{number_up_to, if_passes}
use Rattle.plain_text.proofs.Decimal.{number_in-of_decimal}
use Rattle.ber_values.specs.Dotted.{is_oid, base_128, arcs_octets, oid_of, dotted_in}
use Rattle.ber_values.specs.declared.object_identifier.TheConstants.{ARC_LIMIT}
use Rattle.bilateral.specs.Words.Words.{title_in, IsTitle, IsDottedOid}
use Rattle.bilateral.specs.Writing.{arcs_behind, arcs_of, title_word, is_solid}
use Rattle.bilateral.proofs.CleanWords.{IsClean, clean, clean_number_in}

-- digits of base 128 with 128 added to each are taken in one by one
behind-marked : (so_far : ℕ) (digits tail : List ℕ)
    → arcs_behind so_far (map (λ digit. 128 + digit) digits ++ tail)
    ≡ arcs_behind (number_from_digits_after 128 so_far digits) tail
behind-marked so_far [] tail = refl
behind-marked so_far (digit ∷ digits) tail =
    let rest = map (λ d. 128 + d) digits ++ tail in
    cond-true (leb 128 (128 + digit)) _ _ (le-leb 128 (128 + digit) (omega arith))
    ∙ ap (λ n. arcs_behind (so_far * 128 + n) rest) (plain digit)
    ∙ behind-marked (so_far * 128 + digit) digits tail
  where
    plain : (digit : ℕ) → (128 + digit) - 128 ≡ digit
    plain digit = omega arith

-- a number in base 128 is that number
behind-base_128 : (n : ℕ) (rest : List ℕ)
    → arcs_behind 0 (base_128 n ++ rest) ≡ n ∷ arcs_behind 0 rest
behind-base_128 n rest =
    let last : n % 128 < 128 = omega arith in
    let whole : n / 128 * 128 + n % 128 ≡ n = omega arith in
    ap (arcs_behind 0)
    (append_assoc (map (λ digit. 128 + digit) (digits_of 128 (n / 128))) (n % 128 ∷ []) rest)
    ∙ behind-marked 0 (digits_of 128 (n / 128)) (n % 128 ∷ rest)
    ∙ ap (λ front. arcs_behind front (n % 128 ∷ rest))
    (number_digits_of 128 (n / 128) (omega arith))
    ∙ cond-false (leb 128 (n % 128)) _ _ (lt-leb 128 (n % 128) last)
    ∙ ap (λ k. k ∷ arcs_behind 0 rest) whole

behind-octets : (arcs : List ℕ) → arcs_behind 0 (flat_map base_128 arcs) ≡ arcs
behind-octets [] = refl
behind-octets (arc ∷ arcs) =
    behind-base_128 arc (flat_map base_128 arcs) ∙ ap (λ more. arc ∷ more) (behind-octets arcs)

first_arc : (first second : ℕ) → first ≤ 2 → second ≤ 39
    → min 2 ((first * 40 + second) / 40) ≡ first
first_arc first second low small = omega arith

-- the arcs of an object identifier's octets are those that it was made of
arcs_back : (arcs : List ℕ) → is_oid arcs ≡ true → arcs_of (arcs_octets arcs) ≡ arcs
arcs_back [] is = absurd cc
arcs_back (first ∷ []) is = absurd cc
arcs_back (first ∷ second ∷ more) is =
    let parts = and_parts (leb first 2 && leb second 39)
    (leb (length more) 6) is in
    let two = and_parts (leb first 2) (leb second 39) parts.0 in
    let here = first_arc first second (leb-true first 2 two.0)
    (leb-true second 39 two.1) in
    ap (λ n. n ∷ (first * 40 + second - 40 * n) ∷ arcs_behind 0 (flat_map base_128 more)) here
    ∙ ap (λ n. first ∷ n ∷ arcs_behind 0 (flat_map base_128 more)) (rest first second)
    ∙ ap (λ ns. first ∷ second ∷ ns) (behind-octets more)
  where
    rest : (first second : ℕ) → first * 40 + second - 40 * first ≡ second
    rest first second = omega arith

abbrev IsArc : ℕ → Type 0
IsArc arc = arc ≤ ARC_LIMIT

own : IsNumeralModel (λ ds. all_ascii_digits ds ≡ true) (digits_value 10)
own = numerals_by_value (λ ds. all_ascii_digits ds ≡ true) tells_all_ascii_digits

decimal_digits : (n : ℕ) → IsArc n → all_ascii_digits (decimal n) ≡ true
decimal_digits n small = digits_decimal own n (omega arith)

no_dot : (x : ℕ) → is_ascii_digit x ≡ true → eqb x 46 ≡ false
no_dot x digit = grind (arith, nat_tests)

split_dot : (word rest : List ℕ) → all_ascii_digits word ≡ true
    → slice_split (λ x. eqb x 46) (word ++ 46 ∷ rest) ≡ word ∷ slice_split (λ x. eqb x 46) rest
split_dot [] rest digits = refl
split_dot (x ∷ word) rest digits =
    let parts = and_parts (is_ascii_digit x) (all_ascii_digits word) digits in
    cond-false (eqb x 46) _ _ (no_dot x parts.0)
    ∙ ap (onto_first x) (split_dot word rest parts.1)

split_last : (word : List ℕ) → all_ascii_digits word ≡ true
    → slice_split (λ x. eqb x 46) word ≡ word ∷ []
split_last [] digits = refl
split_last (x ∷ word) digits =
    let parts = and_parts (is_ascii_digit x) (all_ascii_digits word) digits in
    cond-false (eqb x 46) _ _ (no_dot x parts.0) ∙ ap (onto_first x) (split_last word parts.1)

-- arcs as decimal numbers joined by dots
abbrev dotted : List ℕ → List ℕ
dotted arcs = join_with_byte 46 (map decimal arcs)

split_arcs : (arc : ℕ) (arcs : List ℕ) → All IsArc (arc ∷ arcs)
    → slice_split (λ x. eqb x 46) (dotted (arc ∷ arcs)) ≡ map decimal (arc ∷ arcs)
split_arcs arc [] small =
    split_last (decimal arc) (decimal_digits arc (All-head IsArc arc [] small))
split_arcs arc (next ∷ arcs) small =
    split_dot (decimal arc) (dotted (next ∷ arcs))
    (decimal_digits arc (All-head IsArc arc (next ∷ arcs) small))
    ∙ ap (λ ws. decimal arc ∷ ws) (split_arcs next arcs (All-tail IsArc arc (next ∷ arcs) small))

arc_read : (arc : ℕ) → IsArc arc → number_up_to ARC_LIMIT (decimal arc) ≡ Some arc
arc_read arc small =
    ap (option_and_then (if_passes (λ n. leb n ARC_LIMIT)))
    (number_in-of_decimal arc (omega arith))
    ∙ cond-true (leb arc ARC_LIMIT) (Some arc) None (le-leb arc ARC_LIMIT small)

arcs_read : (arcs : List ℕ) → All IsArc arcs
    → each_in (number_up_to ARC_LIMIT) (map decimal arcs) ≡ Some arcs
arcs_read [] small = refl
arcs_read (arc ∷ arcs) small =
    ap (option_and_then
    (λ item. option_map (λ items. item ∷ items)
    (each_in (number_up_to ARC_LIMIT) (map decimal arcs))))
    (arc_read arc (All-head IsArc arc arcs small))
    ∙ ap (option_map (λ items. arc ∷ items)) (arcs_read arcs (All-tail IsArc arc arcs small))

-- the dotted word of arcs is their object identifier
dotted_read : (arcs : List ℕ) → is_oid arcs ≡ true → All IsArc arcs
    → dotted_in (dotted arcs) ≡ Some (arcs_octets arcs)
dotted_read [] is small = absurd cc
dotted_read (arc ∷ arcs) is small =
    ap (λ words. option_and_then oid_of (each_in (number_up_to ARC_LIMIT) words))
    (split_arcs arc arcs small)
    ∙ ap (option_and_then oid_of) (arcs_read (arc ∷ arcs) small)
    ∙ cond-true (is_oid (arc ∷ arcs)) (Some (arcs_octets (arc ∷ arcs))) None is

no_star : (word octets : List ℕ) → dotted_in word ≡ Some octets
    → bytes_eq word (codes "*") ≡ false
no_star word octets is =
    elim (cases_Bool (bytes_eq word (codes "*"))) [
      | inl same ↦ absurd (none
          (sym is ∙ ap dotted_in ((bytes_decides word (codes "*")).0 same)))
      | inr other ↦ other
    ]
  where
    none : Some octets ≡ None → ⊥
    none same = cc

title_of_arcs : (octets : List ℕ) → (is : IsDottedOid octets)
    → title_word (Some octets) ≡ dotted is.arcs
title_of_arcs octets is =
    ap (λ o. dotted (arcs_of o)) is.same ∙ ap dotted (arcs_back is.arcs is.is)

-- the word of a title is this title
pub title_read : (title : Option (List ℕ)) → IsTitle title
    → title_in (title_word title) ≡ Some title
title_read None is = refl
title_read (Some octets) is =
    let read = dotted_read is.arcs is.is is.small in
    ap title_in (title_of_arcs octets is)
    ∙ cond-false (bytes_eq (dotted is.arcs) (codes "*")) _ _
    (no_star (dotted is.arcs) (arcs_octets is.arcs) read)
    ∙ ap (option_map Some) read ∙ ap (λ o. Some (Some o)) (sym is.same)

clean-append : (a b : List ℕ) → clean a ≡ true → clean b ≡ true → clean (a ++ b) ≡ true
clean-append [] b first second = second
clean-append (x ∷ a) b first second =
    let parts = and_parts (leb 33 x) (clean a) first in
    and_from (leb 33 x) (clean (a ++ b)) parts.0 (clean-append a b parts.1 second)

arc_clean : (arc : ℕ) → IsArc arc → IsClean (decimal arc)
arc_clean arc small =
    clean_number_in (decimal arc) arc (number_in-of_decimal arc (omega arith))

arcs_clean : (arc : ℕ) (arcs : List ℕ) → All IsArc (arc ∷ arcs)
    → clean (dotted (arc ∷ arcs)) ≡ true
arcs_clean arc [] small = (arc_clean arc (All-head IsArc arc [] small)).octets
arcs_clean arc (next ∷ arcs) small =
    clean-append (decimal arc) (46 ∷ dotted (next ∷ arcs))
    (arc_clean arc (All-head IsArc arc (next ∷ arcs) small)).octets
    (arcs_clean next arcs (All-tail IsArc arc (next ∷ arcs) small))

-- a word that is an object identifier isn't empty
some_octets : (word octets : List ℕ) → dotted_in word ≡ Some octets
    → not (length word == 0) ≡ true
some_octets [] octets is = absurd cc
some_octets (x ∷ word) octets is =
    ap not (ne_eqb (length (x ∷ word)) 0 (λ none. absurd (omega (arith, none))))

dotted_solid : (arcs : List ℕ) → is_oid arcs ≡ true → All IsArc arcs → is_solid (dotted arcs) ≡ true
dotted_solid [] is small = absurd cc
dotted_solid (arc ∷ arcs) is small =
    and_from (not (length (dotted (arc ∷ arcs)) == 0)) (clean (dotted (arc ∷ arcs)))
    (some_octets (dotted (arc ∷ arcs)) (arcs_octets (arc ∷ arcs))
    (dotted_read (arc ∷ arcs) is small))
    (arcs_clean arc arcs small)

-- and has no blanks
pub title_solid : (title : Option (List ℕ)) → IsTitle title → is_solid (title_word title) ≡ true
title_solid None is = refl
title_solid (Some octets) is =
    ap is_solid (title_of_arcs octets is) ∙ dotted_solid is.arcs is.is is.small
