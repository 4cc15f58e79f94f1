-- The text of a datum without members has no mark: the first word of a text is all of it.
use Rattle.std.proofs.Common.{◌≡◌, ℕ, Bool, true, false, not, nat_lt, List, [], ◌∷◌, ◌++◌, length}
use Rattle.std.proofs.Common.{position, None, decimal, refl, append-nil, arith}
use Rattle.std.specs.List.{list_all, prefix_len}
use Rattle.std.proofs.Math.Seq.{take-append_seam}
use Rattle.std.proofs.lemmas.Bool.{and_parts}
use Rattle.std.proofs.lemmas.Bool.Decides.{nat_tests}
use Rattle.plain_text.specs.Octets.{hex_text}
use Rattle.mms_data.specs.Datum.{Datum, boolean, integer, unsigned, bits, real, octets, text}
use Rattle.mms_data.specs.Datum.{structure, array}
use Rattle.mms_data.specs.Text.Texts.{data_text}
use Rattle.mms_data.specs.Text.WordValue.{is_mark, word_of}
use Rattle.mms_data.specs.Text.TextRead.{IsLeaf, IsEnd, IsTextual}
use Rattle.mms_data.proofs.OfText.ReadName.{position-append, octets_from_visible}
use Rattle.mms_data.proofs.OfText.WordOctets.{is_word_octet, AreWordOctets, each_passes, both_words}
use Rattle.mms_data.proofs.OfText.WordOctets.{decimal_octets, signed_octets, hex_octets, escaped_octets}

-- the text of a datum without members is a word
pub leaf_octets : (d : Datum) → IsLeaf d → IsTextual d → AreWordOctets (data_text d)
leaf_octets (structure ds) leaf t = absurd leaf
leaf_octets (array ds) leaf t = absurd leaf
leaf_octets (boolean true) leaf t = refl
leaf_octets (boolean false) leaf t = refl
leaf_octets (integer z) leaf t = signed_octets z t
leaf_octets (unsigned n) leaf t = decimal_octets n (omega (arith, t))
leaf_octets (bits b) leaf t =
    both_words (decimal b.count ++ 46 ∷ []) (hex_text b.octets)
    (both_words (decimal b.count) (46 ∷ []) (decimal_octets b.count t.1) refl)
    (hex_octets b.octets t.0.in_octets)
leaf_octets (real o) leaf t = hex_octets o t.1
leaf_octets (octets o) leaf t = hex_octets o t
leaf_octets (text o) leaf t = escaped_octets o (octets_from_visible o t.1)

-- no mark
abbrev pub unmarked : ℕ → Bool
unmarked c = not (is_mark c)

abbrev pub AreUnmarked : List ℕ → Type 0
AreUnmarked os = list_all unmarked os ≡ true

pub octet_unmarked : (c : ℕ) → is_word_octet c ≡ true → unmarked c ≡ true
octet_unmarked c e = grind (arith, nat_tests)

pub leaf_unmarked : (d : Datum) → IsLeaf d → IsTextual d → AreUnmarked (data_text d)
leaf_unmarked d leaf t = each_passes unmarked octet_unmarked (data_text d) (leaf_octets d leaf t)

whole_prefix : (xs : List ℕ) → AreUnmarked xs → prefix_len unmarked (xs ++ []) ≡ length (xs ++ [])
whole_prefix [] e = refl
whole_prefix (x ∷ xs) e =
    let parts = and_parts (unmarked x) _ e in
    rw (parts.0, whole_prefix xs parts.1) (omega arith)

not_less : (n : ℕ) → nat_lt n n ≡ false
not_less n = grind (arith, nat_tests)

no_mark : (xs : List ℕ) → AreUnmarked xs → position is_mark (xs ++ []) ≡ None
no_mark xs e = rw (whole_prefix xs e, not_less (length (xs ++ []))) refl

-- octets without a mark before a mark, or before nothing, are the first word
pub word_whole : (xs tail : List ℕ) → AreUnmarked xs → IsEnd tail → word_of (xs ++ tail) ≡ xs
word_whole xs [] e end = rw (no_mark xs e) (append-nil xs)
word_whole xs (c ∷ cs) e end =
    rw (position-append is_mark xs c cs e end) (take-append_seam xs (c ∷ cs))
