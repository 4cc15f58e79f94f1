-- The first line and the first word of a text.
use Rattle.std.proofs.Common.{◌≡◌, ◌≢◌, ℕ, zero, suc, ◌+◌, ◌<◌, Bool, true, false, not, cond, eqb}
use Rattle.std.proofs.Common.{List, [], ◌∷◌, length, take, drop, get_or, Some, None, position}
use Rattle.std.proofs.Common.{filter, refl, inl, inr, sym, ap, ◌∙◌, arith}
use Rattle.std.specs.List.{slice_split, position_or_len, All}
use Rattle.std.specs.Str.Lines.{lines, lines_of_parts, strip_carriage_return}
use Rattle.std.proofs.lemmas.List.Quantifiers.{position-Some}
use Rattle.std.proofs.lemmas.List.Sums.{position_or_len_is, prefix_len_passes}
use Rattle.std.proofs.lemmas.List.Splits.{slice_split_first, length-slice_split, slice_split_none}
use Rattle.std.proofs.lemmas.Bool.{cases_lt, lt-ltb, eqb-true, ne_eqb, cond-false, not-true}
use Rattle.plain_text.specs.Words.{words, is_word}

-- where there is no place, no element passes
pub position-None : {X : Type 0} (p : X → Bool) (xs : List X) → position p xs ≡ None
    → All (λ x. p x ≡ false) xs
position-None p xs none =
    elim (cases_lt (position_or_len p xs) (length xs)) [
      | inl below ↦
          (let some : position p xs
          ≡ Some (position_or_len p xs) =
          ap (λ b. cond b (Some (position_or_len p xs)) None) (lt-ltb _ _ below) in
          absurd cc)
      | inr above ↦ (λ k d h. not-true _ (prefix_len_passes (λ x. not (p x)) xs k d (omega arith)))
    ]

-- where the first octet that is c stands
position_or_len-found : (c : ℕ) (xs : List ℕ) (i : ℕ) → Some i ≡ position (λ x. eqb x c) xs
    → (position_or_len (λ x. eqb x c) xs ≡ i) × (i < length xs)
position_or_len-found c xs i found =
    let at = position-Some (λ x. eqb x c) xs i 0 (sym found) in
    (position_or_len_is (λ x. eqb x c) xs i 0 (omega (arith, at.0)) at.2 (λ _. at.1), at.0)

-- the text up to an octet, and after it, where that octet stands first at i
pub slice_split-found : (c : ℕ) (xs : List ℕ) (i : ℕ) → Some i ≡ position (λ x. eqb x c) xs
    → slice_split (λ x. eqb x c) xs ≡ take i xs ∷ slice_split (λ x. eqb x c) (drop (i + 1) xs)
slice_split-found c xs i found =
    let at : (position_or_len (λ x. eqb x c) xs ≡ i)
    × (i < length xs) = position_or_len-found c xs i found in
    let below : position_or_len (λ x. eqb x c) xs < length xs = omega arith in
    slice_split_first (λ x. eqb x c) xs 0 below
    ∙ ap (λ k. take k xs ∷ slice_split (λ x. eqb x c) (drop (k + 1) xs)) at.0

-- a text with no such octet is one part
pub slice_split-last : (c : ℕ) (xs : List ℕ) → None ≡ position (λ x. eqb x c) xs
    → slice_split (λ x. eqb x c) xs ≡ xs ∷ []
slice_split-last c xs none =
    slice_split_none (λ x. eqb x c) xs (position-None (λ x. eqb x c) xs (sym none))

lines_of_parts-more : (x : List ℕ) (parts : List (List ℕ)) → 0 < length parts
    → lines_of_parts (x ∷ parts) ≡ strip_carriage_return x ∷ lines_of_parts parts
lines_of_parts-more x [] some = absurd (omega arith)
lines_of_parts-more x (y ∷ more) some = refl

-- the first line, where an LF ends it at i
pub lines-found : (text : List ℕ) (i : ℕ) → Some i ≡ position (λ x. eqb x 10) text
    → lines text ≡ strip_carriage_return (take i text) ∷ lines (drop (i + 1) text)
lines-found text i found =
    ap lines_of_parts (slice_split-found 10 text i found)
    ∙ lines_of_parts-more (take i text) (slice_split (λ x. eqb x 10) (drop (i + 1) text))
    (omega (arith, length-slice_split (λ x. eqb x 10) (drop (i + 1) text)))

-- a text with no LF is one line
pub lines-last : (text : List ℕ) → 0 < length text → None ≡ position (λ x. eqb x 10) text
    → lines text ≡ text ∷ []
lines-last [] some none = absurd (omega arith)
lines-last (x ∷ xs) some none =
    ap lines_of_parts
    (slice_split_none (λ x. eqb x 10) (x ∷ xs)
    (position-None (λ x. eqb x 10) (x ∷ xs) (sym none)))
    ∙ cond-false (eqb (length (x ∷ xs)) 0) [] ((x ∷ xs) ∷ [])
    (ne_eqb (length (x ∷ xs)) 0 (λ e. omega arith))

filter-word : (first : List ℕ) (parts : List (List ℕ)) → 0 < length first
    → filter is_word (first ∷ parts) ≡ first ∷ filter is_word parts
filter-word [] parts some = absurd (omega arith)
filter-word (x ∷ xs) parts some = refl

length-take-found : (x : ℕ) (xs : List ℕ) (i : ℕ) → x ≢ 32 → eqb (get_or (x ∷ xs) i 0) 32 ≡ true
    → i < length (x ∷ xs) → 0 < length (take i (x ∷ xs))
length-take-found x xs zero bare same below = absurd (bare (eqb-true x 32 same))
length-take-found x xs (suc i) bare same below = omega arith

-- the first word, where a space ends it at i
pub words-found : (text : List ℕ) (i : ℕ) → 0 < length text
    → (0 < length text → get_or text 0 0 ≢ 32) → Some i ≡ position (λ x. eqb x 32) text
    → words text ≡ take i text ∷ words (drop (i + 1) text)
words-found [] i some bare found = absurd (omega arith)
words-found (x ∷ xs) i some bare found =
    let at = position-Some (λ x. eqb x 32) (x ∷ xs) i 0 (sym found) in
    ap (filter is_word) (slice_split-found 32 (x ∷ xs) i found)
    ∙ filter-word (take i (x ∷ xs)) (slice_split (λ x. eqb x 32) (drop (i + 1) (x ∷ xs)))
    (length-take-found x xs i (bare some) at.1 at.0)

-- a text with no space is one word
pub words-last : (text : List ℕ) → 0 < length text → None ≡ position (λ x. eqb x 32) text
    → words text ≡ text ∷ []
words-last [] some none = absurd (omega arith)
words-last (x ∷ xs) some none =
    ap (filter is_word)
    (slice_split_none (λ x. eqb x 32) (x ∷ xs)
    (position-None (λ x. eqb x 32) (x ∷ xs) (sym none)))
