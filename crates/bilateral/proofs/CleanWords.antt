-- Words without blanks, joined by spaces, are the words of the line.
use Rattle.std.proofs.Common.{◌≡◌, ◌≢◌, ℕ, suc, ◌-◌, ◌<◌, ◌≤◌, Bool, true, false, not, ◌&&◌}
use Rattle.std.proofs.Common.{◌||◌, ◌==◌, cond, eqb, leb, List, [], ◌∷◌, ◌++◌, length, filter}
use Rattle.std.proofs.Common.{get_or, All, Some, None, refl, sym, ap, ◌∙◌, arith}
use Rattle.std.specs.List.{slice_split, list_all}
use Rattle.std.specs.Char.{is_ascii_alphabetic, is_ascii_alphanumeric, is_ascii_digit}
use Rattle.std.specs.Str.{all_ascii_digits}
use Rattle.std.specs.Str.Lines.{lines, lines_of_parts, strip_carriage_return}
use Rattle.std.proofs.Math.Seq.{get_or-append_right}
use Rattle.std.proofs.lemmas.Bool.{cond-true, cond-false, and_parts, and_from, leb-true, le-leb}
use Rattle.std.proofs.lemmas.Bool.{ne_eqb, false≢true}
use Rattle.std.proofs.lemmas.Bool.Decides.{nat_tests}
use Rattle.std.proofs.lemmas.List.{length-append, get_or_append_left}
use Rattle.std.proofs.lemmas.List.Elements.{All-nil, All-cons}
use Rattle.std.proofs.lemmas.List.Folds.{list_any_none, list_all-append}
use Rattle.std.proofs.lemmas.List.Splits.{slice_split_at, slice_split_none, length-slice_split}
use Rattle.plain_text.specs.Words.{is_word, is_spaced, words_in}
use Rattle.plain_text.specs.Numbers.{is_number, number_in}
use Rattle.bilateral.specs.Words.Words.{is_name, is_plain_name, is_identifier}
use Rattle.bilateral.specs.Writing.{spaced, is_solid}
use Rattle.bilateral.proofs.OfWords.VisibleWords.{list_all-weaker}

abbrev pub clean : List ℕ → Bool
clean word = list_all (λ octet. leb 33 octet) word

-- a word: some octets, none of them a blank
pub record IsClean (word : List ℕ) : Type 0 where
  pub some : 0 < length word
  pub octets : clean word ≡ true

abbrev pub AreClean : List (List ℕ) → Type 0
AreClean [] = Unit {0}
AreClean (word ∷ more) = IsClean word × AreClean more

-- octets from a number on have none below it
none_is : (floor c : ℕ) → c < floor → (xs : List ℕ) → list_all (λ x. leb floor x) xs ≡ true
    → All (λ x. eqb x c ≡ false) xs
none_is floor c low [] is = All-nil (λ x. eqb x c ≡ false)
none_is floor c low (x ∷ xs) is =
    let parts = and_parts (leb floor x) (list_all (λ x. leb floor x) xs) is in
    let above : floor ≤ x = leb-true floor x parts.0 in
    let apart : x ≢ c = λ same. absurd (omega (arith, same)) in
    All-cons (λ x. eqb x c ≡ false) x xs (ne_eqb x c apart) (none_is floor c low xs parts.1)

no_space : (word : List ℕ) → clean word ≡ true → All (λ x. eqb x 32 ≡ false) word
no_space word is = none_is 33 32 (omega arith) word is

split_spaced : (word : List ℕ) (more : List (List ℕ)) → IsClean word → AreClean more
    → slice_split (λ x. eqb x 32) (spaced (word ∷ more)) ≡ word ∷ more
split_spaced word [] is are =
    slice_split_none (λ x. eqb x 32) word (no_space word is.octets)
split_spaced word (next ∷ more) is are =
    slice_split_at (λ x. eqb x 32) word 32 (spaced (next ∷ more)) (no_space word is.octets) refl
    ∙ ap (λ ws. word ∷ ws) (split_spaced next more are.0 are.1)

keep_word : (word : List ℕ) (more : List (List ℕ)) → 0 < length word
    → filter is_word (word ∷ more) ≡ word ∷ filter is_word more
keep_word [] more some = absurd (omega arith)
keep_word (x ∷ word) more some = refl

keep_words : (words : List (List ℕ)) → AreClean words → filter is_word words ≡ words
keep_words [] are = refl
keep_words (word ∷ more) are =
    keep_word word more are.0.some ∙ ap (λ ws. word ∷ ws) (keep_words more are.1)

not_below : (x : ℕ) → leb 33 x ≡ true → leb 32 x ≡ true
not_below x is = le-leb 32 x (omega (arith, leb-true 33 x is))

-- a line has no octet below a space
line_octets : (word : List ℕ) (more : List (List ℕ)) → IsClean word → AreClean more
    → list_all (λ x. leb 32 x) (spaced (word ∷ more)) ≡ true
line_octets word [] is are =
    list_all-weaker (λ x. leb 33 x) (λ x. leb 32 x) not_below word is.octets
line_octets word (next ∷ more) is are =
    list_all-append (λ x. leb 32 x) word (32 ∷ spaced (next ∷ more))
    ∙ and_from (list_all (λ x. leb 32 x) word) (list_all (λ x. leb 32 x) (spaced (next ∷ more)))
    (list_all-weaker (λ x. leb 33 x) (λ x. leb 32 x) not_below word is.octets)
    (line_octets next more are.0 are.1)

line_some : (word : List ℕ) (more : List (List ℕ)) → IsClean word
    → 0 < length (spaced (word ∷ more))
line_some word [] is = is.some
line_some word (next ∷ more) is =
    omega (arith, length-append word (32 ∷ spaced (next ∷ more)), is.some)

first_of_line : (word : List ℕ) (more : List (List ℕ)) → IsClean word
    → eqb (get_or (spaced (word ∷ more)) 0 0) 32 ≡ false
first_of_line word [] is = no_space word is.octets 0 0 is.some
first_of_line word (next ∷ more) is =
    ap (λ x. eqb x 32) (get_or_append_left word (32 ∷ spaced (next ∷ more)) 0 0 is.some)
    ∙ no_space word is.octets 0 0 is.some

last_of_line : (word : List ℕ) (more : List (List ℕ)) → IsClean word → AreClean more
    → eqb (get_or (spaced (word ∷ more)) (length (spaced (word ∷ more)) - 1) 0) 32 ≡ false
last_of_line word [] is are =
    no_space word is.octets (length word - 1) 0 (omega (arith, is.some))
last_of_line word (next ∷ more) is are =
    let rest = spaced (next ∷ more) in
    let n = length (word ++ 32 ∷ rest) - 1 in
    let size = length-append word (32 ∷ rest) in
    let behind : n - length word ≡ suc (length rest - 1) =
    omega (arith, size, line_some next more are.0) in
    ap (λ x. eqb x 32)
    (get_or-append_right word (32 ∷ rest) n 0 (omega (arith, size))
    ∙ ap (λ k. get_or (32 ∷ rest) k 0) behind)
    ∙ last_of_line next more are.0 are.1

all_not : (a b c : Bool) → a ≡ false → b ≡ false → c ≡ false → (not a && not b && not c) ≡ true
all_not false false false first second third = refl
all_not true b c first second third = absurd (false≢true (sym first))
all_not false true c first second third = absurd (false≢true (sym second))
all_not false false true first second third = absurd (false≢true (sym third))

-- the words of clean words with a space between each two
words_of_line : (word : List ℕ) (more : List (List ℕ)) → IsClean word → AreClean more
    → words_in (spaced (word ∷ more)) ≡ Some (word ∷ more)
words_of_line word more is are =
    cond-true (is_spaced (spaced (word ∷ more))) _ _
    (all_not _ _ _
    (list_any_none (λ x. eqb x 9) (spaced (word ∷ more))
    (none_is 32 9 (omega arith) (spaced (word ∷ more)) (line_octets word more is are)))
    (first_of_line word more is) (last_of_line word more is are))
    ∙ ap Some
    (ap (filter is_word) (split_spaced word more is are) ∙ keep_words (word ∷ more) (is, are))

pub words_of_spaced : (words : List (List ℕ)) → 0 < length words → AreClean words
    → words_in (spaced words) ≡ Some words
words_of_spaced [] some are = absurd (omega arith)
words_of_spaced (word ∷ more) some are = words_of_line word more are.0 are.1

clean_in_names : (octet : ℕ) → (is_ascii_alphanumeric octet || (octet == 95)) ≡ true
    → leb 33 octet ≡ true
clean_in_names octet in_name = grind (arith, nat_tests)

clean_in_identifiers : (octet : ℕ)
    → (is_ascii_alphanumeric octet || (octet == 95) || (octet == 36)) ≡ true
    → leb 33 octet ≡ true
clean_in_identifiers octet in_word = grind (arith, nat_tests)

clean_letter : (octet : ℕ) → is_ascii_alphabetic octet ≡ true → leb 33 octet ≡ true
clean_letter octet letter = grind (arith, nat_tests)

clean_digit : (octet : ℕ) → is_ascii_digit octet ≡ true → leb 33 octet ≡ true
clean_digit octet digit = grind (arith, nat_tests)

clean_plain_name : (word : List ℕ) → is_plain_name word ≡ true → IsClean word
clean_plain_name [] named = absurd (false≢true named)
clean_plain_name (first ∷ more) named =
    let parts = and_parts _ _ named in
    let front = and_parts _ _ parts.0 in
    record {
      some = omega arith;
      octets = and_from (leb 33 first) (clean more) (clean_letter first front.0)
          (list_all-weaker _ (λ octet. leb 33 octet) clean_in_names more front.1);
    }

pub clean_name : (word : List ℕ) → is_name word ≡ true → IsClean word
clean_name word named = clean_plain_name word (and_parts _ _ named).0

nonempty : (word : List ℕ) → not (length word == 0) ≡ true → 0 < length word
nonempty [] some = absurd (false≢true some)
nonempty (x ∷ word) some = omega arith

pub clean_identifier : (word : List ℕ) → is_identifier word ≡ true → IsClean word
clean_identifier word identifier =
    let parts = and_parts _ _ identifier in
    let front = and_parts _ _ parts.0 in
    record {
      some = nonempty word front.0;
      octets = list_all-weaker _ (λ octet. leb 33 octet) clean_in_identifiers word parts.1;
    }

clean_digits : (octets : List ℕ) → all_ascii_digits octets ≡ true → clean octets ≡ true
clean_digits [] digits = refl
clean_digits (x ∷ octets) digits =
    let parts = and_parts (is_ascii_digit x) (all_ascii_digits octets) digits in
    and_from (leb 33 x) (clean octets) (clean_digit x parts.0) (clean_digits octets parts.1)

clean_first_digit : (octet : ℕ) → (leb 49 octet && leb octet 57) ≡ true → leb 33 octet ≡ true
clean_first_digit octet digit = grind (arith, nat_tests)

clean_number : (word : List ℕ) → is_number word ≡ true → IsClean word
clean_number [] number = absurd (false≢true number)
clean_number (x ∷ []) number =
    record { some = omega arith; octets = and_from (leb 33 x) true (clean_digit x number) refl }
clean_number (x ∷ y ∷ more) number =
    let parts = and_parts _ _ number in
    record {
      some = omega arith;
      octets = and_from (leb 33 x) (clean (y ∷ more)) (clean_first_digit x parts.0)
          (clean_digits (y ∷ more) parts.1);
    }

is_one : (number : Bool) (n : ℕ) (value : ℕ) → cond number (Some value) None ≡ Some n
    → number ≡ true
is_one true n value is = refl
is_one false n value is = absurd cc

-- a word that is a number
pub clean_number_in : (word : List ℕ) (n : ℕ) → number_in word ≡ Some n → IsClean word
clean_number_in word n is = clean_number word (is_one (is_number word) n _ is)

pub clean_solid : (word : List ℕ) → is_solid word ≡ true → IsClean word
clean_solid word solid =
    let parts = and_parts (not (length word == 0)) (clean word) solid in
    record { some = nonempty word parts.0; octets = parts.1 }

parts_more : (line : List ℕ) (parts : List (List ℕ)) → 0 < length parts
    → lines_of_parts (line ∷ parts) ≡ strip_carriage_return line ∷ lines_of_parts parts
parts_more line [] some = absurd (omega arith)
parts_more line (next ∷ more) some = refl

-- a line that ends in LF is the first line of a text
pub lines_of_spaced : (words : List (List ℕ)) (rest : List ℕ) → 0 < length words
    → AreClean words → lines (spaced words ++ 10 ∷ rest) ≡ spaced words ∷ lines rest
lines_of_spaced [] rest some are = absurd (omega arith)
lines_of_spaced (word ∷ more) rest some are =
    let line = spaced (word ∷ more) in
    let octets = line_octets word more are.0 are.1 in
    ap lines_of_parts
    (slice_split_at (λ x. eqb x 10) line 10 rest (none_is 32 10 (omega arith) line octets) refl)
    ∙ parts_more line (slice_split (λ x. eqb x 10) rest)
    (omega (arith, length-slice_split (λ x. eqb x 10) rest))
    ∙ ap (λ l. l ∷ lines rest)
    (cond-false (eqb (get_or line (length line - 1) 0) 13) _ _
    (none_is 32 13 (omega arith) line octets (length line - 1) 0
    (omega (arith, line_some word more are.0))))
