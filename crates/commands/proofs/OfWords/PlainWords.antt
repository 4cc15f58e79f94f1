-- Words that `clap` reads as no flag: names of files, and numbers.
use Rattle.std.proofs.Common.{◌≡◌, ◌∙◌, ◌==◌, ◌||◌, ℕ, Bool, true, false, not, List, [], ◌∷◌}
use Rattle.std.proofs.Common.{Some, None, refl, sym, ap, subst, true≢false, eqb-true}
use Rattle.std.proofs.Common.{bytes_eq, if◌then◌else◌, nat_le}
use Rattle.std.specs.Str.{all_ascii_digits}
use Rattle.std.specs.Int.{is_in_range}
use Rattle.clap.specs.Lexer.{long_of, short_of}
use Rattle.plain_text.specs.Numbers.{if_passes, is_number, number_in, number_up_to}
use Rattle.commands.specs.Words.Words.{is_file_name}
use Rattle.commands.proofs.OfWords.Tests.{both, followed, not_none}

pub record IsPlainWord (word : List ℕ) : Type 0 where
  pub dashes : bytes_eq word (45 ∷ 45 ∷ []) ≡ false
  pub long : long_of word ≡ None
  pub short : short_of word ≡ None

pub plain_other : (first : ℕ) (more : List ℕ) → (first == 45) ≡ false
    → IsPlainWord (first ∷ more)
plain_other first more other = record {
  dashes = rw other refl;
  long = rw other refl;
  short = rw other refl;
}

plain_dash : IsPlainWord (45 ∷ [])
plain_dash = record { dashes = refl; long = refl; short = refl }

one_octet : (b : Bool) (first : ℕ) → (first == 45) ≡ b → IsPlainWord (first ∷ [])
one_octet false first is = plain_other first [] is
one_octet true first is =
    subst IsPlainWord (ap (λ n. n ∷ []) (sym (eqb-true first 45 is))) plain_dash

more_octets : (b : Bool) (first next : ℕ) (more : List ℕ) → (first == 45) ≡ b
    → (not b || false) ≡ true → IsPlainWord (first ∷ next ∷ more)
more_octets false first next more is e = plain_other first (next ∷ more) is
more_octets true first next more is e = absurd (true≢false (sym e))

-- a name of a file is no flag
pub plain_name : (word : List ℕ) → is_file_name word ≡ true → IsPlainWord word
plain_name [] e = absurd (true≢false (sym e))
plain_name (first ∷ []) e = one_octet (first == 45) first refl
plain_name (first ∷ next ∷ more) e = more_octets (first == 45) first next more refl e

ends_true : (b : Bool) → (not b || true) ≡ true
ends_true true = refl
ends_true false = refl

other_name : (first : ℕ) (more : List ℕ) → (first == 45) ≡ false
    → is_file_name (first ∷ more) ≡ true
other_name first more other = rw other refl

no_dash : (b : Bool) (first : ℕ) → (first == 45) ≡ b → is_in_range 49 57 first ≡ true
    → (first == 45) ≡ false
no_dash false first is e = is
no_dash true first is e =
    absurd (true≢false (sym e ∙ ap (is_in_range 49 57) (eqb-true first 45 is)))

-- digits are a name of a file
digits_name : (word : List ℕ) → is_number word ≡ true → is_file_name word ≡ true
digits_name [] e = absurd (true≢false (sym e))
digits_name (digit ∷ []) e = ends_true (digit == 45)
digits_name (first ∷ next ∷ more) e =
    other_name first (next ∷ more) (no_dash (first == 45) first refl
    (both (is_in_range 49 57 first) (all_ascii_digits (next ∷ more)) e).0)

passed : (b : Bool) (m n : ℕ) → (if b then Some m else None) ≡ Some n → b ≡ true
passed true m n e = refl
passed false m n e = absurd (not_none n e)

-- a number is a name of a file
pub number_name : (limit : ℕ) (word : List ℕ) (n : ℕ) → number_up_to limit word ≡ Some n
    → is_file_name word ≡ true
number_name limit word n e =
    let found = followed (number_in word) (if_passes (λ m. nat_le m limit)) n e in
    digits_name word (passed (is_number word) _ found.0 found.1)

pub plain_number : (limit : ℕ) (word : List ℕ) (n : ℕ) → number_up_to limit word ≡ Some n
    → IsPlainWord word
plain_number limit word n e = plain_name word (number_name limit word n e)
