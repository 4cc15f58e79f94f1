-- Names and identifiers are visible text.
use Rattle.std.proofs.Common.{◌≡◌, ℕ, ◌≤◌, Bool, true, ◌||◌, ◌==◌, List, [], ◌∷◌, length, refl}
use Rattle.std.proofs.Common.{arith}
use Rattle.std.specs.List.{list_all}
use Rattle.std.specs.Char.{is_ascii_alphabetic, is_ascii_alphanumeric}
use Rattle.std.proofs.lemmas.Bool.{false≢true, and_parts, and_from, leb-true}
use Rattle.std.proofs.lemmas.Bool.Decides.{nat_tests}
use Rattle.ber_values.specs.Visible.{IsVisible, is_visible_octet}
use Rattle.bilateral.specs.declared.words.words.TheConstants.{NAME_LIMIT, IDENTIFIER_LIMIT}
use Rattle.bilateral.specs.Words.Words.{is_name, is_plain_name, is_identifier}

pub list_all-weaker : (p q : ℕ → Bool) → ((x : ℕ) → p x ≡ true → q x ≡ true) → (xs : List ℕ)
    → list_all p xs ≡ true → list_all q xs ≡ true
list_all-weaker p q weaker [] each = refl
list_all-weaker p q weaker (x ∷ xs) each =
    let parts = and_parts (p x) (list_all p xs) each in
    and_from (q x) (list_all q xs) (weaker x parts.0) (list_all-weaker p q weaker xs parts.1)

visible_in_names : (octet : ℕ) → (is_ascii_alphanumeric octet || (octet == 95)) ≡ true
    → is_visible_octet octet ≡ true
visible_in_names octet in_name = grind (arith, nat_tests)

visible_in_identifiers : (octet : ℕ)
    → (is_ascii_alphanumeric octet || (octet == 95) || (octet == 36)) ≡ true
    → is_visible_octet octet ≡ true
visible_in_identifiers octet in_word = grind (arith, nat_tests)

visible_letter : (octet : ℕ) → is_ascii_alphabetic octet ≡ true → is_visible_octet octet ≡ true
visible_letter octet letter = grind (arith, nat_tests)

IsVisible-from_plain_name : (word : List ℕ) → is_plain_name word ≡ true → IsVisible word
IsVisible-from_plain_name [] named = absurd (false≢true named)
IsVisible-from_plain_name (first ∷ more) named =
    let parts = and_parts _ _ named in
    let front = and_parts _ _ parts.0 in
    let short : length (first ∷ more) ≤ NAME_LIMIT =
    leb-true (length (first ∷ more)) NAME_LIMIT parts.1 in (
      omega arith,
      and_from (is_visible_octet first) (list_all is_visible_octet more)
          (visible_letter first front.0)
          (list_all-weaker _ is_visible_octet visible_in_names more front.1),
    )

-- a name is visible text
pub IsVisible-from_name : (word : List ℕ) → is_name word ≡ true → IsVisible word
IsVisible-from_name word named = IsVisible-from_plain_name word (and_parts _ _ named).0

-- an identifier is visible text
pub IsVisible-from_identifier : (word : List ℕ) → is_identifier word ≡ true → IsVisible word
IsVisible-from_identifier word identifier =
    let parts = and_parts _ _ identifier in
    let front = and_parts _ _ parts.0 in
    let short : length word ≤ IDENTIFIER_LIMIT = leb-true (length word) IDENTIFIER_LIMIT front.1 in
    (omega arith, list_all-weaker _ is_visible_octet visible_in_identifiers word parts.1)
