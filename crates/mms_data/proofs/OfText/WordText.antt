-- The value that a word is is spelled as that word.
use Rattle.std.proofs.Common.{◌≡◌, ◌≢◌, ℕ, zero, suc, ◌+◌, ◌-◌, ◌*◌, ◌/◌, ◌%◌, ◌^◌, ◌<◌, ◌≤◌}
use Rattle.std.proofs.Common.{Bool, true, false, cond, ◌&&◌, ◌==◌, nat_le, List, [], ◌∷◌, ◌++◌}
use Rattle.std.proofs.Common.{length, take, drop, position, get_or, Option, Some, None, option_map}
use Rattle.std.proofs.Common.{ℤ, pos, negsuc, int_le, refl, sym, ap, ◌∙◌, arith, subst, decimal}
use Rattle.std.proofs.Common.{append_assoc}
use Rattle.std.specs.Fmt.{signed_decimal}
use Rattle.std.specs.List.{list_all}
use Rattle.std.specs.Int.{w64}
use Rattle.std.specs.Int.RustNames.{FitsSigned}
use Rattle.plain_text.specs.Escaped.{is_octet}
use Rattle.ber_values.specs.Visible.{IsVisible}
use Rattle.std.specs.Option.{option_and_then}
use Rattle.std.proofs.lemmas.Bool.{and_parts}
use Rattle.std.proofs.lemmas.Bool.Decides.{nat_tests}
use Rattle.std.proofs.lemmas.Option.{option_and_then_some}
use Rattle.plain_text.specs.Octets.{hex_digit, hex_pair, hex_text}
use Rattle.plain_text.specs.Escaped.{unescaped}
use Rattle.plain_text.specs.Numbers.{number_in, number_up_to, if_passes, negative, hex_in}
use Rattle.plain_text.specs.Numbers.{hex_octets, hex_value, hex_pair_value}
use Rattle.plain_text.specs.Numbers as numbers
use Rattle.plain_text.proofs.Decimal.{number_in-decimal}
use Rattle.plain_text.proofs.EscapedText.{option_map-found, hex_value-found, unescaped-found}
use Rattle.std.specs.Bool.{OnTrue}
use Rattle.std.proofs.lemmas.List.Quantifiers.{position-Some}
use Rattle.ber_values.specs.Bits.{IsBits}
use Rattle.ber_values.specs.Octets.{IsOctets}
use Rattle.ber_values.proofs.BitsLemmas.{list_all-octets}
use Rattle.mms_data.specs.Datum.{Datum, boolean, integer, unsigned, bits, real, octets, text}
use Rattle.mms_data.specs.Datum.{structure, array, depth}
use Rattle.mms_data.specs.Text.Texts.{data_text}
use Rattle.mms_data.specs.Text.WordValue as own
use Rattle.mms_data.specs.Text.TextRead.{IsLeaf, IsEnd, IsTextual, AreOctets, BeginsDatum}

-- a word is the text of a datum without members
pub record IsWord (word : List ℕ) (d : Datum) : Type 0 where
  pub spelled : word ≡ data_text d
  pub leaf : IsLeaf d
  pub parts : IsTextual d

passes-found : {A : Type 0} (test : A → Bool) (x y : A) (b : Bool) → test x ≡ b
    → cond b (Some x) None ≡ Some y → (x ≡ y) × (test y ≡ true)
passes-found test x y true e k = let same : x ≡ y = cc in (same, sym (ap test same) ∙ e)
passes-found test x y false e k = absurd cc

pub passes : {A : Type 0} (test : A → Bool) (o : Option A) (y : A)
    → option_and_then (if_passes test) o ≡ Some y → (o ≡ Some y) × (test y ≡ true)
passes test None y k = absurd cc
passes test (Some x) y k =
    let p = passes-found test x y (test x) refl k in (ap Some p.0, p.1)

pub is_same : (a b : ℕ) → (a == b) ≡ true → a ≡ b
is_same a b e = grind (arith, nat_tests)

is_most : (a b : ℕ) → nat_le a b ≡ true → a ≤ b
is_most a b e = grind (arith, nat_tests)

-- a choice by a test
pub chosen : {A : Type 0} (P : Type 0) (d : A) (b : Bool) (x y : Option A)
    → (b ≡ true → x ≡ Some d → P) → (b ≡ false → y ≡ Some d → P) → cond b x y ≡ Some d → P
chosen P d true x y first second e = first refl e
chosen P d false x y first second e = second refl e

number-found : (limit n : ℕ) (word : List ℕ) → limit < 2 ^ 64 → number_up_to limit word ≡ Some n
    → (word ≡ decimal n) × (n ≤ limit)
number-found limit n word small e =
    let p = passes (λ m. nat_le m limit) (number_in word) n e in
    let most : n ≤ limit = is_most n limit p.1 in
    ((number_in-decimal word n (omega (arith, small, most))).0 p.0, most)

pair-found : (high low octet : ℕ) → hex_pair_value high low ≡ Some octet
    → hex_pair octet ≡ high ∷ low ∷ []
pair-found high low octet e =
    option_and_then_some (λ h. option_map (λ l. h * 16 + l) (hex_value low)) (hex_value high)
    octet e
    (λ h high_is digits.
    option_map-found (λ l. h * 16 + l) (hex_value low) octet digits
    (λ l low_is sum.
    let first = hex_value-found high h high_is in
    let second = hex_value-found low l low_is in
    let quotient : octet / 16 ≡ h = omega arith in
    let rest : octet % 16 ≡ l = omega arith in
    (λ i. hex_digit (quotient i) ∷ hex_digit (rest i) ∷ []) ∙ (λ i. first.1 i ∷ second.1 i ∷ [])))

pair-small : (high low octet : ℕ) → hex_pair_value high low ≡ Some octet → octet < 256
pair-small high low octet e =
    option_and_then_some (λ h. option_map (λ l. h * 16 + l) (hex_value low)) (hex_value high)
    octet e
    (λ h high_is digits.
    option_map-found (λ l. h * 16 + l) (hex_value low) octet digits
    (λ l low_is sum.
    let first = hex_value-found high h high_is in
    let second = hex_value-found low l low_is in
    omega (arith, first.0, second.0, sum)))

octets_joined : (more : List ℕ) (high low : ℕ) (os : List ℕ)
    → ((rest : List ℕ) → hex_in more ≡ Some rest → AreOctets rest)
    → option_and_then (λ octet. option_map (λ rest. octet ∷ rest) (hex_in more))
    (hex_pair_value high low) ≡ Some os → AreOctets os
octets_joined more high low os induct e =
    option_and_then_some (λ octet. option_map (λ rest. octet ∷ rest) (hex_in more))
    (hex_pair_value high low) os e
    (λ octet pair joined.
    option_map-found (λ rest. octet ∷ rest) (hex_in more) os joined
    (λ rest rest_is whole.
    let small : is_octet octet ≡ true = grind (arith, nat_tests, pair-small high low octet pair) in
    let others : list_all is_octet rest ≡ true = induct rest rest_is in
    rw (whole, small, others) refl))

-- pairs of digits are octets
pub hex-octets : (word os : List ℕ) → hex_in word ≡ Some os → AreOctets os
hex-octets [] os e = let none : os ≡ [] = cc in rw none refl
hex-octets (high ∷ []) os e = absurd cc
hex-octets (high ∷ low ∷ more) os e =
    octets_joined more high low os (λ rest k. hex-octets more rest k) e

pub hex-found : (word os : List ℕ) → hex_in word ≡ Some os → word ≡ hex_text os
hex-found [] os e = let none : os ≡ [] = cc in ap hex_text (sym none)
hex-found (high ∷ []) os e = absurd cc
hex-found (high ∷ low ∷ more) os e =
    option_and_then_some (λ octet. option_map (λ rest. octet ∷ rest) (hex_in more))
    (hex_pair_value high low) os e
    (λ octet pair joined.
    option_map-found (λ rest. octet ∷ rest) (hex_in more) os joined
    (λ rest rest_is whole.
    let spelled : hex_pair octet ++ hex_text rest ≡ high ∷ low ∷ more =
    ap (λ t. t ++ hex_text rest) (pair-found high low octet pair)
    ∙ ap (λ t. high ∷ low ∷ t) (sym (hex-found more rest rest_is)) in
    sym spelled ∙ ap hex_text (sym whole)))

small_negative : (m : ℕ)
    → (int_le (negsuc (2 ^ 63 - 1)) (negsuc m) && int_le (negsuc m) (pos (2 ^ 63 - 1))) ≡ true
    → m < 2 ^ 63
small_negative m e = grind (arith, nat_tests, and_parts)

small_positive : (m : ℕ)
    → (int_le (negsuc (2 ^ 63 - 1)) (pos m) && int_le (pos m) (pos (2 ^ 63 - 1))) ≡ true
    → m < 2 ^ 63
small_positive m e = grind (arith, nat_tests, and_parts)

negative-found : (n : ℕ) (z : ℤ) → negative n ≡ Some z
    → (int_le (negsuc (2 ^ 63 - 1)) z && int_le z (pos (2 ^ 63 - 1))) ≡ true
    → (n < 2 ^ 64) × (signed_decimal z ≡ 45 ∷ decimal n)
negative-found zero z e long = absurd cc
negative-found (suc n) z e long =
    let same : z ≡ negsuc n = cc in
    let small : n < 2 ^ 63 = small_negative n
    (subst (λ (y : ℤ). (int_le (negsuc (2 ^ 63 - 1)) y && int_le y (pos (2 ^ 63 - 1))) ≡ true)
    same long) in
    (omega (arith, small), ap signed_decimal same)

signed_in-found : (word : List ℕ) (z : ℤ) → numbers.integer_of_word word ≡ Some z
    → (int_le (negsuc (2 ^ 63 - 1)) z && int_le z (pos (2 ^ 63 - 1))) ≡ true
    → word ≡ signed_decimal z
signed_in-found [] z e long = absurd cc
signed_in-found (first ∷ more) z e long =
    chosen (first ∷ more ≡ signed_decimal z) z (first == 45)
    (option_and_then negative (number_in more)) (option_map pos (number_in (first ∷ more)))
    (λ minus found.
    option_and_then_some negative (number_in more) z found
    (λ n n_is neg.
    let p = negative-found n z neg long in
    let first_is : first ≡ 45 = is_same first 45 minus in
    let digits : more ≡ decimal n = (number_in-decimal more n p.0).0 n_is in
    (λ i. first_is i ∷ digits i) ∙ sym p.1))
    (λ other found.
    option_map-found pos (number_in (first ∷ more)) z found
    (λ n n_is z_is.
    let small : n < 2 ^ 63 = small_positive n
    (subst (λ (y : ℤ). (int_le (negsuc (2 ^ 63 - 1)) y && int_le y (pos (2 ^ 63 - 1))) ≡ true)
    z_is long) in
    (number_in-decimal (first ∷ more) n (omega (arith, small))).0 n_is
    ∙ sym (ap signed_decimal z_is)))
    e

signed-fits : (z : ℤ) → (int_le (negsuc (2 ^ 63 - 1)) z && int_le z (pos (2 ^ 63 - 1))) ≡ true
    → FitsSigned w64 z
signed-fits (pos n) e = omega (arith, small_positive n e)
signed-fits (negsuc n) e = omega (arith, small_negative n e)

signed-found : (word : List ℕ) (z : ℤ)
    → numbers.integer_word_within (negsuc (2 ^ 63 - 1)) (pos (2 ^ 63 - 1)) word ≡ Some z
    → (word ≡ signed_decimal z) × FitsSigned w64 z
signed-found word z e =
    let p = passes (λ y. int_le (negsuc (2 ^ 63 - 1)) y && int_le y (pos (2 ^ 63 - 1)))
    (numbers.integer_of_word word) z e in
    (signed_in-found word z p.0 p.1, signed-fits z p.1)

boolean-found : (b : Bool) (held : List ℕ) (d : Datum) → own.boolean_word_in b held ≡ Some d
    → (held ≡ []) × (d ≡ boolean b)
boolean-found b [] d e = (refl, cc)
boolean-found b (c ∷ cs) d e = absurd cc

split_get : (xs : List ℕ) (i : ℕ) → i < length xs
    → xs ≡ take i xs ++ get_or xs i 0 ∷ drop (suc i) xs
split_get [] i h = absurd (omega arith)
split_get (x ∷ xs) zero h = refl
split_get (x ∷ xs) (suc i) h = ap (λ t. x ∷ t) (split_get xs i (omega arith))

next : (i : ℕ) → suc i ≡ i + 1
next i = omega arith

split_at : (c : ℕ) (xs : List ℕ) (i : ℕ) → position (λ x. x == c) xs ≡ Some i
    → xs ≡ take i xs ++ c ∷ drop (i + 1) xs
split_at c xs i e =
    let there = position-Some (λ x. x == c) xs i 0 e in
    split_get xs i there.0
    ∙ ap (λ y. take i xs ++ y ∷ drop (suc i) xs) (is_same (get_or xs i 0) c there.1)
    ∙ ap (λ j. take i xs ++ c ∷ drop j xs) (next i)

bits_fit : (count : ℕ) (os : List ℕ) → own.is_bits (record { count = count; octets = os }) ≡ true
    → AreOctets os → IsBits (record { count = count; octets = os })
bits_fit count os e octets_are =
    let p = and_parts _ _ e in
    record { fitting = is_same _ _ p.0; in_octets = octets_are; padded = is_same _ _ p.1 }

bits-found : (held : List ℕ) (d : Datum) → own.bits_word_in held ≡ Some d
    → IsWord (98 ∷ held) d
bits-found held d e =
    option_and_then_some (λ point. own.bits_word_with (take point held) (drop (point + 1) held))
    (own.point_word_in held) d e
    (λ point point_is whole.
    let count = take point held in
    let digits = drop (point + 1) held in
    option_and_then_some
    (λ n. option_and_then (λ os. own.bits_of n os) (hex_in digits))
    (number_up_to (2 ^ 64 - 1) count) d whole
    (λ n n_is held_is.
    option_and_then_some (λ os. own.bits_of n os) (hex_in digits) d held_is
    (λ os os_is made.
    option_map-found bits (if_passes own.is_bits (record { count = n; octets = os })) d made
    (λ b b_is d_is.
    let same = passes-found own.is_bits (record { count = n; octets = os }) b
    (own.is_bits (record { count = n; octets = os })) refl b_is in
    let numeral = number-found (2 ^ 64 - 1) n count (omega arith) n_is in
    let number : count ≡ decimal n = numeral.0 in
    let filled : own.is_bits (record { count = n; octets = os }) ≡ true =
    ap own.is_bits same.0 ∙ same.1 in
    let hex : digits ≡ hex_text os = hex-found digits os os_is in
    let parts : held ≡ count ++ 46 ∷ digits = split_at 46 held point point_is in
    let d_bits : d ≡ bits (record { count = n; octets = os }) = d_is ∙ ap bits (sym same.0) in
    subst (λ (x : Datum). IsWord (98 ∷ held) x) (sym d_bits)
    (record {
      spelled = ap (λ t. 98 ∷ t) parts ∙ (λ i. 98 ∷ (number i ++ 46 ∷ hex i))
          ∙ ap (λ t. 98 ∷ t) (sym (append_assoc (decimal n) (46 ∷ []) (hex_text os)));
      leaf = tt;
      parts = (bits_fit n os filled (hex-octets digits os os_is), omega (arith, numeral.1));
    })))))

visible-fits : (os : List ℕ) → own.is_visible os ≡ true → IsVisible os
visible-fits os e = let p = and_parts _ _ e in (is_most _ _ p.0, p.1)

text-found : (held : List ℕ) (d : Datum) → own.text_word_in held ≡ Some d → IsWord (118 ∷ held) d
text-found held d e =
    option_map-found text (option_and_then (if_passes own.is_visible) (unescaped held)) d e
    (λ os os_is d_is.
    let p = passes own.is_visible (unescaped held) os os_is in
    subst (λ (x : Datum). IsWord (118 ∷ held) x) (sym d_is)
    (record {
      spelled = ap (λ t. 118 ∷ t) (unescaped-found held os p.0);
      leaf = tt;
      parts = visible-fits os p.1;
    }))

kind-found : (kind : ℕ) (held : List ℕ) (d : Datum) → own.value_in kind held ≡ Some d
    → IsWord (kind ∷ held) d
kind-found kind held d =
    let P : Type 0 = IsWord (kind ∷ held) d in
    let kept : (k : ℕ) → (kind == k) ≡ true → IsWord (k ∷ held) d → P =
    λ k e w. subst (λ (c : ℕ). IsWord (c ∷ held) d) (sym (is_same kind k e)) w in
    chosen P d (kind == 84) _ _
    (λ is e. let p = boolean-found true held d e in kept 84 is
    (subst (λ (x : Datum). IsWord (84 ∷ held) x) (sym p.1)
    (record { spelled = ap (λ t. 84 ∷ t) p.0; leaf = tt; parts = tt })))
    (λ other. chosen P d (kind == 70) _ _
    (λ is e. let p = boolean-found false held d e in kept 70 is
    (subst (λ (x : Datum). IsWord (70 ∷ held) x) (sym p.1)
    (record { spelled = ap (λ t. 70 ∷ t) p.0; leaf = tt; parts = tt })))
    (λ other. chosen P d (kind == 105) _ _
    (λ is e. kept 105 is (option_map-found integer _ d e
    (λ z z_is d_is. let p = signed-found held z z_is in
    subst (λ (x : Datum). IsWord (105 ∷ held) x) (sym d_is)
    (record { spelled = ap (λ t. 105 ∷ t) p.0; leaf = tt; parts = p.1 }))))
    (λ other. chosen P d (kind == 117) _ _
    (λ is e. kept 117 is (option_map-found unsigned _ d e
    (λ n n_is d_is. let p = number-found (2 ^ 63 - 1) n held (omega arith) n_is in
    subst (λ (x : Datum). IsWord (117 ∷ held) x) (sym d_is)
    (record { spelled = ap (λ t. 117 ∷ t) p.0; leaf = tt; parts = omega (arith, p.1) }))))
    (λ other. chosen P d (kind == 98) _ _
    (λ is e. kept 98 is (bits-found held d e))
    (λ other. chosen P d (kind == 102) _ _
    (λ is e. kept 102 is (option_map-found real _ d e
    (λ os os_is d_is. let p = passes (λ o. length o == 4) (hex_in held) os os_is in
    subst (λ (x : Datum). IsWord (102 ∷ held) x) (sym d_is)
    (record {
      spelled = ap (λ t. 102 ∷ t) (hex-found held os p.0);
      leaf = tt;
      parts = (is_same (length os) 4 p.1, hex-octets held os p.0);
    }))))
    (λ other. chosen P d (kind == 111) _ _
    (λ is e. kept 111 is (option_map-found octets _ d e
    (λ os os_is d_is.
    subst (λ (x : Datum). IsWord (111 ∷ held) x) (sym d_is)
    (record {
      spelled = ap (λ t. 111 ∷ t) (hex-found held os os_is);
      leaf = tt;
      parts = hex-octets held os os_is;
    }))))
    (λ other. chosen P d (kind == 118) _ _
    (λ is e. kept 118 is (text-found held d e))
    (λ other e. absurd cc))))))))

pub word-found : (word : List ℕ) (d : Datum) → own.word_value word ≡ Some d → IsWord word d
word-found [] d e = absurd cc
word-found (kind ∷ held) d e = kind-found kind held d e

shallow : (d : Datum) → IsLeaf d → depth d ≡ 1
shallow (structure ds) leaf = absurd leaf
shallow (array ds) leaf = absurd leaf
shallow _ leaf = refl

-- a text that begins with a word begins with its value
pub word_begins : (n : ℕ) (os word rest : List ℕ) (d : Datum) → n ≢ 0 → os ≡ word ++ rest
    → IsEnd rest → own.word_value word ≡ Some d → BeginsDatum n os d rest
word_begins n os word rest d some parts end e =
    let w = word-found word d e in
    record {
      spelled = parts ∙ ap (λ t. t ++ rest) w.spelled;
      whole = λ leaf. end;
      lawful = record {
        shallow = omega (arith, some, shallow d w.leaf);
        parts = w.parts;
      };
    }

-- octets that bits fill
pub bits_sound : (count : ℕ) (os : List ℕ) (b : Bool)
    → b ≡ own.is_bits (record { count = count; octets = os }) → IsOctets os
    → OnTrue b (IsBits (record { count = count; octets = os }))
bits_sound count os false e fits = tt
bits_sound count os true e fits =
    let p = and_parts _ _ (sym e) in
    record {
      fitting = is_same _ _ p.0;
      in_octets = list_all-octets os fits;
      padded = is_same _ _ p.1;
    }
