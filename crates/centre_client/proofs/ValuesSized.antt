-- The sizes of values without members, as their words have them.
use Rattle.std.proofs.Common.{◌≡◌, ℕ, ℤ, pos, negsuc, ◌+◌, ◌-◌, ◌*◌, ◌/◌, ◌%◌, ◌^◌, ◌≤◌, ◌==◌}
use Rattle.std.proofs.Common.{◌&&◌, Bool, true, false, cond, List, [], ◌∷◌, length, slice_index}
use Rattle.std.proofs.Common.{get_or, drop, Option, Some, None, refl, sym, ap, ◌∙◌, arith}
use Rattle.std.specs.Option.{option_map, option_and_then}
use Rattle.std.proofs.lemmas.Option.{none-some, same_Some}
use Rattle.plain_text.specs.Numbers.{hex_pair_value, hex_in, hex_octets, if_passes, number_up_to}
use Rattle.plain_text.specs.Numbers.{integer_word_within}
use Rattle.plain_text.proofs.Hex.{length-hex_in}
use Rattle.ber_values.specs.Bits.{Bits}
use Rattle.ber_values.specs.Lengths.{capped, part_size}
use Rattle.ber_values.specs.declared.lengths.TheConstants.{MOST_LENGTH}
use Rattle.ber_values.specs.Writing.{written, boolean_octets, bits_octets, integer_octets}
use Rattle.mms_data.specs.Datum.{Datum, integer, unsigned, bits, real, octets, text}
use Rattle.mms_data.specs.DataWritten.{datum_octets, datum_len}
use Rattle.mms_data.specs.Text.WordValue.{is_bits, bits_of, bits_word_with, octets_word_in}
use Rattle.mms_data.specs.Text.WordValue.{boolean_word_in}
use Rattle.mms_data.specs.Text.WordValue.{integer_word_in, unsigned_word_in, real_word_in}
use Rattle.mms_data.specs.Text.WordValue.{text_word_in}
use Rattle.mms_data.proofs.DataLengths.{element-written}
use Rattle.centre_client.specs.ShortTexts.{short_text_in}
use Rattle.centre_client.specs.ValueSizes.{last_octet_in}

-- an option that was mapped to nothing
pub unmapped : {A B : Type 0} (f : A → B) (o : Option A) → option_map f o ≡ None → o ≡ None
unmapped f None e = refl
unmapped f (Some x) e = absurd cc

-- the last of octets, before which this one stands
abbrev last_or : ℕ → List ℕ → ℕ
last_or last [] = last
last_or last (x ∷ xs) = last_or x xs

last_joined : (last octet : ℕ) (rest : Option (List ℕ))
    → option_map (last_or octet) rest
    ≡ option_map (last_or last) (option_map (λ os. octet ∷ os) rest)
last_joined last octet None = refl
last_joined last octet (Some os) = refl

last_paired : (last : ℕ) (more : List ℕ) (pair : Option ℕ)
    → ((octet : ℕ) → last_octet_in octet more ≡ option_map (last_or octet) (hex_in more))
    → option_and_then (λ octet. last_octet_in octet more) pair
    ≡ option_map (last_or last)
    (option_and_then (λ octet. option_map (λ os. octet ∷ os) (hex_in more)) pair)
last_paired last more None induct = refl
last_paired last more (Some octet) induct = induct octet ∙ last_joined last octet (hex_in more)

-- the last octet is that of all
last_octet-hex : (last : ℕ) (word : List ℕ)
    → last_octet_in last word ≡ option_map (last_or last) (hex_in word)
last_octet-hex last [] = refl
last_octet-hex last (high ∷ []) = refl
last_octet-hex last (high ∷ low ∷ more) =
    last_paired last more (hex_pair_value high low) (λ octet. last_octet-hex octet more)

last_or-at : (last : ℕ) (os : List ℕ) → last_or last os ≡ get_or (last ∷ os) (length os) 0
last_or-at last [] = refl
last_or-at last (x ∷ xs) = last_or-at x xs

-- the last of octets, or 0
last_or-index : (os : List ℕ) → last_or 0 os ≡ slice_index os (length os - 1)
last_or-index [] = refl
last_or-index (x ∷ xs) =
    let one : length (x ∷ xs) - 1 ≡ length xs = omega arith in
    last_or-at x xs ∙ ap (λ n. get_or (x ∷ xs) n 0) (sym one)

-- one pair of digits more is read
pub last_octet-step : (last octet : ℕ) (word rest : List ℕ) → 2 ≤ length rest
    → last_octet_in 0 word ≡ last_octet_in last rest
    → Some octet ≡ hex_pair_value (get_or rest 0 0) (get_or rest 1 0)
    → last_octet_in 0 word ≡ last_octet_in octet (drop 2 rest)
last_octet-step last octet word [] two same pair = absurd (omega arith)
last_octet-step last octet word (high ∷ []) two same pair = absurd (omega arith)
last_octet-step last octet word (high ∷ low ∷ more) two same pair =
    same ∙ ap (option_and_then (λ o. last_octet_in o more)) (sym pair)

halved : (word os : List ℕ) → hex_in word ≡ Some os → length word / 2 ≡ length os
halved word os is = let two : length word ≡ 2 * length os = length-hex_in word os is in omega arith

pub octets-sized : (held : List ℕ) (last r : ℕ) → last_octet_in 0 held ≡ Some last
    → r ≡ capped (part_size (length held / 2))
    → Some r ≡ option_map datum_len (octets_word_in held)
octets-sized held last r is size = by_digits (hex_in held) refl
  where
    by_digits : (read : Option (List ℕ)) → hex_in held ≡ read
        → Some r ≡ option_map datum_len (option_map octets read)
    by_digits None e =
        absurd (none-some last (sym (last_octet-hex 0 held ∙ ap (option_map (last_or 0)) e) ∙ is))
    by_digits (Some os) e =
        ap Some (element-written 137 (length held / 2) r os (halved held os e) size)

pub octets-none : (held : List ℕ) → last_octet_in 0 held ≡ None
    → None ≡ option_map datum_len (octets_word_in held)
octets-none held none =
    let e : hex_in held ≡ None = unmapped (last_or 0) (hex_in held) (sym (last_octet-hex 0 held) ∙
    none) in
    sym (ap (λ o. option_map datum_len (option_map octets o)) e)

-- bits fill octets
abbrev fill : ℕ → ℕ → ℕ → Bool
fill count len last = (len == (count + 7) / 8) && (last % 2 ^ (8 * len - count) == 0)

fill-is : (count : ℕ) (digits os : List ℕ) (last : ℕ) → hex_in digits ≡ Some os
    → last_octet_in 0 digits ≡ Some last
    → is_bits (record { count = count; octets = os }) ≡ fill count (length digits / 2) last
fill-is count digits os last e is =
    let same : last_or 0 os ≡ last =
    same_Some (last_or 0 os) last (sym (last_octet-hex 0 digits ∙ ap (option_map (last_or 0)) e) ∙
    is) in
    let at : slice_index os (length os - 1) ≡ last = sym (last_or-index os) ∙ same in
    ap (λ x. (length os == (count + 7) / 8) && (x % 2 ^ (8 * length os - count) == 0)) at
    ∙ ap (λ n. fill count n last) (sym (halved digits os e))

passed : (b : Bits) (test : Bool) → is_bits b ≡ test
    → option_map bits (if_passes is_bits b) ≡ cond test (Some (bits b)) None
passed b true e = ap (λ t. option_map bits (cond t (Some b) None)) e
passed b false e = ap (λ t. option_map bits (cond t (Some b) None)) e

counted : (count digits : List ℕ) (n : ℕ) → number_up_to (2 ^ 64 - 1) count ≡ Some n
    → bits_word_with count digits ≡ option_and_then (λ held. bits_of n held) (hex_in digits)
counted count digits n is =
    ap (λ (o : Option ℕ). option_and_then
    (λ m. option_and_then (λ held. bits_of m held) (hex_in digits)) o) is

pub bits-none : (count digits : List ℕ) (n : ℕ) → number_up_to (2 ^ 64 - 1) count ≡ Some n
    → last_octet_in 0 digits ≡ None → None ≡ option_map datum_len (bits_word_with count digits)
bits-none count digits n is none =
    let e : hex_in digits ≡ None =
    unmapped (last_or 0) (hex_in digits) (sym (last_octet-hex 0 digits) ∙ none) in
    sym (ap (option_map datum_len) (counted count digits n is)
    ∙ ap (λ (o : Option (List ℕ)). option_map datum_len (option_and_then (λ held. bits_of n held)
    o))
    e)

pub bits-refused : (count digits : List ℕ) (n last : ℕ) → number_up_to (2 ^ 64 - 1) count ≡ Some n
    → last_octet_in 0 digits ≡ Some last → fill n (length digits / 2) last ≡ false
    → None ≡ option_map datum_len (bits_word_with count digits)
bits-refused count digits n last is last_is not_full =
    by_digits (hex_in digits) refl
    ∙ sym (ap (option_map datum_len) (counted count digits n is))
  where
    by_digits : (read : Option (List ℕ)) → hex_in digits ≡ read
        → None ≡ option_map datum_len (option_and_then (λ held. bits_of n held) (hex_in digits))
    by_digits None e =
        sym (ap (λ (o : Option (List ℕ)). option_map datum_len
        (option_and_then (λ held. bits_of n held) o)) e)
    by_digits (Some os) e =
        sym (ap (λ (o : Option (List ℕ)). option_map datum_len
        (option_and_then (λ held. bits_of n held) o)) e
        ∙ ap (option_map datum_len) (passed (record { count = n; octets = os }) false
        (fill-is n digits os last e last_is ∙ not_full)))

pub bits-sized : (count digits : List ℕ) (n last r : ℕ)
    → number_up_to (2 ^ 64 - 1) count ≡ Some n → last_octet_in 0 digits ≡ Some last
    → fill n (length digits / 2) last ≡ true → r ≡ capped (part_size (1 + length digits / 2))
    → Some r ≡ option_map datum_len (bits_word_with count digits)
bits-sized count digits n last r is last_is full size =
    by_digits (hex_in digits) refl
    ∙ sym (ap (option_map datum_len) (counted count digits n is))
  where
    by_digits : (read : Option (List ℕ)) → hex_in digits ≡ read
        → Some r ≡ option_map datum_len (option_and_then (λ held. bits_of n held) (hex_in digits))
    by_digits None e =
        absurd (none-some last (sym (last_octet-hex 0 digits ∙ ap (option_map (last_or 0)) e) ∙
        last_is))
    by_digits (Some os) e =
        let half : length digits / 2 ≡ length os = halved digits os e in
        ap Some (element-written 132 (1 + length digits / 2) r
        (bits_octets (record { count = n; octets = os })) (omega (arith, half)) size)
        ∙ sym (ap (λ (o : Option (List ℕ)). option_map datum_len
        (option_and_then (λ held. bits_of n held) o)) e
        ∙ ap (option_map datum_len) (passed (record { count = n; octets = os }) true
        (fill-is n digits os last e last_is ∙ full)))

-- ---- leaves

-- a value made of what was read, by its contents
pub leaf-sized : {A : Type 0} (of : A → Datum) (read : Option A) (x : A) (tag n r : ℕ)
    (contents : List ℕ) → read ≡ Some x → datum_octets (of x) ≡ written tag contents
    → n ≡ length contents → r ≡ capped (part_size n)
    → Some r ≡ option_map datum_len (option_map of read)
leaf-sized {A} of read x tag n r contents is spelled e size =
    ap (λ (k : ℕ). Some k) (element-written tag n r contents e size
    ∙ ap (λ (os : List ℕ). capped (length os)) (sym spelled))
    ∙ sym (ap (λ (o : Option A). option_map datum_len (option_map of o)) is)

pub leaf-none : {A : Type 0} (of : A → Datum) (read : Option A) → read ≡ None
    → None ≡ option_map datum_len (option_map of read)
leaf-none {A} of read is = sym (ap (λ (o : Option A). option_map datum_len (option_map of o)) is)

pub boolean-sized : (b : Bool) (held : List ℕ) (r : ℕ) → length held ≡ 0
    → r ≡ capped (part_size 1) → Some r ≡ option_map datum_len (boolean_word_in b held)
boolean-sized b [] r none size =
    ap (λ (k : ℕ). Some k) (element-written 131 1 r (boolean_octets b) refl size)
boolean-sized b (x ∷ xs) r none size = absurd (omega (arith, none))

pub boolean-none : (b : Bool) (held : List ℕ) → (length held ≡ 0 → ⊥)
    → None ≡ option_map datum_len (boolean_word_in b held)
boolean-none b [] some = absurd (some refl)
boolean-none b (x ∷ xs) some = refl

-- a size that was told is no more than the most
pub size-few : (read : Option Datum) (n : ℕ) → Some n ≡ option_map datum_len read
    → n ≤ MOST_LENGTH
size-few None n e = absurd cc
size-few (Some d) n e = let same : n ≡ datum_len d = cc in omega (arith, same)

pub integer-sized : (held : List ℕ) (z : ℤ) (n r : ℕ)
    → integer_word_within (negsuc (2 ^ 63 - 1)) (pos (2 ^ 63 - 1)) held ≡ Some z
    → n ≡ length (integer_octets z) → r ≡ capped (part_size n)
    → Some r ≡ option_map datum_len (integer_word_in held)
integer-sized held z n r is e size =
    leaf-sized integer (integer_word_within (negsuc (2 ^ 63 - 1)) (pos (2 ^ 63 - 1)) held) z 133 n r
    (integer_octets z) is refl e size

pub unsigned-sized : (held : List ℕ) (u n r : ℕ) → number_up_to (2 ^ 63 - 1) held ≡ Some u
    → n ≡ length (integer_octets (pos u)) → r ≡ capped (part_size n)
    → Some r ≡ option_map datum_len (unsigned_word_in held)
unsigned-sized held u n r is e size =
    leaf-sized unsigned (number_up_to (2 ^ 63 - 1) held) u 134 n r (integer_octets (pos u)) is refl
    e
    size

pub real-sized : (held o : List ℕ) (r : ℕ) → hex_octets 4 held ≡ Some o → length o ≡ 4
    → r ≡ capped (part_size 5) → Some r ≡ option_map datum_len (real_word_in held)
real-sized held o r is four size =
    leaf-sized real (hex_octets 4 held) o 135 5 r (8 ∷ o) is refl (omega (arith, four)) size

pub visible-sized : (held o : List ℕ) (r : ℕ) → short_text_in held ≡ Some o
    → r ≡ capped (part_size (length o)) → Some r ≡ option_map datum_len (text_word_in held)
visible-sized held o r is size =
    leaf-sized text (short_text_in held) o 138 (length o) r o is refl refl size

pub ruleset leaf_sizes = (
  boolean-sized,
  boolean-none,
  integer-sized,
  unsigned-sized,
  real-sized,
  visible-sized,
  octets-sized,
  octets-none,
  bits-none,
  bits-refused,
  bits-sized,
)
