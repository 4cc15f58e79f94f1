-- Hexadecimal words.
use Rattle.std.proofs.Common.{◌≡◌, ◌≢◌, ℕ, suc, ◌*◌, ◌≤◌, ◌==◌, List, [], ◌∷◌, ◌++◌, length, drop}
use Rattle.std.proofs.Common.{get_or, Option, Some, None, refl, sym, ap, ◌∙◌, arith, append_assoc}
use Rattle.std.specs.Option.{option_map, option_and_then}
use Rattle.std.proofs.lemmas.Bool.Decides.{nat_tests}
use Rattle.plain_text.specs.Numbers.{hex_in, hex_octets, hex_pair_value, if_passes}

length-joined : (more : List ℕ) (pair : Option ℕ) (rest : Option (List ℕ)) (octets : List ℕ)
    → ((os : List ℕ) → rest ≡ Some os → length more ≡ 2 * length os)
    → option_and_then (λ octet. option_map (λ os. octet ∷ os) rest) pair ≡ Some octets
    → suc (suc (length more)) ≡ 2 * length octets
length-joined more None rest octets induct same = absurd cc
length-joined more (Some octet) None octets induct same = absurd cc
length-joined more (Some octet) (Some os) octets induct same =
    let joined : octets ≡ octet ∷ os = cc in
    let longer : length octets ≡ suc (length os) = ap length joined in
    omega (arith, induct os refl)

-- a word has two digits for each octet
pub length-hex_in : (word octets : List ℕ) → hex_in word ≡ Some octets
    → length word ≡ 2 * length octets
length-hex_in [] octets same = let none : octets ≡ [] = cc in omega (arith, ap length none)
length-hex_in (high ∷ []) octets same = absurd cc
length-hex_in (high ∷ low ∷ more) octets same =
    length-joined more (hex_pair_value high low) (hex_in more) octets
    (λ os e. length-hex_in more os e) same

octets_none : (count : ℕ) (word : List ℕ) (octets : Option (List ℕ)) → hex_in word ≡ octets
    → length word ≢ 2 * count → option_and_then (if_passes (λ os. length os == count)) octets ≡ None
octets_none count word None same other = refl
octets_none count word (Some os) same other =
    let two : length word ≡ 2 * length os = length-hex_in word os same in
    let ne : length os ≢ count = λ e. other (omega arith) in
    grind (arith, nat_tests)

-- a word of another length
pub hex_octets-other : (count : ℕ) (word : List ℕ) → length word ≢ 2 * count
    → hex_octets count word ≡ None
hex_octets-other count word other = octets_none count word (hex_in word) refl other

map-map : (so_far : List ℕ) (octet : ℕ) (rest : Option (List ℕ))
    → option_map (λ os. so_far ++ os) (option_map (λ os. octet ∷ os) rest)
    ≡ option_map (λ os. (so_far ++ octet ∷ []) ++ os) rest
map-map so_far octet None = refl
map-map so_far octet (Some os) = ap Some (sym (append_assoc so_far (octet ∷ []) os))

-- one pair more is read
pub hex_in-more : (so_far word more : List ℕ) (high low octet : ℕ)
    → hex_in word ≡ option_map (λ rest. so_far ++ rest) (hex_in (high ∷ low ∷ more))
    → Some octet ≡ hex_pair_value high low
    → hex_in word ≡ option_map (λ rest. (so_far ++ octet ∷ []) ++ rest) (hex_in more)
hex_in-more so_far word more high low octet same pair =
    same ∙ ap (λ p. option_map (λ os. so_far ++ os)
    (option_and_then (λ o. option_map (λ os. o ∷ os) (hex_in more)) p)) (sym pair)
    ∙ map-map so_far octet (hex_in more)

-- one pair more is read of a text that begins with it
pub hex_in-step : (so_far word rest : List ℕ) (octet : ℕ) → 2 ≤ length rest
    → hex_in word ≡ option_map (λ more. so_far ++ more) (hex_in rest)
    → Some octet ≡ hex_pair_value (get_or rest 0 0) (get_or rest 1 0)
    → hex_in word ≡ option_map (λ more. (so_far ++ octet ∷ []) ++ more) (hex_in (drop 2 rest))
hex_in-step so_far word [] octet two same pair = absurd (omega arith)
hex_in-step so_far word (high ∷ []) octet two same pair = absurd (omega arith)
hex_in-step so_far word (high ∷ low ∷ more) octet two same pair =
    hex_in-more so_far word more high low octet same pair
