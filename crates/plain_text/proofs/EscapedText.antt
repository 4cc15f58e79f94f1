-- Escaped text is read back as what it was, and nothing else is read.
use Rattle.std.proofs.Common.{◌≡◌, ℕ, ◌+◌, ◌*◌, ◌/◌, ◌%◌, ◌<◌, Bool, true, false, cond, eqb}
use Rattle.std.proofs.Common.{List, [], ◌∷◌, ◌++◌, Option, Some, None, option_map, refl, sym, ap}
use Rattle.std.proofs.Common.{◌∙◌, arith}
use Rattle.std.specs.List.{list_all}
use Rattle.std.proofs.lemmas.Bool.{and_parts}
use Rattle.std.proofs.lemmas.Bool.Decides.{nat_tests}
use Rattle.std.proofs.lemmas.Option.{option_and_then_some}
use Rattle.plain_text.specs.Octets.{hex_digit, hex_pair}
use Rattle.plain_text.specs.Numbers.{hex_value, hex_pair_value}
use Rattle.plain_text.specs.Escaped.{is_octet, is_plain, escaped_octet, escaped_text, if_escaped}
use Rattle.plain_text.specs.Escaped.{escaped_value, before_octets, unescaped, unescaped_high}
use Rattle.plain_text.specs.Escaped.{unescaped_low}

-- an option that was mapped
pub option_map-found : {A B P : Type 0} (f : A → B) (o : Option A) (y : B)
    → option_map f o ≡ Some y → ((x : A) → o ≡ Some x → y ≡ f x → P) → P
option_map-found f None y e k = absurd cc
option_map-found f (Some x) y e k = k x refl cc

pub hex_value-found : (digit value : ℕ) → hex_value digit ≡ Some value
    → (value < 16) × (hex_digit value ≡ digit)
hex_value-found digit value e = (grind (arith, nat_tests), grind (arith, nat_tests))

pub hex_value-hex_digit : (value : ℕ) → value < 16 → hex_value (hex_digit value) ≡ Some value
hex_value-hex_digit value h = grind (arith, nat_tests)

if_escaped-found : (octet found : ℕ) (plain : Bool) → is_plain octet ≡ plain
    → cond plain None (Some octet) ≡ Some found → (found ≡ octet) × (is_plain octet ≡ false)
if_escaped-found octet found true e k = absurd cc
if_escaped-found octet found false e k = (cc, e)

pub escaped_value-found : (high low octet : ℕ) → escaped_value high low ≡ Some octet
    → (hex_pair octet ≡ high ∷ low ∷ []) × (is_plain octet ≡ false)
escaped_value-found high low octet e =
    option_and_then_some if_escaped (hex_pair_value high low) octet e
    (λ whole digits k.
    option_and_then_some (λ h. option_map (λ l. h * 16 + l) (hex_value low)) (hex_value high)
    whole digits
    (λ h high_is digits'.
    option_map-found (λ l. h * 16 + l) (hex_value low) whole digits'
    (λ l low_is sum.
    let first = hex_value-found high h high_is in
    let second = hex_value-found low l low_is in
    let found = if_escaped-found whole octet _ refl k in
    let quotient : octet / 16 ≡ h = omega arith in
    let rest : octet % 16 ≡ l = omega arith in (
      (λ i. hex_digit (quotient i) ∷ hex_digit (rest i) ∷ [])
          ∙ (λ i. first.1 i ∷ second.1 i ∷ []),
      ap is_plain found.0 ∙ found.1,
    ))))

pub escaped_value-hex_pair : (octet : ℕ) → octet < 256 → is_plain octet ≡ false
    → escaped_value (hex_digit (octet / 16)) (hex_digit (octet % 16)) ≡ Some octet
escaped_value-hex_pair octet h e =
    let quotient : octet / 16 < 16 = omega arith in
    let rest : octet % 16 < 16 = omega arith in
    let whole : octet / 16 * 16 + octet % 16 ≡ octet = omega arith in
    rw (hex_value-hex_digit (octet / 16) quotient, hex_value-hex_digit (octet % 16) rest, whole, e)
    refl

-- an octet that stands for itself, and one that is escaped
unescaped-plain : (octet : ℕ) (rest : List ℕ) → is_plain octet ≡ true
    → unescaped (octet ∷ rest) ≡ before_octets octet (unescaped rest)
unescaped-plain octet rest e = rw e refl

unescaped-escaped_octet : (octet : ℕ) (rest : List ℕ) (plain : Bool) → is_plain octet ≡ plain
    → octet < 256 → unescaped (escaped_octet octet ++ rest) ≡ before_octets octet (unescaped rest)
unescaped-escaped_octet octet rest true e h = rw e (unescaped-plain octet rest e)
unescaped-escaped_octet octet rest false e h = rw (e, escaped_value-hex_pair octet h e) refl

pub unescaped-escaped_text : (octets : List ℕ) → list_all is_octet octets ≡ true
    → unescaped (escaped_text octets) ≡ Some octets
unescaped-escaped_text [] h = refl
unescaped-escaped_text (octet ∷ rest) h =
    let parts = and_parts (is_octet octet) _ h in
    unescaped-escaped_octet octet (escaped_text rest) _ refl (grind (arith, nat_tests, parts.0))
    ∙ ap (before_octets octet) (unescaped-escaped_text rest parts.1)

-- octets before which one was put
pub before_octets-found : {P : Type 0} (octet : ℕ) (rest : Option (List ℕ)) (octets : List ℕ)
    → before_octets octet rest ≡ Some octets
    → ((others : List ℕ) → rest ≡ Some others → octets ≡ octet ∷ others → P) → P
before_octets-found octet None octets e k = absurd cc
before_octets-found octet (Some others) octets e k = k others refl cc

-- the octets stand behind this text
abbrev IsSpelled : Option (List ℕ) → List ℕ → Type 0
IsSpelled found escaped = (octets : List ℕ) → found ≡ Some octets → escaped ≡ escaped_text octets

escaped_text-plain : (octet : ℕ) (rest : List ℕ) → is_plain octet ≡ true
    → escaped_text (octet ∷ rest) ≡ octet ∷ escaped_text rest
escaped_text-plain octet rest e = rw e refl

escaped_text-escaped : (octet high low : ℕ) (rest : List ℕ) → is_plain octet ≡ false
    → hex_pair octet ≡ high ∷ low ∷ []
    → escaped_text (octet ∷ rest) ≡ 37 ∷ high ∷ low ∷ escaped_text rest
escaped_text-escaped octet high low rest e k =
    rw e (ap (λ (pair : List ℕ). (37 ∷ pair) ++ escaped_text rest) k)

behind_percent : (first : ℕ) (rest : List ℕ) (is_percent : Bool) → eqb first 37 ≡ is_percent
    → IsSpelled (unescaped_high rest) (37 ∷ rest)
    → IsSpelled (cond is_percent (unescaped_high rest) None) (first ∷ rest)
behind_percent first rest true e high octets k =
    let percent : first ≡ 37 = grind (arith, nat_tests) in
    ap (λ octet. octet ∷ rest) percent ∙ high octets k
behind_percent first rest false e high octets k = absurd cc

first_found : (first : ℕ) (rest : List ℕ) (plain : Bool) → is_plain first ≡ plain
    → IsSpelled (unescaped rest) rest → IsSpelled (unescaped_high rest) (37 ∷ rest)
    → IsSpelled
    (cond plain (before_octets first (unescaped rest))
    (cond (eqb first 37) (unescaped_high rest) None)) (first ∷ rest)
first_found first rest true e others high octets k =
    before_octets-found first (unescaped rest) octets k
    (λ after is_after whole. ap (λ t. first ∷ t) (others after is_after)
    ∙ sym (escaped_text-plain first after e) ∙ ap escaped_text (sym whole))
first_found first rest false e others high octets k = behind_percent first rest _ refl high octets k

mutual
  pub unescaped-found : (escaped octets : List ℕ) → unescaped escaped ≡ Some octets
      → escaped ≡ escaped_text octets
  unescaped-found [] octets e = let none : [] ≡ octets = cc in ap escaped_text none
  unescaped-found (first ∷ rest) octets e =
      first_found first rest _ refl (λ o k. unescaped-found rest o k)
      (λ o k. unescaped_high-found rest o k) octets e

  unescaped_high-found : (escaped octets : List ℕ) → unescaped_high escaped ≡ Some octets
      → 37 ∷ escaped ≡ escaped_text octets
  unescaped_high-found [] octets e = absurd cc
  unescaped_high-found (high ∷ rest) octets e = unescaped_low-found rest high octets e

  unescaped_low-found : (escaped : List ℕ) (high : ℕ) (octets : List ℕ)
      → unescaped_low escaped high ≡ Some octets → 37 ∷ high ∷ escaped ≡ escaped_text octets
  unescaped_low-found [] high octets e = absurd cc
  unescaped_low-found (low ∷ rest) high octets e =
      option_and_then_some (λ octet. before_octets octet (unescaped rest)) (escaped_value high low)
      octets e
      (λ octet digits k.
      before_octets-found octet (unescaped rest) octets k
      (λ after is_after whole.
      let pair = escaped_value-found high low octet digits in
      ap (λ t. 37 ∷ high ∷ low ∷ t) (unescaped-found rest after is_after)
      ∙ sym (escaped_text-escaped octet high low after pair.1 pair.0)
      ∙ ap escaped_text (sym whole)))
