-- How far a word goes on is as far as it stands at the front of the text of a datum: what may
-- come behind each state, and that no state goes wrong.
use Rattle.std.proofs.Common.{◌≡◌, ◌≢◌, ◌⊎◌, ℕ, zero, suc, ◌+◌, ◌-◌, ◌*◌, ◌/◌, ◌%◌, ◌^◌, ◌<◌, ◌≤◌}
use Rattle.std.proofs.Common.{Bool, true, false, cond, ◌==◌, nat_le, min, List, [], ◌∷◌, ◌++◌, length}
use Rattle.std.proofs.Common.{take, get_or, Option, Some, None, option_map, ℤ, pos, negsuc, decimal}
use Rattle.std.proofs.Common.{refl, sym, ap, ◌∙◌, inl, inr, subst, arith}
use Rattle.std.specs.Fmt.{signed_decimal}
use Rattle.std.specs.Option.{option_and_then}
use Rattle.std.specs.List.{list_all}
use Rattle.std.specs.Int.{is_in_range}
use Rattle.std.specs.Char.{is_ascii_digit, digit_value}
use Rattle.std.specs.Str.Parse.{AllDigits, digits_value, digits_value_after}
use Rattle.std.specs.Int.{w64}
use Rattle.std.specs.Int.RustNames.{FitsSigned}
use Rattle.std.proofs.lemmas.Bool.{and_parts}
use Rattle.std.proofs.lemmas.Bool.Decides.{nat_tests}
use Rattle.std.proofs.lemmas.Fmt.{decimal_is_IsNumeral, decimal_digit, first_decimal}
use Rattle.std.proofs.lemmas.Fmt.{decimal-digits_value}
use Rattle.std.proofs.lemmas.Option.{option_and_then_some}
use Rattle.std.proofs.lemmas.Str.{digit_value_digit}
use Rattle.std.proofs.lemmas.Str.Parse.{IsNumeralModel, numerals_by_value, tells_digits}
use Rattle.std.proofs.lemmas.Str.Parse.{digit_from_value}
use Rattle.plain_text.specs.Numbers.{if_passes, hex_value}
use Rattle.plain_text.specs.Octets.{hex_digit}
use Rattle.plain_text.specs.Escaped.{is_plain, unescaped, unescaped_high, unescaped_low}
use Rattle.plain_text.specs.Escaped.{escaped_value, before_octets, escaped_text}
use Rattle.plain_text.proofs.EscapedText.{option_map-found, unescaped-found, escaped_value-found}
use Rattle.plain_text.proofs.EscapedText.{before_octets-found}
use Rattle.plain_text.proofs.Decimal.{digits_value_after-ge}
use Rattle.ber_values.specs.Visible.{is_visible_octet}
use Rattle.mms_data.proofs.OfText.WordText.{passes, is_same, chosen}
use Rattle.mms_data.specs.declared.text.word_front.Next.{Next}
use Rattle.mms_data.specs.declared.text.word_front.Next.TheVariants as next
use Rattle.mms_data.specs.Text.WordFront.{next_of, next_digit, digits_next, number_next, integer_next}
use Rattle.mms_data.specs.Text.WordFront.{negative_next, count_next, point_next, counted_next}
use Rattle.mms_data.specs.Text.WordFront.{padded_next, hex_next, text_next, high_next, low_next}
use Rattle.mms_data.specs.Text.WordFront.{and_behind, front_of}

-- where octets may stand behind an octet
abbrev pub PassesIn : (Next → Type 0) → Option Next → Type 0
PassesIn P None = ⊥
PassesIn P (Some s) = P s

-- octets may stand one after another
abbrev pub Passes : List ℕ → Next → Type 0
Passes [] s = Unit {0}
Passes (c ∷ cs) s = PassesIn (λ t. Passes cs t) (next_of s c)

in_far : (n : ℕ) (P : Next → Type 0) (count : Next → ℕ) → ((t : Next) → P t → n ≤ count t)
    → (o : Option Next) → PassesIn P o → suc n ≤ and_behind count o
in_far n P count each None p = absurd p
in_far n P count each (Some t) p = omega (arith, each t p)

pub passes_far : (xs others : List ℕ) (s : Next) → Passes xs s
    → length xs ≤ front_of (xs ++ others) s
passes_far [] others s p = omega arith
passes_far (x ∷ xs) others s p =
    in_far (length xs) (λ t. Passes xs t) (λ t. front_of (xs ++ others) t)
    (λ t q. passes_far xs others t q) (next_of s x) p

in_as : (P Q : Next → Type 0) → ((t : Next) → P t → Q t) → (o : Option Next) → PassesIn P o
    → PassesIn Q o
in_as P Q each None p = p
in_as P Q each (Some t) p = each t p

pub passes_front : (xs ys : List ℕ) (s : Next) → Passes (xs ++ ys) s → Passes xs s
passes_front [] ys s p = tt
passes_front (x ∷ xs) ys s p =
    in_as (λ t. Passes (xs ++ ys) t) (λ t. Passes xs t) (λ t q. passes_front xs ys t q)
    (next_of s x) p

front_in : (x : ℕ) (xs : List ℕ) (s : Next) → ((t : Next) → Passes (take (front_of xs t) xs) t)
    → (o : Option Next) → next_of s x ≡ o
    → Passes (take (and_behind (λ t. front_of xs t) o) (x ∷ xs)) s
front_in x xs s each None e = tt
front_in x xs s each (Some t) e =
    subst (λ (p : Option Next). PassesIn (λ u. Passes (take (front_of xs t) xs) u) p) (sym e)
    (each t)

pub front_passes : (xs : List ℕ) (s : Next) → Passes (take (front_of xs s) xs) s
front_passes [] s = tt
front_passes (x ∷ xs) s = front_in x xs s (λ t. front_passes xs t) (next_of s x) refl

in_within : (n : ℕ) (count : Next → ℕ) → ((t : Next) → count t ≤ n) → (o : Option Next)
    → and_behind count o ≤ suc n
in_within n count each None = omega arith
in_within n count each (Some t) = omega (arith, each t)

pub front_of_within : (xs : List ℕ) (s : Next) → front_of xs s ≤ length xs
front_of_within [] s = omega arith
front_of_within (x ∷ xs) s =
    in_within (length xs) (λ t. front_of xs t) (λ t. front_of_within xs t) (next_of s x)

-- Decimal digits.

own : IsNumeralModel (AllDigits 10) (digits_value 10)
own = numerals_by_value (AllDigits 10) tells_digits

-- further digits of a number up to a limit
pub record FitsDigits (limit number : ℕ) (ys : List ℕ) : Type 0 where
  pub digits : AllDigits 10 ys
  pub few : digits_value_after 10 number ys ≤ limit
  pub small : digits_value_after 10 number ys < 2 ^ 64

-- a number up to a limit
pub record FitsNumber (limit : ℕ) (ys : List ℕ) : Type 0 where
  pub number : ℕ
  pub few : number ≤ limit
  pub small : number < 2 ^ 64
  pub spelled : ys ≡ decimal number

digit_of : (c : ℕ) → 48 ≤ c → c ≤ 57 → digit_value c ≡ c - 48
digit_of c low high = omega (arith, digit_value_digit c (low, high))

next_digit-is : (limit number c : ℕ) → 48 ≤ c → c ≤ 57 → number * 10 + (c - 48) ≤ limit
    → next_digit limit number c ≡ Some (number * 10 + (c - 48))
next_digit-is limit number c low high few =
    let digit : is_ascii_digit c ≡ true = grind (arith, nat_tests, low, high) in
    let most : nat_le (number * 10 + (c - 48)) limit ≡ true = grind (arith, nat_tests, few) in
    rw (digit, most) refl

-- what a digit that may stand next is
record IsNextDigit (limit number c longer : ℕ) : Type 0 where
  pub low : 48 ≤ c
  pub high : c ≤ 57
  pub is : longer ≡ number * 10 + (c - 48)
  pub few : longer ≤ limit

next_digit-by : (limit number c longer : ℕ) (digit most : Bool) → is_ascii_digit c ≡ digit
    → nat_le (number * 10 + (c - 48)) limit ≡ most
    → cond digit (cond most (Some (number * 10 + (c - 48))) None) None ≡ Some longer
    → IsNextDigit limit number c longer
next_digit-by limit number c longer false most d m e = absurd cc
next_digit-by limit number c longer true false d m e = absurd cc
next_digit-by limit number c longer true true d m e =
    let same : longer ≡ number * 10 + (c - 48) = cc in
    record {
      low = grind (arith, nat_tests, d);
      high = grind (arith, nat_tests, d);
      is = same;
      few = grind (arith, nat_tests, m, same);
    }

next_digit-found : (limit number c longer : ℕ) → next_digit limit number c ≡ Some longer
    → IsNextDigit limit number c longer
next_digit-found limit number c longer e = next_digit-by limit number c longer _ _ refl refl e

digits_behind : (limit number c : ℕ) (cs : List ℕ) → FitsDigits limit number (c ∷ cs)
    → FitsDigits limit (number * 10 + (c - 48)) cs
digits_behind limit number c cs f =
    let k = digit_from_value c f.digits.0 in
    let value : number * 10 + digit_value c ≡ number * 10 + (c - 48) =
    omega (arith, digit_value_digit c k) in
    subst (λ (n : ℕ). FitsDigits limit n cs) value
    (record { digits = f.digits.1; few = f.few; small = f.small })

digits_before : (limit number c longer : ℕ) (cs : List ℕ) → IsNextDigit limit number c longer
    → FitsDigits limit longer cs → FitsDigits limit number (c ∷ cs)
digits_before limit number c longer cs d f =
    let value : longer ≡ number * 10 + digit_value c =
    omega (arith, d.is, digit_of c d.low d.high) in
    let g : FitsDigits limit (number * 10 + digit_value c) cs =
    subst (λ (n : ℕ). FitsDigits limit n cs) value f in
    record {
      digits = (omega (arith, digit_of c d.low d.high, d.high), g.digits);
      few = g.few;
      small = g.small;
    }

digits_step : (limit number c : ℕ) (cs : List ℕ) → FitsDigits limit number (c ∷ cs)
    → next_digit limit number c ≡ Some (number * 10 + (c - 48))
digits_step limit number c cs f =
    let k = digit_from_value c f.digits.0 in
    let g = digits_behind limit number c cs f in
    next_digit-is limit number c (omega (arith, k)) (omega (arith, k))
    (omega (arith, g.few, digits_value_after-ge (number * 10 + (c - 48)) cs))

-- a number is zero, or its first digit is none
positive : (limit n c : ℕ) (cs : List ℕ) → 0 < n → n ≤ limit → n < 2 ^ 64 → c ∷ cs ≡ decimal n
    → (48 < c) × FitsDigits limit 0 (c ∷ cs)
positive limit n c cs some few small e =
    let numeral = decimal_is_IsNumeral n small in
    let value : digits_value 10 (c ∷ cs) ≡ n = ap (digits_value 10) e ∙ numeral.1 in (
      omega (arith, first_decimal n some small, ap (λ ds. get_or ds 0 0) e),
      record {
        digits = subst (λ (ds : List ℕ). AllDigits 10 ds) (sym e) numeral.0.1;
        few = omega (arith, value, few);
        small = omega (arith, value, small);
      },
    )

zero_or : (limit n c : ℕ) (cs : List ℕ) → n ≤ limit → n < 2 ^ 64 → c ∷ cs ≡ decimal n
    → ((c ≡ 48) × (cs ≡ [])) ⊎ ((48 < c) × FitsDigits limit 0 (c ∷ cs))
zero_or limit zero c cs few small e =
    let same : c ∷ cs ≡ 48 ∷ [] = e ∙ decimal_digit 0 (omega arith) in inl (cc, cc)
zero_or limit (suc n) c cs few small e =
    inr (positive limit (suc n) c cs (omega arith) few small e)

number_from : (limit c : ℕ) (cs : List ℕ) → 48 < c → FitsDigits limit 0 (c ∷ cs)
    → c ∷ cs ≡ decimal (digits_value 10 (c ∷ cs))
number_from limit c cs some f =
    sym (decimal-digits_value own (c ∷ cs) f.digits (omega arith)
    (λ e. absurd (omega (arith, e, some))) f.small)

fits_number : (limit c : ℕ) (cs : List ℕ) → 48 < c → FitsDigits limit 0 (c ∷ cs)
    → FitsNumber limit (c ∷ cs)
fits_number limit c cs some f = record {
  number = digits_value 10 (c ∷ cs);
  few = f.few;
  small = f.small;
  spelled = number_from limit c cs some f;
}

fits_zero : (limit : ℕ) → FitsNumber limit (48 ∷ [])
fits_zero limit = record {
  number = 0;
  few = omega arith;
  small = omega arith;
  spelled = sym (decimal_digit 0 (omega arith));
}

-- Hexadecimal digits.

abbrev pub AllHex : List ℕ → Type 0
AllHex [] = Unit {0}
AllHex (c ∷ cs) = ((v : ℕ) × (hex_value c ≡ Some v)) × AllHex cs

-- so many digits of so many bits, of which those past the last one are zero
abbrev pub Padded : ℕ → ℕ → List ℕ → Type 0
Padded b zero [] = Unit {0}
Padded b zero (c ∷ cs) = ⊥
Padded b (suc n) [] = ⊥
Padded b (suc n) (c ∷ cs) =
    ((v : ℕ) × (hex_value c ≡ Some v) × (v % 2 ^ (4 - min b 4) ≡ 0)) × Padded (b - 4) n cs

-- What may come behind a state to the end of a word.

pub record FitsCount (ys : List ℕ) : Type 0 where
  pub number : ℕ
  pub small : number < 2 ^ 64
  pub digits : List ℕ
  pub padded : Padded number (2 * ((number + 7) / 8)) digits
  pub spelled : ys ≡ decimal number ++ 46 ∷ digits

pub record FitsCounted (number : ℕ) (ys : List ℕ) : Type 0 where
  pub word : List ℕ
  pub counts : FitsDigits (2 ^ 64 - 1) number word
  pub digits : List ℕ
  pub padded : Padded (digits_value_after 10 number word)
      (2 * ((digits_value_after 10 number word + 7) / 8)) digits
  pub spelled : ys ≡ word ++ 46 ∷ digits

-- octets of text that are read, so many at most
pub record FitsText (read : Option (List ℕ)) (room : ℕ) : Type 0 where
  pub octets : List ℕ
  pub is : read ≡ Some octets
  pub visible : list_all is_visible_octet octets ≡ true
  pub few : length octets ≤ room

abbrev pub Fits : Next → List ℕ → Type 0
Fits next.Nothing ys = ys ≡ []
Fits next.Integer ys = (z : ℤ) × FitsSigned w64 z × (ys ≡ signed_decimal z)
Fits next.Negative ys = (n : ℕ) × (n < 2 ^ 63) × (ys ≡ decimal (suc n))
Fits (next.Number limit) ys = FitsNumber limit ys
Fits (next.Digits limit number) ys = FitsDigits limit number ys
Fits next.Count ys = FitsCount ys
Fits next.Point ys = ys ≡ 46 ∷ []
Fits (next.Counted number) ys = FitsCounted number ys
Fits (next.Padded b n) ys = Padded b n ys
Fits (next.Hexadecimal room) ys = (length ys ≡ room) × AllHex ys
Fits next.Pairs ys = AllHex ys
Fits (next.Text room) ys = FitsText (unescaped ys) room
Fits (next.High room) ys = FitsText (unescaped_high ys) (suc room)
Fits (next.Low room high) ys = FitsText (unescaped_low ys high) (suc room)

-- one octet more
pub record Steps (o : Option Next) (cs : List ℕ) : Type 0 where
  pub state : Next
  pub is : o ≡ Some state
  pub fits : Fits state cs

same_test : (a b : ℕ) → a ≡ b → (a == b) ≡ true
same_test a b e = grind (arith, nat_tests)

other_test : (a b : ℕ) → a ≢ b → (a == b) ≡ false
other_test a b e = grind (arith, nat_tests)

digits_steps : (limit number c : ℕ) (cs : List ℕ) → FitsDigits limit number (c ∷ cs)
    → Steps (digits_next limit number c) cs
digits_steps limit number c cs f = record {
  state = next.Digits limit (number * 10 + (c - 48));
  is = ap (option_map (λ n. next.Digits limit n)) (digits_step limit number c cs f);
  fits = digits_behind limit number c cs f;
}

number_steps : (limit n c : ℕ) (cs : List ℕ) → n ≤ limit → n < 2 ^ 64 → c ∷ cs ≡ decimal n
    → Steps (number_next limit c) cs
number_steps limit n c cs few small e =
    elim (zero_or limit n c cs few small e) [
      | inl zero_is ↦
          record { state = next.Nothing; is = rw (same_test c 48 zero_is.0) refl; fits = zero_is.1 }
      | inr some ↦
          let s = digits_steps limit 0 c cs some.1 in
          let other : (c == 48) ≡ false = other_test c 48 (λ e. omega (arith, e, some.0)) in
          record { state = s.state; is = rw other s.is; fits = s.fits }
    ]

first_digit : (n c : ℕ) (cs : List ℕ) → n < 2 ^ 64 → c ∷ cs ≡ decimal n → 48 ≤ c
first_digit n c cs small e =
    let digits : AllDigits 10 (c ∷ cs) =
    subst (λ (ds : List ℕ). AllDigits 10 ds) (sym e) (decimal_is_IsNumeral n small).0.1 in
    omega (arith, digit_from_value c digits.0)

integer_steps : (z : ℤ) (c : ℕ) (cs : List ℕ) → FitsSigned w64 z → c ∷ cs ≡ signed_decimal z
    → Steps (integer_next c) cs
integer_steps (pos n) c cs fits e =
    let small : n < 2 ^ 64 = omega (arith, fits) in
    let s = number_steps (2 ^ 63 - 1) n c cs (omega (arith, fits)) small e in
    let other : (c == 45) ≡ false = other_test c 45
    (λ k. omega (arith, k, first_digit n c cs small e)) in
    record { state = s.state; is = rw other s.is; fits = s.fits }
integer_steps (negsuc n) c cs fits e =
    let minus : c ≡ 45 = cc in
    let rest : cs ≡ decimal (suc n) = cc in
    record {
      state = next.Negative;
      is = rw (same_test c 45 minus) refl;
      fits = (n, omega (arith, fits), rest);
    }

negative_steps : (n c : ℕ) (cs : List ℕ) → n < 2 ^ 63 → c ∷ cs ≡ decimal (suc n)
    → Steps (negative_next c) cs
negative_steps n c cs small e =
    let p = positive (2 ^ 63) (suc n) c cs (omega arith) (omega (arith, small))
    (omega (arith, small)) e in
    let s = digits_steps (2 ^ 63) 0 c cs p.1 in
    let other : (c == 48) ≡ false = other_test c 48 (λ k. omega (arith, k, p.0)) in
    record { state = s.state; is = rw other s.is; fits = s.fits }

no_digits : (digits : List ℕ) → Padded 0 0 digits → digits ≡ []
no_digits [] p = refl
no_digits (c ∷ cs) p = absurd p

digit_more : (number c : ℕ) (word digits : List ℕ)
    → (f : FitsDigits (2 ^ 64 - 1) number (c ∷ word))
    → Padded (digits_value_after 10 number (c ∷ word))
    (2 * ((digits_value_after 10 number (c ∷ word) + 7) / 8)) digits
    → FitsCounted (number * 10 + (c - 48)) (word ++ 46 ∷ digits)
digit_more number c word digits f p =
    let k = digit_from_value c f.digits.0 in
    let value : number * 10 + digit_value c ≡ number * 10 + (c - 48) =
    omega (arith, digit_value_digit c k) in
    record {
      word = word;
      counts = digits_behind (2 ^ 64 - 1) number c word f;
      digits = digits;
      padded = subst (λ (n : ℕ). Padded (digits_value_after 10 n word)
          (2 * ((digits_value_after 10 n word + 7) / 8)) digits) value p;
      spelled = refl;
    }

count_steps : (n c : ℕ) (cs ds digits : List ℕ) → n < 2 ^ 64
    → Padded n (2 * ((n + 7) / 8)) digits → ds ≡ decimal n → c ∷ cs ≡ ds ++ 46 ∷ digits
    → Steps (count_next c) cs
count_steps n c cs [] digits small p is e =
    absurd (omega (arith, ap length is, (decimal_is_IsNumeral n small).0.0))
count_steps n c cs (a ∷ rs) digits small p is e =
    let first : c ≡ a = cc in
    let rest : cs ≡ rs ++ 46 ∷ digits = cc in
    elim (zero_or (2 ^ 64 - 1) n a rs (omega (arith, small)) small is) [
      | inl zero_is ↦
          let none : n ≡ 0 = sym (decimal_is_IsNumeral n small).1
          ∙ ap (digits_value 10) (sym is ∙ (λ i. zero_is.0 i ∷ zero_is.1 i)) in
          let empty : digits ≡ [] = no_digits digits
          (subst (λ (m : ℕ). Padded m (2 * ((m + 7) / 8)) digits) none p) in
          record {
            state = next.Point;
            is = rw (same_test c 48 (first ∙ zero_is.0)) refl;
            fits = rest ∙ (λ i. zero_is.1 i ++ 46 ∷ empty i);
          }
      | inr some ↦
          let f = some.1 in
          let other : (c == 48) ≡ false =
          other_test c 48 (λ k. omega (arith, k, first, some.0)) in
          let value : n ≡ digits_value 10 (a ∷ rs) =
          sym (decimal_is_IsNumeral n small).1 ∙ ap (digits_value 10) (sym is) in
          let digit = ap (option_map next.Counted) (digits_step (2 ^ 64 - 1) 0 a rs f) in
          record {
            state = next.Counted (0 * 10 + (a - 48));
            is = rw other (ap (λ o. option_map next.Counted (next_digit (2 ^ 64 - 1) 0 o)) first
                ∙ digit);
            fits = subst (λ (t : List ℕ). FitsCounted (0 * 10 + (a - 48)) t) (sym rest)
                (digit_more 0 a rs digits f
                (subst (λ (m : ℕ). Padded m (2 * ((m + 7) / 8)) digits) value p));
          }
    ]

counted_steps : (number c : ℕ) (cs word digits : List ℕ) → FitsDigits (2 ^ 64 - 1) number word
    → Padded (digits_value_after 10 number word)
    (2 * ((digits_value_after 10 number word + 7) / 8)) digits → c ∷ cs ≡ word ++ 46 ∷ digits
    → Steps (counted_next number c) cs
counted_steps number c cs [] digits f p e =
    let point : c ≡ 46 = cc in
    let rest : cs ≡ digits = cc in
    record {
      state = next.Padded number (2 * ((number + 7) / 8));
      is = rw (same_test c 46 point) refl;
      fits = subst (λ (t : List ℕ). Padded number (2 * ((number + 7) / 8)) t) (sym rest) p;
    }
counted_steps number c cs (a ∷ rs) digits f p e =
    let first : c ≡ a = cc in
    let rest : cs ≡ rs ++ 46 ∷ digits = cc in
    let k = digit_from_value a f.digits.0 in
    let other : (c == 46) ≡ false = other_test c 46 (λ q. omega (arith, q, first, k)) in
    record {
      state = next.Counted (number * 10 + (a - 48));
      is = rw other (ap (λ o. option_map next.Counted (next_digit (2 ^ 64 - 1) number o)) first
          ∙ ap (option_map next.Counted) (digits_step (2 ^ 64 - 1) number a rs f));
      fits = subst (λ (t : List ℕ). FitsCounted (number * 10 + (a - 48)) t) (sym rest)
          (digit_more number a rs digits f p);
    }

point_steps : (c : ℕ) (cs : List ℕ) → c ∷ cs ≡ 46 ∷ [] → Steps (point_next c) cs
point_steps c cs e =
    let point : c ≡ 46 = cc in
    let rest : cs ≡ [] = cc in
    record {
      state = next.Padded 0 0;
      is = rw (same_test c 46 point) refl;
      fits = subst (λ (t : List ℕ). Padded 0 0 t) (sym rest) tt;
    }

padded_steps : (b n c : ℕ) (cs : List ℕ) → Padded b n (c ∷ cs) → Steps (padded_next b n c) cs
padded_steps b zero c cs p = absurd p
padded_steps b (suc n) c cs p =
    let test : (p.0.0 % 2 ^ (4 - min b 4) == 0) ≡ true = same_test _ _ p.0.2 in
    let less : suc n - 1 ≡ n = omega arith in
    let some : (suc n == 0) ≡ false = other_test (suc n) 0 (λ e. omega (arith, e)) in
    record {
      state = next.Padded (b - 4) n;
      is = rw (some, p.0.1, test) (ap (λ m. Some (next.Padded (b - 4) m)) less);
      fits = p.1;
    }

hex_steps : (room c : ℕ) (cs : List ℕ) → length (c ∷ cs) ≡ room → AllHex (c ∷ cs)
    → Steps (hex_next room c) cs
hex_steps room c cs e h =
    let some : (room == 0) ≡ false = other_test room 0 (λ k. omega (arith, k, e)) in
    record {
      state = next.Hexadecimal (room - 1);
      is = rw (some, h.0.1) refl;
      fits = (omega (arith, e), h.1);
    }

-- Text.

text_steps-by : (room c : ℕ) (cs os : List ℕ) (plain percent : Bool) → is_plain c ≡ plain
    → (c == 37) ≡ percent
    → cond plain (before_octets c (unescaped cs)) (cond percent (unescaped_high cs) None)
    ≡ Some os
    → list_all is_visible_octet os ≡ true → length os ≤ room → 0 < room
    → Steps (cond plain (Some (next.Text (room - 1)))
    (cond percent (Some (next.High (room - 1))) None)) cs
text_steps-by room c cs os true percent p q e visible few some =
    before_octets-found c (unescaped cs) os e (λ others others_is whole.
    let v : list_all is_visible_octet (c ∷ others) ≡ true =
    ap (list_all is_visible_octet) (sym whole) ∙ visible in
    record {
      state = next.Text (room - 1);
      is = refl;
      fits = record {
        octets = others;
        is = others_is;
        visible = (and_parts _ _ v).1;
        few = omega (arith, few, ap length whole);
      };
    })
text_steps-by room c cs os false true p q e visible few some = record {
  state = next.High (room - 1);
  is = refl;
  fits = record { octets = os; is = e; visible = visible; few = omega (arith, few, some) };
}
text_steps-by room c cs os false false p q e visible few some = absurd cc

some_read : (c : ℕ) (cs os : List ℕ) → unescaped (c ∷ cs) ≡ Some os → 0 < length os
some_read c cs [] e = let k : c ∷ cs ≡ escaped_text [] = unescaped-found (c ∷ cs) [] e in absurd cc
some_read c cs (o ∷ os) e = omega arith

text_steps : (room c : ℕ) (cs : List ℕ) → FitsText (unescaped (c ∷ cs)) room
    → Steps (text_next room c) cs
text_steps room c cs f =
    let some : 0 < room = omega (arith, some_read c cs f.octets f.is, f.few) in
    let test : (room == 0) ≡ false = other_test room 0 (λ e. omega (arith, e, some)) in
    let s = text_steps-by room c cs f.octets _ _ refl refl f.is f.visible f.few some in
    record { state = s.state; is = rw test s.is; fits = s.fits }

low_digit : (q : ℕ) → q < 10 → hex_digit q ≡ 48 + q
low_digit q h = grind (arith, nat_tests)

low_visible : (high low octet : ℕ) → escaped_value high low ≡ Some octet
    → is_visible_octet octet ≡ true → (50 ≤ high) × (high ≤ 55)
low_visible high low octet e v =
    let pair = (escaped_value-found high low octet e).0 in
    let first : hex_digit (octet / 16) ≡ high = cc in
    let least : 32 ≤ octet = grind (arith, nat_tests, v) in
    let most : octet ≤ 126 = grind (arith, nat_tests, v) in
    let digit = low_digit (octet / 16) (omega (arith, most)) in
    (omega (arith, first, digit, least), omega (arith, first, digit, most))

-- an escaped octet of text
record FitsLow (high low : ℕ) (cs octets : List ℕ) : Type 0 where
  pub octet : ℕ
  pub others : List ℕ
  pub value : escaped_value high low ≡ Some octet
  pub rest : unescaped cs ≡ Some others
  pub whole : octets ≡ octet ∷ others

low_found : (high low : ℕ) (cs octets : List ℕ) → unescaped_low (low ∷ cs) high ≡ Some octets
    → FitsLow high low cs octets
low_found high low cs octets e =
    option_and_then_some (λ octet. before_octets octet (unescaped cs)) (escaped_value high low)
    octets e
    (λ octet value k. before_octets-found octet (unescaped cs) octets k
    (λ others rest whole.
    record { octet = octet; others = others; value = value; rest = rest; whole = whole }))

first_visible : (octet : ℕ) (others octets : List ℕ) → octets ≡ octet ∷ others
    → list_all is_visible_octet octets ≡ true
    → (is_visible_octet octet ≡ true) × (list_all is_visible_octet others ≡ true)
first_visible octet others octets e v =
    and_parts _ _ (ap (list_all is_visible_octet) (sym e) ∙ v)

high_steps : (room c : ℕ) (cs : List ℕ) → FitsText (unescaped_high (c ∷ cs)) (suc room)
    → Steps (high_next room c) cs
high_steps room c [] f = let k = f.is in absurd cc
high_steps room c (low ∷ cs) f =
    let l = low_found c low cs f.octets f.is in
    let v = first_visible l.octet l.others f.octets l.whole f.visible in
    let range = low_visible c low l.octet l.value v.0 in
    let test : is_in_range 50 55 c ≡ true = grind (arith, nat_tests, range.0, range.1) in
    record { state = next.Low room c; is = rw test refl; fits = f }

low_steps : (room high c : ℕ) (cs : List ℕ) → FitsText (unescaped_low (c ∷ cs) high) (suc room)
    → Steps (low_next room high c) cs
low_steps room high c cs f =
    let l = low_found high c cs f.octets f.is in
    let v = first_visible l.octet l.others f.octets l.whole f.visible in
    record {
      state = next.Text room;
      is = rw (l.value, v.0) refl;
      fits = record {
        octets = l.others;
        is = l.rest;
        visible = v.1;
        few = omega (arith, f.few, ap length l.whole);
      };
    }

pub steps : (s : Next) (c : ℕ) (cs : List ℕ) → Fits s (c ∷ cs) → Steps (next_of s c) cs
steps next.Nothing c cs f = absurd cc
steps next.Integer c cs f = integer_steps f.0 c cs f.1 f.2
steps next.Negative c cs f = negative_steps f.0 c cs f.1 f.2
steps (next.Number limit) c cs f = number_steps limit f.number c cs f.few f.small f.spelled
steps (next.Digits limit number) c cs f = digits_steps limit number c cs f
steps next.Count c cs f = count_steps f.number c cs (decimal f.number) f.digits f.small f.padded refl
    f.spelled
steps next.Point c cs f = point_steps c cs f
steps (next.Counted number) c cs f = counted_steps number c cs f.word f.digits f.counts f.padded
    f.spelled
steps (next.Padded b n) c cs f = padded_steps b n c cs f
steps (next.Hexadecimal room) c cs f = hex_steps room c cs f.0 f.1
steps next.Pairs c cs f = record {
  state = next.Pairs;
  is = ap (option_map (λ v. next.Pairs)) f.0.1;
  fits = f.1;
}
steps (next.Text room) c cs f = text_steps room c cs f
steps (next.High room) c cs f = high_steps room c cs f
steps (next.Low room high) c cs f = low_steps room high c cs f

-- what fits may stand
pub fits_passes : (ys : List ℕ) (s : Next) → Fits s ys → Passes ys s
fits_passes [] s f = tt
fits_passes (c ∷ cs) s f =
    let k = steps s c cs f in
    subst (λ (o : Option Next). PassesIn (λ t. Passes cs t) o) (sym k.is)
    (fits_passes cs k.state k.fits)

-- A state that an octet leads to, and what may come behind it.

-- what is known of states that are reached
abbrev pub Lives : Next → Type 0
Lives (next.Number limit) = limit < 2 ^ 64
Lives (next.Digits limit number) = (limit < 2 ^ 64) × (number ≤ limit)
Lives (next.Counted number) = number < 2 ^ 64
Lives (next.Low room high) = (50 ≤ high) × (high ≤ 55)
Lives next.Nothing = Unit {0}
Lives next.Integer = Unit {0}
Lives next.Negative = Unit {0}
Lives next.Count = Unit {0}
Lives next.Point = Unit {0}
Lives (next.Padded b n) = Unit {0}
Lives (next.Hexadecimal room) = Unit {0}
Lives next.Pairs = Unit {0}
Lives (next.Text room) = Unit {0}
Lives (next.High room) = Unit {0}

is_other : (a b : ℕ) → (a == b) ≡ false → a ≢ b
is_other a b e k = absurd (grind (arith, nat_tests))

-- an octet that a state has led from, and what fits behind
pub record Came (s : Next) (c : ℕ) (cs : List ℕ) (t : Next) : Type 0 where
  pub lives : Lives t
  pub fits : Fits t cs → Fits s (c ∷ cs)

digits_came : (limit number c : ℕ) (cs : List ℕ) (t : Next) → limit < 2 ^ 64
    → digits_next limit number c ≡ Some t → Came (next.Digits limit number) c cs t
digits_came limit number c cs t small e =
    option_map-found (λ n. next.Digits limit n) (next_digit limit number c) t e
    (λ longer longer_is t_is.
    let d = next_digit-found limit number c longer longer_is in
    subst (λ (u : Next). Came (next.Digits limit number) c cs u) (sym t_is) (record {
      lives = (small, d.few);
      fits = λ f. digits_before limit number c longer cs d f;
    }))

some_digit : (limit c : ℕ) (cs : List ℕ) → FitsDigits limit 0 (c ∷ cs) → c ≢ 48 → 48 < c
some_digit limit c cs f other =
    let k = digit_from_value c f.digits.0 in omega (arith, k, other)

number_came : (limit c : ℕ) (cs : List ℕ) (t : Next) → limit < 2 ^ 64
    → number_next limit c ≡ Some t → Came (next.Number limit) c cs t
number_came limit c cs t small e =
    chosen (Came (next.Number limit) c cs t) t (c == 48) (Some next.Nothing)
    (digits_next limit 0 c)
    (λ zero_is k.
    let t_is : next.Nothing ≡ t = cc in
    subst (λ (u : Next). Came (next.Number limit) c cs u) t_is (record {
      lives = tt;
      fits = λ none. subst (λ (ys : List ℕ). FitsNumber limit ys)
          (λ i. sym (is_same c 48 zero_is) i ∷ sym none i) (fits_zero limit);
    }))
    (λ other k.
    let d = digits_came limit 0 c cs t small k in
    record {
      lives = d.lives;
      fits = λ f. let g = d.fits f in
          fits_number limit c cs (some_digit limit c cs g (is_other c 48 other)) g;
    }) e

integer_came : (c : ℕ) (cs : List ℕ) (t : Next) → integer_next c ≡ Some t
    → Came next.Integer c cs t
integer_came c cs t e =
    chosen (Came next.Integer c cs t) t (c == 45) (Some next.Negative)
    (number_next (2 ^ 63 - 1) c)
    (λ minus k.
    let t_is : next.Negative ≡ t = cc in
    subst (λ (u : Next). Came next.Integer c cs u) t_is (record {
      lives = tt;
      fits = λ f. (negsuc f.0, omega (arith, f.1), (λ i. is_same c 45 minus i ∷ f.2 i));
    }))
    (λ other k.
    let d = number_came (2 ^ 63 - 1) c cs t (omega arith) k in
    record {
      lives = d.lives;
      fits = λ f. let g = d.fits f in (pos g.number, omega (arith, g.few), g.spelled);
    }) e

less_one : (n : ℕ) → 0 < n → n ≡ suc (n - 1)
less_one n some = omega (arith, some)

negative_came : (c : ℕ) (cs : List ℕ) (t : Next) → negative_next c ≡ Some t
    → Came next.Negative c cs t
negative_came c cs t e =
    chosen (Came next.Negative c cs t) t (c == 48) None (digits_next (2 ^ 63) 0 c)
    (λ zero_is k. absurd cc)
    (λ other k.
    let d = digits_came (2 ^ 63) 0 c cs t (omega arith) k in
    record {
      lives = d.lives;
      fits = λ f.
          let g = d.fits f in
          let some : 48 < c = some_digit (2 ^ 63) c cs g (is_other c 48 other) in
          let number : ℕ = digits_value 10 (c ∷ cs) in
          let digit : digit_value c ≡ c - 48 =
          digit_of c (omega (arith, some)) (omega (arith, digit_from_value c g.digits.0)) in
          let positive : 0 < number =
          omega (arith, some, digit, digits_value_after-ge (0 * 10 + digit_value c) cs) in (
            number - 1,
            omega (arith, g.few, positive),
            number_from (2 ^ 63) c cs some g ∙ ap decimal (less_one number positive),
          );
    }) e

count_came : (c : ℕ) (cs : List ℕ) (t : Next) → count_next c ≡ Some t → Came next.Count c cs t
count_came c cs t e =
    chosen (Came next.Count c cs t) t (c == 48) (Some next.Point)
    (option_map next.Counted (next_digit (2 ^ 64 - 1) 0 c))
    (λ zero_is k.
    let t_is : next.Point ≡ t = cc in
    subst (λ (u : Next). Came next.Count c cs u) t_is (record {
      lives = tt;
      fits = λ f. record {
        number = 0;
        small = omega arith;
        digits = [];
        padded = tt;
        spelled = (λ i. is_same c 48 zero_is i ∷ f i)
            ∙ ap (λ ds. ds ++ 46 ∷ []) (sym (decimal_digit 0 (omega arith)));
      };
    }))
    (λ other k.
    option_map-found next.Counted (next_digit (2 ^ 64 - 1) 0 c) t k
    (λ longer longer_is t_is.
    let d = next_digit-found (2 ^ 64 - 1) 0 c longer longer_is in
    subst (λ (u : Next). Came next.Count c cs u) (sym t_is) (record {
      lives = omega (arith, d.few);
      fits = λ f.
          let g = digits_before (2 ^ 64 - 1) 0 c longer f.word d f.counts in
          let digit : longer ≡ 0 * 10 + digit_value c =
          omega (arith, d.is, digit_of c d.low d.high) in
          let some : 48 < c = some_digit (2 ^ 64 - 1) c f.word g (is_other c 48 other) in
          record {
            number = digits_value 10 (c ∷ f.word);
            small = g.small;
            digits = f.digits;
            padded = subst (λ (n : ℕ). Padded (digits_value_after 10 n f.word)
                (2 * ((digits_value_after 10 n f.word + 7) / 8)) f.digits) digit f.padded;
            spelled = ap (λ ys. c ∷ ys) f.spelled
                ∙ ap (λ ds. ds ++ 46 ∷ f.digits) (number_from (2 ^ 64 - 1) c f.word some g);
          };
    }))) e

counted_came : (number c : ℕ) (cs : List ℕ) (t : Next) → number < 2 ^ 64
    → counted_next number c ≡ Some t → Came (next.Counted number) c cs t
counted_came number c cs t small e =
    chosen (Came (next.Counted number) c cs t) t (c == 46)
    (Some (next.Padded number (2 * ((number + 7) / 8))))
    (option_map next.Counted (next_digit (2 ^ 64 - 1) number c))
    (λ point k.
    let t_is : next.Padded number (2 * ((number + 7) / 8)) ≡ t = cc in
    subst (λ (u : Next). Came (next.Counted number) c cs u) t_is (record {
      lives = tt;
      fits = λ f. record {
        word = [];
        counts = record { digits = tt; few = omega (arith, small); small = small };
        digits = cs;
        padded = f;
        spelled = ap (λ o. o ∷ cs) (is_same c 46 point);
      };
    }))
    (λ other k.
    option_map-found next.Counted (next_digit (2 ^ 64 - 1) number c) t k
    (λ longer longer_is t_is.
    let d = next_digit-found (2 ^ 64 - 1) number c longer longer_is in
    subst (λ (u : Next). Came (next.Counted number) c cs u) (sym t_is) (record {
      lives = omega (arith, d.few);
      fits = λ f.
          let digit : longer ≡ number * 10 + digit_value c =
          omega (arith, d.is, digit_of c d.low d.high) in
          record {
            word = c ∷ f.word;
            counts = digits_before (2 ^ 64 - 1) number c longer f.word d f.counts;
            digits = f.digits;
            padded = subst (λ (n : ℕ). Padded (digits_value_after 10 n f.word)
                (2 * ((digits_value_after 10 n f.word + 7) / 8)) f.digits) digit f.padded;
            spelled = ap (λ ys. c ∷ ys) f.spelled;
          };
    }))) e

point_came : (c : ℕ) (cs : List ℕ) (t : Next) → point_next c ≡ Some t → Came next.Point c cs t
point_came c cs t e =
    chosen (Came next.Point c cs t) t (c == 46) (Some (next.Padded 0 0)) None
    (λ point k.
    let t_is : next.Padded 0 0 ≡ t = cc in
    subst (λ (u : Next). Came next.Point c cs u) t_is (record {
      lives = tt;
      fits = λ f. (λ i. is_same c 46 point i ∷ no_digits cs f i);
    }))
    (λ other k. absurd cc) e

padded_came : (b n c : ℕ) (cs : List ℕ) (t : Next) → padded_next b n c ≡ Some t
    → Came (next.Padded b n) c cs t
padded_came b n c cs t e =
    chosen (Came (next.Padded b n) c cs t) t (n == 0) None
    (option_map (λ v. next.Padded (b - 4) (n - 1))
    (option_and_then (if_passes (λ v. v % 2 ^ (4 - min b 4) == 0)) (hex_value c)))
    (λ none k. absurd cc)
    (λ some k.
    option_map-found (λ v. next.Padded (b - 4) (n - 1))
    (option_and_then (if_passes (λ v. v % 2 ^ (4 - min b 4) == 0)) (hex_value c)) t k
    (λ v v_is t_is.
    let p = passes (λ v. v % 2 ^ (4 - min b 4) == 0) (hex_value c) v v_is in
    let one : suc (n - 1) ≡ n = omega (arith, is_other n 0 some) in
    subst (λ (u : Next). Came (next.Padded b n) c cs u) (sym t_is) (record {
      lives = tt;
      fits = λ f. subst (λ (m : ℕ). Padded b m (c ∷ cs)) one
          ((v, p.0, is_same (v % 2 ^ (4 - min b 4)) 0 p.1), f);
    }))) e

hex_came : (room c : ℕ) (cs : List ℕ) (t : Next) → hex_next room c ≡ Some t
    → Came (next.Hexadecimal room) c cs t
hex_came room c cs t e =
    chosen (Came (next.Hexadecimal room) c cs t) t (room == 0) None
    (option_map (λ v. next.Hexadecimal (room - 1)) (hex_value c))
    (λ none k. absurd cc)
    (λ some k.
    option_map-found (λ v. next.Hexadecimal (room - 1)) (hex_value c) t k
    (λ v v_is t_is.
    subst (λ (u : Next). Came (next.Hexadecimal room) c cs u) (sym t_is) (record {
      lives = tt;
      fits = λ f. (omega (arith, f.0, is_other room 0 some), ((v, v_is), f.1));
    }))) e

pairs_came : (c : ℕ) (cs : List ℕ) (t : Next) → option_map (λ v. next.Pairs) (hex_value c) ≡ Some t
    → Came next.Pairs c cs t
pairs_came c cs t e =
    option_map-found (λ v. next.Pairs) (hex_value c) t e
    (λ v v_is t_is. subst (λ (u : Next). Came next.Pairs c cs u) (sym t_is)
    (record { lives = tt; fits = λ f. ((v, v_is), f) }))

plain_visible : (c : ℕ) → is_plain c ≡ true → is_visible_octet c ≡ true
plain_visible c e = grind (arith, nat_tests)

text_came : (room c : ℕ) (cs : List ℕ) (t : Next) → text_next room c ≡ Some t
    → Came (next.Text room) c cs t
text_came room c cs t e =
    chosen (Came (next.Text room) c cs t) t (room == 0) None
    (cond (is_plain c) (Some (next.Text (room - 1)))
    (cond (c == 37) (Some (next.High (room - 1))) None))
    (λ none k. absurd cc)
    (λ some k.
    chosen (Came (next.Text room) c cs t) t (is_plain c) (Some (next.Text (room - 1)))
    (cond (c == 37) (Some (next.High (room - 1))) None)
    (λ plain k.
    let t_is : next.Text (room - 1) ≡ t = cc in
    subst (λ (u : Next). Came (next.Text room) c cs u) t_is (record {
      lives = tt;
      fits = λ f. record {
        octets = c ∷ f.octets;
        is = rw plain (ap (before_octets c) f.is);
        visible = rw (plain_visible c plain, f.visible) refl;
        few = omega (arith, f.few, is_other room 0 some);
      };
    }))
    (λ escaped k.
    chosen (Came (next.Text room) c cs t) t (c == 37) (Some (next.High (room - 1))) None
    (λ percent k.
    let t_is : next.High (room - 1) ≡ t = cc in
    subst (λ (u : Next). Came (next.Text room) c cs u) t_is (record {
      lives = tt;
      fits = λ f. record {
        octets = f.octets;
        is = rw (escaped, percent) f.is;
        visible = f.visible;
        few = omega (arith, f.few, is_other room 0 some);
      };
    }))
    (λ other k. absurd cc) k) k) e

high_came : (room c : ℕ) (cs : List ℕ) (t : Next) → high_next room c ≡ Some t
    → Came (next.High room) c cs t
high_came room c cs t e =
    chosen (Came (next.High room) c cs t) t (is_in_range 50 55 c) (Some (next.Low room c)) None
    (λ range k.
    let t_is : next.Low room c ≡ t = cc in
    subst (λ (u : Next). Came (next.High room) c cs u) t_is (record {
      lives = (grind (arith, nat_tests, range), grind (arith, nat_tests, range));
      fits = λ f. f;
    }))
    (λ other k. absurd cc) e

low_came : (room high c : ℕ) (cs : List ℕ) (t : Next) → low_next room high c ≡ Some t
    → Came (next.Low room high) c cs t
low_came room high c cs t e =
    option_map-found (λ o. next.Text room)
    (option_and_then (if_passes is_visible_octet) (escaped_value high c)) t e
    (λ o o_is t_is.
    let p = passes is_visible_octet (escaped_value high c) o o_is in
    subst (λ (u : Next). Came (next.Low room high) c cs u) (sym t_is) (record {
      lives = tt;
      fits = λ f. record {
        octets = o ∷ f.octets;
        is = rw p.0 (ap (before_octets o) f.is);
        visible = rw (p.1, f.visible) refl;
        few = omega (arith, f.few);
      };
    }))

pub came : (s : Next) (c : ℕ) (cs : List ℕ) (t : Next) → Lives s → next_of s c ≡ Some t
    → Came s c cs t
came next.Nothing c cs t l e = absurd cc
came next.Integer c cs t l e = integer_came c cs t e
came next.Negative c cs t l e = negative_came c cs t e
came (next.Number limit) c cs t l e = number_came limit c cs t l e
came (next.Digits limit number) c cs t l e = digits_came limit number c cs t l.0 e
came next.Count c cs t l e = count_came c cs t e
came next.Point c cs t l e = point_came c cs t e
came (next.Counted number) c cs t l e = counted_came number c cs t l e
came (next.Padded b n) c cs t l e = padded_came b n c cs t e
came (next.Hexadecimal room) c cs t l e = hex_came room c cs t e
came next.Pairs c cs t l e = pairs_came c cs t e
came (next.Text room) c cs t l e = text_came room c cs t e
came (next.High room) c cs t l e = high_came room c cs t e
came (next.Low room high) c cs t l e = low_came room high c cs t e

-- No state is a dead end.

abbrev zeros : ℕ → List ℕ
zeros zero = []
zeros (suc n) = 48 ∷ zeros n

zero_rest : (m : ℕ) → 0 % 2 ^ m ≡ 0
zero_rest m = omega arith

padded_zeros : (b n : ℕ) → Padded b n (zeros n)
padded_zeros b zero = tt
padded_zeros b (suc n) = ((0, refl, zero_rest (4 - min b 4)), padded_zeros (b - 4) n)

hex_zeros : (n : ℕ) → (length (zeros n) ≡ n) × AllHex (zeros n)
hex_zeros zero = (refl, tt)
hex_zeros (suc n) = (ap suc (hex_zeros n).0, ((0, refl), (hex_zeros n).1))

escape : (room high low octet : ℕ) → unescaped_low (low ∷ []) high ≡ Some (octet ∷ [])
    → is_visible_octet octet ≡ true → FitsText (unescaped_low (low ∷ []) high) (suc room)
escape room high low octet e v = record {
  octets = octet ∷ [];
  is = e;
  visible = rw v refl;
  few = omega arith;
}

low_ends : (room k high : ℕ) → k ≤ 5 → high ≡ 50 + k
    → (low : ℕ) × FitsText (unescaped_low (low ∷ []) high) (suc room)
low_ends room zero high few e = (48, escape room high 48 32 (rw e refl) refl)
low_ends room (suc zero) high few e = (97, escape room high 97 58 (rw e refl) refl)
low_ends room (suc (suc zero)) high few e = (48, escape room high 48 64 (rw e refl) refl)
low_ends room (suc (suc (suc zero))) high few e = (98, escape room high 98 91 (rw e refl) refl)
low_ends room (suc (suc (suc (suc zero)))) high few e =
    (48, escape room high 48 96 (rw e refl) refl)
low_ends room (suc (suc (suc (suc (suc zero))))) high few e =
    (98, escape room high 98 123 (rw e refl) refl)
low_ends room (suc (suc (suc (suc (suc (suc k)))))) high few e = absurd (omega (arith, few))

ends : (s : Next) → Lives s → (ys : List ℕ) × Fits s ys
ends next.Nothing l = ([], refl)
ends next.Integer l = (signed_decimal (pos 0), (pos 0, omega arith, refl))
ends next.Negative l = (decimal 1, (0, omega arith, refl))
ends (next.Number limit) l =
    (decimal 0, record { number = 0; few = omega arith; small = omega arith; spelled = refl })
ends (next.Digits limit number) l =
    ([], record { digits = tt; few = l.1; small = omega (arith, l) })
ends next.Count l = (
  decimal 0 ++ 46 ∷ [],
  record {
    number = 0;
    small = omega arith;
    digits = [];
    padded = tt;
    spelled = refl;
  },
)
ends next.Point l = (46 ∷ [], refl)
ends (next.Counted number) l = (
  46 ∷ zeros (2 * ((number + 7) / 8)),
  record {
    word = [];
    counts = record { digits = tt; few = omega (arith, l); small = l };
    digits = zeros (2 * ((number + 7) / 8));
    padded = padded_zeros number (2 * ((number + 7) / 8));
    spelled = refl;
  },
)
ends (next.Padded b n) l = (zeros n, padded_zeros b n)
ends (next.Hexadecimal room) l = (zeros room, hex_zeros room)
ends next.Pairs l = ([], tt)
ends (next.Text room) l =
    ([], record { octets = []; is = refl; visible = refl; few = omega arith })
ends (next.High room) l = (
  50 ∷ 48 ∷ [],
  record {
    octets = 32 ∷ [];
    is = refl;
    visible = refl;
    few = omega arith;
  },
)
ends (next.Low room high) l =
    let low = low_ends room (high - 50) high (omega (arith, l)) (omega (arith, l)) in
    (low.0 ∷ [], low.1)

in_completes : (x : ℕ) (xs : List ℕ) (s : Next) → Lives s
    → ((t : Next) → Lives t → Passes xs t → (ys : List ℕ) × Fits t (xs ++ ys))
    → (o : Option Next) → next_of s x ≡ o → PassesIn (λ t. Passes xs t) o
    → (ys : List ℕ) × Fits s (x ∷ (xs ++ ys))
in_completes x xs s l each None e p = absurd p
in_completes x xs s l each (Some t) e p =
    let rest = each t (came s x [] t l e).lives p in
    (rest.0, (came s x (xs ++ rest.0) t l e).fits rest.1)

-- octets that may stand go on to the end of a word
pub completes : (xs : List ℕ) (s : Next) → Lives s → Passes xs s
    → (ys : List ℕ) × Fits s (xs ++ ys)
completes [] s l p = ends s l
completes (x ∷ xs) s l p =
    in_completes x xs s l (λ t k q. completes xs t k q) (next_of s x) refl p
