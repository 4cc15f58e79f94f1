-- Pairs of hexadecimal digits, and their first ones.
use Rattle.std.proofs.Common.{◌≡◌, ℕ, zero, suc, ◌+◌, ◌*◌, ◌%◌, ◌<◌, ◌≤◌, Bool, true, false}
use Rattle.std.proofs.Common.{List, [], ◌∷◌, ◌++◌, length, take, drop, get_or, Option, Some, None}
use Rattle.std.proofs.Common.{Result}
use Rattle.std.proofs.Common.{Ok, Err, refl, sym, ap, ◌∙◌, arith}
use Rattle.std.specs.Prelude.{is_some, unwrap_or}
use Rattle.std.specs.List.{list_all}
use Rattle.std.specs.Result.{result_ok}
use Rattle.std.proofs.lemmas.List.{take-append-drop, length-take-le, length-append}
use Rattle.std.proofs.lemmas.List.Sums.{AllPass-from_list_all, list_all-from_AllPass}
use Rattle.hex.specs.declared.error.FromHexError.{FromHexError}
use Rattle.hex.specs.Hex.{decode_of, decode_pairs, digit_or_error, hex_digit_value}
use Rattle.hex.specs.Hex.{is_hex_digit, pair_value, value_at, ◌>>=◌}
use Rattle.hex.proofs.HexLemmas.{decode_of-even, decode_of-ok, decode_of-digits}
use Rattle.capture_text.specs.Pieces.{pairs_octets, ArePairs}

abbrev Hex : Type 0 → Type 0
Hex X = Result X FromHexError

bind_ok : {A B : Type 0} (r : Hex A) (f : A → Hex B) (y : B) → (r >>= f) ≡ Ok y
    → (x : A) × (r ≡ Ok x) × (f x ≡ Ok y)
bind_ok (Ok x) f y h = (x, refl, h)
bind_ok (Err e) f y h = absurd cc

abbrev hex_ok : {A : Type 0} → A → Hex A
hex_ok x = Ok x

value_is : {A : Type 0} (y x : A) → hex_ok y ≡ hex_ok x → y ≡ x
value_is y x is = cc

bind_is : {A B : Type 0} (r : Hex A) (x : A) (f : A → Hex B) → r ≡ Ok x → (r >>= f) ≡ f x
bind_is (Ok y) x f is = ap f (value_is y x is)
bind_is (Err e) x f is = absurd cc

-- the place of a digit is told by errors alone
digit_anywhere : (c i j : ℕ) (o : Option ℕ) (v : ℕ) → digit_or_error c i o ≡ Ok v
    → digit_or_error c j o ≡ Ok v
digit_anywhere c i j (Some w) v h = h
digit_anywhere c i j None v h = absurd cc

pair_anywhere : (a b i j v : ℕ) → pair_value a b i ≡ Ok v → pair_value a b j ≡ Ok v
pair_anywhere a b i j v h =
    let high = bind_ok (value_at a i) (λ h. value_at b (i + 1) >>= λ l. Ok (h * 16 + l)) v h in
    let low = bind_ok (value_at b (i + 1)) (λ l. Ok (high.0 * 16 + l)) v high.2 in
    bind_is (value_at a j) high.0 (λ h. value_at b (j + 1) >>= λ l. Ok (h * 16 + l))
    (digit_anywhere a i j (hex_digit_value a) high.0 high.1)
    ∙ bind_is (value_at b (j + 1)) low.0 (λ l. Ok (high.0 * 16 + l))
    (digit_anywhere b (i + 1) (j + 1) (hex_digit_value b) low.0 low.1)
    ∙ low.2

-- a pair and the pairs behind it
record Pair (i a b : ℕ) (rest octets : List ℕ) : Type 0 where
  pub first : ℕ
  pub more : List ℕ
  pub pair : pair_value a b i ≡ Ok first
  pub others : decode_pairs (i + 2) rest ≡ Ok more
  pub is : octets ≡ first ∷ more

abbrev octets_in : Hex (List ℕ) → List ℕ
octets_in (Ok octets) = octets
octets_in (Err e) = []

pair_of : (i a b : ℕ) (rest octets : List ℕ) → decode_pairs i (a ∷ b ∷ rest) ≡ Ok octets
    → Pair i a b rest octets
unfolding decode_pairs
pair_of i a b rest octets h =
    let one = bind_ok (pair_value a b i)
    (λ byte. decode_pairs (i + 2) rest >>= λ bytes. Ok (byte ∷ bytes)) octets h in
    let two = bind_ok (decode_pairs (i + 2) rest) (λ bytes. Ok (one.0 ∷ bytes)) octets one.2 in
    record {
      first = one.0;
      more = two.0;
      pair = one.1;
      others = two.1;
      is = sym (ap octets_in two.2);
    }

of_pair : (i a b : ℕ) (rest octets : List ℕ) → Pair i a b rest octets
    → decode_pairs i (a ∷ b ∷ rest) ≡ Ok octets
unfolding decode_pairs
of_pair i a b rest octets p =
    bind_is (pair_value a b i) p.first
    (λ byte. decode_pairs (i + 2) rest >>= λ bytes. Ok (byte ∷ bytes)) p.pair
    ∙ bind_is (decode_pairs (i + 2) rest) p.more (λ bytes. Ok (p.first ∷ bytes)) p.others
    ∙ ap Ok (sym p.is)

pairs_anywhere : (i j : ℕ) (s octets : List ℕ) → decode_pairs i s ≡ Ok octets
    → decode_pairs j s ≡ Ok octets
unfolding decode_pairs
pairs_anywhere i j [] octets h = h
pairs_anywhere i j (a ∷ []) octets h = absurd cc
pairs_anywhere i j (a ∷ b ∷ rest) octets h =
    let p = pair_of i a b rest octets h in
    of_pair j a b rest octets (record {
      first = p.first;
      more = p.more;
      pair = pair_anywhere a b i j p.first p.pair;
      others = pairs_anywhere (i + 2) (j + 2) rest p.more p.others;
      is = p.is;
    })

-- the first pairs, and those behind them
record Split (n : ℕ) (s octets : List ℕ) : Type 0 where
  pub front : decode_pairs 0 (take (2 * n) s) ≡ Ok (take n octets)
  pub behind : decode_pairs 0 (drop (2 * n) s) ≡ Ok (drop n octets)

split : (n : ℕ) (s octets : List ℕ) → decode_pairs 0 s ≡ Ok octets → 2 * n ≤ length s
    → Split n s octets
unfolding decode_pairs
split zero s octets h within = record { front = refl; behind = h }
split (suc n) [] octets h within = absurd (omega arith)
split (suc n) (a ∷ []) octets h within = absurd (omega arith)
split (suc n) (a ∷ b ∷ rest) octets h within =
    let p = pair_of 0 a b rest octets h in
    let s = split n rest p.more (pairs_anywhere 2 0 rest p.more p.others) (omega arith) in
    let two : 2 * suc n ≡ suc (suc (2 * n)) = omega arith in
    record {
      front = ap (λ (k : ℕ). decode_pairs 0 (take k (a ∷ b ∷ rest))) two
          ∙ of_pair 0 a b (take (2 * n) rest) (take (suc n) octets) (record {
            first = p.first;
            more = take n p.more;
            pair = p.pair;
            others = pairs_anywhere 0 2 (take (2 * n) rest) (take n p.more) s.front;
            is = ap (take (suc n)) p.is;
          });
      behind = ap (λ (k : ℕ). decode_pairs 0 (drop k (a ∷ b ∷ rest))) two
          ∙ s.behind ∙ ap (λ (os : List ℕ). Ok (drop (suc n) os)) (sym p.is);
    }

pairs_in : (r : Hex (List ℕ)) → is_some (result_ok r) ≡ true
    → r ≡ Ok (unwrap_or (result_ok r) [])
pairs_in (Ok octets) h = refl
pairs_in (Err e) h = absurd cc

pub pairs_ok : (digits : List ℕ) → ArePairs digits → decode_of digits ≡ Ok (pairs_octets digits)
pairs_ok digits pairs = pairs_in (decode_of digits) pairs

-- what is known of the first pairs of digits
pub record Front (n : ℕ) (digits : List ℕ) : Type 0 where
  pub front : decode_of (take (2 * n) digits) ≡ Ok (take n (pairs_octets digits))
  pub pairs : ArePairs (drop (2 * n) digits)
  pub is : pairs_octets digits ≡ take n (pairs_octets digits)
      ++ pairs_octets (drop (2 * n) digits)
  pub size : length (take n (pairs_octets digits)) ≡ n

pub front_of : (n : ℕ) (digits : List ℕ) → ArePairs digits → 2 * n ≤ length digits
    → Front n digits
front_of n digits pairs within =
    let octets = pairs_octets digits in
    let ok = decode_of-ok digits octets (pairs_ok digits pairs) in
    let s = split n digits octets (sym (decode_of-even digits ok.0) ∙ pairs_ok digits pairs)
    within in
    let len = length-take-le (2 * n) digits within in
    let both = take-append-drop (2 * n) digits in
    let sum = length-append (take (2 * n) digits) (drop (2 * n) digits) in
    let total = ap length both in
    let behind : decode_of (drop (2 * n) digits) ≡ Ok (drop n octets) =
    decode_of-even (drop (2 * n) digits) (omega (arith, len, sum, total, ok.0)) ∙ s.behind in
    record {
      front = decode_of-even (take (2 * n) digits) (omega (arith, len)) ∙ s.front;
      pairs = ap (λ (r : Hex (List ℕ)). is_some (result_ok r)) behind;
      is = sym (take-append-drop n octets)
          ∙ ap (λ (os : List ℕ). take n octets ++ os)
          (ap (λ (r : Hex (List ℕ)). unwrap_or (result_ok r) []) (sym behind));
      size = length-take-le n octets (omega (arith, ok.2));
    }

-- the front pairs are pairs
pub front_pairs : (n : ℕ) (digits : List ℕ) → Front n digits → ArePairs (take (2 * n) digits)
front_pairs n digits f = ap (λ (r : Hex (List ℕ)). is_some (result_ok r)) f.front

-- each octet of pairs is a digit
pub digit_at : (digits : List ℕ) → ArePairs digits → (k : ℕ) → k < length digits
    → is_hex_digit (get_or digits k 0) ≡ true
digit_at digits pairs k within =
    (decode_of-ok digits (pairs_octets digits) (pairs_ok digits pairs)).1 k 0 within

-- the octet of two digits whose values are known
pub pair_known : (a b i high low : ℕ) → hex_digit_value a ≡ Some high → hex_digit_value b ≡ Some low
    → pair_value a b i ≡ Ok (high * 16 + low)
pair_known a b i high low first second =
    bind_is (value_at a i) high (λ h. value_at b (i + 1) >>= λ l. Ok (h * 16 + l))
    (ap (digit_or_error a i) first)
    ∙ bind_is (value_at b (i + 1)) low (λ l. Ok (high * 16 + l))
    (ap (digit_or_error b (i + 1)) second)

-- an even number of digits, and no other octets
pub are_pairs_even : (digits : List ℕ) → length digits % 2 ≡ 0
    → list_all is_hex_digit digits ≡ is_some (result_ok (decode_of digits))
are_pairs_even digits even = here (list_all is_hex_digit digits) refl (decode_of digits) refl
  where
    here : (all : Bool) → list_all is_hex_digit digits ≡ all → (r : Hex (List ℕ))
        → decode_of digits ≡ r → all ≡ is_some (result_ok r)
    here true is (Ok octets) at = refl
    here true is (Err e) at =
        let some = decode_of-digits digits even (AllPass-from_list_all is_hex_digit digits is) in
        let e = sym at ∙ some.1 in absurd cc
    here false is (Ok octets) at =
        let all = list_all-from_AllPass is_hex_digit digits (decode_of-ok digits octets at).1 in
        absurd cc
    here false is (Err e) at = refl
