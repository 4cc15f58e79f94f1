-- The words of a value are read as this value exactly where they are its text's.
use Rattle.std.proofs.Common.{◌≡◌, ℕ, ◌-◌, ◌<◌, ◌≤◌, ◌^◌, ◌&&◌, ◌==◌, nat_le, Bool, true}
use Rattle.std.proofs.Common.{List, [], ◌∷◌, length, Option, Some, None, ℤ, pos, negsuc}
use Rattle.std.proofs.Common.{decimal, refl, ap, arith, int_le}
use Rattle.std.specs.Prelude.{option_map, option_and_then, IsTrue}
use Rattle.std.specs.Fmt.{signed_decimal}
use Rattle.std.specs.List.{list_all}
use Rattle.std.specs.Int.{w32, w64}
use Rattle.std.specs.Int.RustNames.{FitsSigned}
use Rattle.std.proofs.lemmas.Bool.{and_parts}
use Rattle.std.proofs.lemmas.Bool.Decides.{nat_tests}
use Rattle.plain_text.specs.Numbers.{number_up_to, number_in, integer_of_word, integer_word_within, if_passes}
use Rattle.plain_text.specs.Numbers.{hex_in, hex_octet, hex_octets}
use Rattle.plain_text.specs.Octets.{hex_text}
use Rattle.plain_text.specs.Escaped.{is_octet}
use Rattle.plain_text.proofs.Decimal.{number_in-decimal}
use Rattle.plain_text.proofs.EscapedText.{option_map-found}
use Rattle.mms_data.proofs.OfText.WordText.{passes, is_same, chosen, hex-found, hex-octets}
use Rattle.mms_data.proofs.OfText.LeafRead.{number-read, integer-read, hex_in-hex_text}
use Rattle.tase_points.specs.declared.body.Body.{Body}
use Rattle.tase_points.specs.declared.body.Body.TheVariants.{State, Discrete, Real}
use Rattle.tase_points.specs.declared.value.TheConstants.{STATE_LIMIT, FLAGS_LIMIT, SECONDS_LIMIT}
use Rattle.tase_points.specs.declared.value.TheConstants.{MILLIS_LIMIT}
use Rattle.tase_points.specs.Points.{state_of}
use Rattle.tase_points.specs.Sample.{Sample}
use Rattle.tase_views.specs.EventTexts.{body_text}
use Rattle.texts.specs.Events.Verbs.{class_in}
use Rattle.texts.specs.Events.FeedLines.{body_in, flags_in, sample_in, IsWordBody, AreValueWords}
use Rattle.texts.proofs.OfEvents.WordsRead.{class_in-found}

at_most : (n limit : ℕ) → nat_le n limit ≡ true → n ≤ limit
at_most n limit e = grind (arith, nat_tests, e)

-- a word that is a number up to a limit below 2^64 is its digits
number-found : (limit n : ℕ) (word : List ℕ) → limit < 2 ^ 64 → number_up_to limit word ≡ Some n
    → (word ≡ decimal n) × (n ≤ limit)
number-found limit n word small e =
    let p = passes (λ m. nat_le m limit) (number_in word) n e in
    let most = at_most n limit p.1 in
    ((number_in-decimal word n (omega (arith, small, most))).0 p.0, most)

narrow : (z : ℤ) → (int_le (negsuc 2147483647) z && int_le z (pos 2147483647)) ≡ true
    → ((int_le (negsuc (2 ^ 63 - 1)) z && int_le z (pos (2 ^ 63 - 1))) ≡ true) × FitsSigned w32 z
narrow (pos n) e = (grind (arith, nat_tests, and_parts), narrow_pos n e)
  where
    narrow_pos : (n : ℕ) → (int_le (negsuc 2147483647) (pos n) && int_le (pos n) (pos 2147483647))
        ≡ true → FitsSigned w32 (pos n)
    narrow_pos n e = let k : n < 2 ^ 31 = grind (arith, nat_tests, and_parts) in omega (arith, k)
narrow (negsuc n) e = (grind (arith, nat_tests, and_parts), narrow_neg n e)
  where
    narrow_neg : (n : ℕ)
        → (int_le (negsuc 2147483647) (negsuc n) && int_le (negsuc n) (pos 2147483647)) ≡ true
        → FitsSigned w32 (negsuc n)
    narrow_neg n e = let k : n < 2 ^ 31 = grind (arith, nat_tests, and_parts) in omega (arith, k)

fits : (z : ℤ) → FitsSigned w32 z
    → ((int_le (negsuc 2147483647) z && int_le z (pos 2147483647)) ≡ true) × FitsSigned w64 z
fits (pos n) f =
    let k : n < 2 ^ 31 = omega (arith, f) in (grind (arith, nat_tests, k), omega (arith, k))
fits (negsuc n) f =
    let k : n < 2 ^ 31 = omega (arith, f) in (grind (arith, nat_tests, k), omega (arith, k))

passing : {A : Type 0} (test : A → Bool) (o : Option A) (x : A) → o ≡ Some x → test x ≡ true
    → option_and_then (if_passes test) o ≡ Some x
passing test o x e t = rw (e, t) refl

discrete-found : (word : List ℕ) (z : ℤ)
    → integer_word_within (negsuc 2147483647) (pos 2147483647) word ≡ Some z
    → (word ≡ signed_decimal z) × FitsSigned w32 z
discrete-found word z e =
    let p = passes (λ y. int_le (negsuc 2147483647) y && int_le y (pos 2147483647))
    (integer_of_word word) z e in
    let n = narrow z p.1 in
    let wide : class_in word ≡ Some z =
    passing (λ y. int_le (negsuc (2 ^ 63 - 1)) y && int_le y (pos (2 ^ 63 - 1))) (integer_of_word word) z
    p.0 n.0 in
    ((class_in-found word z wide).0, n.1)

discrete-read : (z : ℤ) → FitsSigned w32 z
    → integer_word_within (negsuc 2147483647) (pos 2147483647) (signed_decimal z) ≡ Some z
discrete-read z f =
    let k = fits z f in
    let p = passes (λ y. int_le (negsuc (2 ^ 63 - 1)) y && int_le y (pos (2 ^ 63 - 1)))
    (integer_of_word (signed_decimal z)) z (integer-read z k.1) in
    passing (λ y. int_le (negsuc 2147483647) y && int_le y (pos 2147483647))
    (integer_of_word (signed_decimal z)) z p.0 k.0

real-found : (word octets : List ℕ) → hex_octets 4 word ≡ Some octets
    → (word ≡ hex_text octets) × (length octets ≡ 4) × IsTrue (list_all is_octet octets)
real-found word octets e =
    let p = passes (λ o. length o == 4) (hex_in word) octets e in
    (hex-found word octets p.0, is_same _ _ p.1, hex-octets word octets p.0)

real-read : (octets : List ℕ) → length octets ≡ 4 → IsTrue (list_all is_octet octets)
    → hex_octets 4 (hex_text octets) ≡ Some octets
real-read octets four are =
    passing (λ o. length o == 4) (hex_in (hex_text octets)) octets (hex_in-hex_text octets are)
    (rw four refl)

-- what a body's word stands for
record IsBody (word : List ℕ) (body : Body) : Type 0 where
  pub spelled : word ≡ body_text body
  pub state : state_of body ≤ STATE_LIMIT
  pub textual : IsWordBody body

body-found : (word : List ℕ) (body : Body) → body_in word ≡ Some body → IsBody word body
body-found [] body e = absurd cc
body-found (letter ∷ rest) body e =
    chosen (IsBody (letter ∷ rest) body) body (letter == 115) _ _
    (λ t k. option_map-found State (number_up_to STATE_LIMIT rest) body k (λ n found body_is.
    let p = number-found STATE_LIMIT n rest (omega arith) found in
    rw (is_same _ _ t, body_is) (record {
      spelled = ap (λ w. 115 ∷ w) p.0;
      state = p.1;
      textual = tt;
    })))
    (λ t k. chosen (IsBody (letter ∷ rest) body) body (letter == 100) _ _
    (λ t k.
    option_map-found Discrete (integer_word_within (negsuc 2147483647) (pos 2147483647) rest) body k
    (λ z found body_is.
    let p = discrete-found rest z found in
    rw (is_same _ _ t, body_is) (record {
      spelled = ap (λ w. 100 ∷ w) p.0;
      state = omega arith;
      textual = p.1;
    })))
    (λ t k. chosen (IsBody (letter ∷ rest) body) body (letter == 114) _ None
    (λ t k. option_map-found Real (hex_octets 4 rest) body k (λ o found body_is.
    let p = real-found rest o found in
    rw (is_same _ _ t, body_is) (record {
      spelled = ap (λ w. 114 ∷ w) p.0;
      state = omega arith;
      textual = (p.1, p.2);
    })))
    (λ t k. absurd cc) k) k) e

body-read : (body : Body) → state_of body ≤ STATE_LIMIT → IsWordBody body
    → body_in (body_text body) ≡ Some body
body-read (State s) h k =
    ap (option_map State) (number-read STATE_LIMIT s (omega (arith, h)) h)
body-read (Discrete d) h k = ap (option_map Discrete) (discrete-read d k)
body-read (Real r) h k = ap (option_map Real) (real-read r k.0 k.1)

flags-found : (word : List ℕ) (flags : ℕ) → flags_in word ≡ Some flags
    → (word ≡ hex_text (flags ∷ [])) × (flags ≤ FLAGS_LIMIT)
flags-found word flags e =
    let p = passes (λ n. nat_le n FLAGS_LIMIT) (hex_octet word) flags e in
    (pair-found word p.0, at_most flags FLAGS_LIMIT p.1)
  where
    pair-found : (word : List ℕ) → hex_octet word ≡ Some flags → word ≡ hex_text (flags ∷ [])
    pair-found [] k = absurd cc
    pair-found (h ∷ []) k = absurd cc
    pair-found (h ∷ l ∷ []) k = hex-found (h ∷ l ∷ []) (flags ∷ []) (rw k refl)
    pair-found (h ∷ l ∷ m ∷ more) k = absurd cc

flags-read : (flags : ℕ) → flags ≤ FLAGS_LIMIT → flags_in (hex_text (flags ∷ [])) ≡ Some flags
flags-read flags h =
    let octet : list_all is_octet (flags ∷ []) ≡ true = small flags (omega (arith, h)) in
    let most : nat_le flags FLAGS_LIMIT ≡ true = grind (arith, nat_tests, h) in
    passing (λ n. nat_le n FLAGS_LIMIT) (hex_octet (hex_text (flags ∷ []))) flags
    (first_octet _ _ (hex_in-hex_text (flags ∷ []) octet)) most
  where
    small : (flags : ℕ) → flags < 256 → list_all is_octet (flags ∷ []) ≡ true
    small flags h = let k : is_octet flags ≡ true = grind (arith, nat_tests, h) in rw k refl

    first_octet : (o : Option ℕ) (n : ℕ)
        → option_and_then (λ octet. option_map (λ octets. octet ∷ octets) (Some [])) o
        ≡ Some (n ∷ [])
        → o ≡ Some n
    first_octet None n e = absurd cc
    first_octet (Some m) n e = cc

and_then-found : {A B P : Type 0} (f : A → Option B) (o : Option A) (y : B)
    → option_and_then f o ≡ Some y → ((x : A) → o ≡ Some x → f x ≡ Some y → P) → P
and_then-found f None y e k = absurd cc
and_then-found f (Some x) y e k = k x refl e

pub value-found : (body flags seconds millis : List ℕ) (value : Sample)
    → sample_in body flags seconds millis ≡ Some value
    → AreValueWords body flags seconds millis value
value-found body flags seconds millis value e =
    and_then-found _ (body_in body) value e (λ b b_is e.
    and_then-found _ (flags_in flags) value e (λ f f_is e.
    and_then-found _ (number_up_to SECONDS_LIMIT seconds) value e (λ s s_is e.
    option_map-found _ (number_up_to MILLIS_LIMIT millis) value e (λ m m_is value_is.
    let body_found = body-found body b b_is in
    let flags_found = flags-found flags f f_is in
    let seconds_found = number-found SECONDS_LIMIT s seconds (omega arith) s_is in
    let millis_found = number-found MILLIS_LIMIT m millis (omega arith) m_is in
    rw value_is (record {
      body_is = body_found.spelled;
      flags_are = flags_found.0;
      seconds_are = seconds_found.0;
      millis_are = millis_found.0;
      ranges = record {
        state = body_found.state;
        flags = flags_found.1;
        seconds = seconds_found.1;
        millis = millis_found.1;
      };
      textual = body_found.textual;
    })))))

pub value-read : (body flags seconds millis : List ℕ) (value : Sample)
    → AreValueWords body flags seconds millis value
    → sample_in body flags seconds millis ≡ Some value
value-read body flags seconds millis value w =
    rw (
      w.body_is,
      w.flags_are,
      w.seconds_are,
      w.millis_are,
      body-read value.body w.ranges.state w.textual,
      flags-read value.flags w.ranges.flags,
      number-read SECONDS_LIMIT value.seconds (omega (arith, w.ranges.seconds)) w.ranges.seconds,
      number-read MILLIS_LIMIT value.millis (omega (arith, w.ranges.millis)) w.ranges.millis,
    ) refl
