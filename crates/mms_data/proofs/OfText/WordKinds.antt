-- Words by their letters: the text of a datum without members begins as far as a word goes on.
use Rattle.std.proofs.Common.{◌≡◌, ℕ, zero, suc, ◌+◌, ◌-◌, ◌*◌, ◌/◌, ◌%◌, ◌^◌, ◌<◌, ◌≤◌}
use Rattle.std.proofs.Common.{Bool, true, false, cond, ◌==◌, min, List, [], ◌∷◌, ◌++◌, length}
use Rattle.std.proofs.Common.{take, Option, Some, None, decimal, slice_index, refl, sym, ap, ◌∙◌}
use Rattle.std.proofs.Common.{subst, append_assoc, append-nil, arith}
use Rattle.std.specs.Fmt.{signed_decimal}
use Rattle.std.proofs.lemmas.Bool.{and_parts}
use Rattle.std.proofs.lemmas.Bool.Decides.{nat_tests}
use Rattle.plain_text.specs.Numbers.{hex_value}
use Rattle.plain_text.specs.Octets.{hex_digit, hex_text}
use Rattle.plain_text.specs.Escaped.{is_octet, escaped_text}
use Rattle.plain_text.proofs.EscapedText.{hex_value-found, hex_value-hex_digit, unescaped-found}
use Rattle.plain_text.proofs.EscapedText.{unescaped-escaped_text}
use Rattle.ber_values.specs.Bits.{IsBits}
use Rattle.ber_values.specs.declared.visible_string.TheConstants.{VISIBLE_LIMIT}
use Rattle.mms_data.specs.Datum.{Datum, boolean, integer, unsigned, bits, real, octets, text}
use Rattle.mms_data.specs.Datum.{structure, array, depth}
use Rattle.mms_data.specs.Text.Texts.{data_text}
use Rattle.mms_data.specs.declared.text.word_front.Next.{Next}
use Rattle.mms_data.specs.declared.text.word_front.Next.TheVariants as next
use Rattle.mms_data.specs.Text.WordFront.{next_of_kind, and_behind, front_of, word_front}
use Rattle.mms_data.specs.Text.TextRead.{IsLeaf, IsTextual, AreOctets}
use Rattle.mms_data.proofs.OfText.WordOctets.{small_octet}
use Rattle.mms_data.proofs.OfText.WordText.{is_same}
use Rattle.mms_data.proofs.OfText.ReadName.{octets_from_visible}
use Rattle.mms_data.proofs.OfText.WordFits.{Passes, passes_far, passes_front, front_passes, completes}
use Rattle.mms_data.proofs.OfText.WordFits.{front_of_within, fits_passes, Fits, Lives, AllHex, Padded}

-- a datum without members whose text begins as far as a word goes on
pub record BegunWord (word : List ℕ) : Type 0 where
  pub value : Datum
  pub shallow : depth value ≡ 1
  pub parts : IsTextual value
  pub more : List ℕ
  pub spelled : data_text value ≡ take (word_front word) word ++ more

-- Octets of digits.

-- octets whose digits these are
pub record DigitsOf (digits : List ℕ) (count : ℕ) : Type 0 where
  pub octets : List ℕ
  pub size : length octets ≡ count
  pub small : AreOctets octets
  pub spelled : hex_text octets ≡ digits

digits_more : (high low h l : ℕ) (more : List ℕ) (count : ℕ) → hex_value high ≡ Some h
    → hex_value low ≡ Some l → DigitsOf more count → DigitsOf (high ∷ low ∷ more) (suc count)
digits_more high low h l more count high_is low_is d =
    let first = hex_value-found high h high_is in
    let second = hex_value-found low l low_is in
    let octet : ℕ = h * 16 + l in
    let quotient : octet / 16 ≡ h = omega (arith, second.0) in
    let rest : octet % 16 ≡ l = omega (arith, second.0) in
    let small : is_octet octet ≡ true =
    let less : octet < 256 = omega (arith, first.0, second.0) in grind (arith, nat_tests, less) in
    record {
      octets = octet ∷ d.octets;
      size = ap suc d.size;
      small = rw (small, d.small) refl;
      spelled = (λ i. hex_digit (quotient i) ∷ hex_digit (rest i) ∷ d.spelled i)
          ∙ (λ i. first.1 i ∷ second.1 i ∷ more);
    }

pairs_of : (count : ℕ) (digits : List ℕ) → length digits ≡ 2 * count → AllHex digits
    → DigitsOf digits count
pairs_of zero [] e h = record { octets = []; size = refl; small = refl; spelled = refl }
pairs_of zero (c ∷ cs) e h = absurd (omega (arith, e))
pairs_of (suc count) [] e h = absurd (omega (arith, e))
pairs_of (suc count) (c ∷ []) e h = absurd (omega (arith, e))
pairs_of (suc count) (high ∷ low ∷ more) e h =
    digits_more high low h.0.0 h.1.0.0 more count h.0.1 h.1.0.1
    (pairs_of count more (omega (arith, e)) h.1.1)

-- digits, and one more where they are odd
record SomeOctets (digits : List ℕ) : Type 0 where
  pub octets : List ℕ
  pub small : AreOctets octets
  pub more : List ℕ
  pub spelled : hex_text octets ≡ digits ++ more

some_octets : (digits : List ℕ) → AllHex digits → SomeOctets digits
some_octets [] h = record { octets = []; small = refl; more = []; spelled = refl }
some_octets (c ∷ []) h =
    let d = digits_more c 48 h.0.0 0 [] 0 h.0.1 refl
    (record { octets = []; size = refl; small = refl; spelled = refl }) in
    record { octets = d.octets; small = d.small; more = 48 ∷ []; spelled = d.spelled }
some_octets (high ∷ low ∷ rest) h =
    let s = some_octets rest h.1.1 in
    let d = digits_more high low h.0.0 h.1.0.0 (rest ++ s.more) (length s.octets) h.0.1 h.1.0.1
    (record { octets = s.octets; size = refl; small = s.small; spelled = s.spelled }) in
    record { octets = d.octets; small = d.small; more = s.more; spelled = d.spelled }

digit_read : (octet : ℕ) → octet < 256
    → (hex_value (hex_digit (octet / 16)) ≡ Some (octet / 16))
    × (hex_value (hex_digit (octet % 16)) ≡ Some (octet % 16))
digit_read octet small = (
  hex_value-hex_digit (octet / 16) (omega (arith, small)),
  hex_value-hex_digit (octet % 16) (omega (arith, small)),
)

all_hex : (os : List ℕ) → AreOctets os → AllHex (hex_text os)
all_hex [] e = tt
all_hex (octet ∷ os) e =
    let p = and_parts (is_octet octet) _ e in
    let d = digit_read octet (small_octet octet p.0) in
    ((octet / 16, d.0), ((octet % 16, d.1), all_hex os p.1))

length_hex : (os : List ℕ) → length (hex_text os) ≡ 2 * length os
length_hex [] = refl
length_hex (octet ∷ os) = omega (arith, length_hex os)

-- Bits.

-- the end of an octet of so many bits is zero where the ends of its digits are
pad_digits : (b octet : ℕ) → 0 < b → b ≤ 8 → octet % 2 ^ (8 - b) ≡ 0
    → ((octet / 16) % 2 ^ (4 - min b 4) ≡ 0) × ((octet % 16) % 2 ^ (4 - min (b - 4) 4) ≡ 0)
pad_digits zero o some few e = absurd (omega (arith, some))
pad_digits (suc zero) o some few e = (omega (arith, e), omega (arith, e))
pad_digits (suc (suc zero)) o some few e = (omega (arith, e), omega (arith, e))
pad_digits (suc (suc (suc zero))) o some few e = (omega (arith, e), omega (arith, e))
pad_digits (suc (suc (suc (suc zero)))) o some few e = (omega (arith, e), omega (arith, e))
pad_digits (suc (suc (suc (suc (suc zero))))) o some few e =
    (omega (arith, e), omega (arith, e))
pad_digits (suc (suc (suc (suc (suc (suc zero)))))) o some few e =
    (omega (arith, e), omega (arith, e))
pad_digits (suc (suc (suc (suc (suc (suc (suc zero))))))) o some few e =
    (omega (arith, e), omega (arith, e))
pad_digits (suc (suc (suc (suc (suc (suc (suc (suc zero)))))))) o some few e =
    (omega (arith, e), omega (arith, e))
pad_digits (suc (suc (suc (suc (suc (suc (suc (suc (suc b))))))))) o some few e =
    absurd (omega (arith, few))

pad_octet : (b h l : ℕ) → 0 < b → b ≤ 8 → h < 16 → l < 16 → h % 2 ^ (4 - min b 4) ≡ 0
    → l % 2 ^ (4 - min (b - 4) 4) ≡ 0 → (h * 16 + l) % 2 ^ (8 - b) ≡ 0
pad_octet zero h l some few p q e f = absurd (omega (arith, some))
pad_octet (suc zero) h l some few p q e f = omega (arith, p, q, e, f)
pad_octet (suc (suc zero)) h l some few p q e f = omega (arith, p, q, e, f)
pad_octet (suc (suc (suc zero))) h l some few p q e f = omega (arith, p, q, e, f)
pad_octet (suc (suc (suc (suc zero)))) h l some few p q e f = omega (arith, p, q, e, f)
pad_octet (suc (suc (suc (suc (suc zero))))) h l some few p q e f = omega (arith, p, q, e, f)
pad_octet (suc (suc (suc (suc (suc (suc zero)))))) h l some few p q e f =
    omega (arith, p, q, e, f)
pad_octet (suc (suc (suc (suc (suc (suc (suc zero))))))) h l some few p q e f =
    omega (arith, p, q, e, f)
pad_octet (suc (suc (suc (suc (suc (suc (suc (suc zero)))))))) h l some few p q e f =
    omega (arith, p, q, e, f)
pad_octet (suc (suc (suc (suc (suc (suc (suc (suc (suc b))))))))) h l some few p q e f =
    absurd (omega (arith, few))

free : (b v : ℕ) → 8 < b → (v % 2 ^ (4 - min b 4) ≡ 0) × (v % 2 ^ (4 - min (b - 4) 4) ≡ 0)
free b v more =
    let first : 4 - min b 4 ≡ 0 = omega (arith, more) in
    let second : 4 - min (b - 4) 4 ≡ 0 = omega (arith, more) in
    (rw first (omega arith), rw second (omega arith))

abbrev twice : ℕ → ℕ
twice zero = zero
twice (suc n) = suc (suc (twice n))

twice-is : (n : ℕ) → twice n ≡ 2 * n
twice-is zero = refl
twice-is (suc n) = omega (arith, twice-is n)

last_of : (o : ℕ) (os : List ℕ) → 0 < length os
    → slice_index (o ∷ os) (length (o ∷ os) - 1) ≡ slice_index os (length os - 1)
last_of o [] some = absurd (omega (arith, some))
last_of o (q ∷ os) some =
    let e : length (o ∷ q ∷ os) - 1 ≡ suc (length (q ∷ os) - 1) = omega arith in
    ap (slice_index (o ∷ q ∷ os)) e

to_padded : (b : ℕ) (os : List ℕ) → AreOctets os → length os ≡ (b + 7) / 8
    → slice_index os (length os - 1) % 2 ^ (8 * length os - b) ≡ 0
    → Padded b (twice (length os)) (hex_text os)
to_padded b [] octets_are fitting pad = tt
to_padded b (o ∷ []) octets_are fitting pad =
    let p = and_parts (is_octet o) _ octets_are in
    let d = digit_read o (small_octet o p.0) in
    let k = pad_digits b o (omega (arith, fitting)) (omega (arith, fitting)) pad in
    ((o / 16, d.0, k.0), ((o % 16, d.1, k.1), tt))
to_padded b (o ∷ q ∷ os) octets_are fitting pad =
    let p = and_parts (is_octet o) _ octets_are in
    let d = digit_read o (small_octet o p.0) in
    let more : 8 < b = omega (arith, fitting) in
    let same : b - 4 - 4 ≡ b - 8 = omega arith in
    let unused : 8 * length (o ∷ q ∷ os) - b ≡ 8 * length (q ∷ os) - (b - 8) =
    omega (arith, more) in
    let pad_rest : slice_index (q ∷ os) (length (q ∷ os) - 1)
    % 2 ^ (8 * length (q ∷ os) - (b - 8)) ≡ 0 =
    ap (λ n. slice_index (q ∷ os) (length (q ∷ os) - 1) % 2 ^ n) (sym unused)
    ∙ sym (ap (λ v. v % 2 ^ (8 * length (o ∷ q ∷ os) - b)) (last_of o (q ∷ os) (omega arith)))
    ∙ pad in
    let rest = to_padded (b - 8) (q ∷ os) p.1 (omega (arith, fitting, more)) pad_rest in (
      (o / 16, d.0, (free b (o / 16) more).0),
      (
        (o % 16, d.1, (free b (o % 16) more).1),
        subst (λ (n : ℕ). Padded n (twice (length (q ∷ os))) (hex_text (q ∷ os))) (sym same) rest,
      ),
    )

-- bits whose digits these are
record BitsOf (b : ℕ) (digits : List ℕ) : Type 0 where
  pub octets : List ℕ
  pub fits : IsBits (record { count = b; octets = octets })
  pub spelled : hex_text octets ≡ digits

-- the only octet
bits_last : (b high low h l : ℕ) → 0 < b → b ≤ 8 → hex_value high ≡ Some h
    → h % 2 ^ (4 - min b 4) ≡ 0 → hex_value low ≡ Some l → l % 2 ^ (4 - min (b - 4) 4) ≡ 0
    → BitsOf b (high ∷ low ∷ [])
unfolding digits_more
bits_last b high low h l some few h_is h_pad l_is l_pad =
    let first = hex_value-found high h h_is in
    let second = hex_value-found low l l_is in
    let d = digits_more high low h l [] 0 h_is l_is
    (record { octets = []; size = refl; small = refl; spelled = refl }) in
    record {
      octets = (h * 16 + l) ∷ [];
      fits = record {
        fitting = omega (arith, some, few);
        in_octets = d.small;
        padded = pad_octet b h l some few first.0 second.0 h_pad l_pad;
      };
      spelled = d.spelled;
    }

-- one octet before others
bits_more : (b high low h l : ℕ) (more : List ℕ) → 8 < b → hex_value high ≡ Some h
    → hex_value low ≡ Some l → BitsOf (b - 8) more → BitsOf b (high ∷ low ∷ more)
unfolding digits_more
bits_more b high low h l more long h_is l_is rest =
    let d = digits_more high low h l more (length rest.octets) h_is l_is
    (record {
      octets = rest.octets;
      size = refl;
      small = rest.fits.in_octets;
      spelled = rest.spelled;
    }) in
    let size : length rest.octets ≡ (b - 8 + 7) / 8 = rest.fits.fitting in
    let some : 0 < length rest.octets = omega (arith, size, long) in
    let unused : 8 * length rest.octets - (b - 8) ≡ 8 * suc (length rest.octets) - b =
    omega (arith, long) in
    record {
      octets = (h * 16 + l) ∷ rest.octets;
      fits = record {
        fitting = omega (arith, size, long);
        in_octets = d.small;
        padded = ap (λ o. o % 2 ^ (8 * suc (length rest.octets) - b))
            (last_of (h * 16 + l) rest.octets some)
            ∙ ap (λ n. slice_index rest.octets (length rest.octets - 1) % 2 ^ n) (sym unused)
            ∙ rest.fits.padded;
      };
      spelled = d.spelled;
    }

of_padded : (b m : ℕ) (digits : List ℕ) → m ≡ (b + 7) / 8 → Padded b (twice m) digits
    → BitsOf b digits
of_padded b zero [] e p =
    let none : b ≡ 0 = omega (arith, e) in
    rw none (record {
      octets = [];
      fits = record { fitting = refl; in_octets = refl; padded = refl };
      spelled = refl;
    })
of_padded b zero (c ∷ cs) e p = absurd p
of_padded b (suc m) [] e p = absurd p
of_padded b (suc m) (c ∷ []) e p = absurd p.1
of_padded b (suc zero) (high ∷ low ∷ []) e p =
    bits_last b high low p.0.0 p.1.0.0 (omega (arith, e)) (omega (arith, e)) p.0.1 p.0.2
    p.1.0.1 p.1.0.2
of_padded b (suc zero) (high ∷ low ∷ c ∷ cs) e p = absurd p.1.1
of_padded b (suc (suc m)) (high ∷ low ∷ more) e p =
    let long : 8 < b = omega (arith, e) in
    let same : b - 4 - 4 ≡ b - 8 = omega arith in
    bits_more b high low p.0.0 p.1.0.0 more long p.0.1 p.1.0.1
    (of_padded (b - 8) (suc m) more (omega (arith, e, long))
    (subst (λ (n : ℕ). Padded n (twice (suc m)) more) same p.1.1))

-- Starts.

-- a word of this kind that fits is the front of the text of a datum
record Made (kind : ℕ) (held : List ℕ) : Type 0 where
  pub value : Datum
  pub shallow : depth value ≡ 1
  pub parts : IsTextual value
  pub more : List ℕ
  pub spelled : data_text value ≡ kind ∷ (held ++ more)

record Starts (kind : ℕ) (s : Next) : Type 0 where
  pub lives : Lives s
  pub made : (held : List ℕ) → Fits s held → Made kind held

starts_boolean : (b : Bool) (kind : ℕ) → data_text (boolean b) ≡ kind ∷ [] → Starts kind next.Nothing
starts_boolean b kind e = record {
  lives = tt;
  made = λ held f. record {
    value = boolean b;
    shallow = refl;
    parts = tt;
    more = [];
    spelled = e ∙ ap (λ t. kind ∷ (t ++ [])) (sym f);
  };
}

starts_integer : Starts 105 next.Integer
starts_integer = record {
  lives = tt;
  made = λ held f. record {
    value = integer f.0;
    shallow = refl;
    parts = f.1;
    more = [];
    spelled = ap (λ t. 105 ∷ t) (sym f.2 ∙ sym (append-nil held));
  };
}

starts_unsigned : Starts 117 (next.Number (2 ^ 63 - 1))
starts_unsigned = record {
  lives = omega arith;
  made = λ held f. record {
    value = unsigned f.number;
    shallow = refl;
    parts = omega (arith, f.few);
    more = [];
    spelled = ap (λ t. 117 ∷ t) (sym f.spelled ∙ sym (append-nil held));
  };
}

starts_bits : Starts 98 next.Count
starts_bits = record {
  lives = tt;
  made = λ held f.
      let m : ℕ = (f.number + 7) / 8 in
      let d = of_padded f.number m f.digits refl
      (subst (λ (n : ℕ). Padded f.number n f.digits) (sym (twice-is m)) f.padded) in
      record {
        value = bits (record { count = f.number; octets = d.octets });
        shallow = refl;
        parts = (d.fits, f.small);
        more = [];
        spelled = ap (λ t. 98 ∷ t) (append_assoc (decimal f.number) (46 ∷ []) (hex_text d.octets)
            ∙ ap (λ t. decimal f.number ++ 46 ∷ t) d.spelled ∙ sym f.spelled
            ∙ sym (append-nil held));
      };
}

starts_real : Starts 102 (next.Hexadecimal 8)
starts_real = record {
  lives = tt;
  made = λ held f.
      let d = pairs_of 4 held f.0 f.1 in
      record {
        value = real d.octets;
        shallow = refl;
        parts = (d.size, d.small);
        more = [];
        spelled = ap (λ t. 102 ∷ t) (d.spelled ∙ sym (append-nil held));
      };
}

starts_octets : Starts 111 next.Pairs
starts_octets = record {
  lives = tt;
  made = λ held f.
      let d = some_octets held f in
      record {
        value = octets d.octets;
        shallow = refl;
        parts = d.small;
        more = d.more;
        spelled = ap (λ t. 111 ∷ t) d.spelled;
      };
}

starts_text : Starts 118 (next.Text VISIBLE_LIMIT)
starts_text = record {
  lives = tt;
  made = λ held f. record {
    value = text f.octets;
    shallow = refl;
    parts = (f.few, f.visible);
    more = [];
    spelled = ap (λ t. 118 ∷ t) (sym (unescaped-found held f.octets f.is)
        ∙ sym (append-nil held));
  };
}

-- one kind of several
kind_of : (kind k : ℕ) (s t : Next) (others : Option Next) → Starts k t
    → (others ≡ Some s → Starts kind s) → cond (kind == k) (Some t) others ≡ Some s
    → Starts kind s
kind_of kind k s t others here there e = by_test (kind == k) refl e
  where
    by_test : (b : Bool) → (kind == k) ≡ b → cond b (Some t) others ≡ Some s → Starts kind s
    by_test true q e =
        let same : t ≡ s = cc in
        subst (λ (u : Next). Starts kind u) same
        (subst (λ (c : ℕ). Starts c t) (sym (is_same kind k q)) here)
    by_test false q e = there e

starts : (kind : ℕ) (s : Next) → next_of_kind kind ≡ Some s → Starts kind s
starts kind s e =
    kind_of kind 84 s next.Nothing _ (starts_boolean true 84 refl) (λ e.
    kind_of kind 70 s next.Nothing _ (starts_boolean false 70 refl) (λ e.
    kind_of kind 105 s next.Integer _ starts_integer (λ e.
    kind_of kind 117 s (next.Number (2 ^ 63 - 1)) _ starts_unsigned (λ e.
    kind_of kind 98 s next.Count _ starts_bits (λ e.
    kind_of kind 102 s (next.Hexadecimal 8) _ starts_real (λ e.
    kind_of kind 111 s next.Pairs _ starts_octets (λ e.
    kind_of kind 118 s (next.Text VISIBLE_LIMIT) _ starts_text (λ e. absurd cc) e) e) e) e) e) e) e) e

nothing_begun : (word : List ℕ) → word_front word ≡ 0 → BegunWord word
nothing_begun word e = record {
  value = boolean true;
  shallow = refl;
  parts = tt;
  more = data_text (boolean true);
  spelled = ap (λ n. take n word ++ data_text (boolean true)) (sym e);
}

begun_kind : (kind : ℕ) (held : List ℕ) (o : Option Next) → next_of_kind kind ≡ o
    → BegunWord (kind ∷ held)
begun_kind kind held None e =
    nothing_begun (kind ∷ held) (ap (and_behind (λ s. front_of held s)) e)
begun_kind kind held (Some s) e =
    let start = starts kind s e in
    let front : List ℕ = take (front_of held s) held in
    let whole = completes front s start.lives (front_passes held s) in
    let made = start.made (front ++ whole.0) whole.1 in
    let count : word_front (kind ∷ held) ≡ suc (front_of held s) =
    ap (and_behind (λ t. front_of held t)) e in
    record {
      value = made.value;
      shallow = made.shallow;
      parts = made.parts;
      more = whole.0 ++ made.more;
      spelled = made.spelled ∙ ap (λ t. kind ∷ t) (append_assoc front whole.0 made.more)
          ∙ ap (λ n. take n (kind ∷ held) ++ (whole.0 ++ made.more)) (sym count);
    }

pub word_begun : (word : List ℕ) → BegunWord word
word_begun [] = nothing_begun [] refl
word_begun (kind ∷ held) = begun_kind kind held (next_of_kind kind) refl

-- the text of a datum without members: its letter, and what fits behind it
record Spelling (d : Datum) : Type 0 where
  pub kind : ℕ
  pub held : List ℕ
  pub state : Next
  pub spelled : data_text d ≡ kind ∷ held
  pub starts : next_of_kind kind ≡ Some state
  pub fits : Fits state held

spelling : (d : Datum) → IsLeaf d → IsTextual d → Spelling d
spelling (structure ds) leaf t = absurd leaf
spelling (array ds) leaf t = absurd leaf
spelling (boolean true) leaf t = record {
  kind = 84;
  held = [];
  state = next.Nothing;
  spelled = refl;
  starts = refl;
  fits = refl;
}
spelling (boolean false) leaf t = record {
  kind = 70;
  held = [];
  state = next.Nothing;
  spelled = refl;
  starts = refl;
  fits = refl;
}
spelling (integer z) leaf t = record {
  kind = 105;
  held = signed_decimal z;
  state = next.Integer;
  spelled = refl;
  starts = refl;
  fits = (z, t, refl);
}
spelling (unsigned n) leaf t = record {
  kind = 117;
  held = decimal n;
  state = next.Number (2 ^ 63 - 1);
  spelled = refl;
  starts = refl;
  fits = record {
    number = n;
    few = omega (arith, t);
    small = omega (arith, t);
    spelled = refl;
  };
}
spelling (bits b) leaf t = record {
  kind = 98;
  held = decimal b.count ++ 46 ∷ hex_text b.octets;
  state = next.Count;
  spelled = ap (λ u. 98 ∷ u) (append_assoc (decimal b.count) (46 ∷ []) (hex_text b.octets));
  starts = refl;
  fits = record {
    number = b.count;
    small = t.1;
    digits = hex_text b.octets;
    padded = subst (λ (n : ℕ). Padded b.count n (hex_text b.octets))
        (twice-is (length b.octets) ∙ ap (λ n. 2 * n) t.0.fitting)
        (to_padded b.count b.octets t.0.in_octets t.0.fitting t.0.padded);
    spelled = refl;
  };
}
spelling (real o) leaf t = record {
  kind = 102;
  held = hex_text o;
  state = next.Hexadecimal 8;
  spelled = refl;
  starts = refl;
  fits = (omega (arith, length_hex o, t.0), all_hex o t.1);
}
spelling (octets o) leaf t = record {
  kind = 111;
  held = hex_text o;
  state = next.Pairs;
  spelled = refl;
  starts = refl;
  fits = all_hex o t;
}
spelling (text o) leaf t = record {
  kind = 118;
  held = escaped_text o;
  state = next.Text VISIBLE_LIMIT;
  spelled = refl;
  starts = refl;
  fits = record {
    octets = o;
    is = unescaped-escaped_text o (octets_from_visible o t.1);
    visible = t.1;
    few = t.0;
  };
}

pub word_passes : (d : Datum) → IsLeaf d → IsTextual d → (front more others : List ℕ)
    → front ++ more ≡ data_text d → length front ≤ word_front (front ++ others)
word_passes d leaf t [] more others e = omega arith
word_passes d leaf t (f ∷ fs) more others e =
    let s = spelling d leaf t in
    let whole : f ∷ (fs ++ more) ≡ s.kind ∷ s.held = e ∙ s.spelled in
    let first : f ≡ s.kind = cc in
    let rest : s.held ≡ fs ++ more = cc in
    let passes : Passes fs s.state = passes_front fs more s.state
    (subst (λ (u : List ℕ). Passes u s.state) rest (fits_passes s.held s.state s.fits)) in
    let state : next_of_kind f ≡ Some s.state = ap next_of_kind first ∙ s.starts in
    omega (
      arith,
      passes_far fs others s.state passes,
      ap (and_behind (λ u. front_of (fs ++ others) u)) state,
    )

front_in_kind : (held : List ℕ) (o : Option Next)
    → and_behind (λ s. front_of held s) o ≤ suc (length held)
front_in_kind held None = omega arith
front_in_kind held (Some s) = omega (arith, front_of_within held s)

pub front_within : (word : List ℕ) → word_front word ≤ length word
front_within [] = omega arith
front_within (kind ∷ held) = front_in_kind held (next_of_kind kind)
