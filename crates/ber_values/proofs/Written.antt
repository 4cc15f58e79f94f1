-- What is written spells its value.
use Rattle.std.proofs.Common.{◌≡◌, ◌≢◌, ℕ, zero, suc, ◌+◌, ◌-◌, ◌*◌, ◌/◌, ◌%◌, ◌^◌, ◌<◌, ◌≤◌, Bool, true, false, ◌&&◌, ◌==◌, cond, eqb, ltb, List, [], ◌∷◌, ◌++◌, length, get_or, ℤ, pos, negsuc, refl, sym, ap, subst, ◌∙◌, inl, inr, set, take, drop, append_assoc, arith}
use Rattle.std.proofs.lemmas.Bool.{cond_both, ltb-true, lt-ltb, le-ltb, cases_lt}
use Rattle.std.proofs.lemmas.List.{length-append, length_push, set-get_or, take_at, drop_at}
use Rattle.std.proofs.lemmas.Int.{ints}
use Rattle.std.proofs.Math.Nat.{mod-eq_of_lt, add-mul-mod_self_right}
use Rattle.std.specs.Int.RustNames.{FitsSigned}
use Rattle.std.proofs.lemmas.Nat.{mod-pow-add, pow-add, pow_pos, shr_split}
use Rattle.ber_values.specs.Octets.{IsOctets, number_of}
use Rattle.ber_values.specs.Tags.{SpellsLength}
use Rattle.std.specs.Int.{w64, cast_unsigned}
use Rattle.ber_values.specs.Writing.{octets_of, length_size, length_octets, head_octets, written, number_size, integer_size, integer_octets}
use Rattle.ber_values.specs.declared.tag.Tag.{Tag}
use Rattle.ber_values.specs.declared.head.Head.{Head}
use Rattle.ber_values.specs.Bits.{Bits, IsBits}
use Rattle.ber_values.specs.Reading.{Taken}
use Rattle.ber_values.specs.Tags.{tag_with}
use Rattle.ber_values.specs.Grammars.{taken, branch_in, first_is}
use Rattle.ber_values.specs.Passing.{skip}
use Rattle.ber_values.specs.Extents.{Extent, definite}
use Rattle.ber_values.specs.Heads.{head_of, element_by, extent_within, extent_of, SpellsHead}
use Rattle.ber_values.specs.Numbers.{twos_complement, SpellsInteger}
use Rattle.ber_values.specs.Booleans.{SpellsBoolean}
use Rattle.ber_values.specs.BitContents.{with_zeros, SpellsBits}
use Rattle.ber_values.specs.Writing.{boolean_octets, bits_octets}
use Rattle.ber_values.specs.Elements.{Kind, integer, unsigned, boolean, bits, oid, visible, Value, SpellsContents, contents_from, contents_octets, IsWritable, WrittenAt}
use Rattle.ber_values.proofs.Tags.{not_marked}
use Rattle.ber_values.proofs.Octets.{number_of-push, IsOctets-rest, FirstBounds, first_bounds, mul_le}
use Rattle.ber_values.proofs.Signed.{pos_less}

pub octets_of-more : (count number : ℕ) → 0 < count → octets_of count number ≡ octets_of (count - 1) (number / 256) ++ number % 256 ∷ []
octets_of-more zero number some = absurd (omega arith)
octets_of-more (suc count) number some = let e : suc count - 1 ≡ count = omega arith in rw e refl

pub length-octets_of : (count number : ℕ) → length (octets_of count number) ≡ count
length-octets_of zero number = refl
length-octets_of (suc count) number = length_push (octets_of count (number / 256)) (number % 256) ∙ omega (arith, length-octets_of count (number / 256))

-- the last octets of a number are the number without what lies above them
pub number_of-octets_of : (count number : ℕ) → number_of (octets_of count number) ≡ number % 2 ^ (8 * count)
number_of-octets_of zero number = omega arith
number_of-octets_of (suc count) number =
    let more : number_of (octets_of count (number / 256) ++ number % 256 ∷ []) ≡ number_of (octets_of count (number / 256)) * 256 + number % 256 = number_of-push (octets_of count (number / 256)) (number % 256) in
    let split : number % 2 ^ (8 * count + 8) ≡ (number / 256 % 2 ^ (8 * count)) * 256 + number % 256 = mod-pow-add number (8 * count) 8 in
    let e : 8 * suc count ≡ 8 * count + 8 = omega arith in
    rw e (omega (arith, more, split, number_of-octets_of count (number / 256)))

-- a length has as many octets as it needs
pub record FitsLength (n size : ℕ) : Type 0 where
  pub some : 0 < size
  pub few : size ≤ 4
  pub below : n < 2 ^ (8 * size)

pub length_size-fits : (n : ℕ) → n < 2 ^ 32 → FitsLength n (length_size n)
length_size-fits n lt =
    cond_both (ltb n (2 ^ 8)) 1 (cond (ltb n (2 ^ 16)) 2 (cond (ltb n (2 ^ 24)) 3 4)) (FitsLength n) (λ e. record { some = omega arith; few = omega arith; below = ltb-true n (2 ^ 8) e })
    (λ _. cond_both (ltb n (2 ^ 16)) 2 (cond (ltb n (2 ^ 24)) 3 4) (FitsLength n) (λ e. record { some = omega arith; few = omega arith; below = ltb-true n (2 ^ 16) e })
    (λ _. cond_both (ltb n (2 ^ 24)) 3 4 (FitsLength n) (λ e. record { some = omega arith; few = omega arith; below = ltb-true n (2 ^ 24) e }) (λ _. record { some = omega arith; few = omega arith; below = lt })))

pub length-integer_octets : (value : ℤ) → length (integer_octets value) ≡ integer_size value
unfolding integer_octets
length-integer_octets value = length-octets_of (integer_size value) (cast_unsigned w64 value)

-- a head and then the octets of an integer
pub put_written : (old mid new : List ℕ) (tag size number : ℕ) (value : ℤ) → size ≡ integer_size value → number ≡ cast_unsigned w64 value → mid ≡ old ++ head_octets tag size → new ≡ mid ++ octets_of size number → new ≡ old ++ written tag (integer_octets value)
unfolding integer_octets
put_written old mid new tag size number value sized is head tail =
    let len : length (integer_octets value) ≡ integer_size value = length-integer_octets value in
    let one : new ≡ (old ++ head_octets tag size) ++ octets_of size number = tail ∙ ap (λ (xs : List ℕ). xs ++ octets_of size number) head in
    let two : (old ++ head_octets tag size) ++ octets_of size number ≡ old ++ (head_octets tag size ++ octets_of size number) = append_assoc old (head_octets tag size) (octets_of size number) in
    let three : old ++ (head_octets tag size ++ octets_of size number) ≡ old ++ (head_octets tag (integer_size value) ++ octets_of (integer_size value) (cast_unsigned w64 value)) = ap (λ (k : ℕ). old ++ (head_octets tag k ++ octets_of k number)) sized ∙ ap (λ (n : ℕ). old ++ (head_octets tag (integer_size value) ++ octets_of (integer_size value) n)) is in
    one ∙ two ∙ three ∙ ap (λ (k : ℕ). old ++ (head_octets tag k ++ integer_octets value)) (sym len)

-- a number has as many octets as it needs, with a bit to spare
pub record FitsNumber (n size : ℕ) : Type 0 where
  pub some : 0 < size
  pub few : size ≤ 8
  pub below : n < 128 * 2 ^ (8 * (size - 1))

fits_number : (n size : ℕ) → 0 < size → size ≤ 8 → n < 128 * 2 ^ (8 * (size - 1)) → FitsNumber n size
fits_number n size some few below = record { some = some; few = few; below = below }

pub number_size-fits : (n : ℕ) → n < 2 ^ 63 → FitsNumber n (number_size n)
number_size-fits n lt =
    cond_both (ltb n (2 ^ 7)) 1 (cond (ltb n (2 ^ 15)) 2 (cond (ltb n (2 ^ 23)) 3 (cond (ltb n (2 ^ 31)) 4 (cond (ltb n (2 ^ 39)) 5 (cond (ltb n (2 ^ 47)) 6 (cond (ltb n (2 ^ 55)) 7 8)))))) (FitsNumber n) (λ e. fits_number n 1 (omega arith) (omega arith) (ltb-true n (2 ^ 7) e))
    (λ _. cond_both (ltb n (2 ^ 15)) 2 (cond (ltb n (2 ^ 23)) 3 (cond (ltb n (2 ^ 31)) 4 (cond (ltb n (2 ^ 39)) 5 (cond (ltb n (2 ^ 47)) 6 (cond (ltb n (2 ^ 55)) 7 8))))) (FitsNumber n) (λ e. fits_number n 2 (omega arith) (omega arith) (ltb-true n (2 ^ 15) e))
    (λ _. cond_both (ltb n (2 ^ 23)) 3 (cond (ltb n (2 ^ 31)) 4 (cond (ltb n (2 ^ 39)) 5 (cond (ltb n (2 ^ 47)) 6 (cond (ltb n (2 ^ 55)) 7 8)))) (FitsNumber n) (λ e. fits_number n 3 (omega arith) (omega arith) (ltb-true n (2 ^ 23) e))
    (λ _. cond_both (ltb n (2 ^ 31)) 4 (cond (ltb n (2 ^ 39)) 5 (cond (ltb n (2 ^ 47)) 6 (cond (ltb n (2 ^ 55)) 7 8))) (FitsNumber n) (λ e. fits_number n 4 (omega arith) (omega arith) (ltb-true n (2 ^ 31) e))
    (λ _. cond_both (ltb n (2 ^ 39)) 5 (cond (ltb n (2 ^ 47)) 6 (cond (ltb n (2 ^ 55)) 7 8)) (FitsNumber n) (λ e. fits_number n 5 (omega arith) (omega arith) (ltb-true n (2 ^ 39) e))
    (λ _. cond_both (ltb n (2 ^ 47)) 6 (cond (ltb n (2 ^ 55)) 7 8) (FitsNumber n) (λ e. fits_number n 6 (omega arith) (omega arith) (ltb-true n (2 ^ 47) e))
    (λ _. cond_both (ltb n (2 ^ 55)) 7 8 (FitsNumber n) (λ e. fits_number n 7 (omega arith) (omega arith) (ltb-true n (2 ^ 55) e)) (λ _. fits_number n 8 (omega arith) (omega arith) lt)))))))

IsOctets-push : (octets : List ℕ) (x : ℕ) → IsOctets octets → x < 256 → IsOctets (octets ++ x ∷ [])
IsOctets-push [] x fits lt zero = lt
IsOctets-push [] x fits lt (suc i) = omega arith
IsOctets-push (y ∷ octets) x fits lt zero = fits 0
IsOctets-push (y ∷ octets) x fits lt (suc i) = IsOctets-push octets x (IsOctets-rest y octets fits) lt i

pub IsOctets-octets_of : (count number : ℕ) → IsOctets (octets_of count number)
IsOctets-octets_of zero number = λ i. omega arith
IsOctets-octets_of (suc count) number = IsOctets-push (octets_of count (number / 256)) (number % 256) (IsOctets-octets_of count (number / 256)) (omega arith)

-- the shortest length is a length
pub length_spelled : (n : ℕ) → n < 2 ^ 32 → SpellsLength n (length_octets n)
unfolding length_octets
length_spelled n lt =
    cond_both (ltb n 128) (n ∷ []) ((128 + length_size n) ∷ octets_of (length_size n) n) (SpellsLength n)
    (λ e. inl (ltb-true n 128 e, refl, refl))
    (λ _.
    let fits : FitsLength n (length_size n) = length_size-fits n lt in
    let len : length (octets_of (length_size n) n) ≡ length_size n = length-octets_of (length_size n) n in
    inr (omega arith, omega arith, omega arith, sym (number_of-octets_of (length_size n) n ∙ mod-eq_of_lt fits.below)))

-- ---- integers

first_below : (octets : List ℕ) → IsOctets octets → 0 < length octets → number_of octets < 128 * 2 ^ (8 * (length octets - 1)) → get_or octets 0 0 < 128
first_below octets fits some below =
    let b : FirstBounds octets = first_bounds octets fits some in
    elim (cases_lt (get_or octets 0 0) 128) [ inl lt ↦ lt | inr ge ↦ (let m : 128 * b.unit ≤ get_or octets 0 0 * b.unit = mul_le b.unit ge in absurd (omega arith)) ]

first_above : (octets : List ℕ) → IsOctets octets → 0 < length octets → 128 * 2 ^ (8 * (length octets - 1)) ≤ number_of octets → 128 ≤ get_or octets 0 0
first_above octets fits some above =
    let b : FirstBounds octets = first_bounds octets fits some in
    elim (cases_lt (get_or octets 0 0) 128) [ inl lt ↦ (let le : get_or octets 0 0 + 1 ≤ 128 = omega arith in let m : (get_or octets 0 0 + 1) * b.unit ≤ 128 * b.unit = mul_le b.unit le in absurd (omega arith)) | inr ge ↦ ge ]

unit_whole : (size : ℕ) → 0 < size → 2 ^ (8 * size) ≡ 256 * 2 ^ (8 * (size - 1))
unit_whole size some = let e : 8 * size ≡ 8 * (size - 1) + 8 = omega arith in let p : 2 ^ (8 * (size - 1) + 8) ≡ 2 ^ (8 * (size - 1)) * 256 = pow-add 2 (8 * (size - 1)) 8 in rw e (omega arith)

pub positive_spelled : (n size : ℕ) → FitsNumber n size → twos_complement (octets_of size n) ≡ pos n
positive_spelled n size fits =
    let octets = octets_of size n in
    let len : length octets ≡ size = length-octets_of size n in
    let whole : 2 ^ (8 * size) ≡ 256 * 2 ^ (8 * (size - 1)) = unit_whole size fits.some in
    let below : n < 2 ^ (8 * size) = omega arith in
    let is : number_of octets ≡ n = number_of-octets_of size n ∙ mod-eq_of_lt below in
    let small : number_of octets < 128 * 2 ^ (8 * (length octets - 1)) = rw len (omega arith) in
    let lt : get_or octets 0 0 < 128 = first_below octets (IsOctets-octets_of size n) (omega arith) small in
    rw (lt-ltb (get_or octets 0 0) 128 lt) (ap pos is)

wrapped : (n size : ℕ) → size ≤ 8 → n < 2 ^ (8 * size) → (2 ^ 64 - suc n) % 2 ^ (8 * size) ≡ 2 ^ (8 * size) - suc n
wrapped n size few below =
    let whole = 2 ^ (8 * size) in
    let times = 2 ^ (64 - 8 * size) in
    let e : (64 - 8 * size) + 8 * size ≡ 64 = omega arith in
    let parts : 2 ^ 64 ≡ times * whole = ap (λ (k : ℕ). 2 ^ k) (sym e) ∙ pow-add 2 (64 - 8 * size) (8 * size) in
    let some : 0 < times = pow_pos (64 - 8 * size) in
    let less : times ≡ (times - 1) + 1 = omega arith in
    let more : times * whole ≡ (times - 1) * whole + whole = ap (λ (k : ℕ). k * whole) less ∙ omega arith in
    let sum : 2 ^ 64 - suc n ≡ (whole - suc n) + (times - 1) * whole = omega arith in
    let fits : whole - suc n < whole = omega arith in
    ap (λ (k : ℕ). k % whole) sum ∙ add-mul-mod_self_right (whole - suc n) (times - 1) whole ∙ mod-eq_of_lt fits

pub negative_spelled : (n size : ℕ) → FitsNumber n size → twos_complement (octets_of size (2 ^ 64 - suc n)) ≡ negsuc n
negative_spelled n size fits =
    let all = 2 ^ 64 - suc n in
    let octets = octets_of size all in
    let len : length octets ≡ size = length-octets_of size all in
    let whole : 2 ^ (8 * size) ≡ 256 * 2 ^ (8 * (size - 1)) = unit_whole size fits.some in
    let below : n < 2 ^ (8 * size) = omega arith in
    let is : number_of octets ≡ 2 ^ (8 * size) - suc n = number_of-octets_of size all ∙ wrapped n size fits.few below in
    let large : 128 * 2 ^ (8 * (length octets - 1)) ≤ number_of octets = rw len (omega arith) in
    let le : 128 ≤ get_or octets 0 0 = first_above octets (IsOctets-octets_of size all) (omega arith) large in
    let sum : number_of octets + n + 1 ≡ 2 ^ (8 * length octets) = rw len (omega arith) in
    rw (le-ltb (get_or octets 0 0) 128 le) (pos_less (number_of octets) n (2 ^ (8 * length octets)) sum)

pub integer_spelled : (value : ℤ) → FitsSigned w64 value → SpellsInteger value (integer_octets value)
unfolding integer_octets
integer_spelled (pos n) fits =
    let lt : n < 2 ^ 63 = omega (arith, ints, fits) in
    let f : FitsNumber n (number_size n) = number_size-fits n lt in
    let len : length (octets_of (number_size n) n) ≡ number_size n = length-octets_of (number_size n) n in
    ((omega arith, omega arith), sym (positive_spelled n (number_size n) f))
integer_spelled (negsuc n) fits =
    let lt : n < 2 ^ 63 = omega (arith, ints, fits) in
    let f : FitsNumber n (number_size n) = number_size-fits n lt in
    let len : length (octets_of (number_size n) (2 ^ 64 - suc n)) ≡ number_size n = length-octets_of (number_size n) (2 ^ 64 - suc n) in
    ((omega arith, omega arith), sym (negative_spelled n (number_size n) f))

fits_small : (n : ℕ) → n < 2 ^ 32 → FitsSigned w64 (pos n)
fits_small n lt = omega (arith, ints)

-- ---- bits

made : ℕ → List ℕ → Bits
made count octets = record { count = count; octets = octets }

zeros_kept : (unused : ℕ) (octets : List ℕ) → get_or octets (length octets - 1) 0 % 2 ^ unused ≡ 0 → with_zeros unused octets ≡ octets
zeros_kept unused octets zeros =
    let last = get_or octets (length octets - 1) 0 in
    let split : last / 2 ^ unused * 2 ^ unused + last % 2 ^ unused ≡ last = shr_split last unused in
    let same : last / 2 ^ unused * 2 ^ unused ≡ last = omega arith in
    ap (set octets (length octets - 1)) same ∙ set-get_or octets (length octets - 1) 0

pub bits_spelled : (value : Bits) → IsBits value → SpellsBits value (bits_octets value)
unfolding made
bits_spelled value is =
    let n = length value.octets in
    let fitting : n ≡ (value.count + 7) / 8 = is.fitting in
    let few : 8 * n - value.count < 8 = omega arith in
    let back : 8 * n - (8 * n - value.count) ≡ value.count = omega arith in
    let zeros : with_zeros (8 * n - value.count) value.octets ≡ value.octets = zeros_kept (8 * n - value.count) value.octets is.padded in
    (few, λ e. (let none : n ≡ 0 = ap length e in omega arith), ap (λ (k : ℕ). made k value.octets) (sym back) ∙ ap (λ (os : List ℕ). made (8 * n - (8 * n - value.count)) os) (sym zeros))

boolean_spelled : (value : Bool) → SpellsBoolean value (boolean_octets value)
boolean_spelled true = (255, refl, refl)
boolean_spelled false = (0, refl, refl)

-- the contents that are written for a value spell it
pub contents_spelled : (kind : Kind) (value : Value kind) → IsWritable kind value → SpellsContents kind value (contents_octets kind value)
contents_spelled integer value fits = integer_spelled value fits
contents_spelled unsigned value fits = (integer_spelled (pos value) (fits_small value fits), fits)
contents_spelled boolean value fits = boolean_spelled value
contents_spelled bits value fits = bits_spelled value fits.0
contents_spelled oid value fits = (fits, refl)
contents_spelled visible value fits = (fits, refl)

contents_few : (kind : Kind) (value : Value kind) → IsWritable kind value → length (contents_octets kind value) < 2 ^ 32
contents_few integer value fits = omega (arith, (integer_spelled value fits).0.1)
contents_few unsigned value fits = omega (arith, (integer_spelled (pos value) (fits_small value fits)).0.1)
contents_few boolean value fits = omega arith
contents_few bits value fits = omega (arith, fits.1)
contents_few oid value fits = omega (arith, fits.1)
contents_few visible value fits = omega (arith, fits.0)

-- ---- extents

-- the contents behind a tag that were written with their length
abbrev pub extent_written : ℕ → List ℕ → List ℕ → Taken Extent
extent_written at contents rest =
    let from = at + length (length_octets (length contents)) in
    record {
      value = record { body = from; end = from + length contents; contents = contents };
      next = from + length contents;
      rest = rest;
    }

and_false : (b c : Bool) → c ≡ false → (b && c) ≡ false
and_false true c e = e
and_false false c e = refl

definite-written : (at : ℕ) (contents rest : List ℕ) → length contents < 2 ^ 32
    → definite.begins at ((length_octets (length contents) ++ contents) ++ rest)
    (extent_written at contents rest)
unfolding definite
definite-written at contents rest few =
    let n = length contents in
    let from = at + length (length_octets n) in
    record {
      size = taken n from (contents ++ rest);
      size_spelled = record {
        spelling = length_octets n;
        spelled = length_spelled n few;
        parts = append_assoc (length_octets n) contents rest;
        place = refl;
      };
      within = omega (arith, length-append contents rest);
      is = ap (λ (os : List ℕ). record {
        value = record { body = from; end = from + n; contents = os };
        next = from + n;
        rest = rest;
      }) (sym (take_at contents rest n refl))
          ∙ ap (λ (os : List ℕ). record {
            value = record { body = from; end = from + n; contents = take n (contents ++ rest) };
            next = from + n;
            rest = os;
          }) (sym (drop_at contents rest n refl));
    }

pub extent-written : (constructed : Bool) (at : ℕ) (contents rest : List ℕ)
    → length contents < 2 ^ 32 → (extent_of constructed).begins at
    ((length_octets (length contents) ++ contents) ++ rest) (extent_written at contents rest)
unfolding extent_of extent_within branch_in
extent-written constructed at contents rest few =
    let octets = length_octets (length contents) in
    let other : first_is (λ first. eqb first 128) ((octets ++ contents) ++ rest) ≡ false =
    ap (first_is (λ first. eqb first 128)) (append_assoc octets contents rest)
    ∙ not_marked (length contents) octets (contents ++ rest) (length_spelled (length contents) few) in
    inr (and_false constructed _ other, definite-written at contents rest few)

-- ---- heads

tag_written : ℕ → ℕ → List ℕ → Taken Tag
tag_written tag at more = record { value = tag_with tag (tag % 32) false; next = at + 1; rest = more }

pub head_written : ℕ → ℕ → List ℕ → Head
unfolding tag_written
head_written tag at contents = head_of (tag_written tag at []) (extent_written (at + 1) contents [])

pub head_written-next : (tag at : ℕ) (contents : List ℕ) → (head_written tag at contents).next
    ≡ at + 1 + length (length_octets (length contents)) + length contents
unfolding head_written tag_written
head_written-next tag at contents = refl

pub head_spelled : (tag at : ℕ) (contents rest : List ℕ) → length contents < 2 ^ 32
    → tag % 32 ≢ 31 → SpellsHead at (written tag contents ++ rest) (head_written tag at contents)
unfolding head_written tag_written
head_spelled tag at contents rest few single =
    record {
      tag = tag_written tag at ((length_octets (length contents) ++ contents) ++ rest);
      extent = extent_written (at + 1) contents rest;
      tag_spelled = record {
        spelling = tag ∷ [];
        spelled = (single, refl);
        parts = refl;
        place = refl;
      };
      extent_spelled = extent-written (tag / 32 % 2 == 1) (at + 1) contents rest few;
      is = refl;
    }

pub contents_written : (tag at : ℕ) (contents rest : List ℕ) → contents_from at (written tag contents ++ rest) (head_written tag at contents) ≡ contents
unfolding head_written tag_written
contents_written tag at contents rest =
    let n = length contents in
    let front = tag ∷ length_octets n in
    let body = at + 1 + length (length_octets n) in
    let first : body - at ≡ length front = omega arith in
    let count : (body + n - at) - (body - at) ≡ n = omega arith in
    let parts : written tag contents ++ rest ≡ front ++ (contents ++ rest) = append_assoc front contents rest in
    let whole = written tag contents ++ rest in
    ap (λ (k : ℕ). take ((body + n - at) - (body - at)) (drop k whole)) first
    ∙ ap (λ (k : ℕ). take k (drop (length front) whole)) count
    ∙ ap (λ (os : List ℕ). take n (drop (length front) os)) parts
    ∙ ap (λ (os : List ℕ). take n os) (drop_at front (contents ++ rest) (length front) refl)
    ∙ take_at contents rest n refl

-- what is written is read back, whatever follows
pub element_written : (kind : Kind) (value : Value kind) (tag at : ℕ) (rest : List ℕ) → IsWritable kind value → tag % 32 ≢ 31 → WrittenAt kind value tag at (written tag (contents_octets kind value) ++ rest) (at + length (written tag (contents_octets kind value)))
unfolding head_written tag_written
element_written kind value tag at rest fits single =
    let contents = contents_octets kind value in
    record {
      head = head_written tag at contents;
      spelled = (head_spelled tag at contents rest (contents_few kind value fits) single, subst (SpellsContents kind value) (sym (contents_written tag at contents rest)) (contents_spelled kind value fits));
      class = refl;
      constructed = refl;
      number = refl;
      short = refl;
      ends = omega (arith, length-append (length_octets (length contents)) contents);
    }

-- an element that was written is passed over whole
pub skip-written : (tag at : ℕ) (contents rest : List ℕ) → length contents < 2 ^ 32 → tag % 32 ≢ 31 → skip.begins at (written tag contents ++ rest) (taken tt (at + length (written tag contents)) rest)
unfolding skip element_by head_written tag_written
skip-written tag at contents rest few single =
    let head = head_written tag at contents in
    let place : head.next ≡ at + length (written tag contents) = omega (arith, length-append (length_octets (length contents)) contents) in
    let count : length (written tag contents) ≡ at + length (written tag contents) - at = omega arith in (
      head,
      head_spelled tag at contents rest few single,
      ap (λ (os : List ℕ). taken tt (at + length (written tag contents)) os) (sym (drop_at (written tag contents) rest _ count))
          ∙ ap (λ (n : ℕ). taken tt n (drop (n - at) (written tag contents ++ rest))) (sym place),
    )
