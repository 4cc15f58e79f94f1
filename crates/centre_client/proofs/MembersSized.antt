-- The sizes of members, as a text has them.
use Rattle.std.proofs.Common.{◌≡◌, ℕ, zero, suc, ◌+◌, ◌-◌, ◌<◌, ◌≤◌, Bool, true, false, cond}
use Rattle.std.proofs.Common.{List, [], ◌∷◌, ◌++◌, length, drop, Option, Some, None, refl, sym, ap}
use Rattle.std.proofs.Common.{◌∙◌, subst, arith, length-append}
use Rattle.std.specs.Prelude.{IfNone}
use Rattle.std.specs.Option.{option_map, option_and_then}
use Rattle.std.proofs.lemmas.Bool.{eq-eqb}
use Rattle.ber_values.specs.Lengths.{capped, part_size}
use Rattle.ber_values.specs.declared.lengths.TheConstants.{MOST_LENGTH}
use Rattle.ber_values.proofs.Capped.{capped-written}
use Rattle.mms_data.specs.Datum.{Datum, structure, array, data_of}
use Rattle.mms_data.specs.DataWritten.{datum_octets, members_octets, datum_len}
use Rattle.mms_data.specs.Text.DatumIn.{DatumAndRest, MembersAndRest, member_first, leading_members}
use Rattle.mms_data.specs.Text.DatumIn.{some_leading_members, leading_datum, whole_datum, datum_in}
use Rattle.mms_data.specs.declared.data.octets.TheConstants.{MOST_DEPTH}
use Rattle.mms_data.specs.Text.TextRead.{begins_with}
use Rattle.mms_data.specs.Text.WordValue.{word_of, after_word, word_value}
use Rattle.centre_client.specs.ValueSizes.{datum_sized, members_sized}
use Rattle.centre_client.proofs.ValuesSized.{unmapped}

-- the members of so many levels in a text
abbrev leads : ℕ → ℕ → List ℕ → Option MembersAndRest
leads levels close os = leading_members (λ part. leading_datum levels part) close os

abbrev follows : ℕ → ℕ → ℕ → List ℕ → Option MembersAndRest
follows levels close most os =
    some_leading_members (λ part. leading_datum levels part) close most os

abbrev Sized : Type 0
Sized = ℕ × List ℕ

-- what was mapped to something
found : {A B : Type 0} (f : A → B) (o : Option A) (y : B) → option_map f o ≡ Some y
    → (x : A) × (o ≡ Some x) × (f x ≡ y)
found f None y e = absurd cc
found f (Some x) y e = (x, refl, cc)

one_less : (n : ℕ) → suc n - 1 ≡ n
one_less n = omega arith

-- ---- a datum

pub structure-sized : (levels : ℕ) (os inner rest : List ℕ) (len r : ℕ) → (levels ≡ 0 → ⊥)
    → os ≡ 123 ∷ inner → option_map members_sized (leads (levels - 1) 125 inner) ≡ Some (len, rest)
    → r ≡ capped (part_size len)
    → option_map datum_sized (leading_datum levels os) ≡ Some (r, rest)
structure-sized zero os inner rest len r some is sized size = absurd (some refl)
structure-sized (suc n) os inner rest len r some is sized size =
    let read = found members_sized (leads n 125 inner) (len, rest)
    (subst (λ k. option_map members_sized (leads k 125 inner) ≡ Some (len, rest)) (one_less n)
    sized) in
    let whole : r ≡ datum_len (structure (data_of read.0.0)) =
    size ∙ capped-written 162 len (members_octets (data_of read.0.0))
    (sym (ap (λ (p : Sized). p.0) read.2)) in
    ap (λ t. option_map datum_sized (leading_datum (suc n) t)) is
    ∙ ap (λ (o : Option MembersAndRest). option_map datum_sized
    (option_map (λ m. (structure (data_of m.0), m.1)) o)) read.1
    ∙ ap (λ (k : ℕ). Some (k, read.0.1)) (sym whole)
    ∙ ap (λ (t : List ℕ). Some (r, t)) (ap (λ (p : Sized). p.1) read.2)

pub structure-none : (levels : ℕ) (os inner : List ℕ) → os ≡ 123 ∷ inner
    → leads (levels - 1) 125 inner ≡ None → leading_datum levels os ≡ None
structure-none zero os inner is none = refl
structure-none (suc n) os inner is none =
    ap (λ t. leading_datum (suc n) t) is
    ∙ ap (λ (o : Option MembersAndRest). option_map (λ m. (structure (data_of m.0), m.1)) o)
    (subst (λ k. leads k 125 inner ≡ None) (one_less n) none)

pub array-sized : (levels : ℕ) (os inner rest : List ℕ) (len r : ℕ) → (levels ≡ 0 → ⊥)
    → os ≡ 91 ∷ inner → option_map members_sized (leads (levels - 1) 93 inner) ≡ Some (len, rest)
    → r ≡ capped (part_size len)
    → option_map datum_sized (leading_datum levels os) ≡ Some (r, rest)
array-sized zero os inner rest len r some is sized size = absurd (some refl)
array-sized (suc n) os inner rest len r some is sized size =
    let read = found members_sized (leads n 93 inner) (len, rest)
    (subst (λ k. option_map members_sized (leads k 93 inner) ≡ Some (len, rest)) (one_less n) sized)
    in
    let whole : r ≡ datum_len (array (data_of read.0.0)) =
    size ∙ capped-written 161 len (members_octets (data_of read.0.0))
    (sym (ap (λ (p : Sized). p.0) read.2)) in
    ap (λ t. option_map datum_sized (leading_datum (suc n) t)) is
    ∙ ap (λ (o : Option MembersAndRest). option_map datum_sized
    (option_map (λ m. (array (data_of m.0), m.1)) o)) read.1
    ∙ ap (λ (k : ℕ). Some (k, read.0.1)) (sym whole)
    ∙ ap (λ (t : List ℕ). Some (r, t)) (ap (λ (p : Sized). p.1) read.2)

pub array-none : (levels : ℕ) (os inner : List ℕ) → os ≡ 91 ∷ inner
    → leads (levels - 1) 93 inner ≡ None → leading_datum levels os ≡ None
array-none zero os inner is none = refl
array-none (suc n) os inner is none =
    ap (λ t. leading_datum (suc n) t) is
    ∙ ap (λ (o : Option MembersAndRest). option_map (λ m. (array (data_of m.0), m.1)) o)
    (subst (λ k. leads k 93 inner ≡ None) (one_less n) none)

-- a datum without members is the first word
word-leads : (n : ℕ) (os : List ℕ) → begins_with 123 os ≡ false → begins_with 91 os ≡ false
    → leading_datum (suc n) os ≡ option_map (λ d. (d, after_word os)) (word_value (word_of os))
word-leads n os brace bracket = rw (brace, bracket) refl

pub word-sized : (levels : ℕ) (os word rest : List ℕ) (len : ℕ) → (levels ≡ 0 → ⊥)
    → begins_with 123 os ≡ false → begins_with 91 os ≡ false → word ≡ word_of os
    → rest ≡ after_word os → Some len ≡ option_map datum_len (word_value word)
    → option_map datum_sized (leading_datum levels os) ≡ Some (len, rest)
word-sized zero os word rest len some brace bracket first behind size = absurd (some refl)
word-sized (suc n) os word rest len some brace bracket first behind size =
    let read = found datum_len (word_value word) len (sym size) in
    ap (option_map datum_sized) (word-leads n os brace bracket)
    ∙ ap (λ (o : Option Datum). option_map datum_sized (option_map (λ d. (d, after_word os)) o))
    (sym (ap word_value first) ∙ read.1)
    ∙ ap (λ (k : ℕ). Some (k, after_word os)) read.2
    ∙ ap (λ (t : List ℕ). Some (len, t)) (sym behind)

pub word-none : (levels : ℕ) (os word : List ℕ) → begins_with 123 os ≡ false
    → begins_with 91 os ≡ false → word ≡ word_of os
    → None ≡ option_map datum_len (word_value word) → leading_datum levels os ≡ None
word-none zero os word brace bracket first size = refl
word-none (suc n) os word brace bracket first size =
    word-leads n os brace bracket
    ∙ ap (option_map (λ d. (d, after_word os)))
    (sym (ap word_value first) ∙ unmapped datum_len (word_value word) (sym size))

-- ---- members

first_is : (c : ℕ) (more : List ℕ) → begins_with c (c ∷ more) ≡ true
first_is c more = eq-eqb c c refl

pub members-closed : (levels close : ℕ) (os rest : List ℕ) → os ≡ close ∷ rest
    → option_map members_sized (leads levels close os) ≡ Some (0, rest)
members-closed levels close os rest is =
    ap (λ t. option_map members_sized (leads levels close t)) is
    ∙ ap (λ (b : Bool). option_map members_sized (cond b (Some ([], rest))
    (follows levels close (suc (length (close ∷ rest))) (close ∷ rest)))) (first_is close rest)

-- so many octets before members
abbrev behind_sum : ℕ → MembersAndRest → Sized
behind_sum len m = (capped (len + length (members_octets (data_of m.0))), m.1)

-- members have so many octets so far, and `rest` is left
pub record SoSized (levels close : ℕ) (os : List ℕ) (turn len : ℕ) (rest : List ℕ) : Type 0 where
  pub few : len ≤ MOST_LENGTH
  pub read : option_map members_sized (leads levels close os)
      ≡ option_map (behind_sum len) (follows levels close (suc (length os) - turn) rest)

none_before : (o : Option MembersAndRest) → option_map members_sized o
    ≡ option_map (behind_sum 0) o
none_before None = refl
none_before (Some m) =
    let same : capped (length (members_octets (data_of m.0)))
    ≡ capped (0 + length (members_octets (data_of m.0))) = omega arith in
    ap (λ (k : ℕ). Some (k, m.1)) same

pub so_sized-none : (levels close : ℕ) (os : List ℕ) → begins_with close os ≡ false
    → SoSized levels close os 0 0 os
so_sized-none levels close os open_ =
    let whole : suc (length os) - 0 ≡ suc (length os) = omega arith in
    record {
      few = omega arith;
      read = ap (λ (b : Bool). option_map members_sized (cond b (Some ([], drop 1 os))
          (follows levels close (suc (length os)) os))) open_
          ∙ none_before (follows levels close (suc (length os)) os)
          ∙ ap (λ (k : ℕ). option_map (behind_sum 0) (follows levels close k os)) (sym whole);
    }

-- what is left of so many turns
left_suc : (most turn : ℕ) → turn < most → most - turn ≡ suc (most - (turn + 1))
left_suc most turn lt = omega arith

-- what is read behind a member
member_behind : (levels close most : ℕ) (rest : List ℕ) (x : DatumAndRest)
    → leading_datum levels rest ≡ Some x
    → follows levels close (suc most) rest
    ≡ cond (begins_with close x.1) (Some (x.0 ∷ [], drop 1 x.1))
    (cond (begins_with 44 x.1)
    (option_map (member_first x.0) (follows levels close most (drop 1 x.1))) None)
member_behind levels close most rest x is =
    ap (λ (o : Option DatumAndRest). option_and_then
    (λ first. cond (begins_with close first.1) (Some (first.0 ∷ [], drop 1 first.1))
    (cond (begins_with 44 first.1)
    (option_map (member_first first.0) (follows levels close most (drop 1 first.1))) None)) o) is

sum_first : (len member : ℕ) (d : Datum) (o : Option MembersAndRest) → datum_len d ≡ member
    → option_map (behind_sum len) (option_map (member_first d) o)
    ≡ option_map (behind_sum (capped (len + member))) o
sum_first len member d None is = refl
sum_first len member d (Some m) is =
    let octets : List ℕ = members_octets (data_of m.0) in
    let same : capped (len + length (datum_octets d ++ octets))
    ≡ capped (capped (len + member) + length octets) =
    omega (arith, length-append (datum_octets d) octets, is) in
    ap (λ (k : ℕ). Some (k, m.1)) same

pub so_sized-more : (levels close : ℕ) (os : List ℕ) (turn len len' member : ℕ)
    (rest after more : List ℕ) → SoSized levels close os turn len rest → turn < suc (length os)
    → option_map datum_sized (leading_datum levels rest) ≡ Some (member, after)
    → begins_with close after ≡ false → after ≡ 44 ∷ more → len' ≡ capped (len + member)
    → SoSized levels close os (turn + 1) len' more
so_sized-more levels close os turn len len' member rest after more s lt read open_ comma sum =
    let x = found datum_sized (leading_datum levels rest) (member, after) read in
    let behind : x.0.1 ≡ after = ap (λ (p : Sized). p.1) x.2 in
    let closed : begins_with close x.0.1 ≡ false = ap (begins_with close) behind ∙ open_ in
    let commas : begins_with 44 x.0.1 ≡ true =
    ap (begins_with 44) (behind ∙ comma) in
    let rest_is : drop 1 x.0.1 ≡ more = ap (drop 1) (behind ∙ comma) in
    let most : ℕ = suc (length os) - (turn + 1) in
    let size : datum_len x.0.0 ≡ member = ap (λ (p : Sized). p.0) x.2 in
    record {
      few = omega (arith, sum);
      read = s.read
          ∙ ap (λ (k : ℕ). option_map (behind_sum len) (follows levels close k rest))
          (left_suc (suc (length os)) turn lt)
          ∙ ap (option_map (behind_sum len)) (member_behind levels close most rest x.0 x.1
          ∙ ap (λ (b : Bool). cond b (Some (x.0.0 ∷ [], drop 1 x.0.1))
          (cond (begins_with 44 x.0.1)
          (option_map (member_first x.0.0) (follows levels close most (drop 1 x.0.1))) None)) closed
          ∙ ap (λ (b : Bool). cond b
          (option_map (member_first x.0.0) (follows levels close most (drop 1 x.0.1))) None) commas
          ∙ ap (λ (t : List ℕ). option_map (member_first x.0.0) (follows levels close most t))
          rest_is)
          ∙ sum_first len member x.0.0 (follows levels close most more) size
          ∙ ap (λ (k : ℕ). option_map (behind_sum k) (follows levels close most more)) (sym sum);
    }

pub so_sized-end : (levels close : ℕ) (os : List ℕ) (turn len len' member : ℕ)
    (rest after end : List ℕ) → SoSized levels close os turn len rest → turn < suc (length os)
    → option_map datum_sized (leading_datum levels rest) ≡ Some (member, after)
    → after ≡ close ∷ end → len' ≡ capped (len + member)
    → option_map members_sized (leads levels close os) ≡ Some (len', end)
so_sized-end levels close os turn len len' member rest after end s lt read ended sum =
    let x = found datum_sized (leading_datum levels rest) (member, after) read in
    let behind : x.0.1 ≡ after = ap (λ (p : Sized). p.1) x.2 in
    let closed : begins_with close x.0.1 ≡ true =
    ap (begins_with close) (behind ∙ ended) ∙ first_is close end in
    let rest_is : drop 1 x.0.1 ≡ end = ap (drop 1) (behind ∙ ended) in
    let most : ℕ = suc (length os) - (turn + 1) in
    let size : datum_len x.0.0 ≡ member = ap (λ (p : Sized). p.0) x.2 in
    let same : capped (len + length (datum_octets x.0.0 ++ [])) ≡ len' =
    omega (arith, length-append (datum_octets x.0.0) [], size, sum) in
    s.read
    ∙ ap (λ (k : ℕ). option_map (behind_sum len) (follows levels close k rest))
    (left_suc (suc (length os)) turn lt)
    ∙ ap (option_map (behind_sum len)) (member_behind levels close most rest x.0 x.1
    ∙ ap (λ (b : Bool). cond b (Some (x.0.0 ∷ [], drop 1 x.0.1))
    (cond (begins_with 44 x.0.1)
    (option_map (member_first x.0.0) (follows levels close most (drop 1 x.0.1))) None)) closed
    ∙ ap (λ (t : List ℕ). Some (x.0.0 ∷ [], t)) rest_is)
    ∙ ap (λ (k : ℕ). Some (k, end)) same

-- nothing is read of all, where nothing is read of what is left
all_none : (levels close : ℕ) (os : List ℕ) (turn len : ℕ) (rest : List ℕ)
    → SoSized levels close os turn len rest
    → follows levels close (suc (length os) - turn) rest ≡ None → leads levels close os ≡ None
all_none levels close os turn len rest s none =
    unmapped members_sized (leads levels close os)
    (s.read ∙ ap (option_map (behind_sum len)) none)

pub so_sized-unread : (levels close : ℕ) (os : List ℕ) (turn len : ℕ) (rest : List ℕ)
    → SoSized levels close os turn len rest → turn < suc (length os)
    → leading_datum levels rest ≡ None → leads levels close os ≡ None
so_sized-unread levels close os turn len rest s lt none =
    let most : ℕ = suc (length os) - (turn + 1) in
    all_none levels close os turn len rest s
    (ap (λ (k : ℕ). follows levels close k rest) (left_suc (suc (length os)) turn lt)
    ∙ ap (λ (o : Option DatumAndRest). option_and_then
    (λ first. cond (begins_with close first.1) (Some (first.0 ∷ [], drop 1 first.1))
    (cond (begins_with 44 first.1)
    (option_map (member_first first.0) (follows levels close most (drop 1 first.1))) None)) o) none)

pub so_sized-broken : (levels close : ℕ) (os : List ℕ) (turn len member : ℕ)
    (rest after : List ℕ) → SoSized levels close os turn len rest → turn < suc (length os)
    → option_map datum_sized (leading_datum levels rest) ≡ Some (member, after)
    → begins_with close after ≡ false → begins_with 44 after ≡ false
    → leads levels close os ≡ None
so_sized-broken levels close os turn len member rest after s lt read open_ comma =
    let x = found datum_sized (leading_datum levels rest) (member, after) read in
    let behind : x.0.1 ≡ after = ap (λ (p : Sized). p.1) x.2 in
    let closed : begins_with close x.0.1 ≡ false = ap (begins_with close) behind ∙ open_ in
    let commas : begins_with 44 x.0.1 ≡ false = ap (begins_with 44) behind ∙ comma in
    let most : ℕ = suc (length os) - (turn + 1) in
    all_none levels close os turn len rest s
    (ap (λ (k : ℕ). follows levels close k rest) (left_suc (suc (length os)) turn lt)
    ∙ member_behind levels close most rest x.0 x.1
    ∙ ap (λ (b : Bool). cond b (Some (x.0.0 ∷ [], drop 1 x.0.1))
    (cond (begins_with 44 x.0.1)
    (option_map (member_first x.0.0) (follows levels close most (drop 1 x.0.1))) None)) closed
    ∙ ap (λ (b : Bool). cond b
    (option_map (member_first x.0.0) (follows levels close most (drop 1 x.0.1))) None) commas)

pub so_sized-over : (levels close : ℕ) (os : List ℕ) (turn len : ℕ) (rest : List ℕ)
    → SoSized levels close os turn len rest → suc (length os) ≤ turn
    → leads levels close os ≡ None
so_sized-over levels close os turn len rest s le =
    let none : suc (length os) - turn ≡ 0 = omega arith in
    all_none levels close os turn len rest s
    (ap (λ (k : ℕ). follows levels close k rest) none)

-- ---- a whole text

-- whatever an option is, a fact that holds anyway
pub none_any : {A : Type 0} {P : Type 0} (o : Option A) → P → IfNone o P
none_any None p = p
none_any (Some x) p = tt

pub no_levels : (levels : ℕ) (os : List ℕ) → levels ≡ 0 → leading_datum levels os ≡ None
no_levels zero os e = refl
no_levels (suc n) os e = absurd (omega (arith, e))

pub whole-none : (os : List ℕ) → leading_datum MOST_DEPTH os ≡ None
    → None ≡ option_map datum_len (datum_in os)
unfolding datum_in
whole-none os none =
    sym (ap (λ (o : Option DatumAndRest). option_map datum_len
    (option_and_then (λ first. whole_datum first.0 first.1) o)) none)

whole_by : (d : Datum) (rest : List ℕ) → length rest ≡ 0
    → option_map datum_len (whole_datum d rest) ≡ Some (datum_len d)
whole_by d [] e = refl
whole_by d (x ∷ xs) e = absurd (omega (arith, e))

over_by : (d : Datum) (rest : List ℕ) → (length rest ≡ 0 → ⊥)
    → option_map datum_len (whole_datum d rest) ≡ None
over_by d [] some = absurd (some refl)
over_by d (x ∷ xs) some = refl

pub whole-sized : (os rest : List ℕ) (len : ℕ)
    → option_map datum_sized (leading_datum MOST_DEPTH os) ≡ Some (len, rest) → length rest ≡ 0
    → Some len ≡ option_map datum_len (datum_in os)
unfolding datum_in
whole-sized os rest len read none =
    let x = found datum_sized (leading_datum MOST_DEPTH os) (len, rest) read in
    let behind : x.0.1 ≡ rest = ap (λ (p : Sized). p.1) x.2 in
    let size : datum_len x.0.0 ≡ len = ap (λ (p : Sized). p.0) x.2 in
    sym (ap (λ (o : Option DatumAndRest). option_map datum_len
    (option_and_then (λ first. whole_datum first.0 first.1) o)) x.1
    ∙ whole_by x.0.0 x.0.1 (ap length behind ∙ none) ∙ ap (λ (n : ℕ). Some n) size)

pub whole-over : (os rest : List ℕ) (len : ℕ)
    → option_map datum_sized (leading_datum MOST_DEPTH os) ≡ Some (len, rest)
    → (length rest ≡ 0 → ⊥) → None ≡ option_map datum_len (datum_in os)
unfolding datum_in
whole-over os rest len read some =
    let x = found datum_sized (leading_datum MOST_DEPTH os) (len, rest) read in
    let behind : x.0.1 ≡ rest = ap (λ (p : Sized). p.1) x.2 in
    sym (ap (λ (o : Option DatumAndRest). option_map datum_len
    (option_and_then (λ first. whole_datum first.0 first.1) o)) x.1
    ∙ over_by x.0.0 x.0.1 (λ e. some (sym (ap length behind) ∙ e)))
