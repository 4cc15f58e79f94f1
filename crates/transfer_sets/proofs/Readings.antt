-- The wish that a datum is, is that of its components; and without these it is none.
use Rattle.std.proofs.Common.{◌≡◌, ◌⊎◌, ◌↔◌, ℕ, ◌*◌, ◌/◌, ◌==◌, ◌<◌, ◌≤◌, nat_le, ℤ}
use Rattle.std.proofs.Common.{pos, negsuc, ◌≤ℤ◌, int_le, nat_abs, Bool, true, false, ◌&&◌}
use Rattle.std.proofs.Common.{if◌then◌else◌, List, [], ◌∷◌, length, slice_index, Option}
use Rattle.std.proofs.Common.{Some, None, Result, Ok, Err, refl, sym, ap, ◌∙◌, subst, inl, inr}
use Rattle.std.proofs.Common.{arith}
use Rattle.std.proofs.Common.{T, IfOk}
use Rattle.std.proofs.lemmas.Bool.Decides.{nat_tests}
use lib.Signed.{le_z_yes}
use Rattle.std.proofs.lemmas.Int.{ints}
use Rattle.ber_values.specs.Bits.{Bits}
use Rattle.mms_data.specs.Datum.{Datum, boolean, integer, unsigned, bits, text}
use Rattle.mms_data.specs.Lawful.{IsLawful}
use Rattle.mms_data.specs.Datum.{structure, Data, no_data, datum, data_of}
use Rattle.point_data.specs.Parts.{list_of, structure_members, integer_part}
use Rattle.transfer_sets.specs.declared.parts.Numbers.{Numbers}
use Rattle.transfer_sets.specs.declared.parts.Ranged.{Ranged}
use Rattle.transfer_sets.specs.declared.parts.Switches.{Switches}
use Rattle.transfer_sets.specs.declared.wish.Wish.{Wish}
use Rattle.transfer_sets.specs.declared.wish.WishFault.{WishFault}
use Rattle.transfer_sets.specs.declared.wish.WishFault.TheVariants.{Form, Range}
use Rattle.transfer_sets.specs.Wishes.{IsWish}
use Rattle.transfer_sets.specs.Components.{is_scope, text_part, boolean_part, five_of}
use Rattle.transfer_sets.specs.Components.{conditions_in}
use Rattle.transfer_sets.specs.Components.{is_scope_at, set_in}
use Rattle.transfer_sets.specs.Components.{numbers_from, switches_from}
use Rattle.transfer_sets.specs.Components.{ranged_number, ranged_code}
use Rattle.transfer_sets.specs.Components.{ranged_in, wish_if, wish_from, is_shaped}
use Rattle.transfer_sets.specs.Components.{wish_of_members, wish_in}
use Rattle.transfer_sets.specs.WishData.{WishParts, components, IsAnyNumber, IsWishForm, IsRanged}
use Rattle.transfer_sets.specs.WishData.{AreRanged, first_five, wish_of, parts_of, shown_wish}

-- bits of which five are there
five_there : (b : Bits) → 5 ≤ b.count → 0 < length b.octets
    → five_of b.count b.octets ≡ Some (first_five b)
five_there b few held = by b.count b.octets few held
  where
    by : (count : ℕ) (octets : List ℕ) → 5 ≤ count → 0 < length octets
        → five_of count octets ≡ Some (slice_index octets 0 / 8 * 8)
    by count [] few held = absurd (omega arith)
    by count (octet ∷ more) few held =
        let t : nat_le 5 count ≡ true = grind (arith, nat_tests) in rw t refl

-- a form is read by its numbers
read_with : (scope : Datum) (p : WishParts) → IsAnyNumber scope
    → five_of p.conditions.count p.conditions.octets ≡ Some (first_five p.conditions)
    → wish_in (structure (data_of (components scope p)))
    ≡ wish_if p.set_domain p.set_name (first_five p.conditions) p.switches (ranged_in p.numbers)
read_with scope p number five =
    elim number [
      | inl z ↦ let e = z.1 in
          let P : Datum → Type 0 = λ s. wish_in (structure (data_of (components s p)))
          ≡ wish_if p.set_domain p.set_name (first_five p.conditions) p.switches
          (ranged_in p.numbers) in
          subst P (sym e) (with_five (integer z.0) p refl five)
      | inr n ↦ let e = n.1 in
          let P : Datum → Type 0 = λ s. wish_in (structure (data_of (components s p)))
          ≡ wish_if p.set_domain p.set_name (first_five p.conditions) p.switches
          (ranged_in p.numbers) in
          subst P (sym e) (with_five (unsigned n.0) p refl five)
    ]
  where
    with_five : (scope : Datum) (p : WishParts) → is_scope scope ≡ true
        → five_of p.conditions.count p.conditions.octets ≡ Some (first_five p.conditions)
        → wish_in (structure (data_of (components scope p)))
        ≡ wish_if p.set_domain p.set_name (first_five p.conditions) p.switches
        (ranged_in p.numbers)
    with_five scope p number five = rw (number, five) refl

pub form_read : (d : Datum) (p : WishParts) → IsWishForm d p
    → wish_in d
    ≡ wish_if p.set_domain p.set_name (first_five p.conditions) p.switches (ranged_in p.numbers)
form_read d p form =
    ap wish_in form.spelled
    ∙ read_with form.scope p form.number (five_there p.conditions form.five form.held)

-- what stands behind a getter that found something
text_found : (d : Datum) (o : List ℕ) → text_part d ≡ Some o → d ≡ text o
text_found (text r) o e = cc
text_found _ o e = absurd cc

integer_found : (d : Datum) (z : ℤ) → integer_part d ≡ Some z → d ≡ integer z
integer_found (integer z) o e = cc
integer_found _ o e = absurd cc

boolean_found : (d : Datum) (b : Bool) → boolean_part d ≡ Some b → d ≡ boolean b
boolean_found (boolean b) o e = cc
boolean_found _ o e = absurd cc

scope_found : (d : Datum) → is_scope d ≡ true → IsAnyNumber d
scope_found (integer z) e = inl (z, refl)
scope_found (unsigned n) e = inr (n, refl)
scope_found _ e = absurd cc

five_found : (b : Bits) (five : ℕ) → five_of b.count b.octets ≡ Some five
    → (5 ≤ b.count) × (0 < length b.octets)
five_found b five e = by b.count b.octets e
  where
    by : (count : ℕ) (octets : List ℕ) → five_of count octets ≡ Some five
        → (5 ≤ count) × (0 < length octets)
    by count [] e = absurd cc
    by count (octet ∷ more) e = (tested (nat_le 5 count) refl e, omega arith)
      where
        tested : (b : Bool) → nat_le 5 count ≡ b
            → (if b then Some (octet / 8 * 8) else None) ≡ Some five → 5 ≤ count
        tested true t e = grind (arith, nat_tests)
        tested false t e = absurd cc

conditions_found : (d : Datum) (five : ℕ) → conditions_in d ≡ Some five
    → (b : Bits) × (d ≡ bits b) × (5 ≤ b.count) × (0 < length b.octets)
conditions_found (bits b) five e = let found = five_found b five e in (b, refl, found.0, found.1)
conditions_found _ five e = absurd cc

-- data are the data of their list
data_of-list_of : (ds : Data) → data_of (list_of ds) ≡ ds
data_of-list_of no_data = refl
data_of-list_of (datum d ds) = ap (datum d) (data_of-list_of ds)

-- a datum with members is a structure of them
structure_found : (d x : Datum) (xs : List Datum) → structure_members d ≡ x ∷ xs
    → d ≡ structure (data_of (x ∷ xs))
structure_found (structure ds) x xs e =
    ap structure (sym (data_of-list_of ds) ∙ ap data_of e)
structure_found _ x xs e = absurd cc

-- three and thirteen members
pub record Three (xs : List Datum) : Type 0 where
  pub a : Datum
  pub b : Datum
  pub c : Datum
  pub are : xs ≡ a ∷ b ∷ c ∷ []

three : (xs : List Datum) → length xs ≡ 3 → Three xs
three (a ∷ b ∷ c ∷ []) e = record { a = a; b = b; c = c; are = refl }
three _ e = absurd (omega arith)

pub record Thirteen (xs : List Datum) : Type 0 where
  pub a : Datum
  pub b : Datum
  pub c : Datum
  pub d : Datum
  pub e : Datum
  pub f : Datum
  pub g : Datum
  pub h : Datum
  pub i : Datum
  pub j : Datum
  pub k : Datum
  pub l : Datum
  pub m : Datum
  pub are :
      xs ≡ a ∷ b ∷ c ∷ d ∷ e ∷ f ∷ g ∷ h ∷ i ∷ j ∷ k ∷ l ∷ m ∷ []

thirteen : (xs : List Datum) → length xs ≡ 13 → Thirteen xs
thirteen (a ∷ b ∷ c ∷ d ∷ e ∷ f ∷ g ∷ h ∷ i ∷ j ∷ k ∷ l ∷ m ∷ []) n =
    record {
      a = a;
      b = b;
      c = c;
      d = d;
      e = e;
      f = f;
      g = g;
      h = h;
      i = i;
      j = j;
      k = k;
      l = l;
      m = m;
      are = refl;
    }
thirteen _ n = absurd (omega arith)

-- the five parts of a wish, where all are there
pub record Found (domain name : Option (List ℕ)) (numbers : Option Numbers) (five : Option ℕ)
    (switches : Option Switches) : Type 0 where
  pub the_domain : List ℕ
  pub the_name : List ℕ
  pub the_numbers : Numbers
  pub the_five : ℕ
  pub the_switches : Switches
  pub domain_is : domain ≡ Some the_domain
  pub name_is : name ≡ Some the_name
  pub numbers_are : numbers ≡ Some the_numbers
  pub five_is : five ≡ Some the_five
  pub switches_are : switches ≡ Some the_switches

found_or_none : (domain name : Option (List ℕ)) (numbers : Option Numbers) (five : Option ℕ)
    (switches : Option Switches) → Found domain name numbers five switches
    ⊎ (wish_from domain name numbers five switches ≡ Err Form)
found_or_none (Some domain) (Some name) (Some numbers) (Some five) (Some switches) = inl (record {
  the_domain = domain;
  the_name = name;
  the_numbers = numbers;
  the_five = five;
  the_switches = switches;
  domain_is = refl;
  name_is = refl;
  numbers_are = refl;
  five_is = refl;
  switches_are = refl;
})
found_or_none _ _ _ _ _ = inr refl

pub record NumbersFound (a b c d e f : Option ℤ) (n : Numbers) : Type 0 where
  pub start : a ≡ Some n.start
  pub interval : b ≡ Some n.interval
  pub tle : c ≡ Some n.tle
  pub buffer : d ≡ Some n.buffer
  pub integrity : e ≡ Some n.integrity
  pub event_code : f ≡ Some n.event_code

some_is : {A : Type 0} (x y : A) → Some x ≡ Some y → x ≡ y
some_is x y e = cc

numbers_found : (a b c d e f : Option ℤ) (n : Numbers) → numbers_from a b c d e f ≡ Some n
    → NumbersFound a b c d e f n
numbers_found (Some a) (Some b) (Some c) (Some d) (Some e) (Some f) n is =
    let made : Numbers = record {
      start = a;
      interval = b;
      tle = c;
      buffer = d;
      integrity = e;
      event_code = f;
    } in
    let same : made ≡ n = some_is made n is in record {
      start = ap (λ (m : Numbers). Some m.start) same;
      interval = ap (λ (m : Numbers). Some m.interval) same;
      tle = ap (λ (m : Numbers). Some m.tle) same;
      buffer = ap (λ (m : Numbers). Some m.buffer) same;
      integrity = ap (λ (m : Numbers). Some m.integrity) same;
      event_code = ap (λ (m : Numbers). Some m.event_code) same;
    }
numbers_found _ _ _ _ _ _ n is = absurd cc

pub record SwitchesFound (a b c d e : Option Bool) (n : Switches) : Type 0 where
  pub block : a ≡ Some n.block
  pub critical : b ≡ Some n.critical
  pub rbe : c ≡ Some n.rbe
  pub all_changes : d ≡ Some n.all_changes
  pub status : e ≡ Some n.status

switches_found : (a b c d e : Option Bool) (n : Switches) → switches_from a b c d e ≡ Some n
    → SwitchesFound a b c d e n
switches_found (Some a) (Some b) (Some c) (Some d) (Some e) n is =
    let made : Switches =
    record { block = a; critical = b; rbe = c; all_changes = d; status = e } in
    let same : made ≡ n = some_is made n is in record {
      block = ap (λ (m : Switches). Some m.block) same;
      critical = ap (λ (m : Switches). Some m.critical) same;
      rbe = ap (λ (m : Switches). Some m.rbe) same;
      all_changes = ap (λ (m : Switches). Some m.all_changes) same;
      status = ap (λ (m : Switches). Some m.status) same;
    }
switches_found _ _ _ _ _ n is = absurd cc

-- members at their places are the components
form_of_members : (d : Datum) (t : Thirteen (structure_members d))
    (s : Three (structure_members t.a)) → is_scope s.a ≡ true
    → Found (text_part s.b) (text_part s.c)
    (numbers_from (integer_part t.b) (integer_part t.c) (integer_part t.d) (integer_part t.e)
    (integer_part t.f) (integer_part t.m))
    (conditions_in t.g)
    (switches_from (boolean_part t.h) (boolean_part t.i) (boolean_part t.j) (boolean_part t.k)
    (boolean_part t.l))
    → (p : WishParts) × IsWishForm d p
form_of_members d t s number found =
    let n = found.the_numbers in
    let w = found.the_switches in
    let whole = structure_found d t.a _ t.are in
    let set = structure_found t.a s.a _ s.are in
    let domain = text_found s.b _ found.domain_is in
    let name = text_found s.c _ found.name_is in
    let numbers = numbers_found _ _ _ _ _ _ n found.numbers_are in
    let start = integer_found t.b _ numbers.start in
    let interval = integer_found t.c _ numbers.interval in
    let tle = integer_found t.d _ numbers.tle in
    let buffer = integer_found t.e _ numbers.buffer in
    let integrity = integer_found t.f _ numbers.integrity in
    let code = integer_found t.m _ numbers.event_code in
    let five = conditions_found t.g _ found.five_is in
    let conditions = five.1 in
    let switches = switches_found _ _ _ _ _ w found.switches_are in
    let block = boolean_found t.h _ switches.block in
    let critical = boolean_found t.i _ switches.critical in
    let rbe = boolean_found t.j _ switches.rbe in
    let all_changes = boolean_found t.k _ switches.all_changes in
    let status = boolean_found t.l _ switches.status in (
      record {
        set_domain = found.the_domain;
        set_name = found.the_name;
        numbers = n;
        conditions = five.0;
        switches = w;
      },
      record {
        scope = s.a;
        number = scope_found s.a number;
        spelled = cc;
        five = five.2;
        held = five.3;
      },
    )

both : (a b : Bool) → (a && b) ≡ true → (a ≡ true) × (b ≡ true)
both true true e = (refl, refl)
both true false e = absurd cc
both false b e = absurd cc

number_is : (n m : ℕ) → (n == m) ≡ true → n ≡ m
number_is n m e = grind (arith, nat_tests)

read_members : (d : Datum) (t : Thirteen (structure_members d)) (s : Three (structure_members t.a))
    → is_scope s.a ≡ true → wish_in d ≡ wish_from (text_part s.b) (text_part s.c)
    (numbers_from (integer_part t.b) (integer_part t.c) (integer_part t.d) (integer_part t.e)
    (integer_part t.f) (integer_part t.m))
    (conditions_in t.g)
    (switches_from (boolean_part t.h) (boolean_part t.i) (boolean_part t.j) (boolean_part t.k)
    (boolean_part t.l))
read_members d t s number = ap wish_of_members t.are ∙ rw (s.are, number) refl

shaped_or_none : (d : Datum) → is_shaped (structure_members d) ≡ true
    → ((p : WishParts) × IsWishForm d p) ⊎ (wish_in d ≡ Err Form)
shaped_or_none d shaped =
    let outer = both _ _ shaped in
    let inner = both _ _ outer.0 in
    let t = thirteen (structure_members d) (number_is _ _ inner.0) in
    let set : set_in (structure_members d) ≡ structure_members t.a = ap set_in t.are in
    let s = three (structure_members t.a) (ap length (sym set) ∙ number_is _ _ inner.1) in
    let number : is_scope s.a ≡ true =
    ap (λ ds. is_scope_at ds 0) (sym s.are) ∙ ap (λ ds. is_scope_at ds 0) (sym set) ∙ outer.1 in
    let read = read_members d t s number in
    elim (found_or_none (text_part s.b) (text_part s.c)
    (numbers_from (integer_part t.b) (integer_part t.c) (integer_part t.d) (integer_part t.e)
    (integer_part t.f) (integer_part t.m))
    (conditions_in t.g)
    (switches_from (boolean_part t.h) (boolean_part t.i) (boolean_part t.j) (boolean_part t.k)
    (boolean_part t.l))) [
      | inl found ↦ inl (form_of_members d t s number found)
      | inr none ↦ inr (read ∙ none)
    ]

-- a datum has the form of a wish, or is none for its form
pub form_or_none : (d : Datum) → ((p : WishParts) × IsWishForm d p) ⊎ (wish_in d ≡ Err Form)
form_or_none d = by (is_shaped (structure_members d)) refl
  where
    by : (b : Bool) → is_shaped (structure_members d) ≡ b
        → ((p : WishParts) × IsWishForm d p) ⊎ (wish_in d ≡ Err Form)
    by true e = shaped_or_none d e
    by false e = inr (rw e refl)

-- a number in its range, or none
number_or_none : (z : ℤ) → (IsRanged z × (ranged_number z ≡ Some (nat_abs z)))
    ⊎ ((IsRanged z → ⊥) × (ranged_number z ≡ None))
number_or_none (pos n) = by (nat_le n 2147483647) refl
  where
    by : (b : Bool) → nat_le n 2147483647 ≡ b
        → (IsRanged (pos n) × (ranged_number (pos n) ≡ Some n))
        ⊎ ((IsRanged (pos n) → ⊥) × (ranged_number (pos n) ≡ None))
    by true e =
        let small : n ≤ 2147483647 = grind (arith, nat_tests) in
        inl ((omega (arith, ints), omega (arith, ints)), rw e refl)
    by false e =
        let large : 2147483647 < n = grind (arith, nat_tests) in
        inr ((λ ranged. let high = ranged.1 in omega (arith, ints)), rw e refl)
number_or_none (negsuc n) = inr ((λ ranged. let low = ranged.0 in omega (arith, ints)), refl)

code_or_none : (z : ℤ)
    → ((negsuc 32767 ≤ℤ z) × (z ≤ℤ pos 32767) × (ranged_code z ≡ Some z))
    ⊎ (((negsuc 32767 ≤ℤ z) → (z ≤ℤ pos 32767) → ⊥) × (ranged_code z ≡ None))
code_or_none z = by (int_le (negsuc 32767) z) (int_le z (pos 32767)) refl refl
  where
    is_T : (b : Bool) → T b → b ≡ true
    is_T true t = refl
    is_T false t = absurd t

    by : (a b : Bool) → int_le (negsuc 32767) z ≡ a → int_le z (pos 32767) ≡ b
        → ((negsuc 32767 ≤ℤ z) × (z ≤ℤ pos 32767) × (ranged_code z ≡ Some z))
        ⊎ (((negsuc 32767 ≤ℤ z) → (z ≤ℤ pos 32767) → ⊥) × (ranged_code z ≡ None))
    by true true p q =
        inl (le_z_yes (subst T (sym p) tt), le_z_yes (subst T (sym q) tt), rw (p, q) refl)
    by true false p q =
        inr (
          (λ low high. let t : false ≡ true = sym q ∙ is_T _ high.le in absurd cc),
          rw (p, q) refl,
        )
    by false b p q =
        inr (
          (λ low high. let t : false ≡ true = sym p ∙ is_T _ low.le in absurd cc),
          rw p refl,
        )

-- the numbers in their ranges, as they are kept
abbrev kept : Numbers → Ranged
kept n = record {
  start = nat_abs n.start;
  interval = nat_abs n.interval;
  tle = nat_abs n.tle;
  buffer = nat_abs n.buffer;
  integrity = nat_abs n.integrity;
  event_code = n.event_code;
}

abbrev RangedOrNone : Numbers → Type 0
RangedOrNone n =
    (AreRanged n × (ranged_in n ≡ Some (kept n))) ⊎ ((AreRanged n → ⊥) × (ranged_in n ≡ None))

ranged_or_none : (n : Numbers) → RangedOrNone n
ranged_or_none n =
    elim (number_or_none n.start) as (λ _. RangedOrNone n) [
      | inr p ↦ inr (λ r. p.0 r.start, rw p.1 refl)
      | inl a ↦ elim (number_or_none n.interval) as (λ _. RangedOrNone n) [
        | inr p ↦ inr (λ r. p.0 r.interval, rw (a.1, p.1) refl)
        | inl b ↦ elim (number_or_none n.tle) as (λ _. RangedOrNone n) [
          | inr p ↦ inr (λ r. p.0 r.tle, rw (a.1, b.1, p.1) refl)
          | inl c ↦ elim (number_or_none n.buffer) as (λ _. RangedOrNone n) [
            | inr p ↦ inr (λ r. p.0 r.buffer, rw (a.1, b.1, c.1, p.1) refl)
            | inl d ↦ elim (number_or_none n.integrity) as (λ _. RangedOrNone n) [
              | inr p ↦ inr (λ r. p.0 r.integrity, rw (a.1, b.1, c.1, d.1, p.1) refl)
              | inl e ↦ elim (code_or_none n.event_code) as (λ _. RangedOrNone n) [
                | inr p ↦ inr (
                  λ r. p.0 r.event_code.0 r.event_code.1,
                  rw (a.1, b.1, c.1, d.1, e.1, p.1) refl,
                )
                | inl f ↦ inl (
                  record {
                    start = a.0;
                    interval = b.0;
                    tle = c.0;
                    buffer = d.0;
                    integrity = e.0;
                    event_code = (f.0, f.1);
                  },
                  rw (a.1, b.1, c.1, d.1, e.1, f.2) refl,
                )
              ]
            ]
          ]
        ]
      ]
    ]

-- a form with numbers in their ranges is its wish, one with others has its fault
pub ranged_read : (d : Datum) (p : WishParts) → IsWishForm d p → AreRanged p.numbers
    → wish_in d ≡ Ok (wish_of p)
ranged_read d p form ranged =
    elim (ranged_or_none p.numbers) [
      | inl r ↦ form_read d p form
          ∙ ap (wish_if p.set_domain p.set_name (first_five p.conditions) p.switches) r.1
      | inr r ↦ absurd (r.0 ranged)
    ]

pub unranged_read : (d : Datum) (p : WishParts) → IsWishForm d p → (AreRanged p.numbers → ⊥)
    → wish_in d ≡ Err Range
unranged_read d p form unranged =
    elim (ranged_or_none p.numbers) [
      | inl r ↦ absurd (unranged r.0)
      | inr r ↦ form_read d p form
          ∙ ap (wish_if p.set_domain p.set_name (first_five p.conditions) p.switches) r.1
    ]

-- what every datum is
abbrev Outcome : Datum → Type 0
Outcome d =
    ((p : WishParts) × IsWishForm d p × AreRanged p.numbers × (wish_in d ≡ Ok (wish_of p)))
    ⊎ (((p : WishParts) × IsWishForm d p × (AreRanged p.numbers → ⊥) × (wish_in d ≡ Err Range))
    ⊎ (wish_in d ≡ Err Form))

outcome : (d : Datum) → Outcome d
outcome d =
    elim (form_or_none d) as (λ _. Outcome d) [
      | inr none ↦ inr (inr none)
      | inl some ↦ elim (ranged_or_none some.0.numbers) as (λ _. Outcome d) [
        | inl r ↦ inl (some.0, some.1, r.0, ranged_read d some.0 some.1 r.0)
        | inr r ↦ inr (inl (some.0, some.1, r.0, unranged_read d some.0 some.1 r.0))
      ]
    ]

pub wish_exactly : (d : Datum) (w : Wish) → (wish_in d ≡ Ok w)
    ↔ ((p : WishParts) × IsWishForm d p × AreRanged p.numbers × (w ≡ wish_of p))
wish_exactly d w = (
  λ e. elim (outcome d) [
    | inl some ↦ (some.0, some.1, some.2, (let own = some.3 in cc))
    | inr other ↦ elim other [
      | inl range ↦ (let own = range.3 in absurd cc)
      | inr form ↦ absurd cc
    ]
  ],
  λ some. let read = ranged_read d some.0 some.1 some.2 in let same = some.3 in cc,
)

pub form_exactly : (d : Datum) → (wish_in d ≡ Err Form)
    ↔ ((p : WishParts) → IsWishForm d p → ⊥)
form_exactly d = (
  λ e p form. elim (ranged_or_none p.numbers) [
    | inl r ↦ (let read = ranged_read d p form r.0 in absurd cc)
    | inr r ↦ (let read = unranged_read d p form r.0 in absurd cc)
  ],
  λ none. elim (form_or_none d) [
    | inl some ↦ absurd (none some.0 some.1)
    | inr e ↦ e
  ],
)

pub range_exactly : (d : Datum) → (wish_in d ≡ Err Range)
    ↔ ((p : WishParts) × IsWishForm d p × (AreRanged p.numbers → ⊥))
range_exactly d = (
  λ e. elim (outcome d) [
    | inl some ↦ (let own = some.3 in absurd cc)
    | inr other ↦ elim other [
      | inl range ↦ (range.0, range.1, range.2)
      | inr form ↦ absurd cc
    ]
  ],
  λ some. unranged_read d some.0 some.1 some.2,
)

-- a wish that is shown has its form
shown_form : (w : Wish) → IsWishForm (shown_wish w) (parts_of w)
shown_form w = record {
  scope = integer (pos 1);
  number = inl (pos 1, refl);
  spelled = refl;
  five = omega arith;
  held = omega arith;
}

number_ranged : (n : ℕ) → n ≤ 2147483647 → IsRanged (pos n)
number_ranged n h = (omega (arith, ints), omega (arith, ints))

shown_ranged : (w : Wish) → IsWish w → AreRanged (parts_of w).numbers
shown_ranged w is = record {
  start = number_ranged w.start is.start;
  interval = number_ranged w.interval is.interval;
  tle = number_ranged w.tle is.tle;
  buffer = number_ranged w.buffer is.buffer;
  integrity = number_ranged w.integrity is.integrity;
  event_code = is.event_code;
}

-- the datum that shows a wish is read as this wish
pub shown_read : (w : Wish) → IsWish w → wish_in (shown_wish w) ≡ Ok w
shown_read w is =
    let five : w.conditions / 8 * 8 / 8 * 8 ≡ w.conditions = (let f = is.five in omega arith) in
    ranged_read (shown_wish w) (parts_of w) (shown_form w) (shown_ranged w is)
    ∙ ap (λ n. Ok (record w { conditions = n })) five

-- what is read can be shown
ranged_small : (z : ℤ) → IsRanged z → nat_abs z ≤ 2147483647
ranged_small (pos n) h = let high = h.1 in omega (arith, ints)
ranged_small (negsuc n) h = let low = h.0 in absurd (omega (arith, ints))

wish_of-IsWish : (p : WishParts) → AreRanged p.numbers → IsWish (wish_of p)
wish_of-IsWish p r = record {
  start = ranged_small p.numbers.start r.start;
  interval = ranged_small p.numbers.interval r.interval;
  tle = ranged_small p.numbers.tle r.tle;
  buffer = ranged_small p.numbers.buffer r.buffer;
  integrity = ranged_small p.numbers.integrity r.integrity;
  five = omega arith;
  event_code = r.event_code;
}

read_lawful : (d : Datum) (read : Result Wish WishFault) → read ≡ wish_in d
    → IfOk read (λ w. IsWish w)
read_lawful d (Ok w) e =
    let some = (wish_exactly d w).0 (sym e) in
    subst (λ (w : Wish). IsWish w) (sym some.3) (wish_of-IsWish some.0 some.2)
read_lawful d (Err fault) e = tt

-- facts of the wish that a datum is are facts of what is read
pub read_so : {E : Type 0} (P : Result Wish WishFault → Type 0) (d : Datum)
    (result : Result (Result Wish WishFault) E) → P (wish_in d)
    → IfOk result (λ read. read ≡ wish_in d) → IfOk result P
read_so P d (Ok read) h e = subst P (sym e) h
read_so P d (Err error) h e = tt

pub lawful_so : {E : Type 0} (d : Datum) (result : Result (Result Wish WishFault) E)
    → IfOk result (λ read. read ≡ wish_in d)
    → IfOk result (λ read. IfOk read (λ w. IsWish w))
lawful_so d (Ok read) e = read_lawful d read e
lawful_so d (Err error) e = tt

shown_lawful : (w : Wish) → IsLawful (shown_wish w)
shown_lawful w = record {
  shallow = omega arith;
  numbers = (
    (tt, (tt, (tt, tt))),
    (tt, (tt, (tt, (tt, (tt, (tt, (tt, (tt, (tt, (tt, (tt, (tt, tt)))))))))))),
  );
}

pub shown_so : {E : Type 0} (w : Wish) (result : Result Datum E)
    → IfOk result (λ shown. shown ≡ shown_wish w) → IfOk result (λ shown. IsLawful shown)
shown_so w (Ok shown) e = subst (λ (d : Datum). IsLawful d) (sym e) (shown_lawful w)
shown_so w (Err error) e = tt
