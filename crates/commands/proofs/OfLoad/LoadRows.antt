-- The rows of the load run's tables are lawful.
use Rattle.std.proofs.Common.{◌≡◌, ◌≢◌, ℕ, zero, suc, ◌+◌, ◌-◌, ◌/◌, ◌%◌, ◌^◌, ◌<◌, ◌≤◌, Bool, true}
use Rattle.std.proofs.Common.{false, not}
use Rattle.std.proofs.Common.{◌&&◌, ◌||◌, ◌==◌, leb, List, [], ◌∷◌, ◌++◌, length, map, get_or, drop}
use Rattle.std.proofs.Common.{All, AllPairs, IsTrue, Some, refl, sym, ap, subst, ◌∙◌, inl, inr}
use Rattle.std.proofs.Common.{arith}
use Rattle.std.specs.Prelude.{decimal, codes, nat_eq}
use Rattle.std.specs.Int.Digits.{digits_of}
use Rattle.std.specs.List.{list_all, ends_with}
use Rattle.std.specs.Char.{is_ascii_digit, is_ascii_alphanumeric}
use Rattle.std.specs.Str.{all_ascii_digits}
use Rattle.std.specs.Cmp.Lexicographic.{same_text}
use Rattle.std.proofs.lemmas.Bool.{cases_Bool, and_parts, and_from, false≢true, le-leb, ne_eqb}
use Rattle.std.proofs.lemmas.Bool.Decides.{nat_tests}
use Rattle.std.proofs.lemmas.Fmt.{decimal_injective, digits_decimal, length-decimal-le}
use Rattle.std.proofs.lemmas.Str.Parse.{numerals_by_value, tells_all_ascii_digits}
use Rattle.std.proofs.lemmas.List.{length-map}
use Rattle.std.proofs.lemmas.List.Elements.{All-nil, All-cons, All-drop}
use Rattle.std.proofs.lemmas.List.FromFn.{length-map-range_with_len, get_or-map-range_with_len}
use Rattle.tase_points.specs.declared.layout.Component.TheVariants.{Value}
use Rattle.tase_points.specs.Layouts.{IsLayout}
use Rattle.ber_values.specs.declared.object_identifier.TheConstants.{ARC_LIMIT}
use Rattle.ber_values.specs.Dotted.{base_128}
use Rattle.bilateral.specs.declared.rows.PointRow.{PointRow}
use Rattle.bilateral.specs.declared.rows.See.{See}
use Rattle.bilateral.specs.declared.rows.Table.{Table}
use Rattle.bilateral.specs.Words.Words.{is_name, is_reserved, is_identifier, IsTitle}
use Rattle.bilateral.specs.Rows.{IsCentre, IsTable, IsControlling, AreVariants, no_table, table_of}
use Rattle.bilateral.proofs.OfWords.Digits.{all_digits}
use Rattle.bilateral.proofs.OfWords.Components.{IsLayout-from_distinct}
use Rattle.bilateral.proofs.OfWords.VisibleWords.{list_all-weaker}
use Rattle.commands.specs.declared.load.tables.TheConstants.{POINTS, PEERS, SEEN}
use Rattle.commands.specs.Load.Generated.{seen_point}
use Rattle.commands.specs.Load.Rows.{list_below, load_point_row, load_see, load_table, load_rows}

-- ---- what there is for each number below another

pub length-list_below : {A : Type 0} (item : ℕ → A) (n : ℕ) → length (list_below item n) ≡ n
unfolding list_below
length-list_below item n = length-map-range_with_len item 0 n

pub list_below-at : {A : Type 0} (item : ℕ → A) (n k : ℕ) (d : A) → k < n
    → get_or (list_below item n) k d ≡ item k
unfolding list_below
list_below-at item n k d below = get_or-map-range_with_len item 0 n k k d below (omega arith)

pub all_below : {A : Type 0} (P : A → Type 0) (item : ℕ → A) (n : ℕ)
    → ((k : ℕ) → k < n → P (item k)) → All P (list_below item n)
all_below P item n each = λ k d below.
    let lt : k < n = omega (arith, below, length-list_below item n) in
    subst P (sym (list_below-at item n k d lt)) (each k lt)

pub pairs_below : {A : Type 0} (R : A → A → Type 0) (item : ℕ → A) (n : ℕ)
    → ((i j : ℕ) → i < j → j < n → R (item i) (item j)) → AllPairs R (list_below item n)
pairs_below R item n each = λ i j d before below.
    let lt : j < n = omega (arith, below, length-list_below item n) in
    subst (λ a. R a (get_or (list_below item n) j d))
    (sym (list_below-at item n i d (omega (arith, before, lt))))
    (subst (R (item i)) (sym (list_below-at item n j d lt)) (each i j before lt))

-- ---- names with a number

digits_are : (n : ℕ) → n < 2 ^ 64 → list_all is_ascii_digit (decimal n) ≡ true
digits_are n small = all_digits (decimal n)
    ∙ digits_decimal (numerals_by_value (λ ds. all_ascii_digits ds ≡ true) tells_all_ascii_digits) n
    small

pub few_digits : (n : ℕ) → n < 2 ^ 64 → length (decimal n) ≤ 20
few_digits n small = length-decimal-le 20 n (omega arith) (omega arith) small

-- names with the same beginning and other numbers differ
pub numbered_apart : (first i j : ℕ) → i < j → j < 2 ^ 64
    → first ∷ decimal i ≢ first ∷ decimal j
numbered_apart first i j before small = λ same.
    let again : i ≡ j =
    decimal_injective i j (omega (arith, before, small)) small (ap (drop 1) same) in
    omega (arith, before, again)

digit_in_names : (octet : ℕ) → is_ascii_digit octet ≡ true
    → (is_ascii_alphanumeric octet || (octet == 95)) ≡ true
digit_in_names octet digit = grind (arith, nat_tests)

digit_in_identifiers : (octet : ℕ) → is_ascii_digit octet ≡ true
    → (is_ascii_alphanumeric octet || (octet == 95) || (octet == 36)) ≡ true
digit_in_identifiers octet digit = grind (arith, nat_tests)

abbrev IsNoLine : ℕ → Type 0
IsNoLine octet = octet ≢ 95

no_lines : (ds : List ℕ) → list_all is_ascii_digit ds ≡ true → All IsNoLine ds
no_lines [] digits = All-nil IsNoLine
no_lines (d ∷ ds) digits =
    let parts = and_parts (is_ascii_digit d) (list_all is_ascii_digit ds) digits in
    All-cons IsNoLine d ds
    (λ same. false≢true (sym (ap is_ascii_digit same) ∙ parts.0))
    (no_lines ds parts.1)

-- a name without a low line has no ending that begins with one
no_ending : (name more : List ℕ) → All IsNoLine name
    → ends_with nat_eq name (95 ∷ more) ≡ false
no_ending name more all =
    elim (cases_Bool (ends_with nat_eq name (95 ∷ more))) [
      | inl ends ↦ absurd (subst (All IsNoLine)
          (sym (same_text (95 ∷ more) (drop (length name - length (95 ∷ more)) name) (sym ends)))
          (All-drop IsNoLine (length name - length (95 ∷ more)) name all) 0 0 (omega arith) refl)
      | inr other ↦ other
    ]

not_reserved : (a b c : Bool) → a ≡ false → b ≡ false → c ≡ false
    → (a || b || c || false || false) ≡ false
not_reserved true b c first second third = absurd (false≢true (sym first))
not_reserved false true c first second third = absurd (false≢true (sym second))
not_reserved false false true first second third = absurd (false≢true (sym third))
not_reserved false false false first second third = refl

-- `P` and a number
pub point_named : (m : ℕ) → m < 2 ^ 64 → is_name (80 ∷ decimal m) ≡ true
point_named m small =
    let name = 80 ∷ decimal m in
    let digits = digits_are m small in
    let few : length name ≤ 24 = omega (arith, few_digits m small) in
    let plain = All-cons IsNoLine 80 (decimal m) (λ same. omega (arith, same))
    (no_lines (decimal m) digits) in
    and_from _ (not (is_reserved name))
    (and_from _ _ (list_all-weaker is_ascii_digit _ digit_in_names (decimal m) digits)
    (le-leb (length name) 24 few))
    (ap not (not_reserved _ _ _ (no_ending name (codes "SBO") plain)
    (no_ending name (codes "TAG") plain) (no_ending name (codes "TIMEOUT") plain)))

-- a letter and a number
pub numbered_identifier : (first k : ℕ)
    → (is_ascii_alphanumeric first || (first == 95) || (first == 36)) ≡ true → k < 2 ^ 64
    → is_identifier (first ∷ decimal k) ≡ true
numbered_identifier first k letter small =
    let word = first ∷ decimal k in
    let few : length word ≤ 32 = omega (arith, few_digits k small) in
    let some : length word ≢ 0 = λ none. omega (arith, none) in
    and_from (not (length word == 0) && leb (length word) 32) _
    (and_from (not (length word == 0)) (leb (length word) 32) (ap not (ne_eqb (length word) 0 some))
    (le-leb (length word) 32 few))
    (and_from _ _ letter
    (list_all-weaker is_ascii_digit _ digit_in_identifiers (decimal k) (digits_are k small)))

abbrev IsArc : ℕ → Type 0
IsArc arc = arc ≤ ARC_LIMIT

-- a number below 128 has one digit in base 128
one_digit : (t : ℕ) → t < 128 → base_128 t ++ [] ≡ t ∷ []
one_digit t small =
    let high : t / 128 ≡ 0 = omega arith in
    let low : t % 128 ≡ t = omega arith in
    ap (λ n. (map (λ digit. 128 + digit) (digits_of 128 n) ++ (t % 128) ∷ []) ++ []) high
    ∙ ap (λ n. n ∷ []) low

-- the title 1.1.998.t
title_lawful : (t : ℕ) → t < 128 → IsTitle (Some (41 ∷ 135 ∷ 102 ∷ t ∷ []))
title_lawful t small = record {
  arcs = 1 ∷ 1 ∷ 998 ∷ t ∷ [];
  is = refl;
  small = All-cons IsArc 1 (1 ∷ 998 ∷ t ∷ []) (omega arith)
      (All-cons IsArc 1 (998 ∷ t ∷ []) (omega arith)
      (All-cons IsArc 998 (t ∷ []) (omega arith)
      (All-cons IsArc t [] (omega arith) (All-nil IsArc))));
  same = ap (λ (last : List ℕ). 41 ∷ 135 ∷ 102 ∷ last) (sym (one_digit t small));
}

-- ---- the tables

seen_apart : (k i j : ℕ) → k < PEERS → i < j → j < SEEN → seen_point k i ≢ seen_point k j
seen_apart k i j known before below = λ same. omega (arith, known, before, below, same)

table_lawful : (k : ℕ) → k < PEERS → IsTable (length load_rows.points) (load_table k)
table_lawful k known = record {
  known = all_below (λ (see : See). see.point < length load_rows.points) (load_see k) SEEN
      (λ j below. omega (arith, length-list_below load_point_row POINTS));
  once = pairs_below (λ (a b : See). a.point ≢ b.point) (load_see k) SEEN
      (λ i j before below. seen_apart k i j known before below);
  limit = omega (arith, length-list_below (load_see k) SEEN);
  layouts = all_below (λ (see : See). IsLayout see.layout) (load_see k) SEEN
      (λ j below. IsLayout-from_distinct (Value ∷ []) (omega arith) refl);
  key = numbered_identifier 75 k refl (omega (arith, known));
  title = title_lawful (k + 1) (omega (arith, known));
  domain = numbered_identifier 68 k refl (omega (arith, known));
  id = numbered_identifier 84 k refl (omega (arith, known));
  slots_least = omega arith;
  slots = omega arith;
  sets_least = omega arith;
  sets = omega arith;
  pending_least = omega arith;
  pending = omega arith;
}

controls_lawful : (k : ℕ) → IsControlling 0 (load_table k)
controls_lawful k = record {
  known = All-nil _;
  once = λ i j d before below. absurd (omega (arith, below));
  limit = omega arith;
}

-- no peer has further tables
abbrev pub none_of : Table → List Table
none_of table = []

no_further : (tables : List Table) (peer : ℕ)
    → get_or (map none_of tables) peer (none_of no_table) ≡ none_of no_table
no_further [] peer = refl
no_further (table ∷ tables) zero = refl
no_further (table ∷ tables) (suc peer) = no_further tables peer

pub load_rows_lawful : IsCentre load_rows
load_rows_lawful = record {
  names = pairs_below (λ (a b : PointRow). a.name ≢ b.name) load_point_row POINTS
      (λ i j before below. numbered_apart 80 i j before (omega (arith, below)));
  named = all_below (λ (row : PointRow). IsTrue (is_name row.name)) load_point_row POINTS
      (λ m below. point_named m (omega (arith, below)));
  device_names = λ i j d before below. absurd (omega (arith, below));
  devices = All-nil _;
  apart = All-nil _;
  keys = pairs_below (λ (a b : Table). a.key ≢ b.key) load_table PEERS
      (λ i j before below. numbered_apart 75 i j before (omega (arith, below)));
  titles = pairs_below (λ (a b : Table). a.title ≢ b.title) load_table PEERS
      (λ i j before below same.
      let again : i + 1 ≡ j + 1 = cc in omega (arith, before, again));
  tables = all_below (IsTable (length load_rows.points)) load_table PEERS
      (λ k below. table_lawful k below);
  controls = all_below (IsControlling 0) load_table PEERS (λ k below. controls_lawful k);
  variants = length-map load_rows.tables none_of;
  further = λ peer. subst
      (AreVariants (length load_rows.points) 0 (table_of load_rows peer))
      (sym (no_further load_rows.tables peer))
      (record { tables = All-nil _; controls = All-nil _; alike = All-nil _; limit = omega arith });
  point_limit = omega (arith, length-list_below load_point_row POINTS);
  device_limit = omega arith;
  peer_limit = omega (arith, length-list_below load_table PEERS);
}
