-- The names that a table of a lawful centre offers differ in each scope.
use Rattle.std.proofs.Common.{◌≡◌, ◌≢◌, ℕ, zero, suc, ◌+◌, ◌-◌, ◌≤◌, ◌==◌, Bool, true, false, not}
use Rattle.std.proofs.Common.{◌||◌, List, [], ◌∷◌, ◌++◌, length, map, take}
use Rattle.std.proofs.Common.{refl, sym, ap, ◌∙◌, subst, arith}
use Rattle.std.specs.Prelude.{if◌then◌else◌, codes, nat_eq}
use Rattle.std.specs.List.{list_all, ends_with}
use Rattle.std.specs.Fmt.{digits}
use Rattle.std.proofs.lemmas.Bool.{false≢true, and_parts, or_parts, or_left, or_right}
use Rattle.std.proofs.lemmas.Bool.Decides.{Decides-eqb}
use Rattle.std.proofs.lemmas.List.{length-append}
use Rattle.std.proofs.lemmas.Slice.Eq.{ends_is}
use Rattle.std.proofs.Math.Seq.{take-append_seam}
use Rattle.bilateral.specs.declared.rows.TheConstants.{SLOT_LIMIT}
use Rattle.bilateral.specs.Words.Words.{is_name, is_special, is_plain_name, is_reserved}
use Rattle.tase_views.specs.OwnTables.{OwnDevice}
use Rattle.tase_views.specs.Objects.{slot_item}
use Rattle.tase_discover.specs.SelfListings.{Apart, Differ}
use Rattle.tase_discover.proofs.Typed.{Every, every-append}
use Rattle.tase_discover.proofs.Apart.{every-so, AllApart, AllApart-append, Differ-append}
use Rattle.tase_discover.proofs.Apart.{Differ-parts, AllApart-back, Apart-by}
use Rattle.tase_discover.proofs.Apart.{AllApart-by, AllApart-test}
use Rattle.tase_discover.proofs.Apart.{are_different, Differ-tested, every-tested}

-- ---- names with the end of a device's further variables

abbrev is_ended : List ℕ → Bool
is_ended x =
    ends_with nat_eq x (codes "_SBO") || ends_with nat_eq x (codes "_TAG")
    || ends_with nat_eq x (codes "_TIMEOUT")

-- the names of points and devices, and those with such an end
abbrev is_named : List ℕ → Bool
is_named x = is_name x || is_ended x

not_so : (b : Bool) → not b ≡ true → b ≡ false
not_so true e = absurd (false≢true e)
not_so false e = refl

is_unended : (name : List ℕ) → is_name name ≡ true → is_ended name ≡ false
is_unended name e =
    let free = not_so (is_reserved name) (and_parts (is_plain_name name)
    (not (is_reserved name)) e).1
    in (or_parts _ _ (or_parts _ _ free).0).0

ends_so : (name end : List ℕ) → ends_with nat_eq (name ++ end) end ≡ true
ends_so name end =
    (ends_is Decides-eqb (name ++ end) end (ends_with nat_eq (name ++ end) end) refl).1 name refl

-- the last octet
abbrev last_from : ℕ → List ℕ → ℕ
last_from d [] = d
last_from d (x ∷ xs) = last_from x xs

last_behind : (d : ℕ) (xs : List ℕ) (y : ℕ) (ys : List ℕ)
    → last_from d (xs ++ (y ∷ ys)) ≡ last_from y ys
last_behind d [] y ys = refl
last_behind d (x ∷ xs) y ys = last_behind x xs y ys

-- the name without such an end, and which end it is
abbrev cut_by : ℕ → List ℕ → List ℕ
cut_by last x = if last == 84 then take (length x - 8) x else take (length x - 4) x

abbrev base : List ℕ → List ℕ
base x = if is_ended x then cut_by (last_from 0 x) x else x

abbrev end_of : List ℕ → ℕ
end_of x = if is_ended x then last_from 0 x else 0

-- a name of a device's variable
record IsItem (name : List ℕ) (end : ℕ) (x : List ℕ) : Type 0 where
  base : base x ≡ name
  ends : end_of x ≡ end
  named : is_named x ≡ true

cut_is : (name end : List ℕ) (n : ℕ) → length end ≡ n
    → take (length (name ++ end) - n) (name ++ end) ≡ name
cut_is name end n e =
    let count : length (name ++ end) - n ≡ length name =
    omega (arith, length-append name end, e) in
    ap (λ (c : ℕ). take c (name ++ end)) count ∙ take-append_seam name end

item_own : (name : List ℕ) → is_name name ≡ true → IsItem name 0 name
item_own name e =
    let free = is_unended name e in
    record {
      base = ap (λ (b : Bool). if b then cut_by (last_from 0 name) name else name) free;
      ends = ap (λ (b : Bool). if b then last_from 0 name else 0) free;
      named = or_left (is_name name) (is_ended name) e;
    }

item_with : (name end : List ℕ) (last : ℕ) → is_ended (name ++ end) ≡ true
    → last_from 0 (name ++ end) ≡ last → cut_by last (name ++ end) ≡ name
    → IsItem name last (name ++ end)
item_with name end last ended is cut =
    let x = name ++ end in
    record {
      base =
          ap (λ (b : Bool). if b then cut_by (last_from 0 x) x else x) ended
          ∙ ap (λ (l : ℕ). cut_by l x) is ∙ cut;
      ends = ap (λ (b : Bool). if b then last_from 0 x else 0) ended ∙ is;
      named = or_right (is_name x) (is_ended x) ended;
    }

item_sbo : (name : List ℕ) → IsItem name 79 (name ++ codes "_SBO")
item_sbo name =
    let end = codes "_SBO" in
    item_with name end 79
    (or_left _ _ (or_left _ _ (ends_so name end))) (last_behind 0 name 95 (codes "SBO"))
    (cut_is name end 4 refl)

item_tag : (name : List ℕ) → IsItem name 71 (name ++ codes "_TAG")
item_tag name =
    let end = codes "_TAG" in
    item_with name end 71
    (or_left _ _ (or_right _ _ (ends_so name end))) (last_behind 0 name 95 (codes "TAG"))
    (cut_is name end 4 refl)

item_timeout : (name : List ℕ) → IsItem name 84 (name ++ codes "_TIMEOUT")
item_timeout name =
    let end = codes "_TIMEOUT" in
    item_with name end 84
    (or_right _ _ (ends_so name end)) (last_behind 0 name 95 (codes "TIMEOUT"))
    (cut_is name end 8 refl)

-- ---- the names of one device's variables

abbrev pub items_with : List ℕ → Bool → List (List ℕ)
items_with name true = name ∷ (name ++ codes "_TAG") ∷ []
items_with name false =
    name ∷ (name ++ codes "_TAG") ∷ (name ++ codes "_SBO") ∷ (name ++ codes "_TIMEOUT") ∷ []

other_item : (name x y : List ℕ) (j k : ℕ) → IsItem name j x → IsItem name k y → k ≢ j → y ≢ x
other_item name x y j k one other apart e = apart (sym other.ends ∙ ap end_of e ∙ one.ends)

one_differs : (name : List ℕ) (direct : Bool) → is_name name ≡ true
    → Differ (items_with name direct)
one_differs name true e =
    let own = item_own name e in
    let tag = item_tag name in
    ((other_item name _ _ 0 71 own tag (λ s. absurd (omega (arith, s))), tt), (tt, tt))
one_differs name false e =
    let own = item_own name e in
    let tag = item_tag name in
    let sbo = item_sbo name in
    let late = item_timeout name in (
      (
        other_item name _ _ 0 71 own tag (λ s. absurd (omega (arith, s))),
        (
          other_item name _ _ 0 79 own sbo (λ s. absurd (omega (arith, s))),
          (other_item name _ _ 0 84 own late (λ s. absurd (omega (arith, s))), tt),
        ),
      ),
      (
        (
          other_item name _ _ 71 79 tag sbo (λ s. absurd (omega (arith, s))),
          (other_item name _ _ 71 84 tag late (λ s. absurd (omega (arith, s))), tt),
        ),
        ((other_item name _ _ 79 84 sbo late (λ s. absurd (omega (arith, s))), tt), (tt, tt)),
      ),
    )

-- a name's base, and that it is one of a device
record IsOf (name x : List ℕ) : Type 0 where
  base : base x ≡ name
  named : is_named x ≡ true

of_item : (name : List ℕ) (end : ℕ) (x : List ℕ) → IsItem name end x → IsOf name x
of_item name end x is = record { base = is.base; named = is.named }

items_of : (name : List ℕ) (direct : Bool) → is_name name ≡ true
    → Every (IsOf name) (items_with name direct)
items_of name true e =
    (of_item name 0 name (item_own name e), (of_item name 71 _ (item_tag name), tt))
items_of name false e = (
  of_item name 0 name (item_own name e),
  (
    of_item name 71 _ (item_tag name),
    (of_item name 79 _ (item_sbo name), (of_item name 84 _ (item_timeout name), tt)),
  ),
)

-- ---- the names of all devices' variables

abbrev pub device_items : List OwnDevice → List (List ℕ)
device_items [] = []
device_items (d ∷ ds) = items_with d.row.name d.row.direct ++ device_items ds

abbrev pub names_of : List OwnDevice → List (List ℕ)
names_of ds = map (λ d. d.row.name) ds

abbrev pub AreNamed : List OwnDevice → Type 0
AreNamed ds = Every (λ (d : OwnDevice). is_name d.row.name ≡ true) ds

devices_named : (ds : List OwnDevice) → AreNamed ds
    → Every (λ x. is_named x ≡ true) (device_items ds)
devices_named [] named = tt
devices_named (d ∷ ds) named =
    let name = d.row.name in
    every-append (λ x. is_named x ≡ true) (items_with name d.row.direct) (device_items ds)
    (every-so (IsOf name) (λ x. is_named x ≡ true) (λ x is. is.named)
    (items_with name d.row.direct) (items_of name d.row.direct named.0))
    (devices_named ds named.1)

bases_apart : (name : List ℕ) (ds : List OwnDevice) → AreNamed ds → Apart name (names_of ds)
    → Every (λ x. base x ≢ name) (device_items ds)
bases_apart name [] named apart = tt
bases_apart name (d ∷ ds) named apart =
    let here = d.row.name in
    every-append (λ x. base x ≢ name) (items_with here d.row.direct) (device_items ds)
    (every-so (IsOf here) (λ x. base x ≢ name) (λ x is e. apart.0 (sym is.base ∙ e))
    (items_with here d.row.direct) (items_of here d.row.direct named.0))
    (bases_apart name ds named.1 apart.1)

devices_differ : (ds : List OwnDevice) → AreNamed ds → Differ (names_of ds)
    → Differ (device_items ds)
devices_differ [] named differ = tt
devices_differ (d ∷ ds) named differ =
    let name = d.row.name in
    let own = items_with name d.row.direct in
    Differ-append own (device_items ds) (one_differs name d.row.direct named.0)
    (devices_differ ds named.1 differ.1)
    (AllApart-by base name own (device_items ds)
    (every-so (IsOf name) (λ x. base x ≡ name) (λ x is. is.base) own
    (items_of name d.row.direct named.0))
    (bases_apart name ds named.1 differ.0))

points_apart : (points : List (List ℕ)) (ds : List OwnDevice)
    → Every (λ x. is_name x ≡ true) points → AreNamed ds → AllApart points (names_of ds)
    → AllApart points (device_items ds)
points_apart [] ds well named apart = tt
points_apart (p ∷ points) ds well named apart = (
  Apart-by base p p (device_items ds) (item_own p well.0).base
      (bases_apart p ds named apart.0),
  points_apart points ds well.1 named apart.1,
)

-- ---- the names of transfer sets, and those of the protocol itself

abbrev pub slot_items : ℕ → ℕ → List (List ℕ)
slot_items s zero = []
slot_items s (suc n) = slot_item s ∷ (slot_item s ++ codes "$Status") ∷ slot_items (s + 1) n

-- the protocol's own names in the domain, the next transfer set among them unless there are none
abbrev pub own_items : Bool → List (List ℕ)
own_items none =
    codes "Bilateral_Table_ID" ∷ codes "Transfer_Set_Name" ∷ codes "Transfer_Set_Time_Stamp"
    ∷ codes "DSConditions_Detected" ∷ codes "Event_Code_Detected"
    ∷ (if none then [] else codes "Next_DSTransfer_Set" ∷ [])

abbrev pub whole_items : List (List ℕ)
whole_items =
    codes "TASE2_Version" ∷ codes "Supported_Features" ∷ codes "Transfer_Set_Name"
    ∷ codes "Transfer_Set_Time_Stamp" ∷ codes "DSConditions_Detected"
    ∷ codes "Event_Code_Detected" ∷ []

-- such names are none of points or devices
abbrev is_apart : List ℕ → Bool
is_apart x = not (is_named x)

slots_different : are_different (slot_items 0 SLOT_LIMIT) ≡ true
unfolding digits
slots_different = refl

slots_unspecial : list_all (λ x. not (is_special x)) (slot_items 0 SLOT_LIMIT) ≡ true
unfolding digits
slots_unspecial = refl

slots_unnamed : list_all is_apart (slot_items 0 SLOT_LIMIT) ≡ true
unfolding digits
slots_unnamed = refl

-- the first so many
record IsFront (some all : List (List ℕ)) : Type 0 where
  rest : List (List ℕ)
  is : all ≡ some ++ rest

fewer_slots : (s n m : ℕ) → n ≤ m → IsFront (slot_items s n) (slot_items s m)
fewer_slots s zero m le = record { rest = slot_items s m; is = refl }
fewer_slots s (suc n) zero le = absurd (omega (arith, le))
fewer_slots s (suc n) (suc m) le =
    let more = fewer_slots (s + 1) n m (omega (arith, le)) in
    record {
      rest = more.rest;
      is =
          ap (λ (xs : List (List ℕ)). slot_item s ∷ (slot_item s ++ codes "$Status") ∷ xs) more.is;
    }

every-front : (P : List ℕ → Type 0) (some rest : List (List ℕ)) → Every P (some ++ rest)
    → Every P some
every-front P [] rest e = tt
every-front P (x ∷ some) rest e = (e.0, every-front P some rest e.1)

fails_test : (test : List ℕ → Bool) (xs : List (List ℕ)) → Every (λ x. not (test x) ≡ true) xs
    → Every (λ x. test x ≡ false) xs
fails_test test xs all =
    every-so (λ x. not (test x) ≡ true) (λ x. test x ≡ false) (λ x e. not_so (test x) e) xs all

record SlotsStand (n : ℕ) : Type 0 where
  differ : Differ (slot_items 0 n)
  unspecial : Every (λ x. is_special x ≡ false) (slot_items 0 n)
  unnamed : Every (λ x. is_named x ≡ false) (slot_items 0 n)

slots_stand : (n : ℕ) → n ≤ SLOT_LIMIT → SlotsStand n
slots_stand n le =
    let front = fewer_slots 0 n SLOT_LIMIT le in
    let some = slot_items 0 n in
    record {
      differ =
          (Differ-parts some front.rest (subst Differ front.is
          (Differ-tested (slot_items 0 SLOT_LIMIT) slots_different))).first;
      unspecial =
          fails_test is_special some (every-front (λ x. not (is_special x) ≡ true) some front.rest
          (subst (Every (λ x. not (is_special x) ≡ true)) front.is
          (every-tested (λ x. not (is_special x)) (slot_items 0 SLOT_LIMIT) slots_unspecial)));
      unnamed =
          fails_test is_named some (every-front (λ x. is_apart x ≡ true) some front.rest
          (subst (Every (λ x. is_apart x ≡ true)) front.is
          (every-tested is_apart (slot_items 0 SLOT_LIMIT) slots_unnamed)));
    }

record OwnStand (items : List (List ℕ)) : Type 0 where
  differ : Differ items
  special : Every (λ x. is_special x ≡ true) items
  unnamed : Every (λ x. is_named x ≡ false) items

own_stand : (none : Bool) → OwnStand (own_items none)
own_stand true = record {
  differ = Differ-tested (own_items true) refl;
  special = every-tested is_special (own_items true) refl;
  unnamed = fails_test is_named (own_items true) (every-tested is_apart (own_items true) refl);
}
own_stand false = record {
  differ = Differ-tested (own_items false) refl;
  special = every-tested is_special (own_items false) refl;
  unnamed = fails_test is_named (own_items false) (every-tested is_apart (own_items false) refl);
}

-- ---- all of them

are_named : (names : List (List ℕ)) → Every (λ x. is_name x ≡ true) names
    → Every (λ x. is_named x ≡ true) names
are_named names well =
    every-so (λ x. is_name x ≡ true) (λ x. is_named x ≡ true)
    (λ x e. or_left (is_name x) (is_ended x) e) names well

pub domain_differs : (none : Bool) (ds : List OwnDevice) (slots : ℕ) (points : List (List ℕ))
    → slots ≤ SLOT_LIMIT → AreNamed ds → Every (λ x. is_name x ≡ true) points
    → Differ (points ++ names_of ds)
    → Differ (own_items none ++ device_items ds ++ slot_items 0 slots ++ points)
domain_differs none ds slots points le named well differ =
    let parts = Differ-parts points (names_of ds) differ in
    let own = own_stand none in
    let sets = slots_stand slots le in
    let devices = devices_named ds named in
    let marked = are_named points well in
    Differ-append (own_items none ++ device_items ds ++ slot_items 0 slots) points
    (Differ-append (own_items none ++ device_items ds) (slot_items 0 slots)
    (Differ-append (own_items none) (device_items ds) own.differ
    (devices_differ ds named parts.second)
    (AllApart-test is_named (own_items none) (device_items ds) own.unnamed devices))
    sets.differ
    (AllApart-append (own_items none) (device_items ds) (slot_items 0 slots)
    (AllApart-back (slot_items 0 slots) (own_items none)
    (AllApart-test is_special (slot_items 0 slots) (own_items none) sets.unspecial own.special))
    (AllApart-back (slot_items 0 slots) (device_items ds)
    (AllApart-test is_named (slot_items 0 slots) (device_items ds) sets.unnamed devices))))
    parts.first
    (AllApart-append (own_items none ++ device_items ds) (slot_items 0 slots) points
    (AllApart-append (own_items none) (device_items ds) points
    (AllApart-test is_named (own_items none) points own.unnamed marked)
    (AllApart-back points (device_items ds) (points_apart points ds well named parts.apart)))
    (AllApart-test is_named (slot_items 0 slots) points sets.unnamed marked))

pub whole_differs : (points : List (List ℕ)) → Every (λ x. is_name x ≡ true) points
    → Differ points → Differ (whole_items ++ points)
whole_differs points well differ =
    Differ-append whole_items points (Differ-tested whole_items refl) differ
    (AllApart-test is_named whole_items points
    (fails_test is_named whole_items (every-tested is_apart whole_items refl))
    (are_named points well))
