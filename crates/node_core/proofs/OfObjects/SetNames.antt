-- The names of the data sets in a book are those that the view shows, each once.
use Rattle.std.proofs.Common.{◌≡◌, ◌≢◌, ℕ, suc, ◌+◌, ◌<◌, Bool, true, false, not, ◌&&◌, List, []}
use Rattle.std.proofs.Common.{◌∷◌, map, length, Option, Some, None, is_some, bytes_eq, refl, sym}
use Rattle.std.proofs.Common.{ap, ◌∙◌, arith}
use Rattle.std.specs.Prelude.{if◌then◌else◌, is_none}
use Rattle.std.specs.List.{AllPairs, All, filter, find}
use Rattle.std.specs.Option.{option_map}
use Rattle.std.proofs.lemmas.Bool.{false≢true}
use Rattle.std.proofs.lemmas.List.{length-map}
use Rattle.std.proofs.lemmas.List.Elements.{All-head, All-tail}
use Rattle.std.proofs.lemmas.Slice.Eq.{bytes_eq-Decides}
use Rattle.mms_data.specs.ObjectName.{ObjectName, same_name}
use Rattle.data_sets.specs.declared.book.DataSet.{DataSet}
use Rattle.data_sets.specs.Books.{Book, is_set_named, members_in}
use Rattle.tase_views.specs.OwnTables.{OwnTable, OwnTables, domain_name}
use Rattle.tase_views.specs.NameLists.{with_name, in_order, is_below}
use Rattle.tase_views.specs.Moves.{Act, defines, deletes, opens, takes, closes, reads, writes}
use Rattle.tase_views.specs.Moves.{calls}
use Rattle.tase_views.specs.View.{View, own, other_acted, other_closed, updated, tagged, asked}
use Rattle.tase_views.specs.View.{chose, ticked, stopped, held, keeps_force}
use Rattle.tase_views.specs.Sets.{Sets, names_defined, define_fault, set_behind}
use Rattle.tase_views.specs.Slots.{is_wished, sets_in, slot_moves}
use Rattle.tase_views.specs.Answers.{set_names}
use Rattle.node_core.specs.Slots.SetsKept.{IsBook}
use Rattle.node_core.proofs.OfObjects.Sorted.{one_if, count_of, count-in_order, Rise-in_order}
use Rattle.node_core.proofs.OfObjects.Sorted.{rise_once}
use Rattle.node_core.proofs.OfObjects.Names.{AllPairs-head, AllPairs-tail}

-- how often a name stands among names that pass a test: as often as among all, if it passes
count_passed : (test : List ℕ → Bool) (z : List ℕ) (names : List (List ℕ))
    → count_of z (filter test names) ≡ (if test z then count_of z names else 0)
count_passed test z [] = by (test z)
  where
    by : (b : Bool) → count_of z [] ≡ (if b then count_of z [] else 0)
    by true = refl
    by false = refl
count_passed test z (name ∷ names) =
    by (bytes_eq z name) (test name) (test z) refl refl refl (count_passed test z names)
  where
    by : (same passes wanted : Bool) → bytes_eq z name ≡ same → test name ≡ passes
        → test z ≡ wanted
        → count_of z (filter test names) ≡ (if wanted then count_of z names else 0)
        → count_of z (if passes then name ∷ filter test names else filter test names)
        ≡ (if wanted then one_if z name + count_of z names else 0)
    by true passes wanted s p w rest =
        let is : z ≡ name = (bytes_eq-Decides z name).0 s in
        let alike : passes ≡ wanted = sym p ∙ ap test (sym is) ∙ w in
        both passes wanted alike rest
      where
        both : (p w : Bool) → p ≡ w
            → count_of z (filter test names) ≡ (if w then count_of z names else 0)
            → count_of z (if p then name ∷ filter test names else filter test names)
            ≡ (if w then one_if z name + count_of z names else 0)
        both true true e rest = ap (λ n. one_if z name + n) rest
        both false false e rest = rest
        both true false e rest = absurd cc
        both false true e rest = absurd cc
    by false true true s p w rest = ap (λ n. one_if z name + n) rest
    by false true false s p w rest =
        let other : one_if z name ≡ 0 = rw s refl in omega (arith, other, rest)
    by false false true s p w rest =
        let other : one_if z name ≡ 0 = rw s refl in omega (arith, other, rest)
    by false false false s p w rest = rest

-- a name stands at most once among those that definitions in a view have
at_most_once : (z : List ℕ) (view : View) → count_of z (names_defined view) < 2
at_most_once z [] = omega arith
at_most_once z (own ordinal (defines set members) ∷ view) =
    let older = names_defined view in
    let passed = count_passed (λ name. not (bytes_eq name set.item)) z older in
    by (bytes_eq z set.item) refl passed (at_most_once z view)
  where
    by : (same : Bool) → bytes_eq z set.item ≡ same
        → count_of z (filter (λ name. not (bytes_eq name set.item)) (names_defined view))
        ≡ (if not (bytes_eq z set.item) then count_of z (names_defined view) else 0)
        → count_of z (names_defined view) < 2
        → one_if z set.item
        + count_of z (filter (λ name. not (bytes_eq name set.item)) (names_defined view)) < 2
    by true s passed few = rw (passed, s) (omega arith)
    by false s passed few = rw (passed, s) (omega arith)
at_most_once z (own ordinal opens ∷ view) = at_most_once z view
at_most_once z (own ordinal takes ∷ view) = at_most_once z view
at_most_once z (own ordinal closes ∷ view) = at_most_once z view
at_most_once z (own ordinal (reads name) ∷ view) = at_most_once z view
at_most_once z (own ordinal (writes name value) ∷ view) = at_most_once z view
at_most_once z (own ordinal (calls call) ∷ view) = at_most_once z view
at_most_once z (own ordinal (deletes set) ∷ view) = at_most_once z view
at_most_once z (other_acted key number name deed ∷ view) = at_most_once z view
at_most_once z (other_closed key number ∷ view) = at_most_once z view
at_most_once z (updated name value ∷ view) = at_most_once z view
at_most_once z (tagged name tag ∷ view) = at_most_once z view
at_most_once z (asked slot ∷ view) = at_most_once z view
at_most_once z (chose variant ∷ view) = at_most_once z view
at_most_once z (ticked now ∷ view) = at_most_once z view
at_most_once z (stopped ∷ view) = at_most_once z view

-- names with a data set, by what counts of them
pub same_order : (xs ys : List (List ℕ)) → ((z : List ℕ) → count_of z xs ≡ count_of z ys)
    → in_order xs ≡ in_order ys
same_order xs ys same =
    rise_once (in_order xs) (in_order ys) (Rise-in_order xs) (Rise-in_order ys)
    (λ z. count-in_order z xs ∙ same z ∙ sym (count-in_order z ys))

length-with_name : (name : List ℕ) (names : List (List ℕ))
    → length (with_name name names) ≡ suc (length names)
length-with_name name [] = refl
length-with_name name (first ∷ names) = by (is_below first name) (length-with_name name names)
  where
    by : (b : Bool) → length (with_name name names) ≡ suc (length names)
        → length (if b then first ∷ with_name name names else name ∷ first ∷ names)
        ≡ suc (suc (length names))
    by true e = ap suc e
    by false e = refl

length-in_order : (names : List (List ℕ)) → length (in_order names) ≡ length names
length-in_order [] = refl
length-in_order (name ∷ names) =
    length-with_name name (in_order names) ∙ ap suc (length-in_order names)

pub same_length : (xs ys : List (List ℕ)) → ((z : List ℕ) → count_of z xs ≡ count_of z ys)
    → length xs ≡ length ys
same_length xs ys same =
    sym (length-in_order xs) ∙ ap length (same_order xs ys same) ∙ length-in_order ys

-- ---- the names in a book

abbrev pub book_names : List DataSet → List (List ℕ)
book_names sets = map (λ set. set.name) sets

abbrev once_if : Bool → ℕ
once_if b = if b then 1 else 0

pub turned : (a b : List ℕ) → bytes_eq a b ≡ bytes_eq b a
turned a b = by (bytes_eq a b) (bytes_eq b a) refl refl
  where
    by : (c d : Bool) → bytes_eq a b ≡ c → bytes_eq b a ≡ d → c ≡ d
    by true true e f = refl
    by false false e f = refl
    by true false e f =
        absurd (false≢true (sym f ∙ (bytes_eq-Decides b a).1 (sym ((bytes_eq-Decides a b).0 e))))
    by false true e f =
        absurd (false≢true (sym e ∙ (bytes_eq-Decides a b).1 (sym ((bytes_eq-Decides b a).0 f))))

-- the name of a data set is none of those of others
none_alike : (item : List ℕ) (sets : List DataSet) → All (λ set. item ≢ set.name) sets
    → count_of item (book_names sets) ≡ 0
none_alike item [] apart = refl
none_alike item (set ∷ sets) apart =
    by (bytes_eq item set.name) refl
    (none_alike item sets (All-tail (λ (s : DataSet). item ≢ s.name) set sets apart))
  where
    by : (b : Bool) → bytes_eq item set.name ≡ b → count_of item (book_names sets) ≡ 0
        → one_if item set.name + count_of item (book_names sets) ≡ 0
    by true e rest =
        absurd (All-head (λ (s : DataSet). item ≢ s.name) set sets apart
        ((bytes_eq-Decides item set.name).0 e))
    by false e rest = rw e (omega (arith, rest))

-- a name stands once among those of a book that has it, and not among those of another
book_count : (z : List ℕ) (sets : List DataSet) → AllPairs (λ a b. a.name ≢ b.name) sets
    → count_of z (book_names sets) ≡ once_if (is_some (members_in sets z))
book_count z [] once = refl
book_count z (set ∷ sets) once =
    by (bytes_eq set.name z) refl
    (book_count z sets (AllPairs-tail (λ (a b : DataSet). a.name ≢ b.name) set sets once))
  where
    by : (b : Bool) → bytes_eq set.name z ≡ b
        → count_of z (book_names sets) ≡ once_if (is_some (members_in sets z))
        → one_if z set.name + count_of z (book_names sets)
        ≡ once_if (is_some (option_map (λ (s : DataSet). s.members)
        (if b then Some set else find (is_set_named z) sets)))
    by true e rest =
        let same : set.name ≡ z = (bytes_eq-Decides set.name z).0 e in
        let none : count_of set.name (book_names sets) ≡ 0 =
        none_alike set.name sets
        (AllPairs-head (λ (a b : DataSet). a.name ≢ b.name) set sets once) in
        let gone : count_of z (book_names sets) ≡ 0 = rw same at none in
        let here : bytes_eq z set.name ≡ true = turned z set.name ∙ e in
        rw (here, gone) refl
    by false e rest =
        let here : bytes_eq z set.name ≡ false = turned z set.name ∙ e in
        rw here (omega (arith, rest))

-- ---- the names that a view shows

-- a data set that is there where a table may change is there
kept_there : (keeps : Bool) (found : Option (List ObjectName))
    → is_some (if keeps then found else None) ≡ true → is_some found ≡ true
kept_there true found there = there
kept_there false found there = absurd (false≢true there)

-- the name of a data set that there is behind an act stands among those that definitions have
behind : (table : OwnTable) (kept : List ℕ → Bool) (sets : Sets) (z : List ℕ) (view : View)
    (ordinal : ℕ) (act : Act) → is_some (set_behind table kept sets view act z) ≡ true
    → (is_some (sets z) ≡ true → 0 < count_of z (names_defined view))
    → 0 < count_of z (names_defined (own ordinal act ∷ view))
behind table kept sets z view ordinal (defines set members) there before =
    by (bytes_eq set.item z) (is_none (define_fault table sets view set members))
    refl there (count_passed (λ name. not (bytes_eq name set.item)) z (names_defined view))
  where
    by : (same free : Bool) → bytes_eq set.item z ≡ same
        → is_some (if same && free then Some members else sets z) ≡ true
        → count_of z (filter (λ name. not (bytes_eq name set.item)) (names_defined view))
        ≡ (if not (bytes_eq z set.item) then count_of z (names_defined view) else 0)
        → 0 < one_if z set.item
        + count_of z (filter (λ name. not (bytes_eq name set.item)) (names_defined view))
    by true free e there passed =
        let here : bytes_eq z set.item ≡ true = turned z set.item ∙ e in
        rw (passed, here) (omega arith)
    by false free e there passed =
        let here : bytes_eq z set.item ≡ false = turned z set.item ∙ e in
        rw (passed, here) (omega (arith, before there))
behind table kept sets z view ordinal (deletes set) there before =
    by (same_name set (domain_name table z) && not (kept z)) there
  where
    by : (gone : Bool) → is_some (if gone then None else sets z) ≡ true
        → 0 < count_of z (names_defined view)
    by true there = absurd (false≢true there)
    by false there = before there
behind table kept sets z view ordinal opens there before = before there
behind table kept sets z view ordinal takes there before = before there
behind table kept sets z view ordinal closes there before = before there
behind table kept sets z view ordinal (reads name) there before = before there
behind table kept sets z view ordinal (writes name value) there before = before there
behind table kept sets z view ordinal (calls call) there before = before there

is_defined : (tables : OwnTables) (z : List ℕ) (view : View)
    → is_some (sets_in tables view z) ≡ true → 0 < count_of z (names_defined view)
is_defined tables z [] there = absurd (false≢true there)
is_defined tables z (own ordinal act ∷ view) there =
    let kept = is_wished (held tables view) (slot_moves tables view) in
    behind (held tables view) kept (sets_in tables view) z view ordinal act
    (kept_there (keeps_force (own ordinal act) view)
    (set_behind (held tables view) kept (sets_in tables view) view act z) there)
    (is_defined tables z view)
is_defined tables z (other_acted key number name deed ∷ view) there =
    is_defined tables z view
    (kept_there (keeps_force (other_acted key number name deed) view) (sets_in tables view z) there)
is_defined tables z (other_closed key number ∷ view) there =
    is_defined tables z view
    (kept_there (keeps_force (other_closed key number) view) (sets_in tables view z) there)
is_defined tables z (updated name value ∷ view) there =
    is_defined tables z view
    (kept_there (keeps_force (updated name value) view) (sets_in tables view z) there)
is_defined tables z (tagged name tag ∷ view) there =
    is_defined tables z view
    (kept_there (keeps_force (tagged name tag) view) (sets_in tables view z) there)
is_defined tables z (asked slot ∷ view) there =
    is_defined tables z view
    (kept_there (keeps_force (asked slot) view) (sets_in tables view z) there)
is_defined tables z (chose variant ∷ view) there =
    is_defined tables z view
    (kept_there (keeps_force (chose variant) view) (sets_in tables view z) there)
is_defined tables z (ticked now ∷ view) there =
    is_defined tables z view
    (kept_there (keeps_force (ticked now) view) (sets_in tables view z) there)
is_defined tables z (stopped ∷ view) there =
    is_defined tables z view
    (kept_there (keeps_force (stopped) view) (sets_in tables view z) there)

-- a name stands once among those of the data sets that there are, if there is one with it
view_count : (tables : OwnTables) (z : List ℕ) (view : View)
    → count_of z (set_names tables view) ≡ once_if (is_some (sets_in tables view z))
view_count tables z view =
    count_passed (λ name. is_some (sets_in tables view name)) z (names_defined view)
    ∙ by (is_some (sets_in tables view z)) (is_defined tables z view)
  where
    by : (there : Bool) → (there ≡ true → 0 < count_of z (names_defined view))
        → (if there then count_of z (names_defined view) else 0) ≡ once_if there
    by true some = omega (arith, some refl, at_most_once z view)
    by false some = refl

-- ---- a book has the names that the view shows

module _ (tables : OwnTables) (view : View) (book : Book) where
  -- each as often
  pub names_alike : IsBook tables view book → (z : List ℕ)
      → count_of z (book_names book.sets) ≡ count_of z (set_names tables view)
  names_alike b z =
      book_count z book.sets b.once
      ∙ ap (λ (found : Option (List ObjectName)). once_if (is_some found)) (b.members z)
      ∙ sym (view_count tables z view)

  -- so as many
  pub names_counted : IsBook tables view book
      → length book.sets ≡ length (set_names tables view)
  names_counted b =
      sym (length-map book.sets (λ (s : DataSet). s.name))
      ∙ same_length (book_names book.sets) (set_names tables view) (names_alike b)

  -- and those that pass a test stand in one order
  pub names_ordered : (test : List ℕ → Bool) → IsBook tables view book
      → in_order (filter test (book_names book.sets))
      ≡ in_order (filter test (set_names tables view))
  names_ordered test b =
      same_order (filter test (book_names book.sets)) (filter test (set_names tables view))
      (λ z. count_passed test z (book_names book.sets)
      ∙ ap (λ n. if test z then n else 0) (names_alike b z)
      ∙ sym (count_passed test z (set_names tables view)))
