-- The data sets that a book keeps behind one more move that its peer sees.
use Rattle.std.proofs.Common.{◌≡◌, ◌≢◌, ◌==◌, ℕ, ◌<◌, ◌≤◌, ltb, leb, Bool, true, false, not}
use Rattle.std.proofs.Common.{◌&&◌, List, [], ◌∷◌, ◌++◌, length, Option, Some, None, is_some}
use Rattle.std.proofs.Common.{bytes_eq, refl, sym, ap, subst, ◌∙◌, inl, inr, arith, length-append}
use Rattle.std.specs.Prelude.{◌⊎◌, if◌then◌else◌, is_none}
use Rattle.std.specs.List.{All, filter, find}
use Rattle.std.specs.Option.{option_map}
use Rattle.std.proofs.lemmas.Bool.{false≢true, true≢false, or_parts, leb-false, eq-eqb}
use Rattle.std.proofs.lemmas.Option.{none-some}
use Rattle.std.proofs.lemmas.List.{append-nil}
use Rattle.std.proofs.lemmas.List.Elements.{All-nil, All-cons, All-head, All-tail, All-append}
use Rattle.std.proofs.lemmas.List.Elements.{All-filter, All-weaker, filter_agree}
use Rattle.std.proofs.lemmas.List.Filters.{length-filter_both}
use Rattle.std.proofs.lemmas.List.Kept.{AllPairs-filter}
use Rattle.std.proofs.lemmas.List.Quantifiers.{all_pairs_push}
use Rattle.std.proofs.lemmas.Slice.Eq.{bytes_eq-Decides}
use Rattle.mms_data.specs.declared.object_name.Scope.TheVariants.{Domain}
use Rattle.mms_data.specs.ObjectName.{ObjectName, IsIdentifier, same_scope}
use Rattle.data_sets.specs.declared.book.DataSet.{DataSet}
use Rattle.data_sets.specs.declared.book.TheConstants.{MOST_MEMBERS}
use Rattle.data_sets.specs.Books.{Book, is_set_named, members_in, defined, deleted}
use Rattle.transfer_sets.specs.Banks.{OwnedSlot}
use Rattle.tase_views.specs.OwnTables.{OwnTables, table_in}
use Rattle.tase_views.specs.Moves.{Act, defines, deletes}
use Rattle.tase_views.specs.View.{View, Seen, own, force, held, keeps_force}
use Rattle.tase_views.specs.Sets.{SetError, define_fault, set_behind}
use Rattle.tase_views.specs.Slots.{is_wished, sets_in, slot_moves}
use Rattle.tase_views.specs.Listed.{defined_by, sets_listed}
use Rattle.node_core.specs.Slots.SetsKept.{IsBook, left_behind}
use Rattle.node_core.specs.Slots.SlotsKept.{IsBank, is_kept}
use Rattle.node_core.specs.PeerParts.{fault_in, book_defined, IsLawfulAct}
use Rattle.node_core.proofs.OfObjects.SetNames.{turned}
use Rattle.node_core.proofs.OfSlots.Kept.{kept_wished}
use Rattle.node_core.proofs.OfSlots.Faults.{is_own, exceeds, fits, fault_told, faultless}

-- ---- the list of those that there are

-- each is found by its name
found_each : (sets : List DataSet)
    → All (λ (s : DataSet). is_some (members_in sets s.name) ≡ true) sets
found_each [] = All-nil (λ (s : DataSet). is_some (members_in [] s.name) ≡ true)
found_each (set ∷ sets) =
    All-cons (λ (s : DataSet). is_some (members_in (set ∷ sets) s.name) ≡ true) set sets
    (by (bytes_eq set.name set.name) (find (is_set_named set.name) sets)
    (inl ((bytes_eq-Decides set.name set.name).1 refl)))
    (All-weaker (λ (s : DataSet). is_some (members_in sets s.name) ≡ true)
    (λ (s : DataSet). is_some (members_in (set ∷ sets) s.name) ≡ true)
    (λ s found. by (bytes_eq set.name s.name) (find (is_set_named s.name) sets) (inr found)) sets
    (found_each sets))
  where
    by : (c : Bool) (found : Option DataSet)
        → (c ≡ true) ⊎ (is_some (option_map (λ (s : DataSet). s.members) found) ≡ true)
        → is_some (option_map (λ (s : DataSet). s.members) (if c then Some set else found)) ≡ true
    by true found either = refl
    by false found (inl never) = absurd (false≢true never)
    by false found (inr there) = there

filter_alike : (p q : DataSet → Bool) (sets : List DataSet)
    → All (λ (s : DataSet). p s ≡ q s) sets → filter p sets ≡ filter q sets
filter_alike p q [] same = refl
filter_alike p q (set ∷ sets) same =
    rw (
      All-head (λ (s : DataSet). p s ≡ q s) set sets same,
      filter_alike p q sets (All-tail (λ (s : DataSet). p s ≡ q s) set sets same),
    ) refl

all_stay : (sets : List DataSet) → filter (λ (s : DataSet). true) sets ≡ sets
all_stay [] = refl
all_stay (set ∷ sets) = ap (λ (rest : List DataSet). set ∷ rest) (all_stay sets)

none_stay : (sets : List DataSet) → filter (λ (s : DataSet). false) sets ≡ []
none_stay [] = refl
none_stay (set ∷ sets) = none_stay sets

-- behind a move: those of the book that stay, and behind them what the move defines
listed_behind : (tables : OwnTables) (view : View) (seen : Seen) (book : Book)
    (stays : DataSet → Bool) (new : List DataSet) → defined_by tables view seen ≡ new
    → ((set : DataSet) → is_some (sets_in tables view set.name) ≡ true
    → is_some (sets_in tables (seen ∷ view) set.name) ≡ stays set)
    → IsBook tables view book
    → filter stays book.sets ++ new ≡ sets_listed tables (seen ∷ view)
listed_behind tables view seen book stays new adds left b =
    let there = λ (set : DataSet). is_some (sets_in tables (seen ∷ view) set.name) in
    let alike : filter there book.sets ≡ filter stays book.sets =
    filter_alike there stays book.sets
    (All-weaker (λ (s : DataSet). is_some (members_in book.sets s.name) ≡ true)
    (λ (s : DataSet). there s ≡ stays s)
    (λ s found. left s (ap (λ (o : Option (List ObjectName)). is_some o) (sym (b.members s.name))
    ∙ found)) book.sets (found_each book.sets)) in
    ap (λ (sets : List DataSet). sets ++ new) (sym alike)
    ∙ ap (λ (sets : List DataSet). filter there sets ++ new) b.listed
    ∙ ap (λ (sets : List DataSet). filter there (sets_listed tables view) ++ sets) (sym adds)

-- where another table comes into force
pub none_listed : (tables : OwnTables) (view : View) (seen : Seen)
    → defined_by tables view seen ≡ []
    → ((name : List ℕ) → sets_in tables (seen ∷ view) name ≡ None)
    → [] ≡ sets_listed tables (seen ∷ view)
none_listed tables view seen adds gone =
    let there = λ (set : DataSet). is_some (sets_in tables (seen ∷ view) set.name) in
    let left : filter there (sets_listed tables view) ≡ [] =
    filter_agree there (λ (s : DataSet). false)
    (λ s. ap (λ (o : Option (List ObjectName)). is_some o) (gone s.name)) (sets_listed tables view)
    ∙ none_stay (sets_listed tables view) in
    sym (ap (λ (sets : List DataSet). sets ++ defined_by tables view seen) left ∙ adds)

-- ---- moves that leave the data sets

-- where the same table is in force and no other data sets are shown, the book is as before
pub IsBook-still : (tables : OwnTables) (view : View) (seen : Seen) (book : Book)
    → force (seen ∷ view) ≡ force view
    → ((name : List ℕ) → sets_in tables (seen ∷ view) name
    ≡ (if keeps_force seen view then sets_in tables view name else None))
    → defined_by tables view seen ≡ []
    → IsBook tables view book → IsBook tables (seen ∷ view) book
IsBook-still tables view seen book same shown adds b = record {
  limit = b.limit ∙ sym (ap (λ (n : ℕ). (table_in tables n).sets) same);
  few = subst (λ (n : ℕ). length book.sets ≤ (table_in tables n).sets) (sym same) b.few;
  members = λ name. b.members name
      ∙ sym (shown name ∙ rw (eq-eqb (force (seen ∷ view)) (force view) same) refl);
  listed = sym (append-nil _ ∙ all_stay book.sets)
      ∙ listed_behind tables view seen book (λ s. true) [] adds
      (λ s there. ap (λ (o : Option (List ObjectName)). is_some o)
      (shown s.name ∙ rw (eq-eqb (force (seen ∷ view)) (force view) same) refl) ∙ there) b;
  once = b.once;
  named = b.named;
  some = b.some;
}

-- what is shown behind an act, where the same table is in force
pub set_shown : (tables : OwnTables) (view : View) (ordinal : ℕ) (act : Act) (name : List ℕ)
    → force (own ordinal act ∷ view) ≡ force view
    → sets_in tables (own ordinal act ∷ view) name
    ≡ set_behind (held tables view) (is_wished (held tables view) (slot_moves tables view))
    (sets_in tables view) view act name
set_shown tables view ordinal act name same =
    rw (eq-eqb (force (own ordinal act ∷ view)) (force view) same) refl

-- ---- definitions

abbrev new_set : List ℕ → List ObjectName → DataSet
new_set name members = record { name = name; members = members }

-- one data set more at the end
found_behind : (name : List ℕ) (sets : List DataSet) (new : DataSet) (b : Bool)
    → bytes_eq new.name name ≡ b → members_in sets name ≡ None
    → members_in (sets ++ new ∷ []) name ≡ (if b then Some new.members else None)
found_behind name [] new true e none = rw e refl
found_behind name [] new false e none = rw e refl
found_behind name (set ∷ sets) new b e none =
    by (bytes_eq set.name name) none (found_behind name sets new b e)
  where
    by : (c : Bool)
        → option_map (λ (s : DataSet). s.members) (if c then Some set else find (is_set_named name)
        sets)
        ≡ None
        → (members_in sets name ≡ None
        → members_in (sets ++ new ∷ []) name ≡ (if b then Some new.members else None))
        → option_map (λ (s : DataSet). s.members)
        (if c then Some set else find (is_set_named name) (sets ++ new ∷ []))
        ≡ (if b then Some new.members else None)
    by true n rest = absurd (none-some set.members (sym n))
    by false n rest = rest n

found_before : (name : List ℕ) (sets : List DataSet) (new : DataSet)
    → bytes_eq new.name name ≡ false
    → members_in (sets ++ new ∷ []) name ≡ members_in sets name
found_before name [] new e = rw e refl
found_before name (set ∷ sets) new e =
    by (bytes_eq set.name name) (found_before name sets new e)
  where
    by : (c : Bool) → members_in (sets ++ new ∷ []) name ≡ members_in sets name
        → option_map (λ (s : DataSet). s.members)
        (if c then Some set else find (is_set_named name) (sets ++ new ∷ []))
        ≡ option_map (λ (s : DataSet). s.members) (if c then Some set else find (is_set_named name)
        sets)
    by true rest = refl
    by false rest = rest

no_members : (found : Option (List ObjectName)) → is_some found ≡ false → found ≡ None
no_members None e = refl
no_members (Some members) e = absurd (true≢false e)

-- where no data set has a name, all have others
others_named : (name : List ℕ) (sets : List DataSet) → members_in sets name ≡ None
    → All (λ (s : DataSet). s.name ≢ name) sets
others_named name [] none = All-nil (λ (s : DataSet). s.name ≢ name)
others_named name (set ∷ sets) none =
    by (bytes_eq set.name name) refl none (others_named name sets)
  where
    by : (c : Bool) → bytes_eq set.name name ≡ c
        → option_map (λ (s : DataSet). s.members) (if c then Some set else find (is_set_named name)
        sets)
        ≡ None
        → (members_in sets name ≡ None → All (λ (s : DataSet). s.name ≢ name) sets)
        → All (λ (s : DataSet). s.name ≢ name) (set ∷ sets)
    by true same n rest = absurd (none-some set.members (sym n))
    by false other n rest =
        All-cons (λ (s : DataSet). s.name ≢ name) set sets
        (λ same. false≢true (sym other ∙ (bytes_eq-Decides set.name name).1 same)) (rest n)

-- the book refuses a definition as the view does
pub fault_alike : (tables : OwnTables) (view : View) (book : Book) (set : ObjectName)
    (members : List ObjectName) → IsBook tables view book
    → define_fault (held tables view) (sets_in tables view) view set members
    ≡ fault_in (held tables view) book set members
fault_alike tables view book set members b =
    let table = held tables view in
    fault_told table tables view book set members (is_own table set)
    (is_some (members_in book.sets set.item)) (exceeds table book members) (fits table members)
    refl refl refl refl b

module _ (tables : OwnTables) (view : View) (book : Book) (ordinal : ℕ) (set : ObjectName)
    (members : List ObjectName) (b : IsBook tables view book) where
  -- one data set more in a book in which there is room for it
  added : define_fault (held tables view) (sets_in tables view) view set members ≡ None
      → members_in book.sets set.item ≡ None → length book.sets < (held tables view).sets
      → IsLawfulAct (defines set members)
      → IsBook tables (own ordinal (defines set members) ∷ view)
      (record book { sets = book.sets ++ new_set set.item members ∷ [] })
  added fault none room lawful = record {
    limit = b.limit;
    few = omega (arith, room, length-append book.sets (new_set set.item members ∷ []));
    members = λ name. by name (bytes_eq set.item name) refl
        ∙ sym (set_shown tables view ordinal (defines set members) name refl ∙ rw fault refl);
    listed = ap (λ (sets : List DataSet). sets ++ new_set set.item members ∷ [])
        (sym (all_stay book.sets))
        ∙ listed_behind tables view (own ordinal (defines set members)) book (λ s. true)
        (new_set set.item members ∷ [])
        (ap (λ (o : Option SetError). if is_none o then new_set set.item members ∷ [] else [])
        fault)
        (λ s there. ap (λ (o : Option (List ObjectName)). is_some o)
        (set_shown tables view ordinal (defines set members) s.name refl)
        ∙ some_either (bytes_eq set.item s.name
        && is_none (define_fault (held tables view) (sets_in tables view) view set members))
        (sets_in tables view s.name) there) b;
    once = all_pairs_push (λ (x y : DataSet). x.name ≢ y.name) book.sets
        (new_set set.item members) b.once (others_named set.item book.sets none);
    named = All-append (λ (s : DataSet). IsIdentifier s.name) book.sets
        (new_set set.item members ∷ []) b.named
        (All-cons (λ (s : DataSet). IsIdentifier s.name) (new_set set.item members) [] lawful.0
        (All-nil (λ (s : DataSet). IsIdentifier s.name)));
    some = All-append (λ (s : DataSet). 0 < length s.members) book.sets
        (new_set set.item members ∷ []) b.some
        (All-cons (λ (s : DataSet). 0 < length s.members) (new_set set.item members) [] lawful.1
        (All-nil (λ (s : DataSet). 0 < length s.members)));
  }
    where
      by : (name : List ℕ) (c : Bool) → bytes_eq set.item name ≡ c
          → members_in (book.sets ++ new_set set.item members ∷ []) name
          ≡ (if c && true then Some members else sets_in tables view name)
      by name true e =
          let same : set.item ≡ name = (bytes_eq-Decides set.item name).0 e in
          found_behind name book.sets (new_set set.item members) true e
          (ap (members_in book.sets) (sym same) ∙ none)
      by name false e =
          found_before name book.sets (new_set set.item members) e ∙ b.members name

      some_either : (c : Bool) (found : Option (List ObjectName)) → is_some found ≡ true
          → is_some (if c then Some members else found) ≡ true
      some_either true found there = refl
      some_either false found there = there

  -- it is just what the book makes of a definition
  defined-is : is_some (members_in book.sets set.item) ≡ false
      → exceeds (held tables view) book members ≡ false
      → defined book set.item members
      ≡ record book { sets = book.sets ++ new_set set.item members ∷ [] }
  defined-is free room =
      let parts = or_parts (ltb MOST_MEMBERS (length members))
      (leb (held tables view).sets (length book.sets)) room in
      rw (free, b.limit, parts.0, parts.1) refl

  defines_by : (fault : Option SetError)
      → fault_in (held tables view) book set members ≡ fault → IsLawfulAct (defines set members)
      → IsBook tables (own ordinal (defines set members) ∷ view)
      (book_defined fault set members book)
  -- one that has an error changes nothing
  defines_by (Some error) e lawful =
      IsBook-still tables view (own ordinal (defines set members)) book refl
      (λ name. rw (fault_alike tables view book set members b ∙ e)
      (by (bytes_eq set.item name) (sets_in tables view name) (force view == force view)))
      (ap (λ (o : Option SetError). if is_none o then new_set set.item members ∷ [] else [])
      (fault_alike tables view book set members b ∙ e)) b
    where
      by : (c : Bool) (found : Option (List ObjectName)) (kept : Bool)
          → (if kept then (if c && false then Some members else found) else None)
          ≡ (if kept then found else None)
      by true found true = refl
      by false found true = refl
      by true found false = refl
      by false found false = refl
  defines_by None e lawful =
      let table = held tables view in
      let there = is_some (members_in book.sets set.item) in
      let passed = faultless (is_own table set) there (exceeds table book members)
      (fits table members) e in
      let room = or_parts (ltb MOST_MEMBERS (length members)) (leb table.sets (length book.sets))
      passed.2 in
      subst (λ (after : Book). IsBook tables (own ordinal (defines set members) ∷ view) after)
      (sym (defined-is passed.1 passed.2))
      (added (fault_alike tables view book set members b ∙ e)
      (no_members (members_in book.sets set.item) passed.1)
      (leb-false table.sets (length book.sets) room.1) lawful)

-- a definition
pub IsBook-defines : (tables : OwnTables) (view : View) (book : Book) (ordinal : ℕ)
    (set : ObjectName) (members : List ObjectName) (variant : ℕ) → variant ≡ force view
    → IsLawfulAct (defines set members) → IsBook tables view book
    → IsBook tables (own ordinal (defines set members) ∷ view)
    (book_defined (fault_in (table_in tables variant) book set members) set members book)
IsBook-defines tables view book ordinal set members variant same lawful b =
    subst (λ (n : ℕ). IsBook tables (own ordinal (defines set members) ∷ view)
    (book_defined (fault_in (table_in tables n) book set members) set members book)) (sym same)
    (defines_by tables view book ordinal set members b
    (fault_in (held tables view) book set members) refl lawful)

-- ---- deletions

-- all but those with a name
pub found_left : (name : List ℕ) (gone : List ℕ) (sets : List DataSet) (b : Bool)
    → bytes_eq gone name ≡ b
    → members_in (filter (λ set. not (is_set_named gone set)) sets) name
    ≡ (if b then None else members_in sets name)
found_left name gone [] true e = refl
found_left name gone [] false e = refl
found_left name gone (set ∷ sets) b e =
    by (bytes_eq set.name gone) (bytes_eq set.name name) refl refl (found_left name gone sets b e)
  where
    apart : bytes_eq set.name gone ≡ false → bytes_eq set.name name ≡ true → (x : Bool) → b ≡ x
        → b ≡ false
    apart g n false x = x
    apart g n true x =
        let same : set.name ≡ gone =
        (bytes_eq-Decides set.name name).0 n ∙ sym ((bytes_eq-Decides gone name).0 (e ∙ x)) in
        absurd (false≢true (sym g ∙ (bytes_eq-Decides set.name gone).1 same))

    by : (c d : Bool) → bytes_eq set.name gone ≡ c → bytes_eq set.name name ≡ d
        → members_in (filter (λ s. not (is_set_named gone s)) sets) name
        ≡ (if b then None else members_in sets name)
        → members_in (if not c then set ∷ filter (λ s. not (is_set_named gone s)) sets
        else filter (λ s. not (is_set_named gone s)) sets) name
        ≡ (if b then None else option_map (λ (s : DataSet). s.members)
        (if d then Some set else find (is_set_named name) sets))
    by true true g n rest =
        let same : gone ≡ name =
        sym ((bytes_eq-Decides set.name gone).0 g) ∙ (bytes_eq-Decides set.name name).0 n in
        let all : b ≡ true = sym e ∙ (bytes_eq-Decides gone name).1 same in
        rest ∙ rw all refl
    by true false g n rest = rest
    by false true g n rest = rw (n, apart g n b refl) refl
    by false false g n rest = rw n rest

module _ (tables : OwnTables) (view : View) (book : Book) (ordinal : ℕ) (set : ObjectName)
    (b : IsBook tables view book) where
  abbrev wished : List ℕ → Bool
  wished = is_wished (held tables view) (slot_moves tables view)

  -- whether a deletion by the name takes a data set away
  abbrev takes_away : Bool
  takes_away = same_scope set.scope (Domain (held tables view).domain) && not (wished set.item)

  -- the data sets that are shown behind it
  set_left : (name : List ℕ) → sets_in tables (own ordinal (deletes set) ∷ view) name
      ≡ (if takes_away then (if bytes_eq set.item name then None else sets_in tables view name)
      else sets_in tables view name)
  set_left name =
      set_shown tables view ordinal (deletes set) name refl
      ∙ by (same_scope set.scope (Domain (held tables view).domain)) (bytes_eq set.item name)
      (wished name) (wished set.item) (sets_in tables view name)
      (λ same. sym (ap wished ((bytes_eq-Decides set.item name).0 same)))
    where
      by : (c d k l : Bool) (found : Option (List ObjectName)) → (d ≡ true → k ≡ l)
          → (if (c && d) && not k then None else found)
          ≡ (if c && not l then (if d then None else found) else found)
      by false d k l found alike = refl
      by true false k true found alike = refl
      by true false k false found alike = refl
      by true true k true found alike = rw (alike refl) refl
      by true true k false found alike = rw (alike refl) refl

  shown : (name : List ℕ) (c : Bool) → takes_away ≡ c
      → sets_in tables (own ordinal (deletes set) ∷ view) name
      ≡ (if c then (if bytes_eq set.item name then None else sets_in tables view name)
      else sets_in tables view name)
  shown name c takes =
      set_left name
      ∙ ap (λ (t : Bool). if t then (if bytes_eq set.item name then None
      else sets_in tables view name) else sets_in tables view name) takes

  stays_there : (c d : Bool) (found : Option (List ObjectName)) → c ≡ d → is_some found ≡ true
      → is_some (if c then None else found) ≡ not d
  stays_there c true found same there = rw same refl
  stays_there c false found same there = rw same there

  -- a name of the domain takes the data set with this name away, unless it is wished
  deleted_by : (c : Bool) → takes_away ≡ c
      → IsBook tables (own ordinal (deletes set) ∷ view)
      (if c then deleted book set.item else book)
  deleted_by true takes = record {
    limit = b.limit;
    few = omega (
      arith,
      length-filter_both (λ s. not (is_set_named set.item s))
          (λ s. not (not (is_set_named set.item s))) (λ s. refl) book.sets,
      b.few,
    );
    members = λ name. found_left name set.item book.sets (bytes_eq set.item name) refl
        ∙ ap (λ (found : Option (List ObjectName)). if bytes_eq set.item name then None else found)
        (b.members name)
        ∙ sym (shown name true takes);
    listed = sym (append-nil _)
        ∙ listed_behind tables view (own ordinal (deletes set)) book
        (λ s. not (is_set_named set.item s)) [] refl
        (λ s there. ap (λ (o : Option (List ObjectName)). is_some o) (shown s.name true takes)
        ∙ stays_there (bytes_eq set.item s.name) (bytes_eq s.name set.item)
        (sets_in tables view s.name) (turned set.item s.name) there) b;
    once = AllPairs-filter (λ (x y : DataSet). x.name ≢ y.name)
        (λ s. not (is_set_named set.item s)) book.sets b.once;
    named = All-filter (λ s. not (is_set_named set.item s))
        (λ (s : DataSet). IsIdentifier s.name) book.sets b.named;
    some = All-filter (λ s. not (is_set_named set.item s))
        (λ (s : DataSet). 0 < length s.members) book.sets b.some;
  }
  -- another name takes none away
  deleted_by false takes =
      IsBook-still tables view (own ordinal (deletes set)) book refl
      (λ name. shown name false takes ∙ sym (rw (eq-eqb (force view) (force view) refl) refl))
      refl b

-- a deletion
pub IsBook-deletes : (tables : OwnTables) (view : View) (book : Book) (slots : List OwnedSlot)
    (ordinal : ℕ) (set : ObjectName) (variant : ℕ) → variant ≡ force view
    → IsBank tables view slots → IsBook tables view book
    → IsBook tables (own ordinal (deletes set) ∷ view)
    (let table = table_in tables variant in
    left_behind (is_kept table.domain table.slots slots) table.domain book set)
IsBook-deletes tables view book slots ordinal set variant same bank b =
    subst (λ (n : ℕ). IsBook tables (own ordinal (deletes set) ∷ view)
    (let table = table_in tables n in
    left_behind (is_kept table.domain table.slots slots) table.domain book set)) (sym same)
    (subst (λ (kept : Bool). IsBook tables (own ordinal (deletes set) ∷ view)
    (if same_scope set.scope (Domain (held tables view).domain) && not kept
    then deleted book set.item else book)) (sym (kept_wished tables view slots set.item bank))
    (deleted_by tables view book ordinal set b
    (same_scope set.scope (Domain (held tables view).domain)
    && not (is_wished (held tables view) (slot_moves tables view) set.item)) refl))
