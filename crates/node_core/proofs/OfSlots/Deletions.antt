-- The data sets that deletions leave in a book, and how many of them each name counts.
use Rattle.std.proofs.Common.{◌≡◌, ℕ, ◌+◌, ◌<◌, ◌≤◌, Bool, true, false, not, ◌&&◌, ◌||◌, List, []}
use Rattle.std.proofs.Common.{◌∷◌, ◌++◌, take, drop, get_or, length, Option, None, is_some}
use Rattle.std.proofs.Common.{bytes_eq, refl, sym, ap, ◌∙◌, arith}
use Rattle.std.specs.Prelude.{if◌then◌else◌}
use Rattle.std.specs.List.{filter}
use Rattle.std.proofs.lemmas.List.{take_more, at_drop_more, at_drop_all}
use Rattle.std.proofs.lemmas.Slice.Eq.{bytes_eq-Decides}
use Rattle.mms_data.specs.declared.object_name.Scope.TheVariants.{Domain}
use Rattle.mms_data.specs.ObjectName.{ObjectName, same_scope}
use Rattle.data_sets.specs.Books.{Book, is_set_named, members_in, deleted}
use Rattle.transfer_sets.specs.Banks.{OwnedSlot}
use Rattle.tase_views.specs.OwnTables.{OwnTables}
use Rattle.tase_views.specs.Moves.{deletes}
use Rattle.tase_views.specs.View.{View, own, force, held}
use Rattle.tase_views.specs.Sets.{Deletion, one_deletion}
use Rattle.tase_views.specs.Slots.{sets_in, members_of}
use Rattle.tase_views.specs.Answers.{deletion_of}
use Rattle.node_core.specs.Slots.SetsKept.{IsBook, is_named_in, is_in_book, left_behind, left_by}
use Rattle.node_core.specs.Slots.SlotsKept.{IsBank, is_kept}
use Rattle.node_core.proofs.OfSlots.Kept.{kept_wished}
use Rattle.node_core.proofs.OfSlots.SetBooks.{found_left, IsBook-deletes}
use Rattle.node_core.proofs.OfSlots.SlotBanks.{IsBank-deletes-set}

-- ---- what the names of a deletion count

-- how many of names are those of data sets, each behind the deletions by those before it, and how
-- many of these are deleted
abbrev pub deletion_in : (List ℕ → Bool) → List ℕ → List ObjectName → Book → Deletion
deletion_in kept domain [] book = record { matched = 0; deleted = 0 }
deletion_in kept domain (name ∷ names) book =
    one_deletion (is_in_book domain book name) (kept name.item)
    (deletion_in kept domain names (left_behind kept domain book name))

same_counts : (x : Deletion) (m n : ℕ) → x.matched ≡ m → x.deleted ≡ n
    → x ≡ record { matched = m; deleted = n }
same_counts x m n is_m is_n = rw (sym is_m, sym is_n) refl

module _ (kept : List ℕ → Bool) (domain : List ℕ) where
  left_by-append : (names more : List ObjectName) (book : Book)
      → left_by kept domain (names ++ more) book
      ≡ left_by kept domain more (left_by kept domain names book)
  left_by-append [] more book = refl
  left_by-append (name ∷ names) more book =
      left_by-append names more (left_behind kept domain book name)

  -- one name more, which is that of a data set or not, and of one that is kept or not
  pub deletion_in-more : (names : List ObjectName) (i : ℕ) (d : ObjectName) (book : Book)
      (there stays : Bool) → i < length names
      → is_in_book domain (left_by kept domain (take i names) book) (get_or names i d) ≡ there
      → kept (get_or names i d).item ≡ stays
      → deletion_in kept domain (drop i names) (left_by kept domain (take i names) book)
      ≡ one_deletion there stays (deletion_in kept domain (drop (i + 1) names)
      (left_by kept domain (take (i + 1) names) book))
  deletion_in-more names i d book there stays within is_there does_stay =
      let name = get_or names i d in
      let left = left_by kept domain (take i names) book in
      let rest = drop (i + 1) names in
      let after : left_by kept domain (take (i + 1) names) book
      ≡ left_behind kept domain left name =
      ap (λ (those : List ObjectName). left_by kept domain those book)
      (take_more names i d within)
      ∙ left_by-append (take i names) (name ∷ []) book in
      at_drop_more (λ (those : List ObjectName). deletion_in kept domain those left) names i d
      within
      ∙ ap (λ (behind : Book). one_deletion (is_in_book domain left name) (kept name.item)
      (deletion_in kept domain rest behind)) (sym after)
      ∙ ap (λ (b : Bool). one_deletion b (kept name.item) (deletion_in kept domain rest
      (left_by kept domain (take (i + 1) names) book))) is_there
      ∙ ap (λ (b : Bool). one_deletion there b (deletion_in kept domain rest
      (left_by kept domain (take (i + 1) names) book))) does_stay

  -- so many of the first names are matched and deleted, and of all as many as the others add
  abbrev pub AreCounted : List ObjectName → Book → ℕ → ℕ → ℕ → Type 0
  AreCounted names book i matched deleted =
      let rest = deletion_in kept domain (drop i names)
      (left_by kept domain (take i names) book) in
      let whole = deletion_in kept domain names book in
      (matched + rest.matched ≡ whole.matched) × (deleted + rest.deleted ≡ whole.deleted)
      × (matched ≤ i) × (deleted ≤ matched)

  pub counted-more : (names : List ObjectName) (i : ℕ) (d : ObjectName) (book : Book)
      (there stays : Bool) (matched deleted : ℕ) → i < length names
      → is_in_book domain (left_by kept domain (take i names) book) (get_or names i d) ≡ there
      → kept (get_or names i d).item ≡ stays → AreCounted names book i matched deleted
      → AreCounted names book (i + 1) (if there then matched + 1 else matched)
      (if there && not stays then deleted + 1 else deleted)
  counted-more names i d book there stays matched deleted within is_there does_stay counted =
      by there stays (deletion_in-more names i d book there stays within is_there does_stay)
    where
      by : (t s : Bool)
          → deletion_in kept domain (drop i names) (left_by kept domain (take i names) book)
          ≡ one_deletion t s (deletion_in kept domain (drop (i + 1) names)
          (left_by kept domain (take (i + 1) names) book))
          → AreCounted names book (i + 1) (if t then matched + 1 else matched)
          (if t && not s then deleted + 1 else deleted)
      by true true more =
          let found = ap (λ (x : Deletion). x.matched) more in
          let gone = ap (λ (x : Deletion). x.deleted) more in (
            omega (arith, found, counted.0),
            omega (arith, gone, counted.1),
            omega (arith, counted.2),
            omega (arith, counted.3),
          )
      by true false more =
          let found = ap (λ (x : Deletion). x.matched) more in
          let gone = ap (λ (x : Deletion). x.deleted) more in (
            omega (arith, found, counted.0),
            omega (arith, gone, counted.1),
            omega (arith, counted.2),
            omega (arith, counted.3),
          )
      by false s more =
          let found = ap (λ (x : Deletion). x.matched) more in
          let gone = ap (λ (x : Deletion). x.deleted) more in (
            omega (arith, found, counted.0),
            omega (arith, gone, counted.1),
            omega (arith, counted.2),
            omega (arith, counted.3),
          )

  -- behind the last these are all
  pub counted-all : (names : List ObjectName) (i : ℕ) (book : Book) (matched deleted : ℕ)
      → length names ≤ i → AreCounted names book i matched deleted
      → deletion_in kept domain names book ≡ record { matched = matched; deleted = deleted }
  counted-all names i book matched deleted past counted =
      let none : deletion_in kept domain (drop i names)
      (left_by kept domain (take i names) book) ≡ record { matched = 0; deleted = 0 } =
      at_drop_all (λ (those : List ObjectName). deletion_in kept domain those
      (left_by kept domain (take i names) book)) names i past in
      same_counts _ matched deleted
      (omega (arith, ap (λ (x : Deletion). x.matched) none, counted.0))
      (omega (arith, ap (λ (x : Deletion). x.deleted) none, counted.1))

-- that is what the names count in the view
pub deletion_of-told : (tables : OwnTables) (view : View) (book : Book) (slots : List OwnedSlot)
    (ordinal : ℕ) (names : List ObjectName) → IsBook tables view book
    → IsBank tables view slots
    → deletion_of tables view ordinal names
    ≡ (let table = held tables view in
    deletion_in (is_kept table.domain table.slots slots) table.domain names book)
deletion_of-told tables view book slots ordinal [] b bank = refl
deletion_of-told tables view book slots ordinal (set ∷ sets) b bank =
    rw (
      there,
      sym (kept_wished tables view slots set.item bank),
      deletion_of-told tables (own ordinal (deletes set) ∷ view)
          (left_behind (is_kept (held tables view).domain (held tables view).slots slots)
          (held tables view).domain book set) slots ordinal sets
          (IsBook-deletes tables view book slots ordinal set (force view) refl bank b)
          (IsBank-deletes-set tables view slots ordinal set bank),
    ) refl
  where
    there : is_some (members_of tables view set) ≡ is_in_book (held tables view).domain book set
    there =
        rw (b.members set.item)
        (some_where (same_scope set.scope (Domain (held tables view).domain))
        (sets_in tables view set.item))
      where
        some_where : (c : Bool) (found : Option (List ObjectName))
            → is_some (if c then found else None) ≡ (c && is_some found)
        some_where true found = refl
        some_where false found = refl

-- ---- whether one is left

module _ (kept : List ℕ → Bool) (domain : List ℕ) where
  is_left : (names : List ObjectName) (book : Book) (item : List ℕ)
      → is_some (members_in (left_by kept domain names book).sets item)
      ≡ (is_some (members_in book.sets item)
      && not (is_named_in domain names item && not (kept item)))
  is_left [] book item = by (is_some (members_in book.sets item))
    where
      by : (b : Bool) → b ≡ (b && true)
      by true = refl
      by false = refl
  is_left (name ∷ names) book item =
      is_left names (left_behind kept domain book name) item
      ∙ by (same_scope name.scope (Domain domain)) (bytes_eq name.item item) (kept name.item)
      (kept item) (λ same. ap kept ((bytes_eq-Decides name.item item).0 same))
      (found_left item name.item book.sets (bytes_eq name.item item) refl)
    where
      by : (c d k l : Bool) → (d ≡ true → k ≡ l)
          → members_in (filter (λ s. not (is_set_named name.item s)) book.sets) item
          ≡ (if d then None else members_in book.sets item)
          → (is_some (members_in (if c && not k then deleted book name.item else book).sets item)
          && not (is_named_in domain names item && not l))
          ≡ (is_some (members_in book.sets item)
          && not (((c && d) || is_named_in domain names item) && not l))
      by false d k l alike gone = refl
      by true false true l alike gone = refl
      by true false false l alike gone = rw gone refl
      by true true true l alike gone =
          rw (sym (alike refl)) (none (is_some (members_in book.sets item))
          (is_named_in domain names item))
        where
          none : (b n : Bool) → (b && not (n && false)) ≡ (b && true)
          none b true = refl
          none b false = refl
      by true true false l alike gone =
          rw (gone, sym (alike refl)) (none (is_some (members_in book.sets item)))
        where
          none : (b : Bool) → false ≡ (b && false)
          none true = refl
          none false = refl

  -- none that is taken away, and each that isn't and was there
  pub none_left : (names : List ObjectName) (book : Book) (item : List ℕ)
      → (is_named_in domain names item && not (kept item)) ≡ true
      → false ≡ is_some (members_in (left_by kept domain names book).sets item)
  none_left names book item gone =
      by (is_some (members_in book.sets item))
      ∙ ap (λ (b : Bool). is_some (members_in book.sets item) && not b) (sym gone)
      ∙ sym (is_left names book item)
    where
      by : (b : Bool) → false ≡ (b && false)
      by true = refl
      by false = refl

  pub still_left : (names : List ObjectName) (book : Book) (item : List ℕ)
      → (is_named_in domain names item && not (kept item)) ≡ false
      → is_some (members_in book.sets item)
      ≡ is_some (members_in (left_by kept domain names book).sets item)
  still_left names book item stays =
      by (is_some (members_in book.sets item))
      ∙ ap (λ (b : Bool). is_some (members_in book.sets item) && not b) (sym stays)
      ∙ sym (is_left names book item)
    where
      by : (b : Bool) → b ≡ (b && true)
      by true = refl
      by false = refl
