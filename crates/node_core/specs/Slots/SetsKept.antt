-- What a node keeps of the data sets of a peer.
use Rattle.std.specs.Prelude.{◌≡◌, ◌≢◌, ℕ, ◌<◌, ◌≤◌, not, ◌&&◌, Bool, if◌then◌else◌, List, [], ◌∷◌}
use Rattle.std.specs.Prelude.{length, is_some, bytes_eq}
use Rattle.std.specs.List.{All, AllPairs, list_any}
use Rattle.mms_data.specs.declared.object_name.Scope.TheVariants.{Domain}
use Rattle.mms_data.specs.ObjectName.{ObjectName, IsIdentifier, same_scope}
use Rattle.data_sets.specs.Books.{Book, members_in, deleted}
use Rattle.tase_views.specs.OwnTables.{OwnTables}
use Rattle.tase_views.specs.View.{View, held}
use Rattle.tase_views.specs.Slots.{sets_in}
use Rattle.tase_views.specs.Listed.{sets_listed}

-- a book has the data sets that the view of a peer with these tables shows, each once and in the
-- order in which they were defined, and as many may stand in it as the table in force allows; names
-- are identifiers, and each data set has a member
pub record IsBook (tables : OwnTables) (view : View) (book : Book) : Type 0 where
  pub limit : book.limit ≡ (held tables view).sets
  pub few : length book.sets ≤ (held tables view).sets
  pub members : (name : List ℕ) → members_in book.sets name ≡ sets_in tables view name
  pub listed : book.sets ≡ sets_listed tables view
  pub once : AllPairs (λ a b. a.name ≢ b.name) book.sets
  pub named : All (λ set. IsIdentifier set.name) book.sets
  pub some : All (λ set. 0 < length set.members) book.sets

-- whether the data set with a name is among those of a domain that are named
abbrev pub is_named_in : List ℕ → List ObjectName → List ℕ → Bool
is_named_in domain names item =
    list_any (λ name. same_scope name.scope (Domain domain) && bytes_eq name.item item) names

-- whether a name is that of a data set of a book of a domain
abbrev pub is_in_book : List ℕ → Book → ObjectName → Bool
is_in_book domain book name =
    same_scope name.scope (Domain domain) && is_some (members_in book.sets name.item)

-- a book behind a deletion by a name: one of the domain takes its data set away, unless that is
-- kept
abbrev pub left_behind : (List ℕ → Bool) → List ℕ → Book → ObjectName → Book
left_behind kept domain book name =
    if same_scope name.scope (Domain domain) && not (kept name.item)
    then deleted book name.item else book

-- behind deletions by names, one after another
abbrev pub left_by : (List ℕ → Bool) → List ℕ → List ObjectName → Book → Book
left_by kept domain [] book = book
left_by kept domain (name ∷ names) book =
    left_by kept domain names (left_behind kept domain book name)
