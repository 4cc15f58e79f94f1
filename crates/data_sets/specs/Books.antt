-- The data sets of a peer, in order of definition, and why one isn't defined.
use Rattle.std.specs.Prelude.{◌≢◌, ◌<◌, ◌≤◌, ℕ, Bool, not, ◌||◌, nat_le, nat_lt, if◌then◌else◌}
use Rattle.std.specs.Prelude.{is_some, bytes_eq}
use Rattle.std.specs.Prelude.{List, [], ◌∷◌, ◌++◌, length, Option, Some, None, Result, Ok, Err}
use Rattle.std.specs.List.{All, AllPairs, filter, find}
use Rattle.std.specs.Option.{option_map}
use Rattle.mms_data.specs.ObjectName.{ObjectName}
use Rattle.data_sets.specs.declared.book.DataSet.{DataSet}
use Rattle.data_sets.specs.declared.book.SetFault.{SetFault}
use Rattle.data_sets.specs.declared.book.SetFault.TheVariants.{Exists, TooMany}
use Rattle.data_sets.specs.declared.book.TheConstants.{MOST_MEMBERS}

-- how many data sets there may be, and those that there are
pub record Book : Type 0 where
  pub limit : ℕ
  pub sets : List DataSet

-- no more than there may be, no two of one name, each of some members and of no more than the most
pub record IsSetBook (book : Book) : Type 0 where
  pub few : length book.sets ≤ book.limit
  pub once : AllPairs (λ a b. a.name ≢ b.name) book.sets
  pub some : All (λ set. 0 < length set.members) book.sets
  pub short : All (λ set. length set.members ≤ MOST_MEMBERS) book.sets

abbrev pub is_set_named : List ℕ → DataSet → Bool
is_set_named name set = bytes_eq set.name name

-- the members of the data set with a name
abbrev pub members_in : List DataSet → List ℕ → Option (List ObjectName)
members_in sets name = option_map (λ set. set.members) (find (is_set_named name) sets)

-- why no data set of this name with so many members is defined: one is there; or there are too many
abbrev pub fault_by : Book → List ℕ → ℕ → Option SetFault
fault_by book name count =
    if is_some (members_in book.sets name) then Some Exists
    else if nat_le book.limit (length book.sets) || nat_lt MOST_MEMBERS count then Some TooMany
    else None

abbrev pub set_fault_of : Book → List ℕ → List ObjectName → Option SetFault
set_fault_of book name members = fault_by book name (length members)

abbrev pub answered_by_fault : Option SetFault → Result Unit SetFault
answered_by_fault None = Ok tt
answered_by_fault (Some fault) = Err fault

-- behind a definition: one data set more, unless it is refused
abbrev pub with_set : Option SetFault → Book → DataSet → Book
with_set None book set = record book { sets = book.sets ++ set ∷ [] }
with_set (Some fault) book set = book

abbrev pub defined : Book → List ℕ → List ObjectName → Book
defined book name members =
    with_set (set_fault_of book name members) book (record { name = name; members = members })

-- behind a deletion: all but those with the name
abbrev pub deleted : Book → List ℕ → Book
deleted book name = record book { sets = filter (λ set. not (is_set_named name set)) book.sets }
