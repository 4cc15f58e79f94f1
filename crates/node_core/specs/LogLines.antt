-- The lines by which a node's log keeps its entries.
use Rattle.std.specs.Prelude.{◌≡◌, ℕ, List, map, Some}
use Rattle.std.specs.List.{filter_map}
use Rattle.tase_views.specs.declared.event.Entry.{Entry}
use Rattle.texts.specs.Journal.Entries.{entry_in}

-- the entries that lines are
abbrev pub entries_of : List (List ℕ) → List Entry
entries_of lines = filter_map entry_in lines

-- each of these lines is an entry
abbrev pub AreEntries : List (List ℕ) → Type 0
AreEntries lines = map entry_in lines ≡ map Some (entries_of lines)
