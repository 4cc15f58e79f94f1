-- The text of a history: a line for each entry.
use Rattle.std.specs.Prelude.{ℕ, List, [], ◌∷◌, ◌++◌, flat_map, decimal}
use Rattle.tase_views.specs.declared.event.Entry.{Entry}
use Rattle.tase_views.specs.EventTexts.{event_text}

-- the number of the seat, a space and the text of the event
abbrev pub entry_text : Entry → List ℕ
entry_text entry = decimal entry.who ++ 32 ∷ event_text entry.event

abbrev pub entry_line : Entry → List ℕ
entry_line entry = entry_text entry ++ 10 ∷ []

-- the journal of a history whose entries are these, the oldest first
abbrev pub journal_text : List Entry → List ℕ
journal_text entries = flat_map entry_line entries
