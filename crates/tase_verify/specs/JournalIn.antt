-- The history that a journal is: each line is an entry that a node takes.
use Rattle.std.specs.Prelude.{ℕ, ◌+◌, ◌-◌, ◌==◌, ◌^◌, min, Bool, true, false, ◌||◌, if◌then◌else◌}
use Rattle.std.specs.Prelude.{List, [], ◌∷◌, length, slice_get, Option, Some, None, is_none}
use Rattle.std.specs.Prelude.{unwrap_or, Result, Ok, Err}
use Rattle.std.specs.Str.Lines.{lines}
use Rattle.tase_views.specs.declared.event.Entry.{Entry}
use Rattle.tase_views.specs.Setup.{Setup}
use Rattle.tase_views.specs.History.{Past}
use Rattle.tase_views.specs.Outcomes.{refusal_of}
use Rattle.texts.specs.Journal.Entries.{entry_in}

-- whether a text ends with LF; one without octets lacks none
abbrev pub is_ended : List ℕ → Bool
is_ended text = unwrap_or (slice_get text (length text - 1)) 10 == 10

abbrev pub has_lines : List (List ℕ) → Bool
has_lines [] = false
has_lines (line ∷ more) = true

-- the history with an entry, where there is one and a node doesn't refuse it behind this past
abbrev pub past_with : Setup → Past → Option Entry → Option Past
past_with setup past None = None
past_with setup past (Some entry) =
    if is_none (refusal_of setup past entry.who entry.event) then Some (entry ∷ past) else None

-- the history with the entry of a line, which has its LF or lacks it
abbrev pub past_with_line : Setup → Past → Bool → List ℕ → Option Past
past_with_line setup past whole line =
    if whole then past_with setup past (entry_in line) else None

-- lines count from 1, and the count stands still at its end
abbrev pub next_number : ℕ → ℕ
next_number number = min (number + 1) (2 ^ 64 - 1)

-- the line with this number is bad, or what comes behind it counts
abbrev pub go_on : ℕ → (Past → Result Past ℕ) → Option Past → Result Past ℕ
go_on number others None = Err number
go_on number others (Some past) = others past

-- Lines behind a past, of which the first has this number, and the last has its LF or lacks it: the
-- history with their entries, or the number of the first that is bad. A line is bad that is no
-- entry, that is refused, or that lacks its LF.
abbrev pub past_of_lines : Setup → Bool → Past → ℕ → List (List ℕ) → Result Past ℕ
past_of_lines setup ended past number [] = Ok past
past_of_lines setup ended past number (line ∷ more) =
    go_on number (λ after. past_of_lines setup ended after (next_number number) more)
    (past_with_line setup past (has_lines more || ended) line)

-- the history that a text is, the newest entry first, or the number of its first bad line
abbrev pub journal_in : Setup → List ℕ → Result Past ℕ
journal_in setup text = past_of_lines setup (is_ended text) [] 1 (lines text)
