-- What is counted of a text that a run shows.
use Rattle.std.specs.Prelude.{ℕ, ◌+◌, ◌%◌, ◌^◌, ◌<◌, Bool, true, false, List, [], ◌∷◌}
use Rattle.std.specs.Prelude.{if◌then◌else◌, length, map, codes, bytes_eq}
use Rattle.std.specs.List.{sum, sum_by, count_by}
use Rattle.std.specs.Str.Lines.{lines}
use Rattle.plain_text.specs.Words.{words}
use Rattle.commands.specs.declared.load.tally.Tally.{Tally}
use Rattle.commands.specs.declared.load.tally.ShownLine.{ShownLine}
use Rattle.commands.specs.declared.load.tally.ShownLine.TheVariants.{Reply, Report, Other}

-- the outcomes of a report are all words behind `set NAME`, or behind `vars`, each with its name
abbrev pub outcomes_behind_name : List (List ℕ) → ℕ
outcomes_behind_name [] = 0
outcomes_behind_name (name ∷ outcomes) = length outcomes

abbrev pub outcomes_in_report : List (List ℕ) → ℕ
outcomes_in_report [] = 0
outcomes_in_report (kind ∷ more) =
    if bytes_eq kind (codes "set") then outcomes_behind_name more else length more

-- `W REPORT`
abbrev pub outcomes_behind_seat : List (List ℕ) → ℕ
outcomes_behind_seat [] = 0
outcomes_behind_seat (seat ∷ report) = outcomes_in_report report

-- `reply W REPLY`, `report W REPORT`, or another line
abbrev pub line_by_words : List (List ℕ) → ShownLine
line_by_words [] = Other
line_by_words (verb ∷ more) =
    if bytes_eq verb (codes "reply") then Reply
    else (if bytes_eq verb (codes "report") then Report (outcomes_behind_seat more) else Other)

abbrev pub shown_line : List ℕ → ShownLine
shown_line line = line_by_words (words line)

abbrev pub is_reply : ShownLine → Bool
is_reply Reply = true
is_reply (Report outcomes) = false
is_reply Other = false

abbrev pub is_report : ShownLine → Bool
is_report Reply = false
is_report (Report outcomes) = true
is_report Other = false

abbrev pub outcomes_of_line : ShownLine → ℕ
outcomes_of_line Reply = 0
outcomes_of_line (Report outcomes) = outcomes
outcomes_of_line Other = 0

-- the lines of replies, those of reports, the outcomes in these, and the sum of all octets
abbrev pub tally_of : List ℕ → Tally
tally_of shown =
    let shows : List ShownLine = map shown_line (lines shown) in
    record {
      replies = count_by is_reply shows;
      reports = count_by is_report shows;
      results = sum_by outcomes_of_line shows;
      sum = sum shown % 2 ^ 32;
    }

-- a tally with one more line
abbrev pub with_line : Tally → ShownLine → Tally
with_line tally Reply = record tally { replies = tally.replies + 1 }
with_line tally (Report outcomes) =
    record tally { reports = tally.reports + 1; results = tally.results + outcomes }
with_line tally Other = tally

-- its numbers are below 2^64
pub record Fits (tally : Tally) : Type 0 where
  pub replies : tally.replies < 2 ^ 64
  pub reports : tally.reports < 2 ^ 64
  pub results : tally.results < 2 ^ 64
