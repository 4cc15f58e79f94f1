-- The lines that tell of a run.
use Rattle.std.specs.Prelude.{ℕ, List, [], ◌∷◌, ◌++◌, codes, decimal}
use Rattle.commands.specs.Load.Tallies.{tally_of}

-- a name, a space, a number and the line's end
abbrev pub number_line : List ℕ → ℕ → List ℕ
number_line name number = name ++ 32 ∷ [] ++ decimal number ++ 10 ∷ []

-- the number of entries in the history, and what is counted of all that is shown
abbrev pub summary_text : ℕ → List ℕ → List ℕ
summary_text entries shown =
    number_line (codes "entries") entries
    ++ number_line (codes "replies") (tally_of shown).replies
    ++ number_line (codes "reports") (tally_of shown).reports
    ++ number_line (codes "results") (tally_of shown).results
    ++ number_line (codes "sum") (tally_of shown).sum
