-- A history by seats with other numbers.
use Rattle.std.specs.Prelude.{◌≡◌, ℕ, map}
use Rattle.tase_views.specs.History.{Past}

-- a history in which each seat has another number
abbrev pub reseated : (ℕ → ℕ) → Past → Past
reseated seat past = map (λ entry. record { who = seat entry.who; event = entry.event }) past

-- different seats have different numbers
abbrev pub IsInjective : (ℕ → ℕ) → Type 0
IsInjective seat = (a b : ℕ) → seat a ≡ seat b → a ≡ b
