-- What reading a whole text does to a source.
use Rattle.std.specs.Prelude.{Bool, true, false, ◌≡◌, ◌⊎◌, ℕ, ◌+◌, ◌<◌, ◌≤◌, List, length, Option}
use Rattle.std.specs.Prelude.{option_map, Result, Ok, Err, Vec}
use Rattle.std.specs.declared.alloc.AllocError.{AllocError}
use Rattle.std.specs.declared.alloc.Global.{Global}
use Rattle.outside.specs.declared.text.TextEnd.{TextEnd}
use Rattle.outside.specs.declared.text.TextEnd.TheVariants.{Failed, Long}
use Rattle.outside.specs.declared.text.TheConstants.{PIECE}
use Rattle.outside.specs.Calls.{Calls, called, GoesOn}
use Rattle.outside.specs.Faults.{counted}
use Rattle.outside.specs.Octets.{Adds, TakesOctets}
use Rattle.outside.specs.Source.{SourceTold, IsSpent}

-- what reading a text answers
abbrev pub TextResult : Type 0
TextResult = Result (Result (Vec ℕ Global) TextEnd) AllocError

-- the text is all that was left, within the limit; too long exactly where more than the limit came
abbrev pub IsTextOf : List ℕ → Option (List ℕ) → ℕ → TextResult → Type 0
IsTextOf octets left limit (Ok (Ok text)) =
    (octets ≡ text.items) × (length octets ≤ limit) × IsSpent left
IsTextOf octets left limit (Ok (Err Failed)) = length octets ≤ limit
IsTextOf octets left limit (Ok (Err Long)) = limit < length octets
IsTextOf octets left limit (Err out_of_memory) = Unit {0}

-- whether the last read answered that nothing is left
abbrev pub TextEnded : Option Bool → Option Bool → TextResult → Type 0
TextEnded before after (Ok (Ok text)) = after ≡ option_map (λ _. true) before
TextEnded before after (Ok (Err Failed)) = after ≡ option_map (λ _. false) before
TextEnded before after (Ok (Err Long)) = after ≡ option_map (λ _. false) before
TextEnded before after (Err out_of_memory) =
    (after ≡ before) ⊎ (after ≡ option_map (λ _. false) before)

-- no read came after the end or a failed read; it isn't said how many came before
abbrev pub TextCalls : Option Calls → Option Calls → TextResult → Type 0
TextCalls before after (Ok (Ok text)) = GoesOn before after true
TextCalls before after (Ok (Err Failed)) = GoesOn before after true
TextCalls before after (Ok (Err Long)) = after ≡ option_map (called false) before
TextCalls before after (Err out_of_memory) = GoesOn before after false

-- whether a read failed
abbrev pub is_failed_text : TextResult → Bool
is_failed_text (Ok (Ok text)) = false
is_failed_text (Ok (Err Failed)) = true
is_failed_text (Ok (Err Long)) = false
is_failed_text (Err out_of_memory) = false

-- what reading a text leaves of a source that gave these octets to it
pub record ReadsText (before after : SourceTold) (limit : ℕ) (result : TextResult)
    (octets : List ℕ) : Type 0 where
  -- the octets came from the front of those left
  pub took : TakesOctets before.left after.left octets
  -- the octets were added to those given so far
  pub gave : Adds before.given after.given octets
  -- the octets are at most the limit and one piece
  pub most : length octets ≤ limit + PIECE
  -- what is answered of them
  pub text : IsTextOf octets after.left limit result
  -- whether the last read answered that nothing is left
  pub ended : TextEnded before.ended after.ended result
  -- no read came after the end or a failed read
  pub calls : TextCalls before.calls after.calls result
  -- the count rises by one exactly where a read failed
  pub faults : after.faults ≡ counted (is_failed_text result) before.faults
  pub name : after.name ≡ before.name
