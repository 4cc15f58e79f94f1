-- What a source tells, and what a read does to it.
use Rattle.std.specs.Prelude.{Bool, true, false, ◌≡◌, ℕ, ◌≤◌, List, [], length, take, Option}
use Rattle.std.specs.Prelude.{option_map, IfSome}
use Rattle.outside.specs.declared.source.ReadEnd.{ReadEnd}
use Rattle.outside.specs.declared.source.ReadEnd.TheVariants.{Got, End, Failed}
use Rattle.outside.specs.Calls.{Calls, called}
use Rattle.outside.specs.Faults.{counted}
use Rattle.outside.specs.Octets.{Adds, TakesOctets}

-- what a source tells; a member that is an option may be untold
pub record SourceTold : Type 0 where
  -- the octets that are left
  pub left : Option (List ℕ)
  -- the octets given so far
  pub given : Option (List ℕ)
  -- whether the last read answered that nothing is left
  pub ended : Option Bool
  -- its calls: a read stops where it says that nothing is left, and where it fails
  pub calls : Option Calls
  -- how many faults there were
  pub faults : ℕ
  -- the name under which it stands in its outside; empty for none
  pub name : List ℕ

-- the octets that a read gave, of its buffer
abbrev pub octets_read : ReadEnd → List ℕ → List ℕ
octets_read (Got count) buf = take count buf
octets_read End buf = []
octets_read Failed buf = []

-- whether it answered that nothing is left
abbrev pub is_end : ReadEnd → Bool
is_end (Got count) = false
is_end End = true
is_end Failed = false

abbrev pub is_failed_read : ReadEnd → Bool
is_failed_read (Got count) = false
is_failed_read End = false
is_failed_read Failed = true

-- whether no read should come after it
abbrev pub is_last_read : ReadEnd → Bool
is_last_read (Got count) = false
is_last_read End = true
is_last_read Failed = true

-- a read that got octets got at least one, and at most so many
abbrev pub IsReadCount : ReadEnd → ℕ → Type 0
IsReadCount (Got count) most = (1 ≤ count) × (count ≤ most)
IsReadCount End most = Unit {0}
IsReadCount Failed most = Unit {0}

-- nothing is left, where it is told
abbrev pub IsSpent : Option (List ℕ) → Type 0
IsSpent left = IfSome left (λ octets. octets ≡ [])

-- a read answers the end only where nothing is left
abbrev pub IsEndTrue : ReadEnd → Option (List ℕ) → Type 0
IsEndTrue (Got count) left = Unit {0}
IsEndTrue End left = IsSpent left
IsEndTrue Failed left = Unit {0}

pub record ReadsSource (before after : SourceTold) (end : ReadEnd) (buf : List ℕ) : Type 0 where
  -- its octets came from the front of those left
  pub took : TakesOctets before.left after.left (octets_read end buf)
  -- they were added to those given so far
  pub gave : Adds before.given after.given (octets_read end buf)
  -- it gave at least one, and as many as fit at most
  pub count : IsReadCount end (length buf)
  -- it answers the end only where nothing is left
  pub spent : IsEndTrue end after.left
  -- whether it was the end
  pub ended : after.ended ≡ option_map (λ _. is_end end) before.ended
  -- it is one call, which stops at the end and where it fails
  pub calls : after.calls ≡ option_map (called (is_last_read end)) before.calls
  -- the count rises by one exactly where it fails
  pub faults : after.faults ≡ counted (is_failed_read end) before.faults
  pub name : after.name ≡ before.name
