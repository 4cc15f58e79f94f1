-- What a sink tells, and what writes do to it.
use Rattle.std.specs.Prelude.{Bool, true, false, ◌≡◌, ℕ, ◌+◌, ◌≤◌, List, [], length, take, Option}
use Rattle.std.specs.Prelude.{Result, Ok, Err}
use Rattle.outside.specs.declared.sink.WriteEnd.{WriteEnd}
use Rattle.outside.specs.declared.sink.WriteEnd.TheVariants.{Took, Failed}
use Rattle.outside.specs.declared.sink.SinkFailed.{SinkFailed}
use Rattle.outside.specs.Calls.{Calls, GoesOn}
use Rattle.outside.specs.Faults.{counted}
use Rattle.outside.specs.Octets.{Adds}

-- what a sink tells; a member that is an option may be untold
pub record SinkTold : Type 0 where
  -- the octets that it took
  pub taken : Option (List ℕ)
  -- of how many of these it is only known that it will hand them on
  pub held : ℕ
  -- its calls: a write stops where it fails
  pub calls : Option Calls
  -- how many faults there were
  pub faults : ℕ
  -- the name under which it stands in its outside; empty for none
  pub name : List ℕ

-- these octets were taken, by writes of which the last may have failed
pub record Appends (before after : SinkTold) (octets : List ℕ) (failed : Bool) : Type 0 where
  pub taken : Adds before.taken after.taken octets
  -- what is held was held before, or is of these
  pub held : after.held ≤ before.held + length octets
  -- no write came after one that failed
  pub calls : GoesOn before.calls after.calls failed
  -- the count rises by one exactly where one failed
  pub faults : after.faults ≡ counted failed before.faults
  pub name : after.name ≡ before.name

-- all of these octets were taken, and no write failed
abbrev pub AppendsAll : SinkTold → SinkTold → List ℕ → Type 0
AppendsAll before after octets = Appends before after octets false

-- a front part of them was taken
abbrev pub AppendsPart : SinkTold → SinkTold → List ℕ → Bool → Type 0
AppendsPart before after octets failed =
    (count : ℕ) × Appends before after (take count octets) failed

-- the octets that a write took, of its piece
abbrev pub octets_taken : WriteEnd → List ℕ → List ℕ
octets_taken (Took count) piece = take count piece
octets_taken Failed piece = []

abbrev pub is_failed_write : WriteEnd → Bool
is_failed_write (Took count) = false
is_failed_write Failed = true

-- a write that took octets took at least one, and at most so many
abbrev pub IsWriteCount : WriteEnd → ℕ → Type 0
IsWriteCount (Took count) most = (1 ≤ count) × (count ≤ most)
IsWriteCount Failed most = Unit {0}

-- a write takes the front of its piece, and nothing where it fails
pub record Writes (before after : SinkTold) (end : WriteEnd) (piece : List ℕ) : Type 0 where
  pub appends : Appends before after (octets_taken end piece) (is_failed_write end)
  pub count : IsWriteCount end (length piece)

-- what writing all of these octets leaves: all of them, or a front part before a write that failed
abbrev pub WritesAll : SinkTold → SinkTold → List ℕ → Result (Unit {0}) SinkFailed → Type 0
WritesAll before after octets (Ok done) = AppendsAll before after octets
WritesAll before after octets (Err failed) = AppendsPart before after octets true
