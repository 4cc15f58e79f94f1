-- The journal of a node, kept in a file.
use Rattle.std.specs.Prelude.{◌≡◌, ℕ, Bool, true, false, List, Result, Ok, Err}
use Rattle.outside.specs.Names.Outside.{OutsideTold}
use Rattle.commands.specs.declared.io.status.Status.{Status}
use Rattle.commands.specs.declared.io.status.Status.TheVariants.{Done, Outside}
use Rattle.commands.specs.Io.Statuses.{is_whole}
use Rattle.commands.specs.Io.Runs.{WritesFile, status_behind}

-- how a line ends that was written so
abbrev pub status_of_write : {E : Type 0} → Result (Unit {0}) E → Status
status_of_write (Ok written) = Done
status_of_write (Err failed) = Outside

module _ (name text : List ℕ) (status : Status) (before after : OutsideTold) (result : Status) where
  -- behind a status whose output is whole a text is written to a file, and behind another nothing
  -- is touched
  abbrev pub KeepsWhere : Bool → Type 0
  KeepsWhere true = (written : Status) × WritesFile name text before after written
      × (result ≡ status_behind status written)
  KeepsWhere false = (result ≡ status) × (after ≡ before)

  abbrev pub KeepsJournal : Type 0
  KeepsJournal = KeepsWhere (is_whole status)
