-- How a load ends.
use Rattle.std.specs.Prelude.{Option, Some}
use Rattle.commands.specs.declared.io.status.Status.{Status}
use Rattle.commands.specs.declared.io.status.Status.TheVariants.{Done, Outside, Memory}
use Rattle.commands.specs.Words.Words.{Task, loads}

-- as done, by a fault outside, or for want of memory: neither at a bad line, nor by a full history
abbrev pub IsLoadEnd : Status → Type 0
IsLoadEnd Done = Unit {0}
IsLoadEnd Outside = Unit {0}
IsLoadEnd Memory = Unit {0}
IsLoadEnd status = ⊥

-- where words ask for a load, its run ends so
abbrev pub EndsLoad : Option Task → Status → Type 0
EndsLoad (Some (loads rounds)) status = IsLoadEnd status
EndsLoad task status = Unit {0}
