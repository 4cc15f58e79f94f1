-- Exit statuses.
use Rattle.std.specs.Prelude.{ℕ, Bool, true, false}
use Rattle.commands.specs.declared.io.status.Status.{Status}
use Rattle.commands.specs.declared.io.status.Status.TheVariants.{Done, Usage, Input, Outside, Full}
use Rattle.commands.specs.declared.io.status.Status.TheVariants.{Differs, Memory, Peer}

-- the exit status
abbrev pub code_of : Status → ℕ
code_of Done = 0
code_of Usage = 2
code_of Input = 3
code_of Outside = 4
code_of Full = 5
code_of Differs = 6
code_of Peer = 8
code_of Memory = 7

-- whether it answers a fault outside
abbrev pub is_outside : Status → Bool
is_outside Done = false
is_outside Usage = false
is_outside Input = false
is_outside Outside = true
is_outside Full = false
is_outside Differs = false
is_outside Peer = false
is_outside Memory = false

-- whether all output is whole with it
abbrev pub is_whole : Status → Bool
is_whole Done = true
is_whole Usage = true
is_whole Input = true
is_whole Outside = false
is_whole Full = true
is_whole Differs = true
is_whole Peer = true
is_whole Memory = false

-- a fact of a status with which all output is whole
abbrev pub OnWhole : Status → Type 0 → Type 0
OnWhole Done fact = fact
OnWhole Usage fact = fact
OnWhole Input fact = fact
OnWhole Outside fact = Unit {0}
OnWhole Full fact = fact
OnWhole Differs fact = fact
OnWhole Peer fact = fact
OnWhole Memory fact = Unit {0}

-- whether it answers words that are a command
abbrev pub is_of_command : Status → Bool
is_of_command Done = true
is_of_command Usage = false
is_of_command Input = true
is_of_command Outside = true
is_of_command Full = true
is_of_command Differs = true
is_of_command Peer = true
is_of_command Memory = true
