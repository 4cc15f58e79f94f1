-- The bad lines of a script, apart from what the others say.
use Rattle.std.specs.Prelude.{ℕ, List, [], ◌∷◌, Option, Some, None, Result, Ok, Err}
use Rattle.bilateral.specs.Rows.{CentreRows}
use Rattle.centre_client.specs.declared.fault.ScriptFault.{ScriptFault}
use Rattle.centre_client.specs.declared.fault.ScriptWhy.{ScriptWhy}
use Rattle.centre_client.specs.NumberedLines.{NumberedLine}
use Rattle.centre_client.specs.StepLines.{step_in}

-- the fault of what was read, if it has one
abbrev pub error_told : {A E : Type 0} → Result A E → Option E
error_told (Ok value) = None
error_told (Err fault) = Some fault

-- the reason against the line of a number, or a later fault
abbrev pub fault_at_line : ℕ → Option ScriptWhy → Option ScriptFault → Option ScriptFault
fault_at_line number None later = later
fault_at_line number (Some why) later = Some (record { line = number; why = why })

-- the first of these lines that is no step
abbrev pub first_fault_in : CentreRows → ℕ → List NumberedLine → Option ScriptFault
first_fault_in rows peer [] = None
first_fault_in rows peer (line ∷ more) =
    fault_at_line line.number (error_told (step_in rows peer line.text))
    (first_fault_in rows peer more)
