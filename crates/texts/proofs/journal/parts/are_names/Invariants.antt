-- The names so far are names.
use Rattle.std.proofs.Common.{take}
use Rattle.std.specs.List.{All}
use Rattle.mms_data.specs.ObjectName.{IsName}
use Rattle.texts.proofs.journal.parts.are_names.Given as goal

abbrev pub invariant-loop-name : goal.invariant-loop-name
invariant-loop-name l = All IsName (take l.name-index l.names)
