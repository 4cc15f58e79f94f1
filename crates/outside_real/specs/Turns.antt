-- Notices of something that goes on for a while.
use Rattle.std.specs.Prelude.{Bool, true, false, Option, Some, None}
use Rattle.outside_real.specs.declared.turns.Turn.{Turn}
use Rattle.outside_real.specs.declared.turns.Turn.TheVariants.{Begins, Ends}

-- one notice when it begins, and one when it ends
abbrev pub turn_between : Bool → Bool → Option Turn
turn_between false true = Some Begins
turn_between true false = Some Ends
turn_between false false = None
turn_between true true = None
