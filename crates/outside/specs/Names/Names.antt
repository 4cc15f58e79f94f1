-- The names that an outside in memory was asked for.
use Rattle.std.specs.Prelude.{ℕ, ◌-◌, ◌&&◌, List, [], ◌∷◌, ◌++◌, length, Option, None, option_map}
use Rattle.std.specs.Prelude.{nat_lt, nat_le, if◌then◌else◌}
use Rattle.outside.specs.declared.names.asked.TheConstants.{NAME_ROOM}

-- the names in order, none of them once one had no room; and how many more have room
pub record AskedState : Type 0 where
  pub names : Option (List (List ℕ))
  pub room : ℕ

-- one name more: it is told last, if it is within its length and there is room for a name
abbrev pub with_name_asked : AskedState → List ℕ → AskedState
with_name_asked a name = if nat_lt 0 a.room && nat_le (length name) NAME_ROOM
    then record { names = option_map (λ names. names ++ name ∷ []) a.names; room = a.room - 1 }
    else record { names = None; room = a.room }
