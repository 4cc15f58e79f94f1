-- The lines of a listing.
use Rattle.std.specs.Prelude.{ℕ, List, [], ◌∷◌, ◌++◌, codes, decimal, ◌==◌, if◌then◌else◌}
use Rattle.stack_assoc.specs.declared.messages.fault.StackFault.{StackFault}
use Rattle.stack_assoc.specs.declared.listing.names.MessageName.{MessageName}
use Rattle.stack_assoc.specs.Listing.Names.{message_name_text, layer_name, why_name}

-- `at PLACE NAME LENGTH`
abbrev pub at_line : ℕ → MessageName → ℕ → List ℕ
at_line place name size = codes "at " ++ decimal place ++ 32 ∷ [] ++ message_name_text name
    ++ 32 ∷ [] ++ decimal size ++ 10 ∷ []

-- `rest COUNT`, where octets are left
abbrev pub rest_line : ℕ → List ℕ
rest_line count = if count == 0 then [] else codes "rest " ++ decimal count ++ 10 ∷ []

-- `fault LAYER PLACE WHY`
abbrev pub fault_line : StackFault → List ℕ
fault_line f = codes "fault " ++ layer_name f.layer ++ 32 ∷ [] ++ decimal f.place ++ 32 ∷ []
    ++ why_name f.why ++ 10 ∷ []
