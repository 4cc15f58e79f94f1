-- Contents of an element, and how they can be faulty: a length that their kind doesn't have, or a
-- rule that they break.
use Rattle.std.specs.Prelude.{◌≡◌, ℕ, ◌≤◌, Bool, ◌&&◌, List, length, ◌⊎◌, Result, Ok}
use Rattle.std.specs.Prelude.{Err, nat_le, if◌then◌else◌}
use Rattle.std.specs.List.{slice_range}
use Rattle.ber_values.specs.declared.fault.BerFault.{BerFault}
use Rattle.ber_values.specs.declared.fault.Why.TheVariants as whys
use Rattle.ber_values.specs.declared.head.Head.{Head}
use Rattle.ber_values.specs.Faults.{fault_at}

-- the contents of a head lie in the octets, as those of every head that was read from them do
abbrev pub IsContents : List ℕ → Head → Type 0
IsContents bytes head = (head.body ≤ head.end) × (head.end ≤ length bytes)

-- the contents octets of a head
abbrev pub contents_of : List ℕ → Head → List ℕ
contents_of bytes head = slice_range bytes head.body head.end

-- so many octets
abbrev pub HasLength : ℕ → ℕ → List ℕ → Type 0
HasLength least most octets = (least ≤ length octets) × (length octets ≤ most)

abbrev pub has_length : ℕ → ℕ → List ℕ → Bool
has_length least most octets = nat_le least (length octets) && nat_le (length octets) most

-- the first fault of contents: a length that isn't allowed, or else a broken rule
abbrev pub ContentsFault : Type 0 → Type 0 → Head → BerFault → Type 0
ContentsFault Allowed Broken head f =
    ((Allowed → ⊥) × (f ≡ fault_at head.length_at whys.Length))
    ⊎ (Allowed × Broken × (f ≡ fault_at head.body whys.Value))

-- reading contents: the length, then the rule
abbrev pub contents_in : {X : Type 0} → Bool → Bool → X → Head → Result X BerFault
contents_in allowed kept value head =
    if allowed then (if kept then Ok value else Err (fault_at head.body whys.Value))
    else Err (fault_at head.length_at whys.Length)
