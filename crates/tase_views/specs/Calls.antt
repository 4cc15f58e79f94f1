-- What every call keeps.
use Rattle.std.specs.Prelude.{◌≡◌, ◌≢◌, ◌⊎◌, ◌<◌, pos, length, IfSome}
use Rattle.std.specs.List.{All}
use Rattle.mms_data.specs.Lawful.{IsLawful}
use Rattle.mms_data.specs.ObjectName.{IsScope, IsIdentifier}
use Rattle.tase_views.specs.declared.call.CallKind.{CallKind}
use Rattle.tase_views.specs.declared.call.CallKind.TheVariants.{Identify, Read, ReadSet, Write}
use Rattle.tase_views.specs.declared.call.CallKind.TheVariants.{WriteSet, NameList, TypeOf, Define}
use Rattle.tase_views.specs.declared.call.CallKind.TheVariants.{MembersOf, Delete, DeleteScope, Odd}

-- a list of names has a name, a write has as many lawful values as names, and one of a data set at
-- least one; a domain and a name after which a list goes on are identifiers; the scope of a
-- deletion isn't 0; and an odd call gives the reject 1 1 or 5 1
abbrev pub IsCall : CallKind → Type 0
IsCall Identify = Unit {0}
IsCall (Read names echo) = 0 < length names
IsCall (Write names values) =
    (0 < length names) × (length values ≡ length names) × All IsLawful values
IsCall (ReadSet set echo) = Unit {0}
IsCall (WriteSet set values) = (0 < length values) × All IsLawful values
IsCall (NameList class scope after) = IsScope scope × IfSome after IsIdentifier
IsCall (TypeOf name) = Unit {0}
IsCall (Define set members) = 0 < length members
IsCall (MembersOf set) = Unit {0}
IsCall (Delete sets) = 0 < length sets
IsCall (DeleteScope scope) = scope ≢ pos 0
IsCall (Odd kind code) = ((kind ≡ 1) ⊎ (kind ≡ 5)) × (code ≡ 1)
