-- Calls as data that a proof can tell apart.
use Rattle.std.specs.Prelude.{◌≡◌, ℕ, ℤ, Bool, ◌⊎◌, List, Option, refl}
use Rattle.std.specs.Coded.{Coded, code_by, coded×, coded⊎, coded_ℕ, coded_ℤ, coded_bool}
use Rattle.std.specs.Coded.{coded_list, coded_option}
use base.Stored.{coded_unit}
use Rattle.std.proofs.Common.{inl, inr}
use Rattle.mms_data.specs.Datum.{Datum}
use Rattle.mms_data.specs.DatumCode.{datum_code}
use Rattle.mms_data.specs.declared.object_name.Scope.{Scope}
use Rattle.mms_data.specs.ObjectName.{ObjectName}
use Rattle.tase_views.specs.declared.call.CallKind.{CallKind}
use Rattle.tase_views.specs.declared.call.CallKind.TheVariants.{Identify, Read, ReadSet, Write}
use Rattle.tase_views.specs.declared.call.CallKind.TheVariants.{WriteSet, NameList, TypeOf, Define}
use Rattle.tase_views.specs.declared.call.CallKind.TheVariants.{MembersOf, Delete, DeleteScope, Odd}
use Rattle.tase_views.specs.Codes.{scope_code, name_code}

-- a call about data sets: a read, a write, a definition, a request for members, a deletion of some,
-- a deletion of a scope's
abbrev pub SetParts : Type 0
SetParts =
    (ObjectName × Bool) ⊎ ((ObjectName × List Datum) ⊎ ((ObjectName × List ObjectName)
    ⊎ (ObjectName ⊎ (List ObjectName ⊎ ℤ))))

abbrev pub CallParts : Type 0
CallParts =
    Unit {0} ⊎ ((List ObjectName × Bool) ⊎ ((List ObjectName × List Datum)
    ⊎ ((ℤ × (Scope × Option (List ℕ))) ⊎ ((ℕ × ℕ) ⊎ (ObjectName ⊎ SetParts)))))

abbrev pub call_parts : CallKind → CallParts
call_parts Identify = inl tt
call_parts (Read names echo) = inr (inl (names, echo))
call_parts (ReadSet set echo) = inr (inr (inr (inr (inr (inr (inl (set, echo)))))))
call_parts (Write names values) = inr (inr (inl (names, values)))
call_parts (WriteSet set values) = inr (inr (inr (inr (inr (inr (inr (inl (set, values))))))))
call_parts (NameList class scope after) = inr (inr (inr (inl (class, (scope, after)))))
call_parts (TypeOf name) = inr (inr (inr (inr (inr (inl name)))))
call_parts (Define set members) = inr (inr (inr (inr (inr (inr (inr (inr (inl (set, members)))))))))
call_parts (MembersOf set) = inr (inr (inr (inr (inr (inr (inr (inr (inr (inl set)))))))))
call_parts (Delete sets) = inr (inr (inr (inr (inr (inr (inr (inr (inr (inr (inl sets))))))))))
call_parts (DeleteScope scope) =
    inr (inr (inr (inr (inr (inr (inr (inr (inr (inr (inr scope))))))))))
call_parts (Odd kind code) = inr (inr (inr (inr (inl (kind, code)))))

abbrev pub set_call_from : SetParts → CallKind
set_call_from (inl p) = ReadSet p.0 p.1
set_call_from (inr (inl p)) = WriteSet p.0 p.1
set_call_from (inr (inr (inl p))) = Define p.0 p.1
set_call_from (inr (inr (inr (inl set)))) = MembersOf set
set_call_from (inr (inr (inr (inr (inl sets))))) = Delete sets
set_call_from (inr (inr (inr (inr (inr scope))))) = DeleteScope scope

abbrev pub call_from : CallParts → CallKind
call_from (inl u) = Identify
call_from (inr (inl p)) = Read p.0 p.1
call_from (inr (inr (inl p))) = Write p.0 p.1
call_from (inr (inr (inr (inl p)))) = NameList p.0 p.1.0 p.1.1
call_from (inr (inr (inr (inr (inl p))))) = Odd p.0 p.1
call_from (inr (inr (inr (inr (inr (inl name)))))) = TypeOf name
call_from (inr (inr (inr (inr (inr (inr p)))))) = set_call_from p

pub call_from-parts : (c : CallKind) → call_from (call_parts c) ≡ c
call_from-parts Identify = refl
call_from-parts (Read names echo) = refl
call_from-parts (ReadSet set echo) = refl
call_from-parts (Write names values) = refl
call_from-parts (WriteSet set values) = refl
call_from-parts (NameList class scope after) = refl
call_from-parts (TypeOf name) = refl
call_from-parts (Define set members) = refl
call_from-parts (MembersOf set) = refl
call_from-parts (Delete sets) = refl
call_from-parts (DeleteScope scope) = refl
call_from-parts (Odd kind code) = refl

abbrev pub set_parts_code : Coded SetParts
set_parts_code =
    coded⊎ (coded× name_code coded_bool)
    (coded⊎ (coded× name_code (coded_list datum_code))
    (coded⊎ (coded× name_code (coded_list name_code))
    (coded⊎ name_code (coded⊎ (coded_list name_code) coded_ℤ))))

abbrev pub call_code : Coded CallKind
call_code =
    code_by CallParts
    (coded⊎ coded_unit
    (coded⊎ (coded× (coded_list name_code) coded_bool)
    (coded⊎ (coded× (coded_list name_code) (coded_list datum_code))
    (coded⊎ (coded× coded_ℤ (coded× scope_code (coded_option (coded_list coded_ℕ))))
    (coded⊎ (coded× coded_ℕ coded_ℕ) (coded⊎ name_code set_parts_code))))))
    call_parts call_from call_from-parts
