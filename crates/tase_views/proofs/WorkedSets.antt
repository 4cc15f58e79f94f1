-- Data sets and the names of the protocol itself computed on worked histories, apart from all code.
use Rattle.std.proofs.Common.{◌≡◌, ℕ, List, [], ◌∷◌, Some, None, true, false, pos}
use Rattle.std.proofs.Common.{refl}
use Rattle.std.specs.Prelude.{codes, replicate}
use Rattle.std.specs.Fmt.{digits}
use Rattle.tase_points.specs.declared.body.Body.TheVariants as bodies
use Rattle.mms_data.specs.Datum.{Datum, integer, bits, text, structure, data_of}
use Rattle.mms_data.specs.declared.outcome.Outcome.TheVariants.{Good, Fail}
use Rattle.mms_data.specs.declared.object_name.Scope.TheVariants.{Vmd, Domain, Association}
use Rattle.mms_data.specs.ObjectName.{ObjectName}
use Rattle.tase_views.specs.declared.call.CallKind.{CallKind}
use Rattle.tase_views.specs.declared.call.CallKind.TheVariants.{Read, ReadSet, WriteSet, NameList}
use Rattle.tase_views.specs.declared.call.CallKind.TheVariants.{Define, MembersOf, Delete}
use Rattle.tase_views.specs.declared.call.CallKind.TheVariants.{DeleteScope}
use Rattle.tase_views.specs.declared.event.EventKind.{EventKind}
use Rattle.tase_views.specs.declared.event.EventKind.TheVariants.{Open, Request, Update, Close}
use Rattle.tase_views.specs.declared.event.Entry.{Entry}
use Rattle.tase_views.specs.declared.reply.ReadSpec.TheVariants as specs
use Rattle.tase_views.specs.declared.reply.ReplyKind.TheVariants.{Results, NamesAre, Defined}
use Rattle.tase_views.specs.declared.reply.ReplyKind.TheVariants.{MembersAre, Deleted, Error}
use Rattle.tase_views.specs.declared.reply.Answer.{Answer}
use Rattle.tase_views.specs.declared.reply.Answer.TheVariants.{Reply}
use Rattle.tase_views.specs.Setup.{Setup}
use Rattle.tase_views.specs.History.{Past}
use Rattle.tase_views.specs.EventTexts.{call_text}
use Rattle.tase_views.specs.Outcomes.{answer_of}
use Rattle.tase_views.proofs.NodeSample.{rows}

abbrev setup : Setup
setup = record { centre = rows; limit = 134217728 }

abbrev entry : ℕ → EventKind → Entry
entry who event = record { who = who; event = event }

-- `open 1 A`, `open 2 B`, `update BUS1 s2 00 1700000000 0`
abbrev begun : Past
begun =
    entry 0 (Update 0 (record {
      body = bodies.State 2;
      flags = 0;
      seconds = 1700000000;
      millis = 0;
    })) ∷ entry 2 (Open 1) ∷ entry 1 (Open 0) ∷ []

abbrev asked : Past → ℕ → CallKind → Answer
asked past who call = answer_of setup past who (Request call)

-- a history in which a seat has asked this too
abbrev with_call : ℕ → CallKind → Past → Past
with_call who call past = entry who (Request call) ∷ past

abbrev in_a : List ℕ → ObjectName
in_a item = record { scope = Domain (codes "DOMA"); item = item }

abbrev in_vmd : List ℕ → ObjectName
in_vmd item = record { scope = Vmd; item = item }

abbrev bus : ObjectName
bus = in_a (codes "BUS1")

abbrev conditions : ObjectName
conditions = in_a (codes "DSConditions_Detected")

-- the names of the protocol itself
own_names_are_read :
    asked begun 1 (Read (in_vmd (codes "TASE2_Version") ∷ in_vmd (codes "Supported_Features")
    ∷ in_a (codes "Bilateral_Table_ID") ∷ in_a (codes "Transfer_Set_Name") ∷ []) false)
    ≡ Reply (Results None (Good (structure (data_of (integer (pos 2000) ∷ integer (pos 8) ∷ [])))
    ∷ Good (bits (record { count = 12; octets = 200 ∷ 0 ∷ [] })) ∷ Good (text (codes "TBLA"))
    ∷ Fail 9 ∷ []))
own_names_are_read = refl

-- report variables are found in both scopes, the others in one
scopes_of_names :
    asked begun 1 (Read (in_vmd (codes "Event_Code_Detected") ∷ in_a (codes "TASE2_Version")
    ∷ in_vmd (codes "Bilateral_Table_ID") ∷ in_vmd (codes "Next_DSTransfer_Set") ∷ []) false)
    ≡ Reply (Results None (Fail 9 ∷ Fail 10 ∷ Fail 10 ∷ Fail 10 ∷ []))
scopes_of_names = refl

abbrev define_s : CallKind
define_s = Define (in_a (codes "S")) (bus ∷ conditions ∷ [])

set_is_defined : asked begun 1 define_s ≡ Reply Defined
set_is_defined = refl

abbrev defined_s : Past
defined_s = with_call 1 define_s begun

abbrev on : Datum
on = bits (record { count = 8; octets = 128 ∷ [] })

set_is_read :
    asked defined_s 1 (ReadSet (in_a (codes "S")) false)
    ≡ Reply (Results None (Good on ∷ Fail 9 ∷ []))
set_is_read = refl

set_is_read_with_its_name :
    asked defined_s 1 (ReadSet (in_a (codes "S")) true)
    ≡ Reply (Results (Some (specs.Set (in_a (codes "S")))) (Good on ∷ Fail 9 ∷ []))
set_is_read_with_its_name = refl

set_is_there_already :
    asked defined_s 1 (Define (in_a (codes "S")) (bus ∷ [])) ≡ Reply (Error 2 5)
set_is_there_already = refl

member_does_not_exist :
    asked defined_s 1 (Define (in_a (codes "X")) (in_a (codes "NOPE") ∷ [])) ≡ Reply (Error 2 1)
member_does_not_exist = refl

constants_are_no_members :
    asked defined_s 1 (Define (in_a (codes "X")) (in_vmd (codes "TASE2_Version") ∷ []))
    ≡ Reply (Error 2 1)
constants_are_no_members = refl

variable_of_the_device_is_a_member :
    asked defined_s 1 (Define (in_a (codes "X")) (in_vmd (codes "Transfer_Set_Name") ∷ bus ∷ []))
    ≡ Reply Defined
variable_of_the_device_is_a_member = refl

-- data sets are of the domain, and their names identifiers
no_set_elsewhere :
    asked defined_s 1 (Define (in_vmd (codes "X")) (bus ∷ [])) ≡ Reply (Error 7 3)
no_set_elsewhere = refl

no_set_of_another_domain :
    asked defined_s 1 (Define (record { scope = Domain (codes "DOMB"); item = codes "X" })
    (bus ∷ [])) ≡ Reply (Error 7 3)
no_set_of_another_domain = refl

name_is_no_identifier :
    asked defined_s 1 (Define (in_a (codes "A B")) (bus ∷ [])) ≡ Reply (Error 7 3)
name_is_no_identifier = refl

-- a data set belongs to the peer, whatever association asks, and to no other
abbrev opened_again : Past
opened_again = entry 3 (Open 0) ∷ defined_s

members_are_told :
    asked opened_again 3 (MembersOf (in_a (codes "S")))
    ≡ Reply (MembersAre (bus ∷ conditions ∷ []))
members_are_told = refl

another_peer_has_none :
    asked opened_again 2 (ReadSet (in_a (codes "S")) false) ≡ Reply (Error 7 2)
another_peer_has_none = refl

set_outlives_its_association :
    asked (entry 1 Close ∷ opened_again) 3 (MembersOf (in_a (codes "S")))
    ≡ Reply (MembersAre (bus ∷ conditions ∷ []))
set_outlives_its_association = refl

no_set_is_written :
    asked defined_s 1 (WriteSet (in_a (codes "S")) (integer (pos 1) ∷ integer (pos 1) ∷ []))
    ≡ Reply (Error 7 3)
no_set_is_written = refl

no_scope_is_deleted : asked defined_s 1 (DeleteScope (pos 2)) ≡ Reply (Error 7 3)
no_scope_is_deleted = refl

sets_are_listed :
    asked (with_call 1 (Define (in_a (codes "R")) (bus ∷ [])) defined_s) 1
    (NameList (pos 2) (Domain (codes "DOMA")) None)
    ≡ Reply (NamesAre (codes "R" ∷ codes "S" ∷ []) false)
sets_are_listed = refl

no_sets_of_the_device : asked defined_s 1 (NameList (pos 2) Vmd None) ≡ Reply (NamesAre [] false)
no_sets_of_the_device = refl

no_sets_of_an_association :
    asked defined_s 1 (NameList (pos 2) Association None) ≡ Reply (NamesAre [] false)
no_sets_of_an_association = refl

-- a name counts once, since the data set is gone behind it
abbrev delete_twice : CallKind
delete_twice = Delete (in_a (codes "S") ∷ in_a (codes "S") ∷ [])

set_is_deleted_once : asked defined_s 1 delete_twice ≡ Reply (Deleted 1 1)
set_is_deleted_once = refl

deleted_set_is_gone :
    asked (with_call 1 delete_twice defined_s) 1 (MembersOf (in_a (codes "S"))) ≡ Reply (Error 7 2)
deleted_set_is_gone = refl

others_delete_nothing : asked defined_s 2 delete_twice ≡ Reply (Deleted 0 0)
others_delete_nothing = refl

-- a definition that had an error defines nothing
refused_defines_nothing :
    asked (with_call 1 (Define (in_a (codes "X")) (in_a (codes "NOPE") ∷ [])) begun) 1
    (MembersOf (in_a (codes "X"))) ≡ Reply (Error 7 2)
refused_defines_nothing = refl

five_hundred_members :
    asked begun 1 (Define (in_a (codes "S")) (replicate 500 bus)) ≡ Reply Defined
five_hundred_members = refl

no_member_more :
    asked begun 1 (Define (in_a (codes "T")) (replicate 501 bus)) ≡ Reply (Error 3 0)
no_member_more = refl

read_set-text : call_text (ReadSet (in_a (codes "S")) true) ≡ codes "readset+ DOMA/S"
read_set-text = refl

write_set-text :
    call_text (WriteSet (in_a (codes "S")) (integer (pos 1) ∷ integer (pos 2) ∷ []))
    ≡ codes "writeset DOMA/S i1 i2"
unfolding digits
write_set-text = refl

define-text : call_text define_s ≡ codes "define DOMA/S DOMA/BUS1 DOMA/DSConditions_Detected"
define-text = refl

members-text : call_text (MembersOf (in_a (codes "S"))) ≡ codes "members DOMA/S"
members-text = refl

delete-text : call_text delete_twice ≡ codes "delete DOMA/S DOMA/S"
delete-text = refl

delete_scope-text : call_text (DeleteScope (pos 2)) ≡ codes "deletescope 2"
unfolding digits
delete_scope-text = refl
