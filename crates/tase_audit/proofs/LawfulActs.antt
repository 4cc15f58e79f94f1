-- What an act of a lawful call is to a device keeps what a word spells.
use Rattle.std.proofs.Common.{◌≡◌, ℕ, ◌<◌, ◌≤◌, ◌/◌, ◌==◌, ℤ, not, ◌&&◌, Bool, true, false}
use Rattle.std.proofs.Common.{if◌then◌else◌, List, [], ◌∷◌, map, Option, Some, None}
use Rattle.std.proofs.Common.{refl, subst, arith}
use Rattle.std.specs.Prelude.{IfSome, nat_lt, slice_index, option_and_then, option_map}
use Rattle.std.specs.Int.{w64}
use Rattle.std.specs.Int.RustNames.{FitsSigned}
use Rattle.std.specs.List.{All, list_all}
use Rattle.std.proofs.lemmas.Bool.{and_parts, ltb-true}
use Rattle.std.proofs.lemmas.Bool.Decides.{nat_tests}
use Rattle.std.proofs.lemmas.List.Elements.{All-nil, All-cons, All-head, All-tail}
use Rattle.std.proofs.lemmas.Option.{same_Some}
use Rattle.ber_values.specs.Visible.{IsVisible}
use Rattle.mms_data.specs.Datum.{Datum, integer, unsigned, bits, text, structure, no_data, datum}
use Rattle.mms_data.specs.ObjectName.{ObjectName}
use Rattle.mms_data.specs.Text.TextRead.{IsTextual, HasText}
use Rattle.sbo_device.specs.Moves.{Tag, selecting, operating, tagging}
use Rattle.tase_views.specs.declared.call.CallKind.{CallKind}
use Rattle.tase_views.specs.declared.call.CallKind.TheVariants.{Identify, Read, ReadSet, Write}
use Rattle.tase_views.specs.declared.call.CallKind.TheVariants.{WriteSet, NameList, TypeOf, Define}
use Rattle.tase_views.specs.declared.call.CallKind.TheVariants.{MembersOf, Delete, DeleteScope, Odd}
use Rattle.tase_views.specs.Moves.{Act, opens, takes, closes, reads, writes, defines, deletes}
use Rattle.tase_views.specs.Moves.{calls, writes_of, acts_of_call}
use Rattle.tase_views.specs.OwnTables.{OwnDevice, OwnTable}
use Rattle.tase_views.specs.Objects.{Object}
use Rattle.tase_views.specs.Objects.{control_point, selection, device_tag}
use Rattle.tase_views.specs.Objects.{object_named}
use Rattle.tase_views.specs.Devices.{number_in, tag_in, Deed, read_deed, write_deed, deed_of}
use Rattle.texts.specs.Events.CallWords.{HasWords}
use Rattle.tase_audit.specs.ItemTexts.{IsDeviceAct}
use Rattle.tase_audit.proofs.Reversed.{all_reversed}

-- a value that is written has a text
abbrev pub IsAct : Act → Type 0
IsAct (writes name value) = HasText value
IsAct _ = Unit {0}

-- ---- the acts of calls

one_call : (call : CallKind) → All IsAct (calls call ∷ [])
one_call call = All-cons IsAct (calls call) [] tt (All-nil IsAct)

reads_lawful : (names : List ObjectName) → All IsAct (map reads names)
reads_lawful [] = All-nil IsAct
reads_lawful (name ∷ names) =
    All-cons IsAct (reads name) (map reads names) tt (reads_lawful names)

deletes_lawful : (sets : List ObjectName) → All IsAct (map deletes sets)
deletes_lawful [] = All-nil IsAct
deletes_lawful (set ∷ sets) =
    All-cons IsAct (deletes set) (map deletes sets) tt (deletes_lawful sets)

writes_lawful : (names : List ObjectName) (values : List Datum) → All HasText values
    → All IsAct (writes_of names values)
writes_lawful [] values all = All-nil IsAct
writes_lawful (name ∷ names) [] all = All-nil IsAct
writes_lawful (name ∷ names) (value ∷ values) all =
    All-cons IsAct (writes name value) (writes_of names values)
    (All-head HasText value values all)
    (writes_lawful names values (All-tail HasText value values all))

pub call_acts : (call : CallKind) → HasWords call → All IsAct (acts_of_call call)
call_acts Identify h = one_call Identify
call_acts (Read names echo) h = all_reversed IsAct (map reads names) (reads_lawful names)
call_acts (ReadSet set echo) h = one_call (ReadSet set echo)
call_acts (Write names values) h =
    all_reversed IsAct (writes_of names values) (writes_lawful names values h.1)
call_acts (WriteSet set values) h = one_call (WriteSet set values)
call_acts (NameList class scope after) h = one_call (NameList class scope after)
call_acts (TypeOf name) h = one_call (TypeOf name)
call_acts (Define set members) h =
    All-cons IsAct (defines set members) [] tt (All-nil IsAct)
call_acts (MembersOf set) h = one_call (MembersOf set)
call_acts (Delete sets) h = all_reversed IsAct (map deletes sets) (deletes_lawful sets)
call_acts (DeleteScope scope) h = one_call (DeleteScope scope)
call_acts (Odd kind code) h = one_call (Odd kind code)

-- ---- what is read of a value

number_fits : (value : Datum) → IsTextual value → IfSome (number_in value) (FitsSigned w64)
number_fits (integer z) h = h
number_fits (unsigned n) h = omega (arith, h)
number_fits value h = tt

-- a tag of two bits, and a visible reason
abbrev IsTwoBits : Tag → Type 0
IsTwoBits tag = (tag.tag ≤ 3) × IsVisible tag.reason

first_octet : (os : List ℕ) → list_all (λ octet. nat_lt octet 256) os ≡ true
    → slice_index os 0 < 256
first_octet [] all = omega arith
first_octet (o ∷ os) all = ltb-true o 256 (and_parts (nat_lt o 256) _ all).0

if_two : (test : Bool) (tag : Tag) → IsTwoBits tag
    → IfSome (if test then Some tag else None) IsTwoBits
if_two true tag h = h
if_two false tag h = tt

quarter : (n : ℕ) → n < 256 → n / 64 ≤ 3
quarter n h = omega arith

tag_fits : (value : Datum) → IsTextual value → IfSome (tag_in value) IsTwoBits
tag_fits (structure (datum (bits b) (datum (text reason) no_data))) h =
    if_two (b.count == 2) (record { tag = slice_index b.octets 0 / 64; reason = reason })
    (quarter (slice_index b.octets 0) (first_octet b.octets h.0.0.in_octets), h.1.0)
tag_fits value h = tt

-- ---- deeds

abbrev IsDeed : Deed → Type 0
IsDeed deed = IsDeviceAct deed.act

read_lawful : (found : Option Object) (deed : Deed)
    → option_and_then read_deed found ≡ Some deed → IsDeed deed
read_lawful None deed e = absurd cc
read_lawful (Some (selection d)) deed e =
    subst IsDeed (same_Some (record { device = d; act = selecting }) deed e) tt
read_lawful (Some object) deed e = absurd cc

operate_lawful : (d : OwnDevice) (number : Option ℤ) (deed : Deed)
    → IfSome number (FitsSigned w64)
    → option_map (λ n. let made : Deed = record { device = d; act = operating n } in made) number
    ≡ Some deed → IsDeed deed
operate_lawful d None deed h e = absurd cc
operate_lawful d (Some number) deed h e =
    subst IsDeed (same_Some (record { device = d; act = operating number }) deed e) h

not_three : (n : ℕ) → n ≤ 3 → not (n == 3) ≡ true → n ≤ 2
not_three n h isnt = grind (arith, nat_tests)

tagging_lawful : (d : OwnDevice) (tag : Tag) (test : Bool) (deed : Deed) → IsTwoBits tag
    → (d.tag && not (tag.tag == 3)) ≡ test
    → (if test
    then Some (let made : Deed = record { device = d; act = tagging tag } in made) else None)
    ≡ Some deed → IsDeed deed
tagging_lawful d tag false deed h test e = absurd cc
tagging_lawful d tag true deed h test e =
    subst IsDeed (same_Some (record { device = d; act = tagging tag }) deed e) (record {
      limit = not_three tag.tag h.0 (and_parts d.tag _ test).1;
      reason = h.1;
    })

tag_lawful : (d : OwnDevice) (found : Option Tag) (deed : Deed) → IfSome found IsTwoBits
    → option_and_then
    (λ tag. if d.tag && not (tag.tag == 3)
    then Some (let made : Deed = record { device = d; act = tagging tag } in made) else None) found
    ≡ Some deed → IsDeed deed
tag_lawful d None deed h e = absurd cc
tag_lawful d (Some tag) deed h e =
    tagging_lawful d tag (d.tag && not (tag.tag == 3)) deed h refl e

write_lawful : (value : Datum) (found : Option Object) (deed : Deed) → HasText value
    → option_and_then (write_deed value) found ≡ Some deed → IsDeed deed
write_lawful value None deed h e = absurd cc
write_lawful value (Some (control_point d)) deed h e =
    operate_lawful d (number_in value) deed (number_fits value h.parts) e
write_lawful value (Some (device_tag d)) deed h e =
    tag_lawful d (tag_in value) deed (tag_fits value h.parts) e
write_lawful value (Some object) deed h e = absurd cc

pub deed_lawful : (table : OwnTable) (act : Act) (deed : Deed) → IsAct act
    → deed_of table act ≡ Some deed → IsDeviceAct deed.act
deed_lawful table (reads name) deed h e = read_lawful (object_named table name) deed e
deed_lawful table (writes name value) deed h e =
    write_lawful value (object_named table name) deed h e
deed_lawful table opens deed h e = absurd cc
deed_lawful table takes deed h e = absurd cc
deed_lawful table closes deed h e = absurd cc
deed_lawful table (defines set members) deed h e = absurd cc
deed_lawful table (deletes set) deed h e = absurd cc
deed_lawful table (calls call) deed h e = absurd cc
