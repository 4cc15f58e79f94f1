-- The acts of a call are neither opens nor closes, and so leave the table in force.
use Rattle.std.proofs.Common.{◌≡◌, ℕ, List, [], ◌∷◌, ◌++◌, map, reverse, subst, refl, sym, ap, ◌∙◌}
use Rattle.std.proofs.lemmas.List.{reverse-append}
use Rattle.mms_data.specs.Datum.{Datum}
use Rattle.mms_data.specs.ObjectName.{ObjectName}
use Rattle.bilateral.specs.Rows.{CentreRows}
use Rattle.sbo_device.specs.declared.key.Key.{Key}
use Rattle.tase_views.specs.declared.call.CallKind.{CallKind}
use Rattle.tase_views.specs.declared.call.CallKind.TheVariants.{Identify, Read, ReadSet, Write}
use Rattle.tase_views.specs.declared.call.CallKind.TheVariants.{WriteSet, NameList, TypeOf, Define}
use Rattle.tase_views.specs.declared.call.CallKind.TheVariants.{MembersOf, Delete, DeleteScope, Odd}
use Rattle.tase_views.specs.Moves.{Act, opens, takes, closes, reads, writes, defines, deletes}
use Rattle.tase_views.specs.Moves.{calls, Move, acts, writes_of, acts_of_call}
use Rattle.tase_views.specs.OwnTables.{own_tables, table_in}
use Rattle.tase_views.specs.Force.{force_in}
use Rattle.tase_views.specs.View.{held_in}

abbrev pub IsOfCall : Act → Type 0
IsOfCall opens = ⊥
IsOfCall closes = ⊥
IsOfCall _ = Unit {0}

abbrev pub AreOfCall : List Act → Type 0
AreOfCall [] = Unit {0}
AreOfCall (act ∷ these) = IsOfCall act × AreOfCall these

joined : (one other : List Act) → AreOfCall one → AreOfCall other → AreOfCall (one ++ other)
joined [] other first second = second
joined (act ∷ one) other first second = (first.0, joined one other first.1 second)

reversed : (these : List Act) → AreOfCall these → AreOfCall (reverse these)
reversed [] each = tt
reversed (act ∷ these) each =
    subst AreOfCall (sym (reverse-append (act ∷ []) these))
    (joined (reverse these) (act ∷ []) (reversed these each.1) (each.0, tt))

all_reads : (names : List ObjectName) → AreOfCall (map reads names)
all_reads [] = tt
all_reads (name ∷ names) = (tt, all_reads names)

all_deletes : (sets : List ObjectName) → AreOfCall (map deletes sets)
all_deletes [] = tt
all_deletes (set ∷ sets) = (tt, all_deletes sets)

all_writes : (names : List ObjectName) (values : List Datum) → AreOfCall (writes_of names values)
all_writes [] values = tt
all_writes (name ∷ names) [] = tt
all_writes (name ∷ names) (value ∷ values) = (tt, all_writes names values)

pub of_call : (call : CallKind) → AreOfCall (acts_of_call call)
of_call Identify = (tt, tt)
of_call (Read names echo) = reversed (map reads names) (all_reads names)
of_call (ReadSet set echo) = (tt, tt)
of_call (Write names values) = reversed (writes_of names values) (all_writes names values)
of_call (WriteSet set values) = (tt, tt)
of_call (NameList class scope after) = (tt, tt)
of_call (TypeOf name) = (tt, tt)
of_call (Define set members) = (tt, tt)
of_call (MembersOf set) = (tt, tt)
of_call (Delete sets) = reversed (map deletes sets) (all_deletes sets)
of_call (DeleteScope scope) = (tt, tt)
of_call (Odd kind code) = (tt, tt)

force_stays : (key : Key) (act : Act) (before : List Move) (peer : ℕ) → IsOfCall act
    → force_in (acts key act ∷ before) peer ≡ force_in before peer
force_stays key opens before peer quiet = absurd quiet
force_stays key closes before peer quiet = absurd quiet
force_stays key takes before peer quiet = refl
force_stays key (reads name) before peer quiet = refl
force_stays key (writes name value) before peer quiet = refl
force_stays key (defines set members) before peer quiet = refl
force_stays key (deletes set) before peer quiet = refl
force_stays key (calls call) before peer quiet = refl

pub held_stays : (rows : CentreRows) (key : Key) (these : List Act) (before : List Move) (peer : ℕ)
    → AreOfCall these
    → held_in rows (own_tables rows) (map (acts key) these ++ before) peer
    ≡ held_in rows (own_tables rows) before peer
held_stays rows key [] before peer quiet = refl
held_stays rows key (act ∷ these) before peer quiet =
    ap (table_in (own_tables rows peer))
    (force_stays key act (map (acts key) these ++ before) peer quiet.0)
    ∙ held_stays rows key these before peer quiet.1
