-- The acts of a call open and close nothing.
use Rattle.std.proofs.Common.{◌≡◌, ℕ, List, [], ◌∷◌, ◌++◌, map, reverse, refl, sym, subst, ◌∙◌}
use Rattle.std.specs.Prelude.{filter_map}
use Rattle.std.proofs.lemmas.List.{reverse-append}
use Rattle.mms_data.specs.Datum.{Datum}
use Rattle.mms_data.specs.ObjectName.{ObjectName}
use Rattle.sbo_device.specs.declared.key.Key.{Key}
use Rattle.tase_views.specs.declared.call.CallKind.{CallKind}
use Rattle.tase_views.specs.declared.call.CallKind.TheVariants.{Identify, Read, ReadSet, Write}
use Rattle.tase_views.specs.declared.call.CallKind.TheVariants.{WriteSet, NameList, TypeOf, Define}
use Rattle.tase_views.specs.declared.call.CallKind.TheVariants.{MembersOf, Delete, DeleteScope, Odd}
use Rattle.tase_views.specs.Moves.{Act, opens, takes, closes, reads, writes, defines, deletes}
use Rattle.tase_views.specs.declared.event.EventKind.{EventKind}
use Rattle.tase_views.specs.declared.event.EventKind.TheVariants.{Open, Request, Take, Close}
use Rattle.tase_views.specs.declared.event.EventKind.TheVariants.{Update, Table, Tag, Tick, Ask}
use Rattle.tase_views.specs.declared.event.EventKind.TheVariants.{TakeOrders, Stop}
use Rattle.tase_views.specs.Moves.{calls, Move, acts, writes_of, acts_of_call, EventSort, sort_of}
use Rattle.tase_views.specs.Moves.{feeding}
use Rattle.tase_views.specs.Force.{table_move}
use Rattle.tase_views.proofs.OpenKeys.{open_of}

abbrev pub IsQuiet : Act → Type 0
IsQuiet opens = ⊥
IsQuiet closes = ⊥
IsQuiet _ = Unit {0}

abbrev pub AreQuiet : List Act → Type 0
AreQuiet [] = Unit {0}
AreQuiet (act ∷ these) = IsQuiet act × AreQuiet these

quiet_joined : (one other : List Act) → AreQuiet one → AreQuiet other → AreQuiet (one ++ other)
quiet_joined [] other first second = second
quiet_joined (act ∷ one) other first second = (first.0, quiet_joined one other first.1 second)

quiet_reversed : (these : List Act) → AreQuiet these → AreQuiet (reverse these)
quiet_reversed [] quiet = tt
quiet_reversed (act ∷ these) quiet =
    subst AreQuiet (sym (reverse-append (act ∷ []) these))
    (quiet_joined (reverse these) (act ∷ []) (quiet_reversed these quiet.1) (quiet.0, tt))

reads_quiet : (names : List ObjectName) → AreQuiet (map reads names)
reads_quiet [] = tt
reads_quiet (name ∷ names) = (tt, reads_quiet names)

deletes_quiet : (sets : List ObjectName) → AreQuiet (map deletes sets)
deletes_quiet [] = tt
deletes_quiet (set ∷ sets) = (tt, deletes_quiet sets)

writes_quiet : (names : List ObjectName) (values : List Datum) → AreQuiet (writes_of names values)
writes_quiet [] values = tt
writes_quiet (name ∷ names) [] = tt
writes_quiet (name ∷ names) (value ∷ values) = (tt, writes_quiet names values)

pub call_quiet : (call : CallKind) → AreQuiet (acts_of_call call)
call_quiet Identify = (tt, tt)
call_quiet (Read names echo) = quiet_reversed (map reads names) (reads_quiet names)
call_quiet (ReadSet set echo) = (tt, tt)
call_quiet (Write names values) =
    quiet_reversed (writes_of names values) (writes_quiet names values)
call_quiet (WriteSet set values) = (tt, tt)
call_quiet (NameList class scope after) = (tt, tt)
call_quiet (TypeOf name) = (tt, tt)
call_quiet (Define set members) = (tt, tt)
call_quiet (MembersOf set) = (tt, tt)
call_quiet (Delete sets) = quiet_reversed (map deletes sets) (deletes_quiet sets)
call_quiet (DeleteScope scope) = (tt, tt)
call_quiet (Odd kind code) = (tt, tt)

-- they leave open what is, and bear on no table

pub one_open : (peer : ℕ) (by : Key) (act : Act) (before : List Move) → IsQuiet act
    → open_of peer (acts by act ∷ before) ≡ open_of peer before
one_open peer by opens before quiet = absurd quiet
one_open peer by closes before quiet = absurd quiet
one_open peer by takes before quiet = refl
one_open peer by (reads name) before quiet = refl
one_open peer by (writes name value) before quiet = refl
one_open peer by (defines set members) before quiet = refl
one_open peer by (deletes set) before quiet = refl
one_open peer by (calls call) before quiet = refl

pub quiet_open : (peer : ℕ) (by : Key) (these : List Act) (before : List Move) → AreQuiet these
    → open_of peer (map (acts by) these ++ before) ≡ open_of peer before
quiet_open peer by [] before quiet = refl
quiet_open peer by (act ∷ these) before quiet =
    one_open peer by act (map (acts by) these ++ before) quiet.0
    ∙ quiet_open peer by these before quiet.1

pub one_table : (peer : ℕ) (by : Key) (act : Act) (before : List Move) → IsQuiet act
    → filter_map (table_move peer) (acts by act ∷ before) ≡ filter_map (table_move peer) before
one_table peer by opens before quiet = absurd quiet
one_table peer by closes before quiet = absurd quiet
one_table peer by takes before quiet = refl
one_table peer by (reads name) before quiet = refl
one_table peer by (writes name value) before quiet = refl
one_table peer by (defines set members) before quiet = refl
one_table peer by (deletes set) before quiet = refl
one_table peer by (calls call) before quiet = refl

pub quiet_tables : (peer : ℕ) (by : Key) (these : List Act) (before : List Move) → AreQuiet these
    → filter_map (table_move peer) (map (acts by) these ++ before)
    ≡ filter_map (table_move peer) before
quiet_tables peer by [] before quiet = refl
quiet_tables peer by (act ∷ these) before quiet =
    one_table peer by act (map (acts by) these ++ before) quiet.0
    ∙ quiet_tables peer by these before quiet.1

-- the centre's own moves are no acts
abbrev pub IsCentres : EventSort → Type 0
IsCentres (feeding (acts key act)) = ⊥
IsCentres _ = Unit {0}

pub fed : (event : EventKind) → IsCentres (sort_of event)
fed (Open peer) = tt
fed (Request call) = tt
fed Take = tt
fed Close = tt
fed (Update point value) = tt
fed (Table peer variant) = tt
fed (Tag device tag) = tt
fed (Tick now) = tt
fed (Ask asker slot) = tt
fed TakeOrders = tt
fed Stop = tt
