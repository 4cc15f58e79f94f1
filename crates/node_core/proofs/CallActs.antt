-- What holds of each act of a call, and what its acts make of a part.
use Rattle.std.proofs.Common.{◌≡◌, ◌≢◌, ℕ, Bool, List, [], ◌∷◌, ◌++◌, map, reverse, Some, None}
use Rattle.std.proofs.Common.{refl, sym, ap, subst, ◌∙◌}
use Rattle.std.proofs.lemmas.List.{reverse-append}
use Rattle.mms_data.specs.Datum.{Datum}
use Rattle.mms_data.specs.ObjectName.{ObjectName}
use Rattle.data_sets.specs.Books.{defined}
use Rattle.tase_views.specs.declared.call.CallKind.{CallKind}
use Rattle.tase_views.specs.declared.call.CallKind.TheVariants.{Identify, Read, ReadSet, Write}
use Rattle.tase_views.specs.declared.call.CallKind.TheVariants.{WriteSet, NameList, TypeOf, Define}
use Rattle.tase_views.specs.declared.call.CallKind.TheVariants.{MembersOf, Delete, DeleteScope, Odd}
use Rattle.tase_views.specs.declared.event.EventKind.{EventKind}
use Rattle.tase_views.specs.declared.event.EventKind.TheVariants.{Request}
use Rattle.tase_views.specs.OwnTables.{OwnTables, table_in}
use Rattle.tase_views.specs.Moves.{Act, opens, takes, closes, reads, writes, defines, deletes}
use Rattle.tase_views.specs.Moves.{calls}
use Rattle.tase_views.specs.Moves.{writes_of, acts_of_call}
use Rattle.tase_views.specs.View.{own}
use Rattle.tase_views.specs.Sets.{SetError}
use Rattle.node_core.specs.declared.node.peer.Peer.{Peer}
use Rattle.node_core.specs.Slots.SetsKept.{left_by}
use Rattle.node_core.specs.Slots.SlotsKept.{all_read, all_written}
use Rattle.node_core.specs.PeerParts.{fault_in, kept_in, part_after, part_behind, IsLawfulAct}
use Rattle.node_core.specs.PeerParts.{EachAct}
use Rattle.node_core.specs.Replies.Shown.{IsCalm}
use Rattle.node_core.specs.declared.replies.sorts.CallSort.TheVariants as sorts
use Rattle.node_core.specs.Replies.CallSorts.{IsRequestOf}

each-append : (Q : Act → Type 0) (xs ys : List Act) → EachAct Q xs → EachAct Q ys
    → EachAct Q (xs ++ ys)
each-append Q [] ys before behind = behind
each-append Q (x ∷ xs) ys before behind = (before.0, each-append Q xs ys before.1 behind)

pub each-reverse : (Q : Act → Type 0) (xs : List Act) → EachAct Q xs → EachAct Q (reverse xs)
each-reverse Q [] each = tt
each-reverse Q (x ∷ xs) each =
    subst (λ (these : List Act). EachAct Q these) (sym (reverse-append (x ∷ []) xs))
    (each-append Q (reverse xs) (x ∷ []) (each-reverse Q xs each.1) (each.0, tt))

pub each-map : (Q : Act → Type 0) (f : ObjectName → Act) → ((name : ObjectName) → Q (f name))
    → (names : List ObjectName) → EachAct Q (map f names)
each-map Q f all [] = tt
each-map Q f all (name ∷ names) = (all name, each-map Q f all names)

each-writes : (Q : Act → Type 0) → ((name : ObjectName) (value : Datum) → Q (writes name value))
    → (names : List ObjectName) (values : List Datum) → EachAct Q (writes_of names values)
each-writes Q all [] values = tt
each-writes Q all (name ∷ names) [] = tt
each-writes Q all (name ∷ names) (value ∷ values) = (all name value, each-writes Q all names values)

-- what holds of all reads, writes and other calls, and of the definition or the deletions that the
-- call is
pub each_of_call : (Q : Act → Type 0) → ((name : ObjectName) → Q (reads name))
    → ((name : ObjectName) (value : Datum) → Q (writes name value))
    → ((call : CallKind) → Q (calls call)) → (call : CallKind)
    → ((set : ObjectName) (members : List ObjectName) → call ≡ Define set members
    → Q (defines set members))
    → ((sets : List ObjectName) → call ≡ Delete sets → (set : ObjectName) → Q (deletes set))
    → EachAct Q (acts_of_call call)
each_of_call Q r w c Identify defining deleting = (c Identify, tt)
each_of_call Q r w c (Read names echo) defining deleting =
    each-reverse Q (map reads names) (each-map Q reads r names)
each_of_call Q r w c (ReadSet set echo) defining deleting = (c (ReadSet set echo), tt)
each_of_call Q r w c (Write names values) defining deleting =
    each-reverse Q (writes_of names values) (each-writes Q w names values)
each_of_call Q r w c (WriteSet set values) defining deleting = (c (WriteSet set values), tt)
each_of_call Q r w c (NameList class scope after) defining deleting =
    (c (NameList class scope after), tt)
each_of_call Q r w c (TypeOf name) defining deleting = (c (TypeOf name), tt)
each_of_call Q r w c (Define set members) defining deleting = (defining set members refl, tt)
each_of_call Q r w c (MembersOf set) defining deleting = (c (MembersOf set), tt)
each_of_call Q r w c (Delete sets) defining deleting =
    each-reverse Q (map deletes sets) (each-map Q deletes (deleting sets refl) sets)
each_of_call Q r w c (DeleteScope scope) defining deleting = (c (DeleteScope scope), tt)
each_of_call Q r w c (Odd kind code) defining deleting = (c (Odd kind code), tt)

-- an act of a call
abbrev pub IsOfCall : Act → Type 0
IsOfCall opens = ⊥
IsOfCall takes = ⊥
IsOfCall closes = ⊥
IsOfCall act = Unit {0}

pub of_call : (call : CallKind) → EachAct IsOfCall (acts_of_call call)
of_call call =
    each_of_call IsOfCall (λ name. tt) (λ name value. tt) (λ other. tt) call
    (λ set members e. tt) (λ sets e set. tt)

-- one that opens no association
abbrev pub IsOpenless : Act → Type 0
IsOpenless opens = ⊥
IsOpenless act = Unit {0}

pub openless_call : (call : CallKind) → EachAct IsOpenless (acts_of_call call)
openless_call call =
    each_of_call IsOpenless (λ name. tt) (λ name value. tt) (λ other. tt) call
    (λ set members e. tt) (λ sets e set. tt)

pub lawful_call : (call : CallKind)
    → ((set : ObjectName) (members : List ObjectName) → call ≡ Define set members
    → IsLawfulAct (defines set members)) → EachAct IsLawfulAct (acts_of_call call)
lawful_call call defining =
    each_of_call IsLawfulAct (λ name. tt) (λ name value. tt) (λ other. tt) call defining
    (λ sets e set. tt)

-- acts of a call leave the associations of a part
pub call_keeps : (tables : OwnTables) (now ordinal : ℕ) (act : Act) (part : Peer) → IsOfCall act
    → (part_after tables now (own ordinal act) part).associations ≡ part.associations
call_keeps tables now ordinal opens part of = absurd of
call_keeps tables now ordinal takes part of = absurd of
call_keeps tables now ordinal closes part of = absurd of
call_keeps tables now ordinal (reads name) part of = refl
call_keeps tables now ordinal (writes name value) part of = refl
call_keeps tables now ordinal (defines set members) part of = refl
call_keeps tables now ordinal (deletes set) part of = refl
call_keeps tables now ordinal (calls call) part of = refl

pub calls_keep : (tables : OwnTables) (now ordinal : ℕ) (these : List Act) (part : Peer)
    → EachAct IsOfCall these
    → (part_behind tables now ordinal these part).associations ≡ part.associations
calls_keep tables now ordinal [] part of = refl
calls_keep tables now ordinal (act ∷ these) part of =
    call_keeps tables now ordinal act (part_behind tables now ordinal these part) of.0
    ∙ calls_keep tables now ordinal these part of.1

-- a call that reads, writes, defines or deletes
abbrev pub IsActive : CallKind → Type 0
IsActive (Read names echo) = Unit {0}
IsActive (Write names values) = Unit {0}
IsActive (Define set members) = Unit {0}
IsActive (Delete sets) = Unit {0}
IsActive call = ⊥

pub calm_idle : (call : CallKind) → IsCalm call
    → ((set : ObjectName) (members : List ObjectName) → call ≢ Define set members)
    → ((sets : List ObjectName) → call ≢ Delete sets) → IsActive call → ⊥
calm_idle Identify calm undefining undeleting active = active
calm_idle (Read names echo) calm undefining undeleting active = calm
calm_idle (ReadSet set echo) calm undefining undeleting active = active
calm_idle (Write names values) calm undefining undeleting active = calm
calm_idle (WriteSet set values) calm undefining undeleting active = active
calm_idle (NameList class scope after) calm undefining undeleting active = active
calm_idle (TypeOf name) calm undefining undeleting active = active
calm_idle (Define set members) calm undefining undeleting active = undefining set members refl
calm_idle (MembersOf set) calm undefining undeleting active = active
calm_idle (Delete sets) calm undefining undeleting active = undeleting sets refl
calm_idle (DeleteScope scope) calm undefining undeleting active = active
calm_idle (Odd kind code) calm undefining undeleting active = active

-- each other call leaves a part
pub idle_call : (tables : OwnTables) (now ordinal : ℕ) (call : CallKind) (part : Peer)
    → (IsActive call → ⊥) → part_behind tables now ordinal (acts_of_call call) part ≡ part
idle_call tables now ordinal Identify part idle = refl
idle_call tables now ordinal (Read names echo) part idle = absurd (idle tt)
idle_call tables now ordinal (ReadSet set echo) part idle = refl
idle_call tables now ordinal (Write names values) part idle = absurd (idle tt)
idle_call tables now ordinal (WriteSet set values) part idle = refl
idle_call tables now ordinal (NameList class scope after) part idle = refl
idle_call tables now ordinal (TypeOf name) part idle = refl
idle_call tables now ordinal (Define set members) part idle = absurd (idle tt)
idle_call tables now ordinal (MembersOf set) part idle = refl
idle_call tables now ordinal (Delete sets) part idle = absurd (idle tt)
idle_call tables now ordinal (DeleteScope scope) part idle = refl
idle_call tables now ordinal (Odd kind code) part idle = refl

part_behind-append : (tables : OwnTables) (now ordinal : ℕ) (xs ys : List Act) (part : Peer)
    → part_behind tables now ordinal (xs ++ ys) part
    ≡ part_behind tables now ordinal xs (part_behind tables now ordinal ys part)
part_behind-append tables now ordinal [] ys part = refl
part_behind-append tables now ordinal (x ∷ xs) ys part =
    ap (part_after tables now (own ordinal x)) (part_behind-append tables now ordinal xs ys part)

-- one act, and then those of a list
part_behind-first : (tables : OwnTables) (now ordinal : ℕ) (act : Act) (these : List Act)
    (part : Peer) → part_behind tables now ordinal (reverse (act ∷ these)) part
    ≡ part_behind tables now ordinal (reverse these) (part_after tables now (own ordinal act) part)
part_behind-first tables now ordinal act these part =
    ap (λ (acted : List Act). part_behind tables now ordinal acted part)
    (reverse-append (act ∷ []) these)
    ∙ part_behind-append tables now ordinal (reverse these) (act ∷ []) part

-- deletions take the data sets away, one after another
pub deleting_call : (tables : OwnTables) (now ordinal : ℕ) (sets : List ObjectName) (part : Peer)
    → part_behind tables now ordinal (acts_of_call (Delete sets)) part
    ≡ record part {
      book = left_by (kept_in (table_in tables part.variant) part.slots)
          (table_in tables part.variant).domain sets part.book;
    }
deleting_call tables now ordinal [] part = refl
deleting_call tables now ordinal (set ∷ sets) part =
    part_behind-first tables now ordinal (deletes set) (map deletes sets) part
    ∙ deleting_call tables now ordinal sets
    (part_after tables now (own ordinal (deletes set)) part)

-- reads hand transfer sets out, one after another
pub reading_call : (tables : OwnTables) (now ordinal : ℕ) (names : List ObjectName) (echo : Bool)
    (part : Peer) → part_behind tables now ordinal (acts_of_call (Read names echo)) part
    ≡ record part {
      slots = all_read (table_in tables part.variant) ordinal names part.slots;
    }
reading_call tables now ordinal [] echo part = refl
reading_call tables now ordinal (name ∷ names) echo part =
    part_behind-first tables now ordinal (reads name) (map reads names) part
    ∙ reading_call tables now ordinal names echo
    (part_after tables now (own ordinal (reads name)) part)

-- writes take wishes, one after another
pub writing_call : (tables : OwnTables) (now ordinal : ℕ) (names : List ObjectName)
    (values : List Datum) (part : Peer)
    → part_behind tables now ordinal (acts_of_call (Write names values)) part
    ≡ record part {
      slots = all_written (table_in tables part.variant) part.book ordinal now names values
          part.slots;
    }
writing_call tables now ordinal [] values part = refl
writing_call tables now ordinal (name ∷ names) [] part = refl
writing_call tables now ordinal (name ∷ names) (value ∷ values) part =
    part_behind-first tables now ordinal (writes name value) (writes_of names values) part
    ∙ writing_call tables now ordinal names values
    (part_after tables now (own ordinal (writes name value)) part)

-- a definition, which has an error or none
pub refused_call : (tables : OwnTables) (now ordinal : ℕ) (set : ObjectName)
    (members : List ObjectName) (part : Peer) (error : SetError)
    → fault_in (table_in tables part.variant) part.book set members ≡ Some error
    → part_behind tables now ordinal (defines set members ∷ []) part ≡ part
refused_call tables now ordinal set members part error fault = rw fault refl

pub defining_call : (tables : OwnTables) (now ordinal : ℕ) (set : ObjectName)
    (members : List ObjectName) (part : Peer)
    → fault_in (table_in tables part.variant) part.book set members ≡ None
    → part_behind tables now ordinal (defines set members ∷ []) part
    ≡ record part { book = defined part.book set.item members }
defining_call tables now ordinal set members part fault = rw fault refl

-- a request of a write names variables, and has values for them
pub write_named : (event : EventKind) → IsRequestOf sorts.Write event
    → (names : List ObjectName) × (values : List Datum) × (event ≡ Request (Write names values))
write_named (Request (Write names values)) is = (names, values, refl)
write_named event is = absurd is
