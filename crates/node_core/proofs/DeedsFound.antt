-- What calls do to devices, found variable by variable.
use Rattle.std.proofs.Common.{◌≡◌, ◌<◌, ◌^◌, ℕ, Bool, List, [], ◌∷◌, ◌++◌}
use Rattle.std.proofs.Common.{map, reverse, Option, Some, None, option_map, refl, sym, ap, subst}
use Rattle.std.proofs.Common.{◌∙◌, ◌+◌, length, get_or, drop}
use Rattle.std.specs.Prelude.{filter_map}
use Rattle.std.specs.List.{All, cons_option}
use Rattle.std.specs.Option.{IfSome}
use Rattle.std.proofs.lemmas.List.{append-nil, append_assoc, map-append, reverse-reverse}
use Rattle.std.proofs.lemmas.List.{at_drop_more}
use Rattle.std.proofs.lemmas.List.Elements.{All-append, All-cons, All-nil}
use Rattle.mms_data.specs.Datum.{Datum, unsigned}
use Rattle.mms_data.specs.ObjectName.{ObjectName}
use Rattle.mms_data.specs.Lawful.{IsLawful, KeepsUnsigned}
use Rattle.bilateral.specs.Rows.{CentreRows}
use Rattle.tase_views.specs.declared.call.CallKind.{CallKind}
use Rattle.tase_views.specs.declared.call.CallKind.TheVariants.{Identify, Read, ReadSet, Write}
use Rattle.tase_views.specs.declared.call.CallKind.TheVariants.{WriteSet, NameList, TypeOf, Define}
use Rattle.tase_views.specs.declared.call.CallKind.TheVariants.{MembersOf, Delete, DeleteScope, Odd}
use Rattle.tase_views.specs.Moves.{Act, reads, writes, deletes, writes_of}
use Rattle.tase_views.specs.Moves.{acts_of_call}
use Rattle.tase_views.specs.OwnTables.{OwnTable, own_tables, table_in}
use Rattle.tase_views.specs.Devices.{Deed, deed_of}
use Rattle.node_core.specs.declared.deeds.DeviceDeed.{DeviceDeed}
use Rattle.node_core.specs.Objects.Found.{IsThere, TableInForce, offered, table_at}
use Rattle.node_core.proofs.OfObjects.Known.{offered-at}
use Rattle.node_core.specs.Deeds.{RowDeed, deed_at, row_deed, deeds_done}

-- a deed more, ahead of those that are left
pub deed_ahead : (rows : CentreRows) (table : OwnTable) (act : Act) (left : List Act)
    (old new : List DeviceDeed) (deed : Option DeviceDeed) → new ≡ old ++ cons_option deed []
    → option_map (deed_at rows) deed ≡ option_map row_deed (deed_of table act)
    → map (deed_at rows) new ++ deeds_done table left
    ≡ map (deed_at rows) old ++ deeds_done table (act ∷ left)
deed_ahead rows table act left old new deed added is =
    ap (λ (ds : List DeviceDeed). map (deed_at rows) ds ++ rest) added
    ∙ by deed (deed_of table act) is
  where
    rest : List RowDeed
    rest = deeds_done table left

    by : (deed : Option DeviceDeed) (o : Option Deed)
        → option_map (deed_at rows) deed ≡ option_map row_deed o
        → map (deed_at rows) (old ++ cons_option deed []) ++ rest
        ≡ map (deed_at rows) old ++ map row_deed (cons_option o (filter_map (deed_of table) left))
    by None None e =
        ap (λ (ds : List DeviceDeed). map (deed_at rows) ds ++ rest) (append-nil old)
    by None (Some d) e = cc
    by (Some x) None e = cc
    by (Some x) (Some d) e =
        let same : deed_at rows x ≡ row_deed d = cc in
        ap (λ (ds : List RowDeed). ds ++ rest) (map-append (deed_at rows) old (x ∷ []))
        ∙ append_assoc (map (deed_at rows) old) (deed_at rows x ∷ []) rest
        ∙ ap (λ (r : RowDeed). map (deed_at rows) old ++ r ∷ rest) same

pub unsigned_small : (value : Datum) (n : ℕ) → IsLawful value → value ≡ unsigned n → n < 2 ^ 63
unsigned_small value n lawful is = subst KeepsUnsigned is lawful.numbers

-- calls that neither read nor write variables do nothing to devices

no_deletion : (table : OwnTable) (sets : List ObjectName)
    → filter_map (deed_of table) (map deletes sets) ≡ []
no_deletion table [] = refl
no_deletion table (set ∷ sets) = no_deletion table sets

pub calm_deeds : (table : OwnTable) (call : CallKind)
    → ((names : List ObjectName) (echo : Bool) → call ≡ Read names echo → ⊥)
    → ((names : List ObjectName) (values : List Datum) → call ≡ Write names values → ⊥)
    → deeds_done table (reverse (acts_of_call call)) ≡ []
calm_deeds table Identify unread unwritten = refl
calm_deeds table (Read names echo) unread unwritten = absurd (unread names echo refl)
calm_deeds table (ReadSet set echo) unread unwritten = refl
calm_deeds table (Write names values) unread unwritten = absurd (unwritten names values refl)
calm_deeds table (WriteSet set values) unread unwritten = refl
calm_deeds table (NameList class scope after) unread unwritten = refl
calm_deeds table (TypeOf name) unread unwritten = refl
calm_deeds table (Define set members) unread unwritten = refl
calm_deeds table (MembersOf set) unread unwritten = refl
calm_deeds table (Delete sets) unread unwritten =
    ap (λ (acts : List Act). deeds_done table acts) (reverse-reverse (map deletes sets))
    ∙ ap (map row_deed) (no_deletion table sets)
calm_deeds table (DeleteScope scope) unread unwritten = refl
calm_deeds table (Odd kind code) unread unwritten = refl

-- ---- a variable more, ahead of those that are left

module _ (rows : CentreRows) (table : OwnTable) (old new : List DeviceDeed)
    (deed : Option DeviceDeed) (added : new ≡ old ++ cons_option deed []) where
  pub read_ahead : (names : List ObjectName) (i : ℕ) (name : ObjectName) → i < length names
      → name ≡ get_or names i name
      → option_map (deed_at rows) deed ≡ option_map row_deed (deed_of table (reads name))
      → map (deed_at rows) new ++ deeds_done table (map reads (drop (i + 1) names))
      ≡ map (deed_at rows) old ++ deeds_done table (map reads (drop i names))
  read_ahead names i name within at is =
      deed_ahead rows table (reads name) (map reads (drop (i + 1) names)) old new deed added is
      ∙ ap (λ (n : ObjectName). map (deed_at rows) old
      ++ deeds_done table (reads n ∷ map reads (drop (i + 1) names))) at
      ∙ sym (at_drop_more (λ (ns : List ObjectName). map (deed_at rows) old
      ++ deeds_done table (map reads ns)) names i name within)

  pub write_ahead : (names : List ObjectName) (values : List Datum) (i : ℕ) (name : ObjectName)
      (value : Datum) → i < length names → i < length values → name ≡ get_or names i name
      → value ≡ get_or values i value
      → option_map (deed_at rows) deed ≡ option_map row_deed (deed_of table (writes name value))
      → map (deed_at rows) new
      ++ deeds_done table (writes_of (drop (i + 1) names) (drop (i + 1) values))
      ≡ map (deed_at rows) old ++ deeds_done table (writes_of (drop i names) (drop i values))
  write_ahead names values i name value within inside at here is =
      let left = writes_of (drop (i + 1) names) (drop (i + 1) values) in
      deed_ahead rows table (writes name value) left old new deed added is
      ∙ ap (λ (n : ObjectName). map (deed_at rows) old
      ++ deeds_done table (writes n value ∷ left)) at
      ∙ ap (λ (v : Datum). map (deed_at rows) old
      ++ deeds_done table (writes (get_or names i name) v ∷ left)) here
      ∙ sym (at_drop_more (λ (ns : List ObjectName). map (deed_at rows) old
      ++ deeds_done table (writes_of ns (get_or values i value ∷ drop (i + 1) values))) names i
      name within)
      ∙ sym (at_drop_more (λ (vs : List Datum). map (deed_at rows) old
      ++ deeds_done table (writes_of (drop i names) vs)) values i value inside)

pub all_there : (P : DeviceDeed → Type 0) (old new : List DeviceDeed) (deed : Option DeviceDeed)
    → new ≡ old ++ cons_option deed [] → All P old → IfSome deed P → All P new
all_there P old new deed added before here = subst (All P) (sym added) (by deed here)
  where
    by : (deed : Option DeviceDeed) → IfSome deed P → All P (old ++ cons_option deed [])
    by None none = subst (All P) (sym (append-nil old)) before
    by (Some x) here = All-append P old (x ∷ []) before (All-cons P x [] here (All-nil P))

-- ---- what a call does, by the table with a number

pub read_acts : (call : CallKind) (names : List ObjectName) (echo : Bool) → call ≡ Read names echo
    → map reads names ≡ reverse (acts_of_call call)
read_acts call names echo is =
    sym (ap (λ (c : CallKind). reverse (acts_of_call c)) is ∙ reverse-reverse (map reads names))

pub write_acts : (call : CallKind) (names : List ObjectName) (values : List Datum)
    → call ≡ Write names values → writes_of names values ≡ reverse (acts_of_call call)
write_acts call names values is =
    sym (ap (λ (c : CallKind). reverse (acts_of_call c)) is
    ∙ reverse-reverse (writes_of names values))

pub by_table : (rows : CentreRows) (peer variant : ℕ) (t : TableInForce) (call : CallKind)
    (acts : List Act) (deeds : List DeviceDeed) → IsThere rows peer variant
    → t ≡ table_at rows peer variant → acts ≡ reverse (acts_of_call call)
    → map (deed_at t.rows) deeds ≡ deeds_done (offered t) acts
    → map (deed_at rows) deeds
    ≡ deeds_done (table_in (own_tables rows peer) variant) (reverse (acts_of_call call))
by_table rows peer variant t call acts deeds at is same done =
    sym (ap (λ (s : TableInForce). map (deed_at s.rows) deeds) is) ∙ done
    ∙ ap (λ (s : TableInForce). deeds_done (offered s) acts) is
    ∙ ap (λ (own : OwnTable). deeds_done own acts) (offered-at rows peer variant at.there)
    ∙ ap (deeds_done (table_in (own_tables rows peer) variant)) same
