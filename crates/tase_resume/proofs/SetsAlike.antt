-- Data sets are alike in views that are alike: they are defined and deleted alike, and their names
-- are listed alike.
use Rattle.std.proofs.Common.{◌≡◌, ℕ, Bool, if◌then◌else◌, List, ◌∷◌, length, Option, None, is_some}
use Rattle.std.proofs.Common.{refl, sym, ap, ◌∙◌}
use Rattle.std.specs.Prelude.{filter}
use Rattle.mms_data.specs.ObjectName.{ObjectName}
use Rattle.tase_views.specs.Moves.{Act, opens, takes, closes, reads, writes, defines, deletes}
use Rattle.tase_views.specs.Moves.{calls}
use Rattle.tase_views.specs.OwnTables.{OwnTable, OwnTables, table_in}
use Rattle.tase_views.specs.NameLists.{in_order}
use Rattle.tase_views.specs.View.{Seen, own, other_acted, other_closed, updated, tagged, asked}
use Rattle.tase_views.specs.View.{chose, ticked, stopped, View, held, keeps_force}
use Rattle.tase_views.specs.Sets.{Sets, sets_there, define_fault, set_behind}
use Rattle.tase_views.specs.Slots.{is_wished, sets_in, slot_moves}
use Rattle.tase_views.specs.Answers.{set_names}
use Rattle.tase_resume.specs.Recounted.{Gap}
use Rattle.tase_resume.proofs.RaisedHolds.{Offsets}
use Rattle.tase_resume.proofs.Like.{raised, IsLike}
use Rattle.tase_resume.proofs.NameOrder.{count_of}
use Rattle.tase_resume.proofs.NamesThere.{view_count, once_if, count_passed, same_length}
use Rattle.tase_resume.proofs.NamesThere.{same_order}
use Rattle.tase_resume.proofs.SeenAlike.{force_seen}
use Rattle.tase_resume.proofs.SlotParts.{wished_alike}

-- a definition has the same error where the data sets are the same, and as many

pub fault_alike : (table : OwnTable) (sets others : Sets) (v w : View) (set : ObjectName)
    (members : List ObjectName) → sets set.item ≡ others set.item
    → length (sets_there sets v) ≡ length (sets_there others w)
    → define_fault table sets v set members ≡ define_fault table others w set members
fault_alike table sets others v w set members same long = rw (same, long) refl

module _ (tables : OwnTables) (v w : View)
    (same : (name : List ℕ) → sets_in tables v name ≡ sets_in tables w name) where
  counted : (z : List ℕ)
      → count_of z (set_names tables v) ≡ count_of z (set_names tables w)
  counted z =
      view_count tables z v
      ∙ ap (λ (found : Option (List ObjectName)). once_if (is_some found)) (same z)
      ∙ sym (view_count tables z w)

  pub sets_counted : length (set_names tables v) ≡ length (set_names tables w)
  sets_counted = same_length (set_names tables v) (set_names tables w) counted

  -- names that pass a test stand in one order
  pub names_alike : (test : List ℕ → Bool)
      → in_order (filter test (set_names tables v)) ≡ in_order (filter test (set_names tables w))
  names_alike test =
      same_order (filter test (set_names tables v)) (filter test (set_names tables w))
      (λ z. count_passed test z (set_names tables v)
      ∙ ap (λ (n : ℕ). if test z then n else 0) (counted z)
      ∙ sym (count_passed test z (set_names tables w)))

-- behind one act more
behind_alike : (table : OwnTable) (kept others : List ℕ → Bool) (sets more : Sets) (v w : View)
    (act : Act) (name : List ℕ) → kept name ≡ others name → sets name ≡ more name
    → ((set : ObjectName) (members : List ObjectName)
    → define_fault table sets v set members ≡ define_fault table more w set members)
    → set_behind table kept sets v act name ≡ set_behind table others more w act name
behind_alike table kept others sets more v w (defines set members) name keeps same faults =
    rw (same, faults set members) refl
behind_alike table kept others sets more v w (deletes set) name keeps same faults =
    rw (same, keeps) refl
behind_alike table kept others sets more v w opens name keeps same faults = same
behind_alike table kept others sets more v w takes name keeps same faults = same
behind_alike table kept others sets more v w closes name keeps same faults = same
behind_alike table kept others sets more v w (reads item) name keeps same faults = same
behind_alike table kept others sets more v w (writes item value) name keeps same faults = same
behind_alike table kept others sets more v w (calls call) name keeps same faults = same

-- what is kept where a table stays in force
where_kept : (a b : Bool) (x y : Option (List ObjectName)) → a ≡ b → x ≡ y
    → (if a then x else None) ≡ (if b then y else None)
where_kept a b x y keeps same = rw (keeps, same) refl

module _ (tables : OwnTables) (offs : Offsets) (gap : Gap) (from : ℕ) (v w : View)
    (like : IsLike tables offs gap from v w) where
  pub held_alike : held tables v ≡ held tables w
  held_alike = ap (table_in tables) like.table

  keeps_alike : (move : Seen) → keeps_force (raised offs move) v ≡ keeps_force move w
  keeps_alike move =
      rw (force_seen offs move v w like.count like.choice like.table, like.table) refl

  -- behind one seen move more
  pub sets_seen : (move : Seen) (name : List ℕ)
      → sets_in tables (raised offs move ∷ v) name ≡ sets_in tables (move ∷ w) name
  sets_seen (own ordinal act) name =
      where_kept (keeps_force (raised offs (own ordinal act)) v) (keeps_force (own ordinal act) w)
      (set_behind (held tables v) (is_wished (held tables v) (slot_moves tables v))
      (sets_in tables v) v act name)
      (set_behind (held tables w) (is_wished (held tables w) (slot_moves tables w))
      (sets_in tables w) w act name)
      (keeps_alike (own ordinal act))
      (ap (λ (t : OwnTable).
      set_behind t (is_wished t (slot_moves tables v)) (sets_in tables v) v act name) held_alike
      ∙ behind_alike (held tables w) (is_wished (held tables w) (slot_moves tables v))
      (is_wished (held tables w) (slot_moves tables w)) (sets_in tables v) (sets_in tables w) v w
      act name
      (wished_alike (offs 0) gap (held tables w) (slot_moves tables v) (slot_moves tables w)
      like.slots name)
      (like.sets name)
      (λ set members. fault_alike (held tables w) (sets_in tables v) (sets_in tables w) v w set
      members (like.sets set.item) (sets_counted tables v w like.sets)))
  sets_seen (other_acted key ordinal device act) name =
      where_kept _ _ (sets_in tables v name) (sets_in tables w name)
      (keeps_alike (other_acted key ordinal device act)) (like.sets name)
  sets_seen (other_closed key ordinal) name =
      where_kept _ _ (sets_in tables v name) (sets_in tables w name)
      (keeps_alike (other_closed key ordinal)) (like.sets name)
  sets_seen (updated point value) name =
      where_kept _ _ (sets_in tables v name) (sets_in tables w name)
      (keeps_alike (updated point value)) (like.sets name)
  sets_seen (tagged device tag) name =
      where_kept _ _ (sets_in tables v name) (sets_in tables w name)
      (keeps_alike (tagged device tag)) (like.sets name)
  sets_seen (asked s) name =
      where_kept _ _ (sets_in tables v name) (sets_in tables w name)
      (keeps_alike (asked s)) (like.sets name)
  sets_seen (chose variant) name =
      where_kept _ _ (sets_in tables v name) (sets_in tables w name)
      (keeps_alike (chose variant)) (like.sets name)
  sets_seen (ticked now) name =
      where_kept _ _ (sets_in tables v name) (sets_in tables w name)
      (keeps_alike (ticked now)) (like.sets name)
  sets_seen stopped name =
      where_kept _ _ (sets_in tables v name) (sets_in tables w name)
      (keeps_alike stopped) (like.sets name)
