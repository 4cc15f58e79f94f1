-- A peer sees its own associations opened, acting and closed as all moves have them.
use Rattle.std.proofs.Common.{◌≡◌, ◌==◌, ℕ, Bool, true, false, if◌then◌else◌, List, [], ◌∷◌, Option}
use Rattle.std.proofs.Common.{Some, None, is_some, refl, sym, ap, ◌∙◌}
use Rattle.std.specs.Prelude.{option_and_then}
use Rattle.std.specs.List.{cons_option, list_any}
use Rattle.std.proofs.lemmas.Bool.{eqb-true}
use Rattle.bilateral.specs.Rows.{CentreRows, table_of, point_of, device_of}
use Rattle.sbo_device.specs.declared.key.Key.{Key}
use Rattle.tase_views.specs.Moves.{Act, opens, takes, closes, reads, writes, defines, deletes}
use Rattle.tase_views.specs.Moves.{calls, Move, acts, updates, tags, ticks, asks, chooses}
use Rattle.tase_views.specs.Moves.{takes_orders, stops}
use Rattle.tase_views.specs.OwnTables.{OwnDevice, OwnTable, OwnTables, Owns, is_point_of}
use Rattle.tase_views.specs.OwnTables.{device_named, is_selectable}
use Rattle.tase_views.specs.Devices.{Deed, deed_of}
use Rattle.tase_views.specs.View.{Seen, own, other_acted, other_closed, updated, tagged, asked}
use Rattle.tase_views.specs.View.{chose, ticked, stopped, View, shows_act, deed_seen, other_seen}
use Rattle.tase_views.specs.View.{held_in, view_by}
use Rattle.tase_views.proofs.OpenKeys.{among, without, open_of, AreOrderly}

-- the ordinals of the peer's open associations in a view
abbrev pub open_seen : View → List ℕ
open_seen [] = []
open_seen (own ordinal opens ∷ view) = ordinal ∷ open_seen view
open_seen (own ordinal closes ∷ view) = without ordinal (open_seen view)
open_seen (_ ∷ view) = open_seen view

-- no association of the peer acts but between its open and its close
abbrev pub AreSeenOrderly : View → Type 0
AreSeenOrderly [] = Unit {0}
AreSeenOrderly (own ordinal opens ∷ view) = AreSeenOrderly view
AreSeenOrderly (own ordinal act ∷ view) =
    (among ordinal (open_seen view) ≡ true) × AreSeenOrderly view
AreSeenOrderly (_ ∷ view) = AreSeenOrderly view

-- a view with what may be seen beside the peer's own acts
abbrev IsBeside : Seen → Type 0
IsBeside (own ordinal act) = ⊥
IsBeside _ = Unit {0}

beside_open : (seen : Seen) (view : View) → IsBeside seen → open_seen (seen ∷ view) ≡ open_seen view
beside_open (own ordinal act) view none = absurd none
beside_open (other_acted key ordinal device act) view none = refl
beside_open (other_closed key ordinal) view none = refl
beside_open (updated name value) view none = refl
beside_open (tagged device tag) view none = refl
beside_open (asked s) view none = refl
beside_open (chose variant) view none = refl
beside_open (ticked now) view none = refl
beside_open stopped view none = refl

beside_orderly : (seen : Seen) (view : View) → IsBeside seen → AreSeenOrderly view
    → AreSeenOrderly (seen ∷ view)
beside_orderly (own ordinal act) view none rest = absurd none
beside_orderly (other_acted key ordinal device act) view none rest = rest
beside_orderly (other_closed key ordinal) view none rest = rest
beside_orderly (updated name value) view none rest = rest
beside_orderly (tagged device tag) view none rest = rest
beside_orderly (asked s) view none rest = rest
beside_orderly (chose variant) view none rest = rest
beside_orderly (ticked now) view none rest = rest
beside_orderly stopped view none rest = rest

-- what may be seen beside them, or nothing
abbrev IsBesides : Option Seen → Type 0
IsBesides None = Unit {0}
IsBesides (Some seen) = IsBeside seen

besides_open : (seen : Option Seen) (view : View) → IsBesides seen
    → open_seen (cons_option seen view) ≡ open_seen view
besides_open None view none = refl
besides_open (Some seen) view none = beside_open seen view none

besides_orderly : (seen : Option Seen) (view : View) → IsBesides seen → AreSeenOrderly view
    → AreSeenOrderly (cons_option seen view)
besides_orderly None view none rest = rest
besides_orderly (Some seen) view none rest = beside_orderly seen view none rest

beside_if : (b : Bool) (seen : Seen) → IsBeside seen → IsBesides (if b then Some seen else None)
beside_if true seen beside = beside
beside_if false seen beside = tt

deed_beside : (tables : OwnTables) (key : List ℕ) (ordinal : ℕ) (deed : Option Deed)
    → IsBesides (option_and_then (deed_seen tables key ordinal) deed)
deed_beside tables key ordinal None = tt
deed_beside tables key ordinal (Some deed) =
    beside_if (shows_act tables deed.device.row.name deed.act)
    (other_acted key ordinal deed.device.row.name deed.act) tt

other_beside : (tables : OwnTables) (key : List ℕ) (table : OwnTable) (ordinal : ℕ) (act : Act)
    → IsBesides (other_seen tables key table ordinal act)
other_beside tables key table ordinal closes =
    beside_if (list_any (λ (d : OwnDevice). is_selectable tables d.row.name) table.devices)
    (other_closed key ordinal) tt
other_beside tables key table ordinal opens = tt
other_beside tables key table ordinal takes = tt
other_beside tables key table ordinal (reads name) =
    deed_beside tables key ordinal (deed_of table (reads name))
other_beside tables key table ordinal (writes name value) =
    deed_beside tables key ordinal (deed_of table (writes name value))
other_beside tables key table ordinal (defines set members) = tt
other_beside tables key table ordinal (deletes set) = tt
other_beside tables key table ordinal (calls call) = tt

behind_act : (key : Key) (act : Act) (before : List Move) → AreOrderly (acts key act ∷ before)
    → AreOrderly before
behind_act key opens before orderly = orderly
behind_act key closes before orderly = orderly.1
behind_act key takes before orderly = orderly.1
behind_act key (reads item) before orderly = orderly.1
behind_act key (writes item value) before orderly = orderly.1
behind_act key (defines set members) before orderly = orderly.1
behind_act key (deletes set) before orderly = orderly.1
behind_act key (calls call) before orderly = orderly.1

module _ (rows : CentreRows) (owns : Owns) (peer : ℕ) where
  quiet_open : (b : Bool) (ordinal : ℕ) (act : Act) (other : Option Seen) (view : View)
      (before : List Move) → IsBesides other
      → open_seen (own ordinal act ∷ view) ≡ open_seen view → open_seen view ≡ open_of peer before
      → open_seen (cons_option (if b then Some (own ordinal act) else other) view)
      ≡ open_of peer before
  quiet_open true ordinal act other view before none quiet same = quiet ∙ same
  quiet_open false ordinal act other view before none quiet same =
      besides_open other view none ∙ same

  act_open : (key : Key) (act : Act) (other : Option Seen) (view : View) (before : List Move)
      → IsBesides other → open_seen view ≡ open_of peer before
      → open_seen (cons_option (if key.peer == peer then Some (own key.ordinal act) else other)
      view)
      ≡ open_of peer (acts key act ∷ before)
  act_open key opens other view before none same = by (key.peer == peer)
    where
      by : (b : Bool)
          → open_seen (cons_option (if b then Some (own key.ordinal opens) else other) view)
          ≡ (if b then key.ordinal ∷ open_of peer before else open_of peer before)
      by true = ap (λ (l : List ℕ). key.ordinal ∷ l) same
      by false = besides_open other view none ∙ same
  act_open key closes other view before none same = by (key.peer == peer)
    where
      by : (b : Bool)
          → open_seen (cons_option (if b then Some (own key.ordinal closes) else other) view)
          ≡ (if b then without key.ordinal (open_of peer before) else open_of peer before)
      by true = ap (without key.ordinal) same
      by false = besides_open other view none ∙ same
  act_open key takes other view before none same =
      quiet_open (key.peer == peer) key.ordinal takes other view before none refl same
  act_open key (reads name) other view before none same =
      quiet_open (key.peer == peer) key.ordinal (reads name) other view before none refl same
  act_open key (writes name value) other view before none same =
      quiet_open (key.peer == peer) key.ordinal (writes name value) other view before none refl same
  act_open key (defines set members) other view before none same =
      quiet_open (key.peer == peer) key.ordinal (defines set members) other view before none refl
      same
  act_open key (deletes set) other view before none same =
      quiet_open (key.peer == peer) key.ordinal (deletes set) other view before none refl same
  act_open key (calls call) other view before none same =
      quiet_open (key.peer == peer) key.ordinal (calls call) other view before none refl same

  pub open_alike : (moves : List Move)
      → open_seen (view_by rows owns peer moves) ≡ open_of peer moves
  open_alike [] = refl
  open_alike (acts key act ∷ before) =
      act_open key act _ (view_by rows owns peer before) before
      (other_beside (owns peer) (table_of rows key.peer).key (held_in rows owns before key.peer)
      key.ordinal act) (open_alike before)
  open_alike (updates point value ∷ before) =
      besides_open _ (view_by rows owns peer before)
      (beside_if (is_point_of rows peer point) (updated (point_of rows point).name value) tt)
      ∙ open_alike before
  open_alike (tags device tag ∷ before) =
      besides_open _ (view_by rows owns peer before)
      (beside_if (is_some (device_named (owns peer) (device_of rows device).name))
      (tagged (device_of rows device).name tag) tt)
      ∙ open_alike before
  open_alike (ticks now ∷ before) = open_alike before
  open_alike (asks asker slot ∷ before) =
      besides_open _ (view_by rows owns peer before) (beside_if (asker == peer) (asked slot) tt)
      ∙ open_alike before
  open_alike (chooses chooser variant ∷ before) =
      besides_open _ (view_by rows owns peer before)
      (beside_if (chooser == peer) (chose variant) tt) ∙ open_alike before
  open_alike (takes_orders ∷ before) = open_alike before
  open_alike (stops ∷ before) = open_alike before

  mine : (key : Key) (view : View) (before : List Move) → (key.peer == peer) ≡ true
      → open_seen view ≡ open_of peer before → among key.ordinal (open_of key.peer before) ≡ true
      → among key.ordinal (open_seen view) ≡ true
  mine key view before own_act same there =
      ap (among key.ordinal) same
      ∙ ap (λ p. among key.ordinal (open_of p before)) (sym (eqb-true key.peer peer own_act))
      ∙ there

  quiet_orderly : (b : Bool) (key : Key) (act : Act) (other : Option Seen) (view : View)
      (before : List Move) → IsBesides other → (key.peer == peer) ≡ b
      → open_seen view ≡ open_of peer before → among key.ordinal (open_of key.peer before) ≡ true
      → (among key.ordinal (open_seen view) ≡ true
      → AreSeenOrderly (own key.ordinal act ∷ view))
      → AreSeenOrderly view
      → AreSeenOrderly (cons_option (if b then Some (own key.ordinal act) else other) view)
  quiet_orderly true key act other view before none e same there acted rest =
      acted (mine key view before e same there)
  quiet_orderly false key act other view before none e same there acted rest =
      besides_orderly other view none rest

  act_orderly : (key : Key) (act : Act) (other : Option Seen) (view : View) (before : List Move)
      → IsBesides other → open_seen view ≡ open_of peer before → AreOrderly (acts key act ∷ before)
      → AreSeenOrderly view
      → AreSeenOrderly
      (cons_option (if key.peer == peer then Some (own key.ordinal act) else other) view)
  act_orderly key opens other view before none same orderly rest = by (key.peer == peer)
    where
      by : (b : Bool)
          → AreSeenOrderly (cons_option (if b then Some (own key.ordinal opens) else other) view)
      by true = rest
      by false = besides_orderly other view none rest
  act_orderly key closes other view before none same orderly rest =
      quiet_orderly (key.peer == peer) key closes other view before none refl same orderly.0
      (λ t. (t, rest)) rest
  act_orderly key takes other view before none same orderly rest =
      quiet_orderly (key.peer == peer) key takes other view before none refl same orderly.0
      (λ t. (t, rest)) rest
  act_orderly key (reads name) other view before none same orderly rest =
      quiet_orderly (key.peer == peer) key (reads name) other view before none refl same orderly.0
      (λ t. (t, rest)) rest
  act_orderly key (writes name value) other view before none same orderly rest =
      quiet_orderly (key.peer == peer) key (writes name value) other view before none refl same
      orderly.0 (λ t. (t, rest)) rest
  act_orderly key (defines set members) other view before none same orderly rest =
      quiet_orderly (key.peer == peer) key (defines set members) other view before none refl same
      orderly.0 (λ t. (t, rest)) rest
  act_orderly key (deletes set) other view before none same orderly rest =
      quiet_orderly (key.peer == peer) key (deletes set) other view before none refl same orderly.0
      (λ t. (t, rest)) rest
  act_orderly key (calls call) other view before none same orderly rest =
      quiet_orderly (key.peer == peer) key (calls call) other view before none refl same orderly.0
      (λ t. (t, rest)) rest

  pub orderly_alike : (moves : List Move) → AreOrderly moves
      → AreSeenOrderly (view_by rows owns peer moves)
  orderly_alike [] orderly = tt
  orderly_alike (acts key act ∷ before) orderly =
      act_orderly key act _ (view_by rows owns peer before) before
      (other_beside (owns peer) (table_of rows key.peer).key (held_in rows owns before key.peer)
      key.ordinal act) (open_alike before) orderly
      (orderly_alike before (behind_act key act before orderly))
  orderly_alike (updates point value ∷ before) orderly =
      besides_orderly _ (view_by rows owns peer before)
      (beside_if (is_point_of rows peer point) (updated (point_of rows point).name value) tt)
      (orderly_alike before orderly)
  orderly_alike (tags device tag ∷ before) orderly =
      besides_orderly _ (view_by rows owns peer before)
      (beside_if (is_some (device_named (owns peer) (device_of rows device).name))
      (tagged (device_of rows device).name tag) tt)
      (orderly_alike before orderly)
  orderly_alike (ticks now ∷ before) orderly = orderly_alike before orderly
  orderly_alike (asks asker slot ∷ before) orderly =
      besides_orderly _ (view_by rows owns peer before) (beside_if (asker == peer) (asked slot) tt)
      (orderly_alike before orderly)
  orderly_alike (chooses chooser variant ∷ before) orderly =
      besides_orderly _ (view_by rows owns peer before)
      (beside_if (chooser == peer) (chose variant) tt) (orderly_alike before orderly)
  orderly_alike (takes_orders ∷ before) orderly = orderly_alike before orderly
  orderly_alike (stops ∷ before) orderly = orderly_alike before orderly
