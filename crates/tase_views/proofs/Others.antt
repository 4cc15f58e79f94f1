-- What a peer is shown of associations of another with which it has no device in common: nothing.
use Rattle.std.proofs.Common.{◌≡◌, ◌≢◌, ℕ, zero, suc, true, false, not, List, [], ◌∷◌}
use Rattle.std.proofs.Common.{◌++◌, map, Option, Some, None, is_some, refl, ap, arith}
use Rattle.std.specs.Prelude.{All}
use Rattle.std.specs.Option.{option_map_or}
use Rattle.bilateral.specs.Rows.{CentreRows}
use Rattle.sbo_device.specs.declared.key.Key.{Key}
use Rattle.tase_views.specs.Moves.{Act, opens, takes, closes, reads, writes, defines, deletes}
use Rattle.tase_views.specs.Moves.{calls}
use Rattle.tase_views.specs.Moves.{Move, acts, acts_of_call, EventSort, opening}
use Rattle.tase_views.specs.Moves.{requesting, taking, closing, taking_orders, feeding, moves_of}
use Rattle.tase_views.specs.OwnTables.{OwnDevice, OwnTables, Owns, device_named, is_selectable}
use Rattle.tase_views.specs.Force.{force_in}
use Rattle.tase_views.specs.Devices.{Deed, deed_of}
use Rattle.tase_views.specs.View.{held_in, seen_by, seen_in}
use Rattle.tase_views.proofs.OwnDevices.{Each, deed_is}
use Rattle.tase_views.proofs.DeviceRows.{each_as, table_named}
use Rattle.tase_views.proofs.NotShown.{no_deed_unseen, unnamed_unseen, close_unseen}

-- tables name no device that others name
abbrev pub SharesNone : OwnTables → OwnTables → Type 0
SharesNone tables others =
    (name : List ℕ) → is_some (device_named others name) ≡ true → device_named tables name ≡ None

each_all : (P : OwnDevice → Type 0) (devices : List OwnDevice) → Each P devices → All P devices
each_all P [] all k other within = absurd (omega (arith, within))
each_all P (d ∷ devices) all zero other within = all.0
each_all P (d ∷ devices) all (suc k) other within =
    each_all P devices all.1 k other (omega (arith, within))

module _ (rows : CentreRows) (owns : Owns) (peer : ℕ) (before : List Move) (key : Key)
    (apart : key.peer ≢ peer) (none : SharesNone (owns peer) (owns key.peer)) where
  named : Each (λ d. is_some (device_named (owns key.peer) d.row.name) ≡ true)
      (held_in rows owns before key.peer).devices
  named = table_named (owns key.peer) (force_in before key.peer)

  -- an act that is no close is on a device that the peer's tables don't name, or on none
  other_unseen : (act : Act) → act ≢ closes → (found : Option Deed)
      → deed_of (held_in rows owns before key.peer) act ≡ found
      → seen_by rows owns peer before (acts key act) ≡ None
  other_unseen act isnt None is = no_deed_unseen rows owns peer before key act apart isnt is
  other_unseen act isnt (Some deed) is =
      unnamed_unseen rows owns peer before key act deed apart is
      (none deed.device.row.name
      (deed_is (λ d. is_some (device_named (owns key.peer) d.row.name) ≡ true)
      (held_in rows owns before key.peer) act deed named is))

  unselectable : (d : OwnDevice) → is_some (device_named (owns key.peer) d.row.name) ≡ true
      → is_selectable (owns peer) d.row.name ≡ false
  unselectable d there =
      ap (λ (o : Option OwnDevice). option_map_or (λ e. not e.row.direct) o false)
      (none d.row.name there)

  pub act_unseen : (act : Act) → seen_by rows owns peer before (acts key act) ≡ None
  act_unseen closes =
      let devices = (held_in rows owns before key.peer).devices in
      close_unseen rows owns peer before key apart
      (each_all (λ d. is_selectable (owns peer) d.row.name ≡ false) devices
      (each_as (λ d. is_some (device_named (owns key.peer) d.row.name) ≡ true)
      (λ d. is_selectable (owns peer) d.row.name ≡ false) devices unselectable named))
  act_unseen opens = other_unseen opens (λ e. cc) None refl
  act_unseen takes = other_unseen takes (λ e. cc) None refl
  act_unseen (reads name) = other_unseen (reads name) (λ e. cc) _ refl
  act_unseen (writes name value) = other_unseen (writes name value) (λ e. cc) _ refl
  act_unseen (defines set members) = other_unseen (defines set members) (λ e. cc) None refl
  act_unseen (deletes set) = other_unseen (deletes set) (λ e. cc) None refl
  act_unseen (calls call) = other_unseen (calls call) (λ e. cc) None refl

acts_unseen : (rows : CentreRows) (owns : Owns) (peer : ℕ) (before : List Move) (key : Key)
    (these : List Act) → key.peer ≢ peer → SharesNone (owns peer) (owns key.peer)
    → seen_in rows owns peer before (map (acts key) these) ≡ []
acts_unseen rows owns peer before key [] apart none = refl
acts_unseen rows owns peer before key (act ∷ these) apart none =
    rw (
      act_unseen rows owns peer (map (acts key) these ++ before) key apart none act,
      acts_unseen rows owns peer before key these apart none,
    ) refl

-- an event of another peer's association
pub sort_unseen : (rows : CentreRows) (owns : Owns) (peer : ℕ) (before : List Move) (key : Key)
    (sort : EventSort) → ((move : Move) → sort ≢ feeding move) → key.peer ≢ peer
    → SharesNone (owns peer) (owns key.peer)
    → seen_in rows owns peer before (moves_of sort (Some key)) ≡ []
sort_unseen rows owns peer before key (opening opener) fed apart none =
    acts_unseen rows owns peer before key (opens ∷ []) apart none
sort_unseen rows owns peer before key (requesting call) fed apart none =
    acts_unseen rows owns peer before key (acts_of_call call) apart none
sort_unseen rows owns peer before key taking fed apart none =
    acts_unseen rows owns peer before key (takes ∷ []) apart none
sort_unseen rows owns peer before key closing fed apart none =
    acts_unseen rows owns peer before key (closes ∷ []) apart none
sort_unseen rows owns peer before key taking_orders fed apart none = refl
sort_unseen rows owns peer before key (feeding move) fed apart none = absurd (fed move refl)
