-- What a peer isn't shown.
use Rattle.std.proofs.Common.{◌≡◌, ◌≢◌, ℕ, true, false, not, List, Option}
use Rattle.std.proofs.Common.{Some, None, is_some, if◌then◌else◌, refl, sym, ap, ◌∙◌}
use Rattle.std.specs.Prelude.{All, option_and_then}
use Rattle.std.specs.Option.{option_map_or}
use Rattle.std.proofs.lemmas.Bool.{ne_eqb}
use Rattle.std.proofs.lemmas.List.Folds.{list_any_none}
use Rattle.tase_points.specs.Sample.{Sample}
use Rattle.bilateral.specs.declared.rows.Table.{Table}
use Rattle.bilateral.specs.Rows.{CentreRows, table_of, variants_of, place_of_see, device_of}
use Rattle.bilateral.specs.Rows.{point_of}
use Rattle.sbo_device.specs.declared.key.Key.{Key}
use Rattle.sbo_device.specs.Moves.{Tag, DeviceAct, selecting, operating, tagging}
use Rattle.tase_views.specs.Moves.{Act, opens, takes, closes, reads, writes, defines, deletes}
use Rattle.tase_views.specs.Moves.{calls}
use Rattle.tase_views.specs.Moves.{Move, acts, updates, tags, asks, chooses}
use Rattle.tase_views.specs.OwnTables.{OwnDevice, OwnTable, OwnTables, Owns, device_named}
use Rattle.tase_views.specs.OwnTables.{is_selectable}
use Rattle.tase_views.specs.Devices.{Deed, deed_of}
use Rattle.tase_views.specs.View.{updated, tagged, other_closed}
use Rattle.tase_views.specs.View.{shows_act, deed_seen, other_seen, held_in, seen_by}

-- an act of another association is seen as an act of the other
others_act : (rows : CentreRows) (owns : Owns) (peer : ℕ) (before : List Move) (key : Key)
    (act : Act) → key.peer ≢ peer
    → seen_by rows owns peer before (acts key act)
    ≡ other_seen (owns peer) (table_of rows key.peer).key
    (held_in rows owns before key.peer) key.ordinal act
others_act rows owns peer before key act apart = rw (ne_eqb key.peer peer apart) refl

-- an act that is no close is seen as what it is to a device
seen_deed : (tables : OwnTables) (key : List ℕ) (table : OwnTable) (ordinal : ℕ) (act : Act)
    → act ≢ closes
    → other_seen tables key table ordinal act
    ≡ option_and_then (deed_seen tables key ordinal) (deed_of table act)
seen_deed tables key table ordinal closes isnt = absurd (isnt refl)
seen_deed tables key table ordinal opens isnt = refl
seen_deed tables key table ordinal takes isnt = refl
seen_deed tables key table ordinal (reads name) isnt = refl
seen_deed tables key table ordinal (writes name value) isnt = refl
seen_deed tables key table ordinal (defines set members) isnt = refl
seen_deed tables key table ordinal (deletes set) isnt = refl
seen_deed tables key table ordinal (calls call) isnt = refl

-- whatever is something to a device is no close
no_close : (table : OwnTable) (act : Act) (deed : Deed) → deed_of table act ≡ Some deed
    → act ≢ closes
no_close table act deed e same = absurd (let f = sym (ap (deed_of table) same) ∙ e in cc)

pub no_deed_unseen : (rows : CentreRows) (owns : Owns) (peer : ℕ) (before : List Move) (key : Key)
    (act : Act) → key.peer ≢ peer → act ≢ closes
    → deed_of (held_in rows owns before key.peer) act ≡ None
    → seen_by rows owns peer before (acts key act) ≡ None
no_deed_unseen rows owns peer before key act apart isnt none =
    others_act rows owns peer before key act apart
    ∙ seen_deed (owns peer) (table_of rows key.peer).key
    (held_in rows owns before key.peer) key.ordinal act
    isnt
    ∙ ap (option_and_then (deed_seen (owns peer) (table_of rows key.peer).key key.ordinal)) none

-- a deed that isn't shown
deed_unseen : (rows : CentreRows) (owns : Owns) (peer : ℕ) (before : List Move) (key : Key)
    (act : Act) (deed : Deed) → key.peer ≢ peer
    → deed_of (held_in rows owns before key.peer) act ≡ Some deed
    → shows_act (owns peer) deed.device.row.name deed.act ≡ false
    → seen_by rows owns peer before (acts key act) ≡ None
deed_unseen rows owns peer before key act deed apart is unseen =
    others_act rows owns peer before key act apart
    ∙ seen_deed (owns peer) (table_of rows key.peer).key
    (held_in rows owns before key.peer) key.ordinal act
    (no_close (held_in rows owns before key.peer) act deed is)
    ∙ ap (option_and_then (deed_seen (owns peer) (table_of rows key.peer).key key.ordinal)) is
    ∙ rw unseen refl

unnamed_act : (tables : OwnTables) (name : List ℕ) (act : DeviceAct)
    → device_named tables name ≡ None → shows_act tables name act ≡ false
unnamed_act tables name selecting none =
    ap (λ (d : Option OwnDevice). option_map_or (λ e. not e.row.direct) d false) none
unnamed_act tables name (operating value) none =
    ap (λ (d : Option OwnDevice). option_map_or (λ e. not e.row.direct) d false) none
unnamed_act tables name (tagging tag) none = ap (λ (d : Option OwnDevice). is_some d) none

pub unnamed_unseen : (rows : CentreRows) (owns : Owns) (peer : ℕ) (before : List Move) (key : Key)
    (act : Act) (deed : Deed) → key.peer ≢ peer
    → deed_of (held_in rows owns before key.peer) act ≡ Some deed
    → device_named (owns peer) deed.device.row.name ≡ None
    → seen_by rows owns peer before (acts key act) ≡ None
unnamed_unseen rows owns peer before key act deed apart is none =
    deed_unseen rows owns peer before key act deed apart is
    (unnamed_act (owns peer) deed.device.row.name deed.act none)

direct_act : (tables : OwnTables) (name : List ℕ) (act : DeviceAct) (d : OwnDevice)
    → ((tag : Tag) → act ≢ tagging tag) → device_named tables name ≡ Some d
    → d.row.direct ≡ true → shows_act tables name act ≡ false
direct_act tables name selecting d isnt is direct =
    ap (λ (o : Option OwnDevice). option_map_or (λ e. not e.row.direct) o false) is ∙ ap not direct
direct_act tables name (operating value) d isnt is direct =
    ap (λ (o : Option OwnDevice). option_map_or (λ e. not e.row.direct) o false) is ∙ ap not direct
direct_act tables name (tagging tag) d isnt is direct = absurd (isnt tag refl)

pub direct_unseen : (rows : CentreRows) (owns : Owns) (peer : ℕ) (before : List Move) (key : Key)
    (act : Act) (deed : Deed) (d : OwnDevice) → key.peer ≢ peer
    → deed_of (held_in rows owns before key.peer) act ≡ Some deed
    → ((tag : Tag) → deed.act ≢ tagging tag)
    → device_named (owns peer) deed.device.row.name ≡ Some d → d.row.direct ≡ true
    → seen_by rows owns peer before (acts key act) ≡ None
direct_unseen rows owns peer before key act deed d apart is isnt named direct =
    deed_unseen rows owns peer before key act deed apart is
    (direct_act (owns peer) deed.device.row.name deed.act d isnt named direct)

pub close_unseen : (rows : CentreRows) (owns : Owns) (peer : ℕ) (before : List Move) (key : Key)
    → key.peer ≢ peer
    → All (λ (d : OwnDevice). is_selectable (owns peer) d.row.name ≡ false)
    (held_in rows owns before key.peer).devices
    → seen_by rows owns peer before (acts key closes) ≡ None
close_unseen rows owns peer before key apart none =
    others_act rows owns peer before key closes apart
    ∙ ap (λ b. if b then Some (other_closed (table_of rows key.peer).key key.ordinal) else None)
    (list_any_none (λ (d : OwnDevice). is_selectable (owns peer) d.row.name)
    (held_in rows owns before key.peer).devices none)

pub update_unseen : (rows : CentreRows) (owns : Owns) (peer point : ℕ) (before : List Move)
    (value : Sample) → All (λ table. place_of_see table point ≡ None) (variants_of rows peer)
    → seen_by rows owns peer before (updates point value) ≡ None
update_unseen rows owns peer point before value none =
    ap (λ b. if b then Some (updated (point_of rows point).name value) else None)
    (list_any_none (λ (table : Table). is_some (place_of_see table point)) (variants_of rows peer)
    (λ k table within. ap (λ (o : Option ℕ). is_some o) (none k table within)))

pub tag_unseen : (rows : CentreRows) (owns : Owns) (peer device : ℕ) (before : List Move)
    (tag : Tag) → device_named (owns peer) (device_of rows device).name ≡ None
    → seen_by rows owns peer before (tags device tag) ≡ None
tag_unseen rows owns peer device before tag none =
    ap (λ (o : Option OwnDevice).
    if is_some o then Some (tagged (device_of rows device).name tag) else None) none

pub request_unseen : (rows : CentreRows) (owns : Owns) (peer other slot : ℕ) (before : List Move)
    → other ≢ peer → seen_by rows owns peer before (asks other slot) ≡ None
request_unseen rows owns peer other slot before apart = rw (ne_eqb other peer apart) refl

pub choice_unseen : (rows : CentreRows) (owns : Owns) (peer other variant : ℕ)
    (before : List Move) → other ≢ peer
    → seen_by rows owns peer before (chooses other variant) ≡ None
choice_unseen rows owns peer other variant before apart = rw (ne_eqb other peer apart) refl
