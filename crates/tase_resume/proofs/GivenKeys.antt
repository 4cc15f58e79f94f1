-- The associations that act in a history were given their ordinals, and their peers are there; so a
-- peer's view has none that is yet to come.
use Rattle.std.proofs.Common.{◌≡◌, ◌==◌, ℕ, ◌+◌, ◌<◌, ◌≤◌, Bool, true, false, if◌then◌else◌, List}
use Rattle.std.proofs.Common.{[], ◌∷◌, ◌++◌, map, length, Option, Some, None, is_some, refl, sym}
use Rattle.std.proofs.Common.{ap, subst, ◌∙◌, arith}
use Rattle.std.specs.Prelude.{option_and_then}
use Rattle.std.specs.List.{cons_option, list_any}
use Rattle.std.proofs.lemmas.Bool.{eqb-true, eq-eqb, ne_eqb, ltb-true}
use Rattle.std.proofs.lemmas.List.{append-nil}
use Rattle.std.proofs.lemmas.Option.{same_Some}
use Rattle.bilateral.specs.Rows.{CentreRows, IsCentre, table_of, point_of, device_of}
use Rattle.sbo_device.specs.declared.key.Key.{Key}
use Rattle.tase_views.specs.declared.event.Entry.{Entry}
use Rattle.tase_views.specs.Moves.{Act, opens, takes, closes, reads, writes, defines, deletes}
use Rattle.tase_views.specs.Moves.{calls, EventSort, sort_of, opening, requesting, taking, closing}
use Rattle.tase_views.specs.Moves.{taking_orders, feeding, Move, acts, updates, tags, ticks, asks}
use Rattle.tase_views.specs.Moves.{chooses, takes_orders, stops, moves_of, acts_of_call}
use Rattle.tase_views.specs.History.{Past, counts_opening, opens_in, next_key, association_in}
use Rattle.tase_views.specs.History.{key_by}
use Rattle.tase_views.specs.Outcomes.{is_named_there}
use Rattle.tase_views.specs.OwnTables.{OwnDevice, OwnTable, OwnTables, Owns, is_point_of}
use Rattle.tase_views.specs.OwnTables.{device_named, is_selectable}
use Rattle.tase_views.specs.Devices.{Deed, deed_of}
use Rattle.tase_views.specs.View.{Seen, own, other_acted, other_closed, updated, tagged, asked}
use Rattle.tase_views.specs.View.{chose, View, shows_act, deed_seen, other_seen, held_in, view_by}
use Rattle.tase_views.specs.View.{moves_in, key_number}
use Rattle.tase_views.proofs.Seated.{issued}
use Rattle.tase_views.specs.Lived.{IsLived}
use Rattle.tase_resume.proofs.QuietActs.{IsCentres, fed}
use Rattle.tase_resume.proofs.KeysAlike.{name_allows, new_seat}
use Rattle.tase_resume.proofs.PeerOffsets.{key_numbered}
use Rattle.tase_resume.proofs.Fresh.{IsFresh, AreFresh}

-- an association that was opened, of a peer that is there
abbrev pub IsKnown : CentreRows → Past → Key → Type 0
IsKnown rows past key = (key.ordinal < opens_in past key.peer) × (key.peer < length rows.tables)

abbrev pub AreKnown : CentreRows → Past → List Move → Type 0
AreKnown rows past [] = Unit {0}
AreKnown rows past (acts key act ∷ moves) = IsKnown rows past key × AreKnown rows past moves
AreKnown rows past (_ ∷ moves) = AreKnown rows past moves

known_more : (rows : CentreRows) (entry : Entry) (past : Past) (moves : List Move)
    → AreKnown rows past moves → AreKnown rows (entry ∷ past) moves
known_more rows entry past [] known = tt
known_more rows entry past (acts key act ∷ moves) known =
    let below : key.ordinal < opens_in past key.peer = known.0.0 in
    ((omega (arith, below), known.0.1), known_more rows entry past moves known.1)
known_more rows entry past (updates point value ∷ moves) known =
    known_more rows entry past moves known
known_more rows entry past (tags device tag ∷ moves) known =
    known_more rows entry past moves known
known_more rows entry past (ticks now ∷ moves) known = known_more rows entry past moves known
known_more rows entry past (asks asker slot ∷ moves) known =
    known_more rows entry past moves known
known_more rows entry past (chooses chooser variant ∷ moves) known =
    known_more rows entry past moves known
known_more rows entry past (takes_orders ∷ moves) known = known_more rows entry past moves known
known_more rows entry past (stops ∷ moves) known = known_more rows entry past moves known

known_acts : (rows : CentreRows) (past : Past) (key : Key) (these : List Act) (moves : List Move)
    → IsKnown rows past key → AreKnown rows past moves
    → AreKnown rows past (map (acts key) these ++ moves)
known_acts rows past key [] moves known rest = rest
known_acts rows past key (act ∷ these) moves known rest =
    (known, known_acts rows past key these moves known rest)

known_sort : (rows : CentreRows) (past : Past) (sort : EventSort) (key : Option Key)
    (moves : List Move) → IsCentres sort
    → ((k : Key) → key ≡ Some k → IsKnown rows past k) → AreKnown rows past moves
    → AreKnown rows past (moves_of sort key ++ moves)
known_sort rows past (opening peer) None moves centres known rest = rest
known_sort rows past (opening peer) (Some key) moves centres known rest = (known key refl, rest)
known_sort rows past (requesting call) None moves centres known rest = rest
known_sort rows past (requesting call) (Some key) moves centres known rest =
    known_acts rows past key (acts_of_call call) moves (known key refl) rest
known_sort rows past taking None moves centres known rest = rest
known_sort rows past taking (Some key) moves centres known rest = (known key refl, rest)
known_sort rows past closing None moves centres known rest = rest
known_sort rows past closing (Some key) moves centres known rest = (known key refl, rest)
known_sort rows past taking_orders key moves centres known rest = rest
known_sort rows past (feeding (acts by act)) key moves centres known rest = absurd centres
known_sort rows past (feeding (updates point value)) key moves centres known rest = rest
known_sort rows past (feeding (tags device tag)) key moves centres known rest = rest
known_sort rows past (feeding (ticks now)) key moves centres known rest = rest
known_sort rows past (feeding (asks asker slot)) key moves centres known rest = rest
known_sort rows past (feeding (chooses chooser variant)) key moves centres known rest = rest
known_sort rows past (feeding takes_orders) key moves centres known rest = rest
known_sort rows past (feeding stops) key moves centres known rest = rest

pub seat_known : (rows : CentreRows) (past : Past) (who : ℕ) (key : Key) → IsLived rows past
    → association_in past who ≡ Some key → IsKnown rows past key
seat_known rows past who key lived is = (
  issued past who key is,
  (new_seat rows [] (λ w. refl) past who key
      (subst (IsLived rows) (sym (append-nil past)) lived)
      (ap (λ (p : Past). association_in p who) (append-nil past) ∙ is)).1,
)

known_one : (rows : CentreRows) (entry : Entry) (past : Past) (key : Key)
    → IsKnown rows past key → IsKnown rows (entry ∷ past) key
known_one rows entry past key known =
    let below : key.ordinal < opens_in past key.peer = known.0 in
    (omega (arith, below), known.1)

known_key : (rows : CentreRows) (entry : Entry) (past : Past) (sort : EventSort)
    (before : Option Key) (key : Key) → sort_of entry.event ≡ sort
    → is_named_there rows sort ≡ true → (before ≡ Some key → IsKnown rows past key)
    → key_by sort past before ≡ Some key → IsKnown rows (entry ∷ past) key
known_key rows entry past (opening peer) before key sort there had is =
    subst (IsKnown rows (entry ∷ past)) (same_Some (next_key past peer) key is) (
      subst (λ (s : EventSort). opens_in past peer < counts_opening s peer + opens_in past peer)
          (sym sort) (rw (eq-eqb peer peer refl) (omega arith)),
      ltb-true peer (length rows.tables) there,
    )
known_key rows entry past (requesting call) before key sort there had is =
    known_one rows entry past key (had is)
known_key rows entry past taking before key sort there had is =
    known_one rows entry past key (had is)
known_key rows entry past closing before key sort there had is =
    known_one rows entry past key (had is)
known_key rows entry past taking_orders before key sort there had is =
    known_one rows entry past key (had is)
known_key rows entry past (feeding move) before key sort there had is =
    known_one rows entry past key (had is)

pub known_moves : (rows : CentreRows) (past : Past) → IsLived rows past
    → AreKnown rows past (moves_in past)
known_moves rows [] lived = tt
known_moves rows (entry ∷ past) lived =
    known_sort rows (entry ∷ past) (sort_of entry.event) (key_by (sort_of entry.event) past
    (association_in past entry.who)) (moves_in past) (fed entry.event)
    (λ k is. known_key rows entry past (sort_of entry.event) (association_in past entry.who) k refl
    (name_allows rows entry past lived) (λ has. seat_known rows past entry.who k lived.1 has) is)
    (known_more rows entry past (moves_in past) (known_moves rows past lived.1))

-- in a peer's view

pub fresh_if : (n : ℕ) (b : Bool) (seen : Seen) (view : View) → IsFresh n seen → AreFresh n view
    → AreFresh n (cons_option (if b then Some seen else None) view)
fresh_if n true seen view fresh rest = (fresh, rest)
fresh_if n false seen view fresh rest = rest

deed_fresh : (n : ℕ) (tables : OwnTables) (key : List ℕ) (ordinal : ℕ) (deed : Option Deed)
    (view : View) → (key_number key == 0) ≡ false → AreFresh n view
    → AreFresh n (cons_option (option_and_then (deed_seen tables key ordinal) deed) view)
deed_fresh n tables key ordinal None view some rest = rest
deed_fresh n tables key ordinal (Some deed) view some rest =
    fresh_if n (shows_act tables deed.device.row.name deed.act)
    (other_acted key ordinal deed.device.row.name deed.act) view some rest

pub other_fresh : (n : ℕ) (tables : OwnTables) (key : List ℕ) (table : OwnTable) (ordinal : ℕ)
    (act : Act) (view : View) → (key_number key == 0) ≡ false → AreFresh n view
    → AreFresh n (cons_option (other_seen tables key table ordinal act) view)
other_fresh n tables key table ordinal closes view some rest =
    fresh_if n (list_any (λ (d : OwnDevice). is_selectable tables d.row.name) table.devices)
    (other_closed key ordinal) view tt rest
other_fresh n tables key table ordinal opens view some rest = rest
other_fresh n tables key table ordinal takes view some rest = rest
other_fresh n tables key table ordinal (reads name) view some rest =
    deed_fresh n tables key ordinal (deed_of table (reads name)) view some rest
other_fresh n tables key table ordinal (writes name value) view some rest =
    deed_fresh n tables key ordinal (deed_of table (writes name value)) view some rest
other_fresh n tables key table ordinal (defines set members) view some rest = rest
other_fresh n tables key table ordinal (deletes set) view some rest = rest
other_fresh n tables key table ordinal (calls call) view some rest = rest

pub fresh_seen : (rows : CentreRows) (owns : Owns) (peer n : ℕ) (past : Past) (moves : List Move)
    → IsCentre rows → opens_in past peer ≤ n → AreKnown rows past moves
    → AreFresh n (view_by rows owns peer moves)
fresh_seen rows owns peer n past [] lawful yet known = tt
fresh_seen rows owns peer n past (acts key act ∷ before) lawful yet known =
    by (key.peer == peer) refl (fresh_seen rows owns peer n past before lawful yet known.1)
  where
    by : (b : Bool) → (key.peer == peer) ≡ b → AreFresh n (view_by rows owns peer before)
        → AreFresh n (cons_option (if b then Some (own key.ordinal act)
        else other_seen (owns peer) (table_of rows key.peer).key
        (held_in rows owns before key.peer) key.ordinal act) (view_by rows owns peer before))
    by true e rest =
        let below : key.ordinal < opens_in past peer =
        subst (λ p. key.ordinal < opens_in past p) (eqb-true key.peer peer e) known.0.0 in
        (ne_eqb key.ordinal n (λ same. omega (arith, below, yet, same)), rest)
    by false e rest =
        other_fresh n (owns peer) (table_of rows key.peer).key
        (held_in rows owns before key.peer) key.ordinal act (view_by rows owns peer before)
        (key_numbered rows key.peer lawful known.0.1) rest
fresh_seen rows owns peer n past (updates point value ∷ before) lawful yet known =
    fresh_if n (is_point_of rows peer point) (updated (point_of rows point).name value)
    (view_by rows owns peer before) tt (fresh_seen rows owns peer n past before lawful yet known)
fresh_seen rows owns peer n past (tags device tag ∷ before) lawful yet known =
    fresh_if n (is_some (device_named (owns peer) (device_of rows device).name))
    (tagged (device_of rows device).name tag) (view_by rows owns peer before) tt
    (fresh_seen rows owns peer n past before lawful yet known)
fresh_seen rows owns peer n past (ticks now ∷ before) lawful yet known =
    (tt, fresh_seen rows owns peer n past before lawful yet known)
fresh_seen rows owns peer n past (asks asker slot ∷ before) lawful yet known =
    fresh_if n (asker == peer) (asked slot) (view_by rows owns peer before) tt
    (fresh_seen rows owns peer n past before lawful yet known)
fresh_seen rows owns peer n past (chooses chooser variant ∷ before) lawful yet known =
    fresh_if n (chooser == peer) (chose variant) (view_by rows owns peer before) tt
    (fresh_seen rows owns peer n past before lawful yet known)
fresh_seen rows owns peer n past (takes_orders ∷ before) lawful yet known =
    fresh_seen rows owns peer n past before lawful yet known
fresh_seen rows owns peer n past (stops ∷ before) lawful yet known =
    (tt, fresh_seen rows owns peer n past before lawful yet known)
