-- The text of each item that is watched of a lawful run tells all of it.
use Rattle.std.proofs.Common.{◌≡◌, ℕ, ◌<◌, ◌^◌, ◌==◌, if◌then◌else◌, Bool, true, false}
use Rattle.std.proofs.Common.{not, leb, List, [], ◌∷◌, ◌++◌, map, length, Option}
use Rattle.std.proofs.Common.{Some, None, refl, sym, subst, arith, ⊎_elim}
use Rattle.std.specs.Prelude.{IfSome, option_and_then}
use Rattle.std.specs.List.{All, cons_option}
use Rattle.std.proofs.lemmas.Bool.{and_parts, cases_lt}
use Rattle.std.proofs.lemmas.Bool.Decides.{nat_tests}
use Rattle.std.proofs.lemmas.List.{get_or_past}
use Rattle.std.proofs.lemmas.List.Elements.{All-nil, All-cons, All-head, All-tail, All-map}
use Rattle.std.proofs.lemmas.List.Elements.{All-append}
use Rattle.bilateral.specs.Rows.{CentreRows, IsCentre, table_of, no_table, point_of, no_point}
use Rattle.bilateral.specs.Rows.{device_of, no_device}
use Rattle.bilateral.proofs.CleanWords.{clean, clean_name, clean_identifier}
use Rattle.sbo_device.specs.declared.key.Key.{Key}
use Rattle.tase_views.specs.declared.event.EventKind.{EventKind}
use Rattle.tase_views.specs.declared.event.EventKind.TheVariants.{Open, Request, Take, Close}
use Rattle.tase_views.specs.declared.event.EventKind.TheVariants.{Update, Table, Tick, Ask}
use Rattle.tase_views.specs.declared.event.EventKind.TheVariants.{TakeOrders, Stop}
use Rattle.tase_views.specs.declared.event.EventKind.TheVariants as events
use Rattle.tase_views.specs.Moves.{Act, opens, takes, closes, reads, writes, defines, deletes}
use Rattle.tase_views.specs.Moves.{calls, Move, acts, updates, tags, ticks, asks, chooses}
use Rattle.tase_views.specs.Moves.{stops, acts_of_call, sort_of, feeding}
use Rattle.tase_views.specs.History.{Past, key_at}
use Rattle.tase_views.specs.OwnTables.{own_tables}
use Rattle.tase_views.specs.Devices.{Deed, deed_of}
use Rattle.tase_views.specs.View.{Seen, other_closed, updated, tagged, asked, seen_in}
use Rattle.tase_views.specs.View.{chose, View, shows_act, deed_seen, other_seen, held_in}
use Rattle.tase_views.specs.View.{seen_by, moves_in}
use Rattle.tase_views.specs.Force.{force_in}
use Rattle.tase_views.proofs.OwnDevices.{Each, deed_is}
use Rattle.tase_views.proofs.DeviceRows.{IsRow, table_rows, each_as}
use Rattle.texts.specs.Journal.Entries.{IsEvent, IsEntry}
use Rattle.tase_audit.specs.Watching.{OwnEntry, open_entry, call_entry, take_entry, close_entry}
use Rattle.tase_audit.specs.Watching.{own_item, seen_item, items_or, items_by, items_at}
use Rattle.tase_audit.specs.Watching.{watch_of}
use Rattle.tase_audit.specs.ItemTexts.{IsUnspaced, IsOwnEntry, IsSeenItem, IsWatchItem}
use Rattle.tase_audit.proofs.LawfulActs.{IsAct, deed_lawful, call_acts}
use Rattle.tase_audit.proofs.Ordinals.{IsWithin, key_within}

-- ---- names have no space

no_blank : (octet : ℕ) → leb 33 octet ≡ true → not (octet == 32) ≡ true
no_blank octet high = grind (arith, nat_tests)

clean_unspaced : (word : List ℕ) → clean word ≡ true → IsUnspaced word
clean_unspaced [] is = refl
clean_unspaced (octet ∷ word) is =
    let parts = and_parts (leb 33 octet) _ is in
    let first : not (octet == 32) ≡ true = no_blank octet parts.0 in
    rw (first, clean_unspaced word parts.1) refl

module _ (rows : CentreRows) (lawful : IsCentre rows) where
  key_unspaced : (peer : ℕ) → IsUnspaced (table_of rows peer).key
  key_unspaced peer =
      ⊎_elim
      (λ there. clean_unspaced (table_of rows peer).key
      (clean_identifier (table_of rows peer).key (lawful.tables peer no_table there).key).octets)
      (λ past. subst (λ t. IsUnspaced t.key) (sym (get_or_past rows.tables peer no_table past))
      refl)
      (cases_lt peer (length rows.tables))

  point_unspaced : (point : ℕ) → IsUnspaced (point_of rows point).name
  point_unspaced point =
      ⊎_elim
      (λ there. clean_unspaced (point_of rows point).name
      (clean_name (point_of rows point).name (lawful.named point no_point there)).octets)
      (λ past. subst (λ t. IsUnspaced t.name) (sym (get_or_past rows.points point no_point past))
      refl)
      (cases_lt point (length rows.points))

  device_unspaced : (device : ℕ) → IsUnspaced (device_of rows device).name
  device_unspaced device =
      ⊎_elim
      (λ there. clean_unspaced (device_of rows device).name
      (clean_name (device_of rows device).name
      (lawful.devices device no_device there).named).octets)
      (λ past. subst (λ t. IsUnspaced t.name)
      (sym (get_or_past rows.devices device no_device past)) refl)
      (cases_lt device (length rows.devices))

  devices_unspaced : (before : List Move) (peer : ℕ)
      → Each (λ d. IsUnspaced d.row.name) (held_in rows (own_tables rows) before peer).devices
  devices_unspaced before peer =
      each_as (IsRow rows) (λ d. IsUnspaced d.row.name)
      (held_in rows (own_tables rows) before peer).devices
      (λ d row. subst (λ r. IsUnspaced r.name) (sym row.2) (device_unspaced row.0))
      (table_rows rows peer (force_in before peer) lawful)

-- ---- what is seen of others

if_lawful : (shown : Bool) (seen : Seen) → IsSeenItem seen
    → IfSome (if shown then Some seen else None) IsSeenItem
if_lawful true seen h = h
if_lawful false seen h = tt

-- what is so of each item of a view
abbrev AllSeen : View → Type 0
AllSeen view = All IsSeenItem view

cons_lawful : (first : Option Seen) (view : View) → IfSome first IsSeenItem → AllSeen view
    → AllSeen (cons_option first view)
cons_lawful None view h all = all
cons_lawful (Some seen) view h all = All-cons IsSeenItem seen view h all

module _ (rows : CentreRows) (lawful : IsCentre rows) (peer : ℕ) (key : Key)
    (small : key.ordinal < 2 ^ 64) where
  deed_shown : (before : List Move) (act : Act) (found : Option Deed) → IsAct act
      → deed_of (held_in rows (own_tables rows) before key.peer) act ≡ found
      → IfSome
      (option_and_then
      (deed_seen (own_tables rows peer) (table_of rows key.peer).key key.ordinal) found)
      IsSeenItem
  deed_shown before act None h e = tt
  deed_shown before act (Some deed) h e =
      if_lawful (shows_act (own_tables rows peer) deed.device.row.name deed.act) _ (
        key_unspaced rows lawful key.peer,
        small,
        deed_is (λ d. IsUnspaced d.row.name) (held_in rows (own_tables rows) before key.peer) act
            deed (devices_unspaced rows lawful before key.peer) e,
        deed_lawful (held_in rows (own_tables rows) before key.peer) act deed h e,
      )

  other_lawful : (before : List Move) (act : Act) → IsAct act
      → IfSome
      (other_seen (own_tables rows peer) (table_of rows key.peer).key
      (held_in rows (own_tables rows) before key.peer) key.ordinal act) IsSeenItem
  other_lawful before closes h =
      if_lawful _ (other_closed (table_of rows key.peer).key key.ordinal)
      (key_unspaced rows lawful key.peer, small)
  other_lawful before opens h = deed_shown before opens _ h refl
  other_lawful before takes h = deed_shown before takes _ h refl
  other_lawful before (reads name) h = deed_shown before (reads name) _ h refl
  other_lawful before (writes name value) h = deed_shown before (writes name value) _ h refl
  other_lawful before (defines set members) h = deed_shown before (defines set members) _ h refl
  other_lawful before (deletes set) h = deed_shown before (deletes set) _ h refl
  other_lawful before (calls call) h = deed_shown before (calls call) _ h refl

  -- what is seen of acts of an association of another
  acts_lawful : (before : List Move) (these : List Act) → (key.peer == peer) ≡ false
      → All IsAct these
      → AllSeen (seen_in rows (own_tables rows) peer before (map (acts key) these))
  acts_lawful before [] apart all = All-nil IsSeenItem
  acts_lawful before (act ∷ these) apart all =
      rw apart
      (cons_lawful _ (seen_in rows (own_tables rows) peer before (map (acts key) these))
      (other_lawful (map (acts key) these ++ before) act (All-head IsAct act these all))
      (acts_lawful before these apart (All-tail IsAct act these all)))

  -- an own entry, or what is seen of the acts of another's
  entry_lawful : (before : List Move) (entry : OwnEntry) (these : List Act) (mine : Bool)
      → (key.peer == peer) ≡ mine → IsOwnEntry entry → All IsAct these
      → All IsWatchItem
      (items_or (if mine then Some (own_item key.ordinal entry) else None)
      (seen_in rows (own_tables rows) peer before (map (acts key) these)))
  entry_lawful before entry these true test h all =
      All-cons IsWatchItem (own_item key.ordinal entry) [] (small, h) (All-nil IsWatchItem)
  entry_lawful before entry these false test h all =
      All-map IsWatchItem seen_item
      (seen_in rows (own_tables rows) peer before (map (acts key) these))
      (acts_lawful before these test all)

-- ---- what is watched of events

one_act : (act : Act) → IsAct act → All IsAct (act ∷ [])
one_act act h = All-cons IsAct act [] h (All-nil IsAct)

module _ (rows : CentreRows) (lawful : IsCentre rows) (peer : ℕ) (past : Past)
    (count : length past < 2 ^ 64) where
  move_lawful : (move : Move)
      → IfSome (seen_by rows (own_tables rows) peer (moves_in past) move) IsSeenItem
      → All IsWatchItem
      (map seen_item (seen_in rows (own_tables rows) peer (moves_in past) (move ∷ [])))
  move_lawful move h =
      All-map IsWatchItem seen_item
      (seen_in rows (own_tables rows) peer (moves_in past) (move ∷ []))
      (cons_lawful (seen_by rows (own_tables rows) peer (moves_in past) move) [] h
      (All-nil IsSeenItem))

  -- a move of the centre's own, whoever's seat it is
  fed : (key : Option Key) (move : Move)
      → IfSome (seen_by rows (own_tables rows) peer (moves_in past) move) IsSeenItem
      → All IsWatchItem (items_by rows peer past key (feeding move))
  fed None move h = move_lawful move h
  fed (Some key) move h = move_lawful move h

  event_lawful : (event : EventKind) (key : Option Key) → IsEvent event
      → IsWithin (length past) key → All IsWatchItem (items_by rows peer past key (sort_of event))
  event_lawful (Open opener) None h within = All-nil IsWatchItem
  event_lawful (Open opener) (Some key) h within =
      entry_lawful rows lawful peer key (omega arith) (moves_in past) open_entry (opens ∷ [])
      (key.peer == peer) refl tt (one_act opens tt)
  event_lawful (Request call) None h within = All-nil IsWatchItem
  event_lawful (Request call) (Some key) h within =
      entry_lawful rows lawful peer key (omega arith) (moves_in past) (call_entry call)
      (acts_of_call call) (key.peer == peer) refl h (call_acts call h.1)
  event_lawful Take None h within = All-nil IsWatchItem
  event_lawful Take (Some key) h within =
      entry_lawful rows lawful peer key (omega arith) (moves_in past) take_entry (takes ∷ [])
      (key.peer == peer) refl tt (one_act takes tt)
  event_lawful Close None h within = All-nil IsWatchItem
  event_lawful Close (Some key) h within =
      entry_lawful rows lawful peer key (omega arith) (moves_in past) close_entry (closes ∷ [])
      (key.peer == peer) refl tt (one_act closes tt)
  event_lawful (Update point value) key h within =
      fed key (updates point value)
      (if_lawful _ (updated (point_of rows point).name value)
      (point_unspaced rows lawful point, h.1, h.2))
  event_lawful (Table chooser variant) key h within =
      fed key (chooses chooser variant)
      (if_lawful (chooser == peer) (chose variant) (omega (arith, h.1)))
  event_lawful (events.Tag device tag) key h within =
      fed key (tags device tag)
      (if_lawful _ (tagged (device_of rows device).name tag)
      (device_unspaced rows lawful device, h.1))
  event_lawful (Tick now) key h within = fed key (ticks now) h
  event_lawful (Ask asker slot) key h within =
      fed key (asks asker slot) (if_lawful (asker == peer) (asked slot) (omega (arith, h.1)))
  event_lawful TakeOrders None h within = All-nil IsWatchItem
  event_lawful TakeOrders (Some key) h within = All-nil IsWatchItem
  event_lawful Stop key h within = fed key stops tt

-- all that is watched of a lawful run is lawful
pub watch_lawful : (rows : CentreRows) (peer : ℕ) (past : Past) → IsCentre rows
    → All IsEntry past → length past < 2 ^ 64 → All IsWatchItem (watch_of rows peer past)
watch_lawful rows peer [] lawful all count = All-nil IsWatchItem
watch_lawful rows peer (entry ∷ past) lawful all count =
    let fewer : length past < 2 ^ 64 = omega arith in
    All-append IsWatchItem (items_at rows peer past entry) (watch_of rows peer past)
    (event_lawful rows lawful peer past fewer entry.event (key_at entry.event past entry.who)
    (All-head IsEntry entry past all).event (key_within entry.event past entry.who))
    (watch_lawful rows peer past lawful (All-tail IsEntry entry past all) fewer)
