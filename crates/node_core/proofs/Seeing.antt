-- What the moves of an event leave of a property of a peer's view.
use Rattle.std.proofs.Common.{◌≡◌, ◌==◌, ℕ, ◌+◌, Bool, true, false, List, [], ◌∷◌, ◌++◌, map}
use Rattle.std.proofs.Common.{Option, Some, None, is_some, refl, ◌∙◌, arith}
use Rattle.std.specs.Prelude.{if◌then◌else◌, option_and_then}
use Rattle.std.specs.List.{cons_option, list_any}
use Rattle.bilateral.specs.Rows.{CentreRows, table_of, point_of, device_of}
use Rattle.sbo_device.specs.declared.key.Key.{Key}
use Rattle.sbo_device.specs.Moves.{DeviceAct}
use Rattle.tase_views.specs.declared.event.EventKind.{EventKind}
use Rattle.tase_views.specs.declared.event.EventKind.TheVariants.{Open, Request, Take, Close}
use Rattle.tase_views.specs.declared.event.EventKind.TheVariants.{Update, Table, Tag, Tick, Ask}
use Rattle.tase_views.specs.declared.event.EventKind.TheVariants.{TakeOrders, Stop}
use Rattle.tase_views.specs.History.{Past, association_in, opens_in}
use Rattle.tase_views.specs.OwnTables.{OwnDevice, OwnTable, OwnTables, own_tables, is_point_of}
use Rattle.tase_views.specs.OwnTables.{is_selectable, device_named}
use Rattle.tase_views.specs.Devices.{Deed, deed_of}
use Rattle.tase_views.specs.Moves.{Act, opens, takes, closes, reads, writes, defines, deletes}
use Rattle.tase_views.specs.Moves.{calls}
use Rattle.tase_views.specs.Moves.{Move, acts, moves_by, acts_of_call}
use Rattle.tase_views.specs.View.{own, other_acted, other_closed, View, shows_act, deed_seen, asked}
use Rattle.tase_views.specs.View.{other_seen, held_in, view_by, moves_in, view_of, updated, chose}
use Rattle.tase_views.specs.View.{tagged}
use Rattle.node_core.specs.PeerParts.{opens_seen, EachAct}
use Rattle.node_core.proofs.CallActs.{IsOpenless, openless_call}

-- a property of views that acts of others leave, and those of the peer itself that are so
pub record IsKept (P : View → Type 0) (Q : Act → Type 0) : Type 0 where
  pub acted : (key : List ℕ) (ordinal : ℕ) (device : List ℕ) (act : DeviceAct) (view : View)
      → P view → P (other_acted key ordinal device act ∷ view)
  pub closed : (key : List ℕ) (ordinal : ℕ) (view : View)
      → P view → P (other_closed key ordinal ∷ view)
  pub own : (ordinal : ℕ) (act : Act) (view : View) → Q act → P view → P (own ordinal act ∷ view)

module _ (P : View → Type 0) (Q : Act → Type 0) (k : IsKept P Q) where
  by_deed : (tables : OwnTables) (key : List ℕ) (ordinal : ℕ) (view : View) (found : Option Deed)
      → P view → P (cons_option (option_and_then (deed_seen tables key ordinal) found) view)
  by_deed tables key ordinal view None p = p
  by_deed tables key ordinal view (Some deed) p =
      elim (shows_act tables deed.device.row.name deed.act) as
      (λ b. P (cons_option (if b then Some (other_acted key ordinal deed.device.row.name deed.act)
      else None) view))
      [ true ↦ k.acted key ordinal deed.device.row.name deed.act view p | false ↦ p ]

  -- another's act
  pub by_other : (tables : OwnTables) (key : List ℕ) (table : OwnTable) (ordinal : ℕ) (view : View)
      (act : Act) → P view → P (cons_option (other_seen tables key table ordinal act) view)
  by_other tables key table ordinal view closes p =
      elim (list_any (λ (d : OwnDevice). is_selectable tables d.row.name) table.devices) as
      (λ b. P (cons_option (if b then Some (other_closed key ordinal) else None) view))
      [ true ↦ k.closed key ordinal view p | false ↦ p ]
  by_other tables key table ordinal view opens p =
      by_deed tables key ordinal view (deed_of table opens) p
  by_other tables key table ordinal view takes p =
      by_deed tables key ordinal view (deed_of table takes) p
  by_other tables key table ordinal view (reads name) p =
      by_deed tables key ordinal view (deed_of table (reads name)) p
  by_other tables key table ordinal view (writes name value) p =
      by_deed tables key ordinal view (deed_of table (writes name value)) p
  by_other tables key table ordinal view (defines set members) p =
      by_deed tables key ordinal view (deed_of table (defines set members)) p
  by_other tables key table ordinal view (deletes set) p =
      by_deed tables key ordinal view (deed_of table (deletes set)) p
  by_other tables key table ordinal view (calls call) p =
      by_deed tables key ordinal view (deed_of table (calls call)) p

  module _ (rows : CentreRows) (peer : ℕ) where
    -- acts of an association of another peer
    pub by_others : (key : Key) (these : List Act) (before : List Move)
        → (key.peer == peer) ≡ false → P (view_by rows (own_tables rows) peer before)
        → P (view_by rows (own_tables rows) peer (map (acts key) these ++ before))
    by_others key [] before apart p = p
    by_others key (act ∷ these) before apart p =
        rw apart (by_other (own_tables rows peer) (table_of rows key.peer).key
        (held_in rows (own_tables rows) (map (acts key) these ++ before) key.peer) key.ordinal
        (view_by rows (own_tables rows) peer (map (acts key) these ++ before)) act
        (by_others key these before apart p))

    -- acts of any association
    pub by_acts : (key : Key) (these : List Act) (before : List Move) → EachAct Q these
        → P (view_by rows (own_tables rows) peer before)
        → P (view_by rows (own_tables rows) peer (map (acts key) these ++ before))
    by_acts key [] before each p = p
    by_acts key (act ∷ these) before each p =
        by (key.peer == peer) (by_acts key these before each.1 p)
      where
        by : (b : Bool)
            → P (view_by rows (own_tables rows) peer (map (acts key) these ++ before))
            → P (cons_option (if b then Some (own key.ordinal act)
            else other_seen (own_tables rows peer) (table_of rows key.peer).key
            (held_in rows (own_tables rows) (map (acts key) these ++ before) key.peer) key.ordinal
            act) (view_by rows (own_tables rows) peer (map (acts key) these ++ before)))
        by true q =
            k.own key.ordinal act
            (view_by rows (own_tables rows) peer (map (acts key) these ++ before)) each.0 q
        by false q =
            by_other (own_tables rows peer) (table_of rows key.peer).key
            (held_in rows (own_tables rows) (map (acts key) these ++ before) key.peer) key.ordinal
            (view_by rows (own_tables rows) peer (map (acts key) these ++ before)) act q

    -- acts of the association of a seat, if it has one
    pub by_seat : (found : Option Key) (these : List Act) (before : List Move) → EachAct Q these
        → P (view_by rows (own_tables rows) peer before)
        → P (view_by rows (own_tables rows) peer (moves_by found these ++ before))
    by_seat None these before each p = p
    by_seat (Some key) these before each p = by_acts key these before each p

-- ---- how many associations a peer has opened

abbrev Counts : ℕ → View → Type 0
Counts n view = opens_seen view ≡ n

openless_own : (ordinal : ℕ) (act : Act) (view : View) → IsOpenless act
    → opens_seen (own ordinal act ∷ view) ≡ opens_seen view
openless_own ordinal opens view free = absurd free
openless_own ordinal takes view free = refl
openless_own ordinal closes view free = refl
openless_own ordinal (reads name) view free = refl
openless_own ordinal (writes name value) view free = refl
openless_own ordinal (defines set members) view free = refl
openless_own ordinal (deletes set) view free = refl
openless_own ordinal (calls call) view free = refl

count_kept : (n : ℕ) → IsKept (Counts n) IsOpenless
count_kept n = record {
  acted = λ key ordinal device act view same. same;
  closed = λ key ordinal view same. same;
  own = λ ordinal act view free same. openless_own ordinal act view free ∙ same;
}

opens_behind : (rows : CentreRows) (peer : ℕ) (past : Past) (who : ℕ) (event : EventKind)
    → opens_seen (view_of rows peer past) ≡ opens_in past peer
    → opens_seen (view_of rows peer (record { who = who; event = event } ∷ past))
    ≡ opens_in (record { who = who; event = event } ∷ past) peer
opens_behind rows peer past who (Open opener) same = by (opener == peer)
  where
    by : (b : Bool)
        → opens_seen (cons_option (if b then Some (own (opens_in past opener) opens)
        else other_seen (own_tables rows peer) (table_of rows opener).key
        (held_in rows (own_tables rows) (moves_in past) opener) (opens_in past opener) opens)
        (view_of rows peer past))
        ≡ (if b then 1 else 0) + opens_in past peer
    by true = omega (arith, same)
    by false =
        let kept : opens_seen (cons_option (other_seen (own_tables rows peer)
        (table_of rows opener).key (held_in rows (own_tables rows) (moves_in past) opener)
        (opens_in past opener) opens) (view_of rows peer past)) ≡ opens_in past peer =
        by_other (Counts (opens_in past peer)) IsOpenless (count_kept (opens_in past peer))
        (own_tables rows peer) (table_of rows opener).key
        (held_in rows (own_tables rows) (moves_in past) opener) (opens_in past opener)
        (view_of rows peer past) opens same in
        kept ∙ omega arith
opens_behind rows peer past who (Request call) same =
    by_seat (Counts (opens_in past peer)) IsOpenless (count_kept (opens_in past peer)) rows peer
    (association_in past who) (acts_of_call call) (moves_in past) (openless_call call) same
    ∙ omega arith
opens_behind rows peer past who Take same =
    by_seat (Counts (opens_in past peer)) IsOpenless (count_kept (opens_in past peer)) rows peer
    (association_in past who) (takes ∷ []) (moves_in past) (tt, tt) same
    ∙ omega arith
opens_behind rows peer past who Close same =
    by_seat (Counts (opens_in past peer)) IsOpenless (count_kept (opens_in past peer)) rows peer
    (association_in past who) (closes ∷ []) (moves_in past) (tt, tt) same
    ∙ omega arith
opens_behind rows peer past who (Update point value) same =
    (elim (is_point_of rows peer point) as
    (λ b. opens_seen (cons_option (if b
    then Some (updated (point_of rows point).name value)
    else None) (view_of rows peer past)) ≡ opens_in past peer)
    [ true ↦ same | false ↦ same ])
    ∙ omega arith
opens_behind rows peer past who (Table chooser variant) same =
    (elim (chooser == peer) as
    (λ b. opens_seen (cons_option (if b
    then Some (chose variant)
    else None) (view_of rows peer past)) ≡ opens_in past peer)
    [ true ↦ same | false ↦ same ])
    ∙ omega arith
opens_behind rows peer past who (Tick now) same = omega (arith, same)
opens_behind rows peer past who (Ask asker slot) same =
    (elim (asker == peer) as
    (λ b. opens_seen (cons_option (if b
    then Some (asked slot)
    else None) (view_of rows peer past)) ≡ opens_in past peer)
    [ true ↦ same | false ↦ same ])
    ∙ omega arith
opens_behind rows peer past who (Tag device tag) same =
    (elim (is_some (device_named (own_tables rows peer) (device_of rows device).name)) as
    (λ b. opens_seen (cons_option (if b
    then Some (tagged (device_of rows device).name tag)
    else None) (view_of rows peer past)) ≡ opens_in past peer)
    [ true ↦ same | false ↦ same ])
    ∙ omega arith
opens_behind rows peer past who TakeOrders same = same ∙ omega arith
opens_behind rows peer past who Stop same = same ∙ omega arith

-- a peer sees each of its opens
pub opens_in_view : (rows : CentreRows) (peer : ℕ) (past : Past)
    → opens_seen (view_of rows peer past) ≡ opens_in past peer
opens_in_view rows peer [] = refl
opens_in_view rows peer (entry ∷ past) =
    opens_behind rows peer past entry.who entry.event (opens_in_view rows peer past)
