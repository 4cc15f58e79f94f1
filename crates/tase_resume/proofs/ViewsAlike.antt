-- The same entries behind two histories without associations: each peer sees the same moves but for
-- the ordinals.
use Rattle.std.proofs.Common.{◌≡◌, ◌==◌, ℕ, ◌+◌, ◌<◌, ◌≤◌, Bool, true, false, if◌then◌else◌, List}
use Rattle.std.proofs.Common.{[], ◌∷◌, ◌++◌, map, length, Option, Some, None, is_some, refl, sym}
use Rattle.std.proofs.Common.{ap, subst, ◌∙◌}
use Rattle.std.specs.Prelude.{option_map, option_and_then, filter_map}
use Rattle.std.specs.List.{cons_option, list_any}
use Rattle.std.proofs.lemmas.Bool.{eqb-true}
use Rattle.bilateral.specs.Rows.{CentreRows, IsCentre, table_of, point_of, device_of}
use Rattle.sbo_device.specs.declared.key.Key.{Key}
use Rattle.tase_views.specs.Moves.{Act, opens, takes, closes, reads, writes, defines, deletes}
use Rattle.tase_views.specs.Moves.{calls, Move, acts, updates, tags, ticks, asks, chooses}
use Rattle.tase_views.specs.Moves.{takes_orders, stops}
use Rattle.tase_views.specs.OwnTables.{OwnDevice, OwnTable, OwnTables, Owns, is_point_of}
use Rattle.tase_views.specs.OwnTables.{device_named, is_selectable, table_in}
use Rattle.tase_views.specs.Force.{TableMove, open_count, last_chosen, force_of, table_move}
use Rattle.tase_views.specs.Devices.{Deed, deed_of}
use Rattle.tase_views.specs.History.{Past, opens_in, association_in}
use Rattle.tase_views.specs.View.{Seen, own, other_acted, other_closed, updated, tagged, asked}
use Rattle.tase_views.specs.View.{chose, ticked, stopped, View, shows_act, deed_seen, other_seen}
use Rattle.tase_views.specs.View.{held_in, seen_by, key_number, seen_in}
use Rattle.tase_resume.proofs.RaisedHolds.{Offsets, raised_key}
use Rattle.tase_resume.proofs.Like.{raised, IsLate}
use Rattle.tase_resume.proofs.SeenAlike.{count_more, choice_more, force_more}
use Rattle.tase_resume.proofs.KeysAlike.{raised_in, AreNew}
use Rattle.tase_resume.proofs.PeerOffsets.{offsets_seen, offset_there}

-- two lists of moves with the same table of a peer in force
pub record IsForceLike (peer : ℕ) (one other : List Move) : Type 0 where
  pub count : open_count (filter_map (table_move peer) one)
      ≡ open_count (filter_map (table_move peer) other)
  pub choice : last_chosen (filter_map (table_move peer) one)
      ≡ last_chosen (filter_map (table_move peer) other)
  pub force : force_of (filter_map (table_move peer) one)
      ≡ force_of (filter_map (table_move peer) other)

table_same : (off : Offsets) (peer : ℕ) (move : Move)
    → table_move peer (raised_in off move) ≡ table_move peer move
table_same off peer (acts key opens) = refl
table_same off peer (acts key takes) = refl
table_same off peer (acts key closes) = refl
table_same off peer (acts key (reads name)) = refl
table_same off peer (acts key (writes name value)) = refl
table_same off peer (acts key (defines set members)) = refl
table_same off peer (acts key (deletes set)) = refl
table_same off peer (acts key (calls call)) = refl
table_same off peer (updates point value) = refl
table_same off peer (tags device tag) = refl
table_same off peer (ticks now) = refl
table_same off peer (asks asker slot) = refl
table_same off peer (chooses chooser variant) = refl
table_same off peer takes_orders = refl
table_same off peer stops = refl

force_behind : (off : Offsets) (peer : ℕ) (move : Move) (one other : List Move)
    → IsForceLike peer one other → IsForceLike peer (raised_in off move ∷ one) (move ∷ other)
force_behind off peer move one other like =
    let a = filter_map (table_move peer) one in
    let b = filter_map (table_move peer) other in
    let m = table_move peer move in
    record {
      count = ap (λ (o : Option TableMove). open_count (cons_option o a)) (table_same off peer move)
          ∙ count_more m a b like.count;
      choice = ap (λ (o : Option TableMove). last_chosen (cons_option o a))
          (table_same off peer move)
          ∙ choice_more m a b like.choice;
      force = ap (λ (o : Option TableMove). force_of (cons_option o a)) (table_same off peer move)
          ∙ force_more m a b like.count like.choice like.force;
    }

pub force_alike : (off : Offsets) (peer : ℕ) (moves one other : List Move)
    → IsForceLike peer one other
    → IsForceLike peer (map (raised_in off) moves ++ one) (moves ++ other)
force_alike off peer [] one other like = like
force_alike off peer (move ∷ moves) one other like =
    force_behind off peer move (map (raised_in off) moves ++ one) (moves ++ other)
    (force_alike off peer moves one other like)

-- what another's act is seen as

closed_if : (offs : Offsets) (key : List ℕ) (ordinal : ℕ) (b : Bool)
    → (if b then Some (other_closed key (ordinal + offs (key_number key))) else None)
    ≡ option_map (raised offs) (if b then Some (other_closed key ordinal) else None)
closed_if offs key ordinal true = refl
closed_if offs key ordinal false = refl

deed_if : (offs : Offsets) (tables : OwnTables) (key : List ℕ) (ordinal : ℕ) (deed : Option Deed)
    → option_and_then (deed_seen tables key (ordinal + offs (key_number key))) deed
    ≡ option_map (raised offs) (option_and_then (deed_seen tables key ordinal) deed)
deed_if offs tables key ordinal None = refl
deed_if offs tables key ordinal (Some deed) =
    by (shows_act tables deed.device.row.name deed.act)
  where
    by : (b : Bool)
        → (if b then Some (other_acted key (ordinal + offs (key_number key)) deed.device.row.name
        deed.act) else None)
        ≡ option_map (raised offs)
        (if b then Some (other_acted key ordinal deed.device.row.name deed.act) else None)
    by true = refl
    by false = refl

other_alike : (offs : Offsets) (tables : OwnTables) (key : List ℕ) (table : OwnTable) (ordinal : ℕ)
    (act : Act)
    → other_seen tables key table (ordinal + offs (key_number key)) act
    ≡ option_map (raised offs) (other_seen tables key table ordinal act)
other_alike offs tables key table ordinal closes =
    closed_if offs key ordinal
    (list_any (λ (d : OwnDevice). is_selectable tables d.row.name) table.devices)
other_alike offs tables key table ordinal opens = refl
other_alike offs tables key table ordinal takes = refl
other_alike offs tables key table ordinal (reads name) =
    deed_if offs tables key ordinal (deed_of table (reads name))
other_alike offs tables key table ordinal (writes name value) =
    deed_if offs tables key ordinal (deed_of table (writes name value))
other_alike offs tables key table ordinal (defines set members) = refl
other_alike offs tables key table ordinal (deletes set) = refl
other_alike offs tables key table ordinal (calls call) = refl

seen_if : (offs : Offsets) (b : Bool) (seen : Seen) → raised offs seen ≡ seen
    → (if b then Some seen else None) ≡ option_map (raised offs) (if b then Some seen else None)
seen_if offs true seen same = ap (λ (s : Seen). Some s) (sym same)
seen_if offs false seen same = refl

raised-cons : (offs : Offsets) (seen : Option Seen) (view : View)
    → cons_option (option_map (raised offs) seen) (map (raised offs) view)
    ≡ map (raised offs) (cons_option seen view)
raised-cons offs None view = refl
raised-cons offs (Some seen) view = refl

module _ (rows : CentreRows) (lawful : IsCentre rows) (owns : Owns) (off : Offsets) (peer : ℕ)
    (past : Past) (free : (who : ℕ) → association_in past who ≡ None) (one other : List Move)
    (like : (p : ℕ) → IsForceLike p one other) where
  abbrev offs : Offsets
  offs = offsets_seen rows peer off

  held_same : (moves : List Move) (p : ℕ)
      → held_in rows owns (map (raised_in off) moves ++ one) p
      ≡ held_in rows owns (moves ++ other) p
  held_same moves p =
      ap (table_in (owns p)) (force_alike off p moves one other (like p)).force

  seen_act : (moves : List Move) (key : Key) (act : Act) → key.peer < length rows.tables
      → seen_by rows owns peer (map (raised_in off) moves ++ one) (acts (raised_key off key) act)
      ≡ option_map (raised offs) (seen_by rows owns peer (moves ++ other) (acts key act))
  seen_act moves key act there = by (key.peer == peer) refl
    where
      by : (b : Bool) → (key.peer == peer) ≡ b
          → (if b then Some (own (key.ordinal + off key.peer) act)
          else other_seen (owns peer) (table_of rows key.peer).key
          (held_in rows owns (map (raised_in off) moves ++ one) key.peer)
          (key.ordinal + off key.peer) act)
          ≡ option_map (raised offs)
          (if b then Some (own key.ordinal act)
          else other_seen (owns peer) (table_of rows key.peer).key
          (held_in rows owns (moves ++ other) key.peer) key.ordinal act)
      by true e =
          ap (λ p. Some (own (key.ordinal + off p) act)) (eqb-true key.peer peer e)
      by false e =
          ap (λ (t : OwnTable). other_seen (owns peer) (table_of rows key.peer).key t
          (key.ordinal + off key.peer) act) (held_same moves key.peer)
          ∙ ap (λ n. other_seen (owns peer) (table_of rows key.peer).key
          (held_in rows owns (moves ++ other) key.peer) (key.ordinal + n) act)
          (sym (offset_there rows peer off key.peer lawful there))
          ∙ other_alike offs (owns peer) (table_of rows key.peer).key
          (held_in rows owns (moves ++ other) key.peer) key.ordinal act

  one_seen : (b : Bool) (seen : Seen) → raised offs seen ≡ seen → (moves : List Move)
      → seen_in rows owns peer one (map (raised_in off) moves)
      ≡ map (raised offs) (seen_in rows owns peer other moves)
      → cons_option (if b then Some seen else None)
      (seen_in rows owns peer one (map (raised_in off) moves))
      ≡ map (raised offs)
      (cons_option (if b then Some seen else None) (seen_in rows owns peer other moves))
  one_seen b seen same moves rest =
      ap (λ (o : Option Seen). cons_option o
      (seen_in rows owns peer one (map (raised_in off) moves))) (seen_if offs b seen same)
      ∙ ap (λ (v : View). cons_option (option_map (raised offs)
      (if b then Some seen else None)) v) rest
      ∙ raised-cons offs (if b then Some seen else None) (seen_in rows owns peer other moves)

  -- what a peer sees of the moves, behind both
  pub seen_alike : (moves : List Move) → AreNew rows past free moves
      → seen_in rows owns peer one (map (raised_in off) moves)
      ≡ map (raised offs) (seen_in rows owns peer other moves)
  seen_alike [] new = refl
  seen_alike (acts key act ∷ moves) new =
      rw (seen_act moves key act new.0.1, seen_alike moves new.1)
      (raised-cons offs (seen_by rows owns peer (moves ++ other) (acts key act))
      (seen_in rows owns peer other moves))
  seen_alike (updates point value ∷ moves) new =
      one_seen (is_point_of rows peer point) (updated (point_of rows point).name value) refl moves
      (seen_alike moves new)
  seen_alike (tags device tag ∷ moves) new =
      one_seen (is_some (device_named (owns peer) (device_of rows device).name))
      (tagged (device_of rows device).name tag) refl moves (seen_alike moves new)
  seen_alike (ticks now ∷ moves) new =
      ap (λ (v : View). ticked now ∷ v) (seen_alike moves new)
  seen_alike (asks asker slot ∷ moves) new =
      one_seen (asker == peer) (asked slot) refl moves (seen_alike moves new)
  seen_alike (chooses chooser variant ∷ moves) new =
      one_seen (chooser == peer) (chose variant) refl moves (seen_alike moves new)
  seen_alike (takes_orders ∷ moves) new = seen_alike moves new
  seen_alike (stops ∷ moves) new = ap (λ (v : View). stopped ∷ v) (seen_alike moves new)

-- a seen move of the peer's own is of a new association
abbrev pub AreLate : ℕ → View → Type 0
AreLate from [] = Unit {0}
AreLate from (move ∷ view) = IsLate from move × AreLate from view

deed_late : (from : ℕ) (tables : OwnTables) (key : List ℕ) (ordinal : ℕ) (deed : Option Deed)
    (view : View) → AreLate from view
    → AreLate from (cons_option (option_and_then (deed_seen tables key ordinal) deed) view)
deed_late from tables key ordinal None view rest = rest
deed_late from tables key ordinal (Some deed) view rest =
    by (shows_act tables deed.device.row.name deed.act)
  where
    by : (b : Bool)
        → AreLate from (cons_option
        (if b then Some (other_acted key ordinal deed.device.row.name deed.act) else None) view)
    by true = (tt, rest)
    by false = rest

others_late : (from : ℕ) (tables : OwnTables) (key : List ℕ) (table : OwnTable) (ordinal : ℕ)
    (act : Act) (view : View) → AreLate from view
    → AreLate from (cons_option (other_seen tables key table ordinal act) view)
others_late from tables key table ordinal closes view rest =
    by (list_any (λ (d : OwnDevice). is_selectable tables d.row.name) table.devices)
  where
    by : (b : Bool)
        → AreLate from (cons_option (if b then Some (other_closed key ordinal) else None) view)
    by true = (tt, rest)
    by false = rest
others_late from tables key table ordinal opens view rest = rest
others_late from tables key table ordinal takes view rest = rest
others_late from tables key table ordinal (reads name) view rest =
    deed_late from tables key ordinal (deed_of table (reads name)) view rest
others_late from tables key table ordinal (writes name value) view rest =
    deed_late from tables key ordinal (deed_of table (writes name value)) view rest
others_late from tables key table ordinal (defines set members) view rest = rest
others_late from tables key table ordinal (deletes set) view rest = rest
others_late from tables key table ordinal (calls call) view rest = rest

late_if : (from : ℕ) (b : Bool) (seen : Seen) (view : View) → IsLate from seen
    → AreLate from view → AreLate from (cons_option (if b then Some seen else None) view)
late_if from true seen view late rest = (late, rest)
late_if from false seen view late rest = rest

pub seen_late : (rows : CentreRows) (owns : Owns) (peer : ℕ) (past : Past)
    (free : (who : ℕ) → association_in past who ≡ None) (other moves : List Move)
    → AreNew rows past free moves
    → AreLate (opens_in past peer) (seen_in rows owns peer other moves)
seen_late rows owns peer past free other [] new = tt
seen_late rows owns peer past free other (acts key act ∷ moves) new =
    by (key.peer == peer) refl (seen_late rows owns peer past free other moves new.1)
  where
    by : (b : Bool) → (key.peer == peer) ≡ b
        → AreLate (opens_in past peer) (seen_in rows owns peer other moves)
        → AreLate (opens_in past peer)
        (cons_option (if b then Some (own key.ordinal act)
        else other_seen (owns peer) (table_of rows key.peer).key
        (held_in rows owns (moves ++ other) key.peer) key.ordinal act)
        (seen_in rows owns peer other moves))
    by true e rest =
        (subst (λ p. opens_in past p ≤ key.ordinal) (eqb-true key.peer peer e) new.0.0, rest)
    by false e rest =
        others_late (opens_in past peer) (owns peer) (table_of rows key.peer).key
        (held_in rows owns (moves ++ other) key.peer) key.ordinal act
        (seen_in rows owns peer other moves) rest
seen_late rows owns peer past free other (updates point value ∷ moves) new =
    late_if (opens_in past peer) (is_point_of rows peer point)
    (updated (point_of rows point).name value) (seen_in rows owns peer other moves) tt
    (seen_late rows owns peer past free other moves new)
seen_late rows owns peer past free other (tags device tag ∷ moves) new =
    late_if (opens_in past peer)
    (is_some (device_named (owns peer) (device_of rows device).name))
    (tagged (device_of rows device).name tag) (seen_in rows owns peer other moves) tt
    (seen_late rows owns peer past free other moves new)
seen_late rows owns peer past free other (ticks now ∷ moves) new =
    (tt, seen_late rows owns peer past free other moves new)
seen_late rows owns peer past free other (asks asker slot ∷ moves) new =
    late_if (opens_in past peer) (asker == peer) (asked slot)
    (seen_in rows owns peer other moves) tt (seen_late rows owns peer past free other moves new)
seen_late rows owns peer past free other (chooses chooser variant ∷ moves) new =
    late_if (opens_in past peer) (chooser == peer) (chose variant)
    (seen_in rows owns peer other moves) tt (seen_late rows owns peer past free other moves new)
seen_late rows owns peer past free other (takes_orders ∷ moves) new =
    seen_late rows owns peer past free other moves new
seen_late rows owns peer past free other (stops ∷ moves) new =
    (tt, seen_late rows owns peer past free other moves new)
