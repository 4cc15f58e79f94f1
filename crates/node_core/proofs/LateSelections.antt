-- An association that a peer hasn't opened yet holds no device, and so no selection of it ends.
use Rattle.std.proofs.Common.{◌≡◌, ◌==◌, ℕ, ◌+◌, ◌<◌, ◌≤◌, Bool, true, false, not, ◌&&◌, ◌||◌, List}
use Rattle.std.proofs.Common.{[], ◌∷◌, ◌++◌, map, Option, Some, None, is_some, refl, sym, ap, ◌∙◌}
use Rattle.std.proofs.Common.{arith}
use Rattle.std.specs.Prelude.{if◌then◌else◌, option_map}
use Rattle.std.specs.List.{filter_map}
use Rattle.std.specs.Option.{option_map_or}
use Rattle.std.proofs.lemmas.Bool.{false≢true, eqb-true, eq-eqb}
use Rattle.bilateral.specs.Rows.{CentreRows, IsCentre}
use Rattle.sbo_device.specs.declared.hold.Hold.{Hold}
use Rattle.sbo_device.specs.declared.key.Key.{Key}
use Rattle.sbo_device.specs.Moves.{ticked}
use Rattle.sbo_device.specs.States.{same_key, is_held_by, hold_after, state_in, hold_of}
use Rattle.sbo_device.specs.SameMoves.{renumbered_hold}
use Rattle.tase_views.specs.declared.event.EventKind.{EventKind}
use Rattle.tase_views.specs.declared.event.EventKind.TheVariants.{Open, Request, Take, Close}
use Rattle.tase_views.specs.declared.event.EventKind.TheVariants.{Update, Table, Tag, Tick, Ask}
use Rattle.tase_views.specs.declared.event.EventKind.TheVariants.{TakeOrders, Stop}
use Rattle.tase_views.specs.Moves.{Act, opens, takes, closes, reads, writes, defines, deletes}
use Rattle.tase_views.specs.Moves.{calls, Move, acts, moves_by, acts_of_call}
use Rattle.tase_views.specs.History.{Past, association_in, opens_in}
use Rattle.tase_views.specs.OwnTables.{OwnDevice, OwnTables, own_tables, device_named, control_of}
use Rattle.tase_views.specs.Devices.{device_moves}
use Rattle.tase_views.specs.View.{View, steps_in, moves_in, view_of, force, held, own_key}
use Rattle.tase_views.specs.View.{peer_number, moves_seen}
use Rattle.tase_views.specs.Reports.{timeout_report}
use Rattle.tase_views.proofs.KeyNumbers.{may_share, numbers_differ}
use Rattle.tase_views.proofs.OwnDevices.{Each}
use Rattle.tase_views.proofs.DeviceRows.{IsRow, table_rows, table_named}
use Rattle.tase_views.proofs.OpenKeys.{among, without, open_of}
use Rattle.tase_views.proofs.Seated.{orderly}
use Rattle.tase_views.proofs.Holders.{IsGood, all_good, part_may, hold-seen}
use Rattle.node_core.proofs.OfDevices.DevicesShown.{selectable, never_held}
use Rattle.node_core.specs.declared.node.peer.Peer.{Peer}
use Rattle.node_core.specs.PeerParts.{EachAct, IsPart}
use Rattle.node_core.proofs.CallActs.{IsOpenless, openless_call}
use Rattle.node_core.proofs.Seeing.{opens_in_view}
use Rattle.node_core.proofs.OfSlots.AssociationSteps.{EndsNothing}

-- ---- what is open was opened

among_less : (n k : ℕ) (xs : List ℕ) → among n (without k xs) ≡ true → among n xs ≡ true
among_less n k [] there = there
among_less n k (x ∷ xs) there = by (x == k) (x == n) refl there (among_less n k xs)
  where
    by : (b t : Bool) → (x == n) ≡ t
        → among n (if b then without k xs else x ∷ without k xs) ≡ true
        → (among n (without k xs) ≡ true → among n xs ≡ true) → (t || among n xs) ≡ true
    by b true same e rest = refl
    by true false apart e rest = rest e
    by false false apart e rest =
        rest (sym (ap (λ (c : Bool). c || among n (without k xs)) apart) ∙ e)

-- an act that is no open opens none
act_opens_none : (peer n : ℕ) (key : Key) (act : Act) (before : List Move) → IsOpenless act
    → among n (open_of peer (acts key act ∷ before)) ≡ true
    → among n (open_of peer before) ≡ true
act_opens_none peer n key opens before free there = absurd free
act_opens_none peer n key takes before free there = there
act_opens_none peer n key closes before free there = by (key.peer == peer) there
  where
    by : (b : Bool)
        → among n (if b then without key.ordinal (open_of peer before) else open_of peer before)
        ≡ true
        → among n (open_of peer before) ≡ true
    by true e = among_less n key.ordinal (open_of peer before) e
    by false e = e
act_opens_none peer n key (reads name) before free there = there
act_opens_none peer n key (writes name value) before free there = there
act_opens_none peer n key (defines set members) before free there = there
act_opens_none peer n key (deletes set) before free there = there
act_opens_none peer n key (calls call) before free there = there

acts_open_none : (peer n : ℕ) (key : Key) (these : List Act) (before : List Move)
    → EachAct IsOpenless these → among n (open_of peer (map (acts key) these ++ before)) ≡ true
    → among n (open_of peer before) ≡ true
acts_open_none peer n key [] before free there = there
acts_open_none peer n key (act ∷ these) before free there =
    acts_open_none peer n key these before free.1
    (act_opens_none peer n key act (map (acts key) these ++ before) free.0 there)

seat_opens_none : (peer n : ℕ) (found : Option Key) (these : List Act) (before : List Move)
    → EachAct IsOpenless these → among n (open_of peer (moves_by found these ++ before)) ≡ true
    → among n (open_of peer before) ≡ true
seat_opens_none peer n None these before free there = there
seat_opens_none peer n (Some key) these before free there =
    acts_open_none peer n key these before free there

later : (n k : ℕ) → n < k → n < 0 + k
later n k below = omega (arith, below)

-- the ordinals of a peer's open associations are those that it was given
given_behind : (past : Past) (who : ℕ) (event : EventKind) (peer n : ℕ)
    → (among n (open_of peer (moves_in past)) ≡ true → n < opens_in past peer)
    → among n (open_of peer (moves_in (record { who = who; event = event } ∷ past))) ≡ true
    → n < opens_in (record { who = who; event = event } ∷ past) peer
given_behind past who (Open opener) peer n before there =
    by (opener == peer) refl there
  where
    by : (b : Bool) → (opener == peer) ≡ b
        → among n (if b then opens_in past opener ∷ open_of peer (moves_in past)
        else open_of peer (moves_in past)) ≡ true
        → n < (if b then 1 else 0) + opens_in past peer
    by true same e = one (opens_in past opener == n) refl e
      where
        one : (t : Bool) → (opens_in past opener == n) ≡ t
            → (t || among n (open_of peer (moves_in past))) ≡ true
            → n < 1 + opens_in past peer
        one true is f =
            let here : opens_in past opener ≡ n = eqb-true (opens_in past opener) n is in
            let its : opens_in past opener ≡ opens_in past peer =
            ap (opens_in past) (eqb-true opener peer same) in
            omega (arith, here, its)
        one false is f = let below = before f in omega (arith, below)
    by false other e = later n (opens_in past peer) (before e)
given_behind past who (Request call) peer n before there =
    later n (opens_in past peer)
    (before (seat_opens_none peer n (association_in past who) (acts_of_call call)
    (moves_in past) (openless_call call) there))
given_behind past who Take peer n before there =
    later n (opens_in past peer)
    (before (seat_opens_none peer n (association_in past who) (takes ∷ [])
    (moves_in past) (tt, tt) there))
given_behind past who Close peer n before there =
    later n (opens_in past peer)
    (before (seat_opens_none peer n (association_in past who) (closes ∷ [])
    (moves_in past) (tt, tt) there))
given_behind past who (Update point value) peer n before there =
    later n (opens_in past peer) (before there)
given_behind past who (Table chooser variant) peer n before there =
    later n (opens_in past peer) (before there)
given_behind past who (Tag device tag) peer n before there =
    later n (opens_in past peer) (before there)
given_behind past who (Tick now) peer n before there =
    later n (opens_in past peer) (before there)
given_behind past who (Ask asker slot) peer n before there =
    later n (opens_in past peer) (before there)
given_behind past who TakeOrders peer n before there =
    later n (opens_in past peer) (before there)
given_behind past who Stop peer n before there =
    later n (opens_in past peer) (before there)

given : (past : Past) (peer n : ℕ) → among n (open_of peer (moves_in past)) ≡ true
    → n < opens_in past peer
given [] peer n there = absurd (false≢true there)
given (entry ∷ past) peer n there =
    given_behind past entry.who entry.event peer n (given past peer n) there

-- ---- no selection of one that isn't opened yet ends

module _ (rows : CentreRows) (lawful : IsCentre rows) (peer : ℕ) where
  abbrev tables : OwnTables
  tables = own_tables rows peer

  module _ (past : Past) (ordinal : ℕ) (late : opens_in past peer ≤ ordinal) where
    abbrev view : View
    view = view_of rows peer past

    -- a good hold of the history, as the view shows it, is by another association
    by_other : (name : List ℕ) → is_some (device_named tables name) ≡ true
        → (held : Option Hold) → IsGood rows peer (moves_in past) held
        → is_held_by (own_key ordinal) (option_map (renumbered_hold (peer_number rows peer)) held)
        ≡ false
    by_other name there None good = refl
    by_other name there (Some hold) good =
        by (peer_number rows peer hold.key.peer == 0) (hold.key.ordinal == ordinal) refl refl
      where
        numbered : peer_number rows peer peer ≡ 0
        numbered = rw (eq-eqb peer peer refl) refl

        itself : may_share rows peer peer ≡ true
        itself = rw (eq-eqb peer peer refl) refl

        by : (b t : Bool) → (peer_number rows peer hold.key.peer == 0) ≡ b
            → (hold.key.ordinal == ordinal) ≡ t → (b && t) ≡ false
        by false t mine same = refl
        by true false mine same = refl
        by true true mine same =
            let is : hold.key.peer ≡ peer =
            numbers_differ rows peer name lawful there hold.key.peer peer
            (part_may rows peer (moves_in past) hold.key.peer good.1) itself
            (eqb-true (peer_number rows peer hold.key.peer) 0 mine ∙ sym numbered) in
            let below = given past hold.key.peer hold.key.ordinal good.0 in
            let all : opens_in past hold.key.peer ≡ opens_in past peer = ap (opens_in past) is in
            let equal = eqb-true hold.key.ordinal ordinal same in
            absurd (omega (arith, below, all, equal, late))

    unheld : (d : OwnDevice) → IsRow rows d → is_some (device_named tables d.row.name) ≡ true
        → is_held_by (own_key ordinal)
        (hold_of (control_of d) (moves_seen tables view d.row.name)) ≡ false
    unheld d row there = by d.row.direct refl
      where
        by : (b : Bool) → d.row.direct ≡ b
            → is_held_by (own_key ordinal)
            (hold_of (control_of d) (moves_seen tables view d.row.name)) ≡ false
        by true direct =
            rw (never_held (control_of d) (moves_seen tables view d.row.name) direct) refl
        by false taken =
            let can = selectable rows peer d lawful row there ∙ ap not taken in
            ap (is_held_by (own_key ordinal)) (hold-seen rows (moves_in past) peer d.row.name
            (control_of d) (orderly past) lawful can)
            ∙ by_other d.row.name there
            (hold_of (control_of d) (device_moves d.row.name
            (steps_in rows (own_tables rows) (moves_in past))))
            (all_good rows peer d.row.name (control_of d) (moves_in past) can (orderly past))

    no_report : (now : ℕ) (d : OwnDevice) → IsRow rows d
        → is_some (device_named tables d.row.name) ≡ true
        → timeout_report tables view ordinal now d ≡ None
    no_report now d row there =
        by _ (is_some (hold_after (ticked now) (state_in (control_of d)
        (moves_seen tables view d.row.name))))
        (hold_of (control_of d) (moves_seen tables view d.row.name)) (unheld d row there)
      where
        by : {A : Type 0} (report : A) (b : Bool) (before : Option Hold)
            → is_held_by (own_key ordinal) before ≡ false
            → (if option_map_or (λ (hold : Hold). same_key hold.key (own_key ordinal))
            (if b then None else before) false then Some report else None) ≡ None
        by report true before other = refl
        by report false None other = refl
        by report false (Some hold) other = rw other refl

    each_both : (now : ℕ) (devices : List OwnDevice) → Each (IsRow rows) devices
        → Each (λ d. is_some (device_named tables d.row.name) ≡ true) devices
        → filter_map (timeout_report tables view ordinal now) devices ≡ []
    each_both now [] those named = refl
    each_both now (d ∷ devices) those named =
        rw (no_report now d those.0 named.0, each_both now devices those.1 named.1) refl

    ends_nothing : EndsNothing tables view ordinal
    ends_nothing now =
        each_both now (held tables view).devices (table_rows rows peer (force view) lawful)
        (table_named tables (force view))

-- of a peer's part: so it is for each ordinal that isn't given yet
pub late_ends_nothing : (rows : CentreRows) → IsCentre rows → (past : Past) (peer : ℕ)
    (part : Peer) → IsPart (own_tables rows peer) (view_of rows peer past) part → (ordinal : ℕ)
    → part.opened_in_all ≤ ordinal
    → EndsNothing (own_tables rows peer) (view_of rows peer past) ordinal
late_ends_nothing rows lawful past peer part p ordinal late =
    ends_nothing rows lawful peer past ordinal
    (omega (arith, late, p.in_all, opens_in_view rows peer past))
