-- What an event that isn't of an association shows its peer: nothing of that association's own.
use Rattle.std.proofs.Common.{◌≡◌, ◌==◌, ℕ, Bool, true, false, List, [], ◌∷◌, ◌++◌, map, Option}
use Rattle.std.proofs.Common.{Some, None, refl, sym, ap, ◌∙◌, ⊎_elim}
use Rattle.std.specs.Prelude.{if◌then◌else◌, ◌||◌, option_and_then}
use Rattle.std.specs.List.{list_any, cons_option}
use Rattle.std.proofs.lemmas.Bool.{false≢true, eq-eqb, ne_eqb, cases_eq}
use Rattle.std.proofs.lemmas.List.{append-nil}
use Rattle.sbo_device.specs.declared.key.Key.{Key}
use Rattle.std.specs.Prelude.{is_some}
use Rattle.bilateral.specs.Rows.{CentreRows, table_of, point_of, device_of}
use Rattle.tase_views.specs.declared.event.EventKind.{EventKind}
use Rattle.tase_views.specs.declared.event.EventKind.TheVariants as events
use Rattle.tase_views.specs.Moves.{Act, Move, acts, updates, tags, asks, chooses}
use Rattle.tase_views.specs.Moves.{acts_of_call, moves_by, moves_of, sort_of}
use Rattle.tase_views.specs.Moves as act
use Rattle.tase_views.specs.OwnTables.{OwnDevice, OwnTable, OwnTables, Owns}
use Rattle.tase_views.specs.OwnTables.{is_point_of, device_named, is_selectable}
use Rattle.tase_views.specs.Devices.{Deed, deed_of}
use Rattle.tase_views.specs.View.{Seen, own, other_acted, other_closed, updated, tagged, asked}
use Rattle.tase_views.specs.View.{ticked, stopped, chose, shows_act, deed_seen, other_seen, held_in}
use Rattle.tase_views.specs.View.{seen_by, View, seen_in}
use Rattle.tase_conn.specs.Map.Out.{Talk, octets_in, acts_made}

-- whether a seen move is one of the peer's association with this ordinal
abbrev pub is_own : ℕ → Seen → Bool
is_own ordinal (own other act) = other == ordinal
is_own ordinal _ = false

abbrev pub IsApart : ℕ → Option Seen → Type 0
IsApart ordinal None = Unit {0}
IsApart ordinal (Some move) = is_own ordinal move ≡ false

-- none of them is
abbrev pub AreApart : ℕ → View → Type 0
AreApart ordinal view = list_any (is_own ordinal) view ≡ false

apart_if : (b : Bool) (ordinal : ℕ) (move : Seen) → is_own ordinal move ≡ false
    → IsApart ordinal (if b then Some move else None)
apart_if true ordinal move e = e
apart_if false ordinal move e = tt

apart_deed : (tables : OwnTables) (key : List ℕ) (ordinal other : ℕ) (deed : Option Deed)
    → IsApart ordinal (option_and_then (deed_seen tables key other) deed)
apart_deed tables key ordinal other None = tt
apart_deed tables key ordinal other (Some deed) =
    apart_if (shows_act tables deed.device.row.name deed.act) ordinal
    (other_acted key other deed.device.row.name deed.act) refl

-- an act of an association of another peer
apart_other : (tables : OwnTables) (key : List ℕ) (table : OwnTable) (ordinal other : ℕ) (a : Act)
    → IsApart ordinal (other_seen tables key table other a)
apart_other tables key table ordinal other act.closes =
    apart_if (list_any (λ (d : OwnDevice). is_selectable tables d.row.name) table.devices) ordinal
    (other_closed key other) refl
apart_other tables key table ordinal other act.opens = tt
apart_other tables key table ordinal other act.takes = tt
apart_other tables key table ordinal other (act.reads name) =
    apart_deed tables key ordinal other (deed_of table (act.reads name))
apart_other tables key table ordinal other (act.writes name value) =
    apart_deed tables key ordinal other (deed_of table (act.writes name value))
apart_other tables key table ordinal other (act.defines set members) = tt
apart_other tables key table ordinal other (act.deletes set) = tt
apart_other tables key table ordinal other (act.calls call) = tt

abbrev key_with : ℕ → ℕ → Key
key_with peer ordinal = record { peer = peer; ordinal = ordinal }

pub same_key : (a b : Key) → a.peer ≡ b.peer → a.ordinal ≡ b.ordinal → a ≡ b
same_key a b p o =
    ap (λ peer. key_with peer a.ordinal) p ∙ ap (λ ordinal. key_with b.peer ordinal) o

-- an act of another association, of the peer or of another
apart_act : (rows : CentreRows) (owns : Owns) (key other : Key) (before : List Move) (a : Act)
    → (other ≡ key → ⊥) → IsApart key.ordinal (seen_by rows owns key.peer before (acts other a))
apart_act rows owns key other before a apart =
    ⊎_elim
    (λ same. rw (eq-eqb other.peer key.peer same)
    (ne_eqb other.ordinal key.ordinal (λ o. apart (same_key other key same o))))
    (λ differs. rw (ne_eqb other.peer key.peer differs)
    (apart_other (owns key.peer) (table_of rows other.peer).key
    (held_in rows owns before other.peer)
    key.ordinal other.ordinal a))
    (cases_eq other.peer key.peer)

apart_cons : (ordinal : ℕ) (found : Option Seen) (view : View) → IsApart ordinal found
    → AreApart ordinal view → AreApart ordinal (cons_option found view)
apart_cons ordinal None view one rest = rest
apart_cons ordinal (Some move) view one rest = rw one rest

apart_acts : (rows : CentreRows) (owns : Owns) (key other : Key) (before : List Move)
    (these : List Act) → (other ≡ key → ⊥)
    → AreApart key.ordinal (seen_in rows owns key.peer before (map (acts other) these))
apart_acts rows owns key other before [] apart = refl
apart_acts rows owns key other before (a ∷ these) apart =
    apart_cons key.ordinal
    (seen_by rows owns key.peer (map (acts other) these ++ before) (acts other a))
    (seen_in rows owns key.peer before (map (acts other) these))
    (apart_act rows owns key other (map (acts other) these ++ before) a apart)
    (apart_acts rows owns key other before these apart)

apart_by : (rows : CentreRows) (owns : Owns) (key : Key) (found : Option Key)
    (before : List Move) (these : List Act) → (found ≡ Some key → ⊥)
    → AreApart key.ordinal (seen_in rows owns key.peer before (moves_by found these))
apart_by rows owns key None before these apart = refl
apart_by rows owns key (Some other) before these apart =
    apart_acts rows owns key other before these (λ e. apart (ap Some e))

-- what is shown of an event of none of the association's doing
pub apart_event : (rows : CentreRows) (owns : Owns) (key : Key) (event : EventKind)
    (found : Option Key) (before : List Move) → (found ≡ Some key → ⊥)
    → AreApart key.ordinal
    (seen_in rows owns key.peer before (moves_of (sort_of event) found))
apart_event rows owns key (events.Open peer) found before apart =
    apart_by rows owns key found before (act.opens ∷ []) apart
apart_event rows owns key (events.Request call) found before apart =
    apart_by rows owns key found before (acts_of_call call) apart
apart_event rows owns key events.Take found before apart =
    apart_by rows owns key found before (act.takes ∷ []) apart
apart_event rows owns key events.Close found before apart =
    apart_by rows owns key found before (act.closes ∷ []) apart
apart_event rows owns key (events.Update point value) found before apart =
    apart_cons key.ordinal (seen_by rows owns key.peer before (updates point value)) []
    (apart_if (is_point_of rows key.peer point) key.ordinal
    (updated (point_of rows point).name value) refl) refl
apart_event rows owns key (events.Table chooser variant) found before apart =
    apart_cons key.ordinal (seen_by rows owns key.peer before (chooses chooser variant)) []
    (apart_if (chooser == key.peer) key.ordinal (chose variant) refl) refl
apart_event rows owns key (events.Tick now) found before apart = refl
apart_event rows owns key (events.Ask asker slot) found before apart =
    apart_cons key.ordinal (seen_by rows owns key.peer before (asks asker slot)) []
    (apart_if (asker == key.peer) key.ordinal (asked slot) refl) refl
apart_event rows owns key (events.Tag device tag) found before apart =
    apart_cons key.ordinal (seen_by rows owns key.peer before (tags device tag)) []
    (apart_if (is_some (device_named (owns key.peer) (device_of rows device).name)) key.ordinal
    (tagged (device_of rows device).name tag) refl) refl
apart_event rows owns key events.TakeOrders found before apart = refl
apart_event rows owns key events.Stop found before apart = refl

pub neither : (a b : Bool) → (a || b) ≡ false → (a ≡ false) × (b ≡ false)
neither true b e = absurd (false≢true (sym e))
neither false b e = (refl, e)

either_apart : (ordinal : ℕ) (move : Seen) (view : View) → AreApart ordinal (move ∷ view)
    → (is_own ordinal move ≡ false) × AreApart ordinal view
either_apart ordinal move view e =
    neither (is_own ordinal move) (list_any (is_own ordinal) view) e

-- such moves add no octets of the association
one_adds : (tables : OwnTables) (ordinal : ℕ) (talk : Talk) (move : Seen) (view : View)
    → is_own ordinal move ≡ false
    → octets_in tables ordinal talk (move ∷ view) ≡ octets_in tables ordinal talk view
one_adds tables ordinal talk (own other a) view e =
    rw e (append-nil (octets_in tables ordinal talk view))
one_adds tables ordinal talk (other_acted k o d a) view e =
    append-nil (octets_in tables ordinal talk view)
one_adds tables ordinal talk (other_closed k o) view e =
    append-nil (octets_in tables ordinal talk view)
one_adds tables ordinal talk (updated n v) view e = append-nil (octets_in tables ordinal talk view)
one_adds tables ordinal talk (tagged d t) view e = append-nil (octets_in tables ordinal talk view)
one_adds tables ordinal talk (asked s) view e = append-nil (octets_in tables ordinal talk view)
one_adds tables ordinal talk (chose v) view e = append-nil (octets_in tables ordinal talk view)
one_adds tables ordinal talk (ticked n) view e = append-nil (octets_in tables ordinal talk view)
one_adds tables ordinal talk stopped view e = append-nil (octets_in tables ordinal talk view)

pub apart_adds : (tables : OwnTables) (ordinal : ℕ) (talk : Talk) (seen view : View)
    → AreApart ordinal seen
    → octets_in tables ordinal talk (seen ++ view) ≡ octets_in tables ordinal talk view
apart_adds tables ordinal talk [] view e = refl
apart_adds tables ordinal talk (move ∷ seen) view e =
    let b = either_apart ordinal move seen e in
    one_adds tables ordinal talk move (seen ++ view) b.0
    ∙ apart_adds tables ordinal talk seen view b.1

-- nor do they count as acts of its requests
one_made : (ordinal : ℕ) (move : Seen) (view : View) → is_own ordinal move ≡ false
    → acts_made ordinal (move ∷ view) ≡ acts_made ordinal view
one_made ordinal (own other a) view e = rw e refl
one_made ordinal (other_acted k o d a) view e = refl
one_made ordinal (other_closed k o) view e = refl
one_made ordinal (updated n v) view e = refl
one_made ordinal (tagged d t) view e = refl
one_made ordinal (asked s) view e = refl
one_made ordinal (chose v) view e = refl
one_made ordinal (ticked n) view e = refl
one_made ordinal stopped view e = refl

pub apart_made : (ordinal : ℕ) (seen view : View) → AreApart ordinal seen
    → acts_made ordinal (seen ++ view) ≡ acts_made ordinal view
apart_made ordinal [] view e = refl
apart_made ordinal (move ∷ seen) view e =
    let b = either_apart ordinal move seen e in
    one_made ordinal move (seen ++ view) b.0 ∙ apart_made ordinal seen view b.1
