-- By tables without devices and transfer sets no report is made.
use Rattle.std.proofs.Common.{◌≡◌, ℕ, ◌==◌, nat_eq, Bool, true, false, ◌&&◌}
use Rattle.std.proofs.Common.{if◌then◌else◌, List, [], ◌∷◌, ◌++◌, length, Option, Some, None}
use Rattle.std.proofs.Common.{Result, Ok, Err, refl, sym, ap, subst, ◌∙◌, ⊎_elim}
use Rattle.std.specs.Prelude.{All, find, filter_map, flat_map, is_none, slice_index_or}
use Rattle.std.specs.List.{range_with_len}
use Rattle.std.specs.Option.{option_eq}
use Rattle.std.proofs.lemmas.Bool.{cases_lt}
use Rattle.std.proofs.lemmas.List.{get_or_past}
use Rattle.transfer_sets.specs.declared.wish.Wish.{Wish}
use Rattle.transfer_sets.specs.SlotMoves.{SlotMove, owner_in, handed_out, PointChange, changes}
use Rattle.transfer_sets.specs.SlotMoves.{reports}
use Rattle.tase_views.specs.Moves.{opens, takes, closes, reads, writes, defines, deletes, calls}
use Rattle.tase_views.specs.OwnTables.{OwnDevice, OwnTable, OwnTables, no_own_table}
use Rattle.tase_views.specs.View.{Seen, own, other_acted, other_closed, updated, tagged, asked}
use Rattle.tase_views.specs.View.{chose}
use Rattle.tase_views.specs.View.{ticked, stopped, View, force, held}
use Rattle.tase_views.specs.Slots.{owns, with_wish, lowest_free}
use Rattle.tase_views.specs.Slots.{slot_moves, Slots}
use Rattle.tase_views.specs.Reports.{timeout_report, own_reports, reports_by}
use Rattle.tase_views.specs.declared.reply.ReportKind.{ReportKind}
use Rattle.tase_views.specs.Reports.{due_conditions}
use Rattle.tase_views.specs.Reports.{reports_pending}

abbrev pub OffersNothing : OwnTable → Type 0
OffersNothing table = (table.devices ≡ []) × (table.slots ≡ 0)

item_all : (P : OwnTable → Type 0) (tables : List OwnTable) (k : ℕ) (other : OwnTable)
    → All P tables → P other → P (slice_index_or tables k other)
item_all P tables k other all beyond =
    ⊎_elim (λ within. all k other within)
    (λ past. subst P (sym (get_or_past tables k other past)) beyond)
    (cases_lt k (length tables))

held-offers : (tables : OwnTables) → All OffersNothing tables.tables → (view : View)
    → OffersNothing (held tables view)
held-offers tables none view =
    item_all OffersNothing tables.tables (force view) no_own_table none (refl, refl)

none_free : (table : OwnTable) (slots : Slots) → table.slots ≡ 0 → lowest_free table slots ≡ None
none_free table slots none =
    ap (λ n. find (λ s. is_none (owner_in (slots s))) (range_with_len 0 n)) none

-- moves without an owner stay so

not_handed_out : (b : Bool) (found : Option ℕ) (s ordinal : ℕ) (moves : List SlotMove)
    → found ≡ None → owner_in moves ≡ None
    → owner_in (if b && option_eq nat_eq found (Some s) then handed_out ordinal ∷ [] else moves)
    ≡ None
not_handed_out true found s ordinal moves none before = rw none before
not_handed_out false found s ordinal moves none before = before

closed_owner : (b : Bool) (moves : List SlotMove) → owner_in moves ≡ None
    → owner_in (if b then [] else moves) ≡ None
closed_owner true moves before = refl
closed_owner false moves before = before

wished_owner : (b : Bool) (now : ℕ) (wish : Result Wish ℕ) (moves : List SlotMove)
    → owner_in moves ≡ None
    → owner_in (if b then with_wish now wish moves else moves) ≡ None
wished_owner true now (Ok wish) moves before = before
wished_owner true now (Err reason) moves before = before
wished_owner false now wish moves before = before

changed_owner : (b : Bool) (change : PointChange) (moves : List SlotMove) → owner_in moves ≡ None
    → owner_in (if b then changes change ∷ moves else moves) ≡ None
changed_owner true change moves before = before
changed_owner false change moves before = before

reported_owner : (b : Bool) (moves : List SlotMove) → owner_in moves ≡ None
    → owner_in (if b then reports ∷ moves else moves) ≡ None
reported_owner true moves before = before
reported_owner false moves before = before

no_owner : (tables : OwnTables) → All OffersNothing tables.tables → (view : View) (s : ℕ)
    → owner_in (slot_moves tables view s) ≡ None
no_owner tables none [] s = refl
no_owner tables none (own ordinal closes ∷ view) s =
    closed_owner (owns ordinal (slot_moves tables view s)) (slot_moves tables view s)
    (no_owner tables none view s)
no_owner tables none (own ordinal (reads name) ∷ view) s =
    not_handed_out _ (lowest_free (held tables view) (slot_moves tables view)) s ordinal
    (slot_moves tables view s)
    (none_free (held tables view) (slot_moves tables view) (held-offers tables none view).1)
    (no_owner tables none view s)
no_owner tables none (own ordinal (writes name value) ∷ view) s =
    wished_owner _ _ _ (slot_moves tables view s) (no_owner tables none view s)
no_owner tables none (own ordinal opens ∷ view) s = no_owner tables none view s
no_owner tables none (own ordinal takes ∷ view) s = no_owner tables none view s
no_owner tables none (own ordinal (defines set members) ∷ view) s = no_owner tables none view s
no_owner tables none (own ordinal (deletes set) ∷ view) s = no_owner tables none view s
no_owner tables none (own ordinal (calls call) ∷ view) s = no_owner tables none view s
no_owner tables none (other_acted key ordinal device act ∷ view) s = no_owner tables none view s
no_owner tables none (other_closed key ordinal ∷ view) s = no_owner tables none view s
no_owner tables none (updated name value ∷ view) s =
    changed_owner _ _ (slot_moves tables view s) (no_owner tables none view s)
no_owner tables none (tagged device tag ∷ view) s = no_owner tables none view s
no_owner tables none (asked other ∷ view) s =
    reported_owner _ (slot_moves tables view s) (no_owner tables none view s)
no_owner tables none (chose variant ∷ view) s = no_owner tables none view s
no_owner tables none (ticked now ∷ view) s =
    reported_owner _ (slot_moves tables view s) (no_owner tables none view s)
no_owner tables none (stopped ∷ view) s = no_owner tables none view s

unowned : (tables : OwnTables) → All OffersNothing tables.tables → (view : View) (ordinal s : ℕ)
    → owns ordinal (slot_moves tables view s) ≡ false
unowned tables none view ordinal s =
    ap (λ (o : Option ℕ). option_eq nat_eq o (Some ordinal)) (no_owner tables none view s)

no_reports : (b : Bool) (made : List ReportKind) → b ≡ false → (if b then made else []) ≡ []
no_reports b made e = rw e refl

-- no move makes one
made_by : (tables : OwnTables) → All OffersNothing tables.tables → (view : View) (ordinal : ℕ)
    (move : Seen) → reports_by tables view ordinal move ≡ []
made_by tables none view ordinal (ticked now) =
    let offers = held-offers tables none view in
    ap (λ (devices : List OwnDevice).
    filter_map (timeout_report tables view ordinal now) devices
    ++ flat_map (own_reports tables view ordinal now (λ k. due_conditions tables view k now))
    (range_with_len 0 (held tables view).slots)) offers.0
    ∙ ap (λ n. flat_map
    (own_reports tables view ordinal now (λ k. due_conditions tables view k now))
    (range_with_len 0 n)) offers.1
made_by tables none view ordinal (asked s) =
    no_reports (owns ordinal (slot_moves tables view s)) _ (unowned tables none view ordinal s)
made_by tables none view ordinal (own other act) = refl
made_by tables none view ordinal (other_acted key other device act) = refl
made_by tables none view ordinal (other_closed key other) = refl
made_by tables none view ordinal (updated name value) = refl
made_by tables none view ordinal (tagged device tag) = refl
made_by tables none view ordinal (chose variant) = refl
made_by tables none view ordinal stopped = refl

one_more : (tables : OwnTables) → All OffersNothing tables.tables → (view : View) (ordinal : ℕ)
    (move : Seen) → reports_pending tables view ordinal ≡ []
    → reports_pending tables view ordinal ++ reports_by tables view ordinal move ≡ []
one_more tables none view ordinal move before =
    rw (before, made_by tables none view ordinal move) refl

taken : (b : Bool) (made : List ReportKind) → made ≡ [] → (if b then [] else made) ≡ []
taken true made e = refl
taken false made e = e

pub nothing_pending : (tables : OwnTables) (view : View) (ordinal : ℕ)
    → All OffersNothing tables.tables → reports_pending tables view ordinal ≡ []
nothing_pending tables [] ordinal none = refl
nothing_pending tables (own other takes ∷ view) ordinal none =
    taken (other == ordinal) (reports_pending tables view ordinal)
    (nothing_pending tables view ordinal none)
nothing_pending tables (own other closes ∷ view) ordinal none =
    one_more tables none view ordinal (own other closes) (nothing_pending tables view ordinal none)
nothing_pending tables (own other opens ∷ view) ordinal none =
    one_more tables none view ordinal (own other opens) (nothing_pending tables view ordinal none)
nothing_pending tables (own other (reads name) ∷ view) ordinal none =
    one_more tables none view ordinal (own other (reads name))
    (nothing_pending tables view ordinal none)
nothing_pending tables (own other (writes name value) ∷ view) ordinal none =
    one_more tables none view ordinal (own other (writes name value))
    (nothing_pending tables view ordinal none)
nothing_pending tables (own other (defines set members) ∷ view) ordinal none =
    one_more tables none view ordinal (own other (defines set members))
    (nothing_pending tables view ordinal none)
nothing_pending tables (own other (deletes set) ∷ view) ordinal none =
    one_more tables none view ordinal (own other (deletes set))
    (nothing_pending tables view ordinal none)
nothing_pending tables (own other (calls call) ∷ view) ordinal none =
    one_more tables none view ordinal (own other (calls call))
    (nothing_pending tables view ordinal none)
nothing_pending tables (other_acted key other device act ∷ view) ordinal none =
    one_more tables none view ordinal (other_acted key other device act)
    (nothing_pending tables view ordinal none)
nothing_pending tables (other_closed key other ∷ view) ordinal none =
    one_more tables none view ordinal (other_closed key other)
    (nothing_pending tables view ordinal none)
nothing_pending tables (updated name value ∷ view) ordinal none =
    one_more tables none view ordinal (updated name value)
    (nothing_pending tables view ordinal none)
nothing_pending tables (tagged device tag ∷ view) ordinal none =
    one_more tables none view ordinal (tagged device tag)
    (nothing_pending tables view ordinal none)
nothing_pending tables (asked s ∷ view) ordinal none =
    one_more tables none view ordinal (asked s) (nothing_pending tables view ordinal none)
nothing_pending tables (chose variant ∷ view) ordinal none =
    one_more tables none view ordinal (chose variant) (nothing_pending tables view ordinal none)
nothing_pending tables (ticked now ∷ view) ordinal none =
    one_more tables none view ordinal (ticked now) (nothing_pending tables view ordinal none)
nothing_pending tables (stopped ∷ view) ordinal none =
    one_more tables none view ordinal stopped (nothing_pending tables view ordinal none)
