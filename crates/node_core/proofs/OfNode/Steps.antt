-- What a node keeps beside its history stays right as the history grows.
use Rattle.std.proofs.Common.{◌≡◌, ◌≢◌, ◌==◌, ℕ, zero, suc, ◌+◌, ◌-◌, ◌^◌, ◌<◌, ◌≤◌, ◌⊎◌, inl, inr}
use Rattle.std.proofs.Common.{Bool}
use Rattle.std.proofs.Common.{true, false}
use Rattle.std.proofs.Common.{not, ◌&&◌, List, [], ◌∷◌, ◌++◌, map, set, length, get_or, ltb}
use Rattle.std.proofs.Common.{Option, Some}
use Rattle.std.proofs.Common.{None}
use Rattle.std.proofs.Common.{refl, sym, ap, ◌∙◌, subst, ⊎_elim, arith, length-set, slice_get}
use Rattle.std.proofs.Common.{get_or-set_same, get_or-set_other}
use Rattle.std.specs.Prelude.{◌||◌, if◌then◌else◌, slice_index_or, is_some}
use Rattle.std.specs.List.{cons_option}
use Rattle.std.specs.Option.{option_map}
use Rattle.std.proofs.lemmas.Bool.{cases_eq, cases_lt, eq-eqb, ne_eqb, and_parts, ltb-true}
use Rattle.std.proofs.lemmas.Bool.{false≢true}
use Rattle.std.proofs.lemmas.List.{length-map, get_or-map, get_or_past}
use Rattle.std.proofs.lemmas.List.Elements.{All-cons}
use Rattle.std.proofs.lemmas.List.Folds.{list_any-append}
use Rattle.std.proofs.lemmas.Option.{slice_get-get_or, slice_get-map}
use Rattle.std.proofs.lemmas.Option.{slice_get_within, get_or_from_slice_get, same_Some, none-some}
use Rattle.tase_points.specs.Points.{kind_of}
use Rattle.tase_points.specs.Same.{same_kind}
use Rattle.tase_points.specs.Sample.{Sample}
use Rattle.point_db.specs.Stored.{Keeps as KeepsPoints}
use Rattle.bilateral.specs.declared.rows.Table.{Table}
use Rattle.bilateral.specs.declared.rows.TheConstants.{SLOT_LIMIT}
use Rattle.bilateral.specs.Rows.{CentreRows, IsCentre, no_table, table_of, further_of, point_of}
use Rattle.bilateral.specs.Rows.{device_of, variants_of}
use Rattle.sbo_device.specs.declared.key.Key.{Key}
use Rattle.sbo_device.specs.Moves.{Tag}
use Rattle.transfer_sets.specs.Banks.{freed}
use Rattle.tase_views.specs.declared.call.CallKind.{CallKind}
use Rattle.tase_views.specs.declared.event.EventKind.{EventKind}
use Rattle.tase_views.specs.declared.event.EventKind.TheVariants.{Open, Request, Take, Close}
use Rattle.tase_views.specs.declared.event.EventKind.TheVariants.{Update, Tick, Ask}
use Rattle.tase_views.specs.declared.event.EventKind.TheVariants as events
use Rattle.tase_views.specs.declared.event.EventKind.TheVariants.{TakeOrders, Stop}
use Rattle.tase_views.specs.declared.event.EventKind.TheVariants.{Table as Choice}
use Rattle.tase_views.specs.Moves.{Act, opens, takes, closes, reads, writes, defines, deletes}
use Rattle.tase_views.specs.Moves.{calls, acts_of_call, moves_by}
use Rattle.tase_views.specs.Moves.{Move, acts, moves_of, EventSort, sort_of, opening}
use Rattle.tase_views.specs.Moves.{requesting, taking, closing, taking_orders, feeding}
use Rattle.tase_views.specs.History.{Past, association_in, association_after, association_by}
use Rattle.tase_views.specs.History.{key_at, opens_in, counts_open, next_key, last_tick}
use Rattle.tase_views.specs.OwnTables.{OwnTables, own_table, own_tables, no_own_table, table_in}
use Rattle.tase_views.specs.OwnTables.{device_named}
use Rattle.tase_views.specs.Outcomes.{is_known}
use Rattle.tase_views.specs.View.{own, other_acted, other_closed, tagged, chose, stopped}
use Rattle.tase_views.specs.View.{View, view_by, moves_in, view_of, moment_in}
use Rattle.tase_views.proofs.Seated.{one_seat}
use Rattle.node_core.specs.Devices.DeviceBanks.{IsDeviceBank}
use Rattle.node_core.specs.declared.node.peer.Peer.{Peer}
use Rattle.node_core.specs.declared.plant.Plant.{Plant}
use Rattle.node_core.specs.LastValues.{kinds_of, updates_in}
use Rattle.node_core.specs.Slots.Associations.{OpenAssociation, new_association, is_open_in}
use Rattle.node_core.specs.Slots.Associations.{open_without, behind_take}
use Rattle.node_core.specs.PeerParts.{IsPart, new_part, part_after, part_behind, IsLawfulAct}
use Rattle.node_core.specs.PeerParts.{EachAct, settled, no_sets}
use Rattle.node_core.specs.Stored.{IsCommon, AreParts, IsPeerThere, MayOpen}
use Rattle.node_core.proofs.OfSlots.AssociationSteps.{others_stay}
use Rattle.node_core.proofs.CallActs.{IsOfCall, of_call, calls_keep}
use Rattle.node_core.proofs.OfObjects.Known.{table_is_lawful, further_are_lawful}
use Rattle.node_core.proofs.Moments.{moment_is}
use Rattle.node_core.proofs.OfNode.PartSteps.{AreOffered, IsLawfulMove, IsPart-new, IsPart-after}
use Rattle.node_core.proofs.Seeing.{IsKept, by_others, opens_in_view}

-- ---- lists of which one item changes

-- an item of such a list is the new one, or one of the old list
pub set_cases : {X : Type 0} (xs : List X) (p q : ℕ) (y x : X) → slice_get (set xs p y) q ≡ Some x
    → ((q ≡ p) × (x ≡ y)) ⊎ ((q ≢ p) × (slice_get xs q ≡ Some x))
set_cases {X} xs p q y x at =
    let many : length (set xs p y) ≡ length xs = length-set xs p y in
    let there : q < length (set xs p y) = slice_get_within (set xs p y) q x at in
    let read : get_or (set xs p y) q y ≡ x = get_or_from_slice_get (set xs p y) q x y at in
    ⊎_elim
    (λ (same : q ≡ p). let Has : ℕ → Type 0 = λ n. get_or (set xs p y) n y ≡ x in
    inl (same, sym (subst Has same read) ∙ get_or-set_same xs p y y (omega arith)))
    (λ apart. inr (
      apart,
      slice_get-get_or xs q y (omega arith)
          ∙ ap (λ (z : X). Some z) (sym (get_or-set_other xs p q y y apart) ∙ read),
    ))
    (cases_eq q p)

-- a list with an item that it has is as before
pub set_same : {X : Type 0} (xs : List X) (p : ℕ) (x : X) → slice_get xs p ≡ Some x
    → xs ≡ set xs p x
set_same [] p x at = absurd (none-some x at)
set_same (y ∷ xs) zero x at = ap (λ z. z ∷ xs) (same_Some y x at)
set_same (y ∷ xs) (suc p) x at = ap (λ ys. y ∷ ys) (set_same xs p x at)

-- a part that is there
pub part_there : (peers : List Peer) (peer : ℕ) → peer < length peers
    → (part : Peer) × (slice_get peers peer ≡ Some part)
part_there [] peer there = absurd (omega (arith, there))
part_there (part ∷ peers) peer there =
    (get_or (part ∷ peers) peer part, slice_get-get_or (part ∷ peers) peer part there)

-- ---- the parts of all peers

-- the table of a peer with a number is offered so
pub own_at : (rows : CentreRows) (peer n : ℕ) (table : Table)
    → slice_get (variants_of rows peer) n ≡ Some table
    → table_in (own_tables rows peer) n ≡ own_table rows table
own_at rows peer n table at =
    get_or-map (own_table rows) (variants_of rows peer) n no_table no_own_table
    (slice_get_within (variants_of rows peer) n table at)
    ∙ ap (own_table rows) (get_or_from_slice_get (variants_of rows peer) n table no_table at)

-- a table has no more transfer sets than there is room for
few_slots : (rows : CentreRows) → IsCentre rows → (peer n : ℕ)
    → (slice_index_or (variants_of rows peer) n no_table).slots ≤ SLOT_LIMIT
few_slots rows lawful peer n =
    ⊎_elim
    (λ there. All-cons Few (table_of rows peer) (further_of rows peer) own
    (λ k d within. (further_are_lawful rows peer lawful k d within).slots) n no_table there)
    (λ past. rw (get_or_past (variants_of rows peer) n no_table past) (omega arith))
    (cases_lt n (length (variants_of rows peer)))
  where
    Few : Table → Type 0
    Few table = table.slots ≤ SLOT_LIMIT

    own : (table_of rows peer).slots ≤ SLOT_LIMIT
    own =
        ⊎_elim
        (λ there. (table_is_lawful rows peer lawful there).slots)
        (λ past. rw (get_or_past rows.tables peer no_table past) (omega arith))
        (cases_lt peer (length rows.tables))

pub own_few : (rows : CentreRows) → IsCentre rows → (peer n : ℕ)
    → (table_in (own_tables rows peer) n).slots ≤ SLOT_LIMIT
own_few rows lawful peer n =
    ⊎_elim
    (λ there. rw (get_or-map (own_table rows) (variants_of rows peer) n no_table no_own_table there)
    (few_slots rows lawful peer n))
    (λ past. let many = length-map (variants_of rows peer) (own_table rows) in
    rw (get_or_past (map (own_table rows) (variants_of rows peer)) n no_own_table (omega arith))
    (omega arith))
    (cases_lt n (length (variants_of rows peer)))

pub own_count : (rows : CentreRows) (peer : ℕ)
    → length (own_tables rows peer).tables ≡ length (variants_of rows peer)
own_count rows peer = length-map (variants_of rows peer) (own_table rows)

pub AreParts-new : (rows : CentreRows) (peers : List Peer)
    → peers ≡ map (λ (table : Table). new_part table.sets) rows.tables → AreParts rows [] peers
AreParts-new rows peers are = record {
  many = ap length are ∙ length-map rows.tables (λ (table : Table). new_part table.sets);
  each = λ peer part at.
      let there : peer < length rows.tables = omega (
        arith,
        slice_get_within peers peer part at,
        ap length are,
        length-map rows.tables (λ (table : Table). new_part table.sets),
      ) in
      let here = ap (λ (xs : List Peer). slice_get xs peer) are
      ∙ slice_get-map (λ (table : Table). new_part table.sets) rows.tables peer
      ∙ ap (option_map (λ (table : Table). new_part table.sets))
      (slice_get-get_or rows.tables peer no_table there) in
      subst (λ (x : Peer). IsPart (own_tables rows peer) [] x)
      (same_Some (new_part (table_of rows peer).sets) part (sym here ∙ at))
      (IsPart-new (own_tables rows peer) (omega (arith, own_count rows peer)));
  seated = λ who key part seat at. absurd (none-some key seat);
}

-- ---- acts of an association

-- each of these is lawful behind those before it
abbrev pub AreLawful : OwnTables → ℕ → ℕ → List Act → Peer → Type 0
AreLawful tables now ordinal [] part = Unit {0}
AreLawful tables now ordinal (act ∷ these) part =
    IsLawfulMove tables (part_behind tables now ordinal these part) (own ordinal act)
    × AreLawful tables now ordinal these part

of_open : (tables : OwnTables) (part : Peer) (ordinal : ℕ) (act : Act) → IsOfCall act
    → IsLawfulAct act → is_open_in ordinal part.associations ≡ true
    → IsLawfulMove tables part (own ordinal act)
of_open tables part ordinal opens of lawful there = absurd of
of_open tables part ordinal takes of lawful there = absurd of
of_open tables part ordinal closes of lawful there = absurd of
of_open tables part ordinal (reads name) of lawful there = (lawful, there)
of_open tables part ordinal (writes name value) of lawful there = (lawful, there)
of_open tables part ordinal (defines set members) of lawful there = (lawful, there)
of_open tables part ordinal (deletes set) of lawful there = (lawful, there)
of_open tables part ordinal (calls call) of lawful there = (lawful, there)

-- acts of a call of an open association are
call_lawful : (tables : OwnTables) (now ordinal : ℕ) (these : List Act) (part : Peer)
    → EachAct IsOfCall these → EachAct IsLawfulAct these
    → is_open_in ordinal part.associations ≡ true → AreLawful tables now ordinal these part
call_lawful tables now ordinal [] part of lawful there = tt
call_lawful tables now ordinal (act ∷ these) part of lawful there = (
  of_open tables (part_behind tables now ordinal these part) ordinal act of.0 lawful.0
      (ap (is_open_in ordinal) (calls_keep tables now ordinal these part of.1) ∙ there),
  call_lawful tables now ordinal these part of.1 lawful.1 there,
)

-- a part stays where its peer is shown nothing of its own
abbrev IsNone : Act → Type 0
IsNone act = ⊥

part_kept : (tables : OwnTables) → AreOffered tables → (part : Peer)
    → IsKept (λ (view : View). IsPart tables view part) IsNone
part_kept tables o part = record {
  acted = λ key ordinal device act view p.
      IsPart-after tables o view part (moment_in view) refl (other_acted key ordinal device act)
      tt p;
  closed = λ key ordinal view p.
      IsPart-after tables o view part (moment_in view) refl (other_closed key ordinal) tt p;
  own = λ ordinal act view none p. absurd none;
}

-- the tables that a peer is offered
pub own_offers : (rows : CentreRows) → IsCentre rows → (peer : ℕ)
    → AreOffered (own_tables rows peer)
own_offers rows lawful peer = record {
  few = own_few rows lawful peer;
}

-- ---- the associations of seats

-- all seats' associations are among those of their peers' parts
abbrev AreSeated : Past → List Peer → Type 0
AreSeated past peers = (who : ℕ) (key : Key) (part : Peer) → association_in past who ≡ Some key
    → slice_get peers key.peer ≡ Some part → is_open_in key.ordinal part.associations ≡ true

-- an event that leaves its seat's association
seated_still : (past : Past) (who : ℕ) (event : EventKind)
    → ((before : Option Key) → association_after event past before ≡ before)
    → (asked : ℕ) → association_in (record { who = who; event = event } ∷ past) asked
    ≡ association_in past asked
seated_still past who event same asked =
    elim (who == asked) as
    (λ b. (if b then association_after event past (association_in past asked)
    else association_in past asked) ≡ association_in past asked)
    [ true ↦ same (association_in past asked) | false ↦ refl ]

-- where each part keeps its associations
AreSeated-kept : (past : Past) (who : ℕ) (event : EventKind) (peers new : List Peer)
    → ((before : Option Key) → association_after event past before ≡ before)
    → length new ≡ length peers
    → ((peer : ℕ) (part after : Peer) → slice_get peers peer ≡ Some part
    → slice_get new peer ≡ Some after → (ordinal : ℕ)
    → is_open_in ordinal part.associations ≡ true
    → is_open_in ordinal after.associations ≡ true)
    → AreSeated past peers → AreSeated (record { who = who; event = event } ∷ past) new
AreSeated-kept past who event peers new same many keeps s asked key after seat at =
    let within : key.peer < length peers = omega (
      arith,
      many,
      slice_get_within new key.peer after at,
    ) in
    let found = part_there peers key.peer within in
    keeps key.peer found.0 after found.1 at key.ordinal
    (s asked key found.0 (sym (seated_still past who event same asked) ∙ seat) found.1)

-- where one part has changed
AreSeated-set : (past : Past) (who : ℕ) (event : EventKind) (peers : List Peer) (peer : ℕ)
    (part after : Peer) → slice_get peers peer ≡ Some part
    → ((asked : ℕ) (key : Key)
    → association_in (record { who = who; event = event } ∷ past) asked ≡ Some key
    → ((association_in past asked ≡ Some key)
    × (is_open_in key.ordinal part.associations ≡ true
    → key.peer ≡ peer → is_open_in key.ordinal after.associations ≡ true))
    ⊎ ((key.peer ≡ peer) × (is_open_in key.ordinal after.associations ≡ true)))
    → AreSeated past peers
    → AreSeated (record { who = who; event = event } ∷ past) (set peers peer after)
AreSeated-set past who event peers peer part after at each s asked key new seat here =
    by (each asked key seat) (set_cases peers peer key.peer after new here)
  where
    by : ((association_in past asked ≡ Some key)
        × (is_open_in key.ordinal part.associations ≡ true
        → key.peer ≡ peer → is_open_in key.ordinal after.associations ≡ true))
        ⊎ ((key.peer ≡ peer) × (is_open_in key.ordinal after.associations ≡ true))
        → ((key.peer ≡ peer) × (new ≡ after))
        ⊎ ((key.peer ≢ peer) × (slice_get peers key.peer ≡ Some new))
        → is_open_in key.ordinal new.associations ≡ true
    by (inl before) (inl mine) =
        ap (λ (x : Peer). is_open_in key.ordinal x.associations) mine.1
        ∙ before.1 (s asked key part before.0 (ap (slice_get peers) mine.0 ∙ at)) mine.0
    by (inl before) (inr other) = s asked key new before.0 other.1
    by (inr opened) (inl mine) =
        ap (λ (x : Peer). is_open_in key.ordinal x.associations) mine.1 ∙ opened.1
    by (inr opened) (inr other) = absurd (other.0 opened.0)

module _ (rows : CentreRows) (lawful_rows : IsCentre rows) (past : Past) (who : ℕ)
    (peers : List Peer) where
  -- the view of a peer behind the moves of an event
  abbrev behind : ℕ → List Move → View
  behind peer moves = view_by rows (own_tables rows) peer (moves ++ moves_in past)

  -- acts leave the moment
  acted_moment : (key : Key) (these : List Act)
      → moment_in (behind key.peer (map (acts key) these)) ≡ last_tick past
  acted_moment key [] = moment_is rows key.peer past
  acted_moment key (act ∷ these) =
      rw (eq-eqb key.peer key.peer refl) (acted_moment key these)

  -- acts of an association: its peer's part behind them, and all others as they were
  acted_part : (key : Key) (these : List Act) (part : Peer)
      → AreLawful (own_tables rows key.peer) (last_tick past) key.ordinal these part
      → IsPart (own_tables rows key.peer) (view_of rows key.peer past) part
      → IsPart (own_tables rows key.peer) (behind key.peer (map (acts key) these))
      (part_behind (own_tables rows key.peer) (last_tick past) key.ordinal these part)
  acted_part key [] part lawful p = p
  acted_part key (act ∷ these) part lawful p =
      rw (eq-eqb key.peer key.peer refl)
      (IsPart-after (own_tables rows key.peer) (own_offers rows lawful_rows key.peer)
      (behind key.peer (map (acts key) these))
      (part_behind (own_tables rows key.peer) (last_tick past) key.ordinal these part)
      (last_tick past) (sym (acted_moment key these)) (own key.ordinal act) lawful.0
      (acted_part key these part lawful.1 p))

  AreParts-acted : (event : EventKind) (key : Key) (these : List Act) (part : Peer)
      → moves_of (sort_of event) (key_at event past who) ≡ map (acts key) these
      → AreLawful (own_tables rows key.peer) (last_tick past) key.ordinal these part
      → slice_get peers key.peer ≡ Some part
      → AreSeated (record { who = who; event = event } ∷ past)
      (set peers key.peer
      (part_behind (own_tables rows key.peer) (last_tick past) key.ordinal these part))
      → AreParts rows past peers
      → AreParts rows (record { who = who; event = event } ∷ past)
      (set peers key.peer
      (part_behind (own_tables rows key.peer) (last_tick past) key.ordinal these part))
  AreParts-acted event key these part moves lawful at seated s =
      let after = part_behind (own_tables rows key.peer) (last_tick past) key.ordinal these part in
      record {
        many = length-set peers key.peer after ∙ s.many;
        seated = seated;
        each = λ peer new here.
            subst (λ (ms : List Move). IsPart (own_tables rows peer) (behind peer ms) new)
            (sym moves)
            (⊎_elim
            (λ (mine : (peer ≡ key.peer) × (new ≡ after)).
            subst (λ (q : ℕ). IsPart (own_tables rows q) (behind q (map (acts key) these)) new)
            (sym mine.0)
            (subst (λ (x : Peer). IsPart (own_tables rows key.peer)
            (behind key.peer (map (acts key) these)) x) (sym mine.1)
            (acted_part key these part lawful (s.each key.peer part at))))
            (λ (other : (peer ≢ key.peer) × (slice_get peers peer ≡ Some new)).
            by_others (λ (view : View). IsPart (own_tables rows peer) view new) IsNone
            (part_kept (own_tables rows peer) (own_offers rows lawful_rows peer) new) rows peer
            key these (moves_in past) (ne_eqb key.peer peer (λ e. other.0 (sym e)))
            (s.each peer new other.1))
            (set_cases peers key.peer peer after new here));
      }

  -- a request
  pub AreParts-called : (key : Key) (call : CallKind) (part : Peer)
      → association_in past who ≡ Some key → EachAct IsLawfulAct (acts_of_call call)
      → slice_get peers key.peer ≡ Some part → AreParts rows past peers
      → AreParts rows (record { who = who; event = Request call } ∷ past)
      (set peers key.peer (part_behind (own_tables rows key.peer) (last_tick past) key.ordinal
      (acts_of_call call) part))
  AreParts-called key call part seat lawful at s =
      let tables = own_tables rows key.peer in
      let keeps = calls_keep tables (last_tick past) key.ordinal (acts_of_call call) part
      (of_call call) in
      AreParts-acted (Request call) key (acts_of_call call) part
      (ap (λ (found : Option Key). moves_by found (acts_of_call call)) seat)
      (call_lawful tables (last_tick past) key.ordinal (acts_of_call call) part (of_call call)
      lawful (s.seated who key part seat at))
      at
      (AreSeated-set past who (Request call) peers key.peer part _ at
      (λ asked other seats. inl (
        sym (seated_still past who (Request call) (λ before. refl) asked) ∙ seats,
        λ there same. ap (is_open_in other.ordinal) keeps ∙ there,
      )) s.seated) s

  taken_open : (ordinal other : ℕ) (those : List OpenAssociation)
      → is_open_in other (map (behind_take ordinal) those) ≡ is_open_in other those
  taken_open ordinal other [] = refl
  taken_open ordinal other (a ∷ those) = rw (here a, taken_open ordinal other those) refl
    where
      here : (o : OpenAssociation) → (behind_take ordinal o).ordinal ≡ o.ordinal
      here o = by (o.ordinal == ordinal)
        where
          by : (b : Bool)
              → (if b then record o { made = []; drafted = [] } else o).ordinal ≡ o.ordinal
          by true = refl
          by false = refl

  pub AreParts-take : (key : Key) (part : Peer) → association_in past who ≡ Some key
      → slice_get peers key.peer ≡ Some part → AreParts rows past peers
      → AreParts rows (record { who = who; event = Take } ∷ past)
      (set peers key.peer
      (part_after (own_tables rows key.peer) (last_tick past) (own key.ordinal takes) part))
  AreParts-take key part seat at s =
      AreParts-acted Take key (takes ∷ []) part
      (ap (λ (found : Option Key). moves_by found (takes ∷ [])) seat)
      ((tt, s.seated who key part seat at), tt) at
      (AreSeated-set past who Take peers key.peer part _ at
      (λ asked other seats. inl (
        sym (seated_still past who Take (λ before. refl) asked) ∙ seats,
        λ there same. taken_open key.ordinal other.ordinal part.associations ∙ there,
      )) s.seated) s

  -- an open
  or_left : (a b : Bool) → a ≡ true → (a || b) ≡ true
  or_left true b e = refl
  or_left false b e = absurd (false≢true e)

  or_right : (a b : Bool) → b ≡ true → (a || b) ≡ true
  or_right true b e = refl
  or_right false b e = e

  pub AreParts-open : (peer : ℕ) (part : Peer) → slice_get peers peer ≡ Some part
      → part.opened_in_all ≡ opens_in past peer → AreParts rows past peers
      → AreParts rows (record { who = who; event = Open peer } ∷ past)
      (set peers peer
      (part_after (own_tables rows peer) (last_tick past) (own (opens_in past peer) opens) part))
  AreParts-open peer part at all s =
      let key = next_key past peer in
      let those = part.associations in
      AreParts-acted (Open peer) key (opens ∷ []) part refl (sym all, tt) at
      (AreSeated-set past who (Open peer) peers peer part _ at
      (λ asked other seats. elim (who == asked) as
      (λ b. (if b then Some key else association_in past asked) ≡ Some other
      → ((association_in past asked ≡ Some other)
      × (is_open_in other.ordinal those ≡ true → other.peer ≡ peer
      → is_open_in other.ordinal (those ++ new_association key.ordinal ∷ []) ≡ true))
      ⊎ ((other.peer ≡ peer)
      × (is_open_in other.ordinal (those ++ new_association key.ordinal ∷ []) ≡ true))) [
        | true ↦ λ e. inr (
          ap (λ (k : Key). k.peer) (sym (same_Some key other e)),
          list_any-append (λ (o : OpenAssociation). o.ordinal == other.ordinal) those
              (new_association key.ordinal ∷ [])
              ∙ or_right (is_open_in other.ordinal those) _
              (or_left (key.ordinal == other.ordinal) false
              (eq-eqb key.ordinal other.ordinal
              (ap (λ (k : Key). k.ordinal) (same_Some key other e)))),
        )
        | false ↦ λ e. inl (
          e,
          λ there same.
              list_any-append (λ (o : OpenAssociation). o.ordinal == other.ordinal) those
              (new_association key.ordinal ∷ [])
              ∙ or_left (is_open_in other.ordinal those) _ there,
        )
      ] seats) s.seated) s

  -- a close
  settled_open : (tables : OwnTables) (after : Peer) (ordinal : ℕ)
      → is_open_in ordinal (settled tables after).associations
      ≡ is_open_in ordinal after.associations
  settled_open tables after ordinal = by ((after.open_now == 0)
      && not (after.chosen_last == after.variant))
    where
      by : (b : Bool) → is_open_in ordinal (if b then record after {
        variant = after.chosen_last;
        book = no_sets (table_in tables after.chosen_last).sets;
      } else after).associations ≡ is_open_in ordinal after.associations
      by true = refl
      by false = refl

  pub AreParts-close : (key : Key) (part : Peer) → association_in past who ≡ Some key
      → slice_get peers key.peer ≡ Some part → AreParts rows past peers
      → AreParts rows (record { who = who; event = Close } ∷ past)
      (set peers key.peer
      (part_after (own_tables rows key.peer) (last_tick past) (own key.ordinal closes) part))
  AreParts-close key part seat at s =
      let those = part.associations in
      AreParts-acted Close key (closes ∷ []) part
      (ap (λ (found : Option Key). moves_by found (closes ∷ [])) seat)
      ((tt, s.seated who key part seat at), tt) at
      (AreSeated-set past who Close peers key.peer part _ at
      (λ asked other seats. elim (who == asked) as
      (λ b. (who == asked) ≡ b
      → (if b then None else association_in past asked) ≡ Some other
      → ((association_in past asked ≡ Some other)
      × (is_open_in other.ordinal those ≡ true → other.peer ≡ key.peer
      → is_open_in other.ordinal (part_after (own_tables rows key.peer) (last_tick past)
      (own key.ordinal closes) part).associations ≡ true))
      ⊎ ((other.peer ≡ key.peer)
      × (is_open_in other.ordinal (part_after (own_tables rows key.peer) (last_tick past)
      (own key.ordinal closes) part).associations ≡ true))) [
        | true ↦ λ same e. absurd (none-some other e)
        | false ↦ λ apart e. inl (
          e,
          λ there peer_same.
              settled_open (own_tables rows key.peer) (record part {
                open_now = part.open_now - 1;
                associations = open_without key.ordinal those;
                slots = map (freed key.ordinal) part.slots;
              }) other.ordinal
              ∙ others_stay key.ordinal other.ordinal those
              (λ ordinal_same. let one : other ≡ key = key_same other key peer_same ordinal_same in
              let seats_same = one_seat past asked who key
              (e ∙ ap (λ (k : Key). Some k) one) seat in
              false≢true (sym apart ∙ eq-eqb who asked (sym seats_same))) there,
        )
      ] refl seats) s.seated) s
    where
      key_same : (one other : Key) → one.peer ≡ other.peer → one.ordinal ≡ other.ordinal
          → one ≡ other
      key_same one other p q =
          subst (λ (n : ℕ). one ≡ record { peer = other.peer; ordinal = n }) q
          (ap (λ (n : ℕ). let k : Key = record { peer = n; ordinal = one.ordinal } in k) p)

  -- an event that leaves each seat's association, behind which each part is another
  pub AreParts-each : (event : EventKind) (new : List Peer)
      → ((before : Option Key) → association_after event past before ≡ before)
      → length new ≡ length peers
      → ((peer : ℕ) (part after : Peer) → slice_get peers peer ≡ Some part
      → slice_get new peer ≡ Some after
      → IsPart (own_tables rows peer) (view_of rows peer past) part
      → IsPart (own_tables rows peer)
      (view_of rows peer (record { who = who; event = event } ∷ past)) after
      × ((ordinal : ℕ) → is_open_in ordinal part.associations ≡ true
      → is_open_in ordinal after.associations ≡ true))
      → AreParts rows past peers
      → AreParts rows (record { who = who; event = event } ∷ past) new
  AreParts-each event new same many each s = record {
    many = many ∙ s.many;
    each = λ peer after here. (
        let within : peer < length peers =
        omega (arith, many, slice_get_within new peer after here) in
        let found = part_there peers peer within in
        (each peer found.0 after found.1 here (s.each peer found.0 found.1)).0);
    seated = AreSeated-kept past who event peers new same many
        (λ peer part after at here. (each peer part after at here (s.each peer part at)).1)
        s.seated;
  }

  pub AreParts-stop : AreParts rows past peers
      → AreParts rows (record { who = who; event = Stop } ∷ past) peers
  AreParts-stop s =
      AreParts-each Stop peers (λ before. refl) refl
      (λ peer part after at here p. subst (λ (x : Peer).
      IsPart (own_tables rows peer) (stopped ∷ view_of rows peer past) x
      × ((ordinal : ℕ) → is_open_in ordinal part.associations ≡ true
      → is_open_in ordinal x.associations ≡ true)) (same_Some part after (sym at ∙ here)) (
        IsPart-after (own_tables rows peer) (own_offers rows lawful_rows peer)
            (view_of rows peer past) part _ refl stopped tt p,
        λ ordinal there. there,
      )) s

  -- a tag of a device, which a peer sees or not, and a taking of orders, which none sees
  pub AreParts-tagged : (device : ℕ) (tag : Tag) → AreParts rows past peers
      → AreParts rows (record { who = who; event = events.Tag device tag } ∷ past) peers
  AreParts-tagged device tag s =
      AreParts-each (events.Tag device tag) peers (λ before. refl) refl
      (λ peer part after at here p. subst (λ (x : Peer). IsPart (own_tables rows peer)
      (view_of rows peer (record { who = who; event = events.Tag device tag } ∷ past)) x
      × ((ordinal : ℕ) → is_open_in ordinal part.associations ≡ true
      → is_open_in ordinal x.associations ≡ true)) (same_Some part after (sym at ∙ here)) (
        elim (is_some (device_named (own_tables rows peer) (device_of rows device).name)) as
            (λ b. IsPart (own_tables rows peer)
            (cons_option (if b then Some (tagged (device_of rows device).name tag) else None)
            (view_of rows peer past)) part) [
              | true ↦ IsPart-after (own_tables rows peer) (own_offers rows lawful_rows peer)
                  (view_of rows peer past) part _ refl (tagged (device_of rows device).name tag) tt p
              | false ↦ p
            ],
        λ ordinal there. there,
      )) s

  pub AreParts-orders : AreParts rows past peers
      → AreParts rows (record { who = who; event = TakeOrders } ∷ past) peers
  AreParts-orders s =
      AreParts-each TakeOrders peers (λ before. refl) refl
      (λ peer part after at here p. subst (λ (x : Peer).
      IsPart (own_tables rows peer) (view_of rows peer past) x
      × ((ordinal : ℕ) → is_open_in ordinal part.associations ≡ true
      → is_open_in ordinal x.associations ≡ true)) (same_Some part after (sym at ∙ here))
      (p, λ ordinal there. there)) s

  -- a choice of another table
  pub AreParts-chosen : (chooser variant : ℕ) (part : Peer)
      → variant < length (variants_of rows chooser) → slice_get peers chooser ≡ Some part
      → AreParts rows past peers
      → AreParts rows (record { who = who; event = Choice chooser variant } ∷ past)
      (set peers chooser
      (part_after (own_tables rows chooser) (last_tick past) (chose variant) part))
  AreParts-chosen chooser variant part there at s =
      let after = part_after (own_tables rows chooser) (last_tick past) (chose variant) part in
      AreParts-each (Choice chooser variant) (set peers chooser after) (λ before. refl)
      (length-set peers chooser after)
      (λ peer old new before here p.
      ⊎_elim
      (λ (mine : (peer ≡ chooser) × (new ≡ after)).
      let old_is : old ≡ part = same_Some old part (sym before ∙ ap (slice_get peers) mine.0 ∙ at)
      in (
        subst (λ (q : ℕ). IsPart (own_tables rows q)
            (view_of rows q (record { who = who; event = Choice chooser variant } ∷ past)) new)
            (sym mine.0)
            (subst (λ (x : Peer). IsPart (own_tables rows chooser) (view_of rows chooser
            (record { who = who; event = Choice chooser variant } ∷ past)) x) (sym mine.1)
            (rw (eq-eqb chooser chooser refl)
            (IsPart-after (own_tables rows chooser) (own_offers rows lawful_rows chooser)
            (view_of rows chooser past) part (last_tick past) (sym (moment_is rows chooser past))
            (chose variant) (omega (arith, there, own_count rows chooser))
            (s.each chooser part at)))),
        λ ordinal open_one. ap (λ (x : Peer). is_open_in ordinal x.associations) mine.1
            ∙ settled_open (own_tables rows chooser) (record part { chosen_last = variant })
            ordinal
            ∙ ap (λ (x : Peer). is_open_in ordinal x.associations) (sym old_is) ∙ open_one,
      ))
      (λ (other : (peer ≢ chooser) × (slice_get peers peer ≡ Some new)).
      let same : old ≡ new = same_Some old new (sym before ∙ other.1) in (
        subst (λ (x : Peer). IsPart (own_tables rows peer) (view_of rows peer
            (record { who = who; event = Choice chooser variant } ∷ past)) x) same
            (rw (ne_eqb chooser peer (λ e. other.0 (sym e))) p),
        λ ordinal open_one. ap (λ (x : Peer). is_open_in ordinal x.associations) (sym same)
            ∙ open_one,
      ))
      (set_cases peers chooser peer after new here)) s

-- ---- what is no peer's own

-- a point of which an update is taken is the centre's
pub known-point : (rows : CentreRows) (point : ℕ) (value : Sample)
    → is_known rows point value ≡ true → point < length rows.points
known-point rows point value known =
    ltb-true point (length rows.points) (and_parts (ltb point (length rows.points))
    (same_kind (kind_of value.body) (point_of rows point).kind) known).0

known_after : (sort : EventSort) (past : Past) (before : Option Key) (key : Key) (n : ℕ)
    → ((peer : ℕ) → sort ≡ opening peer → peer < n) → (before ≡ Some key → key.peer < n)
    → association_by sort past before ≡ Some key → key.peer < n
known_after (opening peer) past before key n opened known e =
    let same : peer ≡ key.peer = ap (λ (k : Key). k.peer) (same_Some (next_key past peer) key e) in
    let there : peer < n = opened peer refl in
    omega arith
known_after (requesting call) past before key n opened known e = known e
known_after taking past before key n opened known e = known e
known_after closing past before key n opened known e = absurd (none-some key e)
known_after taking_orders past before key n opened known e = known e
known_after (feeding move) past before key n opened known e = known e

-- behind an event, whose peer is there if it is an open
IsCommon-after : (rows : CentreRows) (past : Past) (plant next : Plant)
    (found after : ℕ → Option Key) (who : ℕ) (event : EventKind)
    → ((peer : ℕ) → sort_of event ≡ opening peer → peer < length rows.tables)
    → KeepsPoints (kinds_of rows) (updates_in (record { who = who; event = event } ∷ past))
    next.points
    → IsDeviceBank rows (moves_in (record { who = who; event = event } ∷ past)) next.devices
    → ((asked : ℕ) → after asked
    ≡ (if who == asked then association_after event past (found asked) else found asked))
    → IsCommon rows past plant found
    → IsCommon rows (record { who = who; event = event } ∷ past) next after
IsCommon-after rows past plant next found after who event opened given stand seats s = record {
  lawful = s.lawful;
  kept = given;
  devices = stand;
  seated = λ asked. seats asked ∙ rw (s.seated asked) refl;
  known = λ asked key e. by key (who == asked) (found asked) (s.known asked key)
      (sym (seats asked) ∙ e);
}
  where
    by : (key : Key) (here : Bool) (before : Option Key)
        → (before ≡ Some key → key.peer < length rows.tables)
        → (if here then association_after event past before else before) ≡ Some key
        → key.peer < length rows.tables
    by key true before known e =
        known_after (sort_of event) past before key (length rows.tables) opened known e
    by key false before known e = known e

module _ (rows : CentreRows) (past : Past) (plant : Plant) (found : ℕ → Option Key)
    (who : ℕ) (s : IsCommon rows past plant found) (next : Plant) where
  -- an open, a close, and an event that leaves its seat's association
  pub IsCommon-open : (peer : ℕ) (after : ℕ → Option Key) → peer < length rows.tables
      → next.points ≡ plant.points
      → IsDeviceBank rows (moves_in (record { who = who; event = Open peer } ∷ past)) next.devices
      → ((asked : ℕ) → after asked
      ≡ (if who == asked then Some (next_key past peer) else found asked))
      → IsCommon rows (record { who = who; event = Open peer } ∷ past) next after
  IsCommon-open peer after there points stand seats =
      IsCommon-after rows past plant next found after who (Open peer) (λ opener e. by opener e)
      (rw points s.kept) stand seats s
    where
      by : (opener : ℕ) → opening peer ≡ opening opener → opener < length rows.tables
      by opener e =
          let same : peer ≡ opener = cc in
          omega arith

  pub IsCommon-close : (after : ℕ → Option Key) → next.points ≡ plant.points
      → IsDeviceBank rows (moves_in (record { who = who; event = Close } ∷ past)) next.devices
      → ((asked : ℕ) → after asked ≡ (if who == asked then None else found asked))
      → IsCommon rows (record { who = who; event = Close } ∷ past) next after
  IsCommon-close after points stand seats =
      IsCommon-after rows past plant next found after who Close (λ opener e. absurd cc)
      (rw points s.kept) stand seats s

  pub IsCommon-still : (event : EventKind)
      → ((before : Option Key) → association_after event past before ≡ before)
      → KeepsPoints (kinds_of rows) (updates_in (record { who = who; event = event } ∷ past))
      next.points
      → IsDeviceBank rows (moves_in (record { who = who; event = event } ∷ past)) next.devices
      → IsCommon rows (record { who = who; event = event } ∷ past) next found
  IsCommon-still event same given stand =
      IsCommon-after rows past plant next found found who event
      (λ opener e. absurd (none-some (next_key past opener)
      (sym (sym (ap (λ (sort : EventSort). association_by sort past None) e) ∙ same None))))
      given stand
      (λ asked. rw (same (found asked)) (elim (who == asked) as
      (λ b. found asked ≡ (if b then found asked else found asked))
      [ true ↦ refl | false ↦ refl ])) s

pub IsCommon-new : (rows : CentreRows) (plant : Plant) (found : ℕ → Option Key)
    → IsCentre rows → KeepsPoints (kinds_of rows) [] plant.points
    → IsDeviceBank rows [] plant.devices → ((who : ℕ) → found who ≡ None)
    → IsCommon rows [] plant found
IsCommon-new rows plant found lawful kept stand none = record {
  lawful = lawful;
  kept = kept;
  devices = stand;
  seated = none;
  known = λ who key e. absurd (none-some key (sym (none who) ∙ e));
}

-- ---- what the calls of a node's parts require

module _ (rows : CentreRows) (past : Past) (peers : List Peer) (s : AreParts rows past peers) where
  pub IsPeerThere-of : IsCentre rows → (peer : ℕ) → peer < length rows.tables
      → IsPeerThere rows peers peer
  IsPeerThere-of lawful peer there = record {
    table = there;
    part = omega (arith, there, s.many);
    in_force = λ part at.
        omega (arith, (s.each peer part at).force_there, own_count rows peer);
    chosen = λ part at.
        omega (arith, (s.each peer part at).last_there, own_count rows peer);
    few = λ part at.
        omega (
          arith,
          own_few rows lawful peer part.variant,
          (s.each peer part at).slots.many,
        );
    slots = λ part at. (s.each peer part at).slots.many;
  }

  -- how many associations a peer has opened
  pub opens-at : (peer : ℕ) (part : Peer) → slice_get peers peer ≡ Some part
      → part.opened_in_all ≡ opens_in past peer
  opens-at peer part at = (s.each peer part at).in_all ∙ opens_in_view rows peer past

  pub MayOpen-of : (peer : ℕ) → opens_in past peer + 1 < 2 ^ 64 → MayOpen peers peer
  MayOpen-of peer room = λ part at.
      let all = opens-at peer part at in
      let fewer = (s.each peer part at).fewer in
      (omega (arith, all, room), omega (arith, all, room, fewer))

counts_open-le-one : (event : EventKind) (peer : ℕ) → counts_open event peer ≤ 1
counts_open-le-one (Open opened) peer =
    elim (opened == peer) as (λ b. (if b then 1 else 0) ≤ 1)
    [ true ↦ omega arith | false ↦ omega arith ]
counts_open-le-one (Request call) peer = omega arith
counts_open-le-one Take peer = omega arith
counts_open-le-one Close peer = omega arith
counts_open-le-one (Update point value) peer = omega arith
counts_open-le-one (Choice chooser variant) peer = omega arith
counts_open-le-one (Tick now) peer = omega arith
counts_open-le-one (Ask asker slot) peer = omega arith
counts_open-le-one (events.Tag device tag) peer = omega arith
counts_open-le-one TakeOrders peer = omega arith
counts_open-le-one Stop peer = omega arith

-- no peer has opened more associations than the history has entries
pub opens_in-le-length : (past : Past) (peer : ℕ) → opens_in past peer ≤ length past
opens_in-le-length [] peer = omega arith
opens_in-le-length (entry ∷ past) peer =
    omega (arith, opens_in-le-length past peer, counts_open-le-one entry.event peer)
