-- A change of a point, as a peer's table in force has the point.
use Rattle.std.proofs.Common.{◌≡◌, ◌==◌, ℕ, suc, ◌<◌, ◌%◌, Bool, true, false, ◌&&◌, List, [], ◌∷◌}
use Rattle.std.proofs.Common.{map}
use Rattle.std.proofs.Common.{length, Option, Some, None, is_some, bytes_eq, refl, sym, ap, subst}
use Rattle.std.proofs.Common.{◌∙◌, arith, eqb-true, eq-eqb}
use Rattle.std.specs.Prelude.{◌||◌, if◌then◌else◌, find}
use Rattle.std.specs.List.{All, list_any, position, cons_option}
use Rattle.std.specs.Option.{option_map_or}
use Rattle.std.proofs.lemmas.Bool.{false≢true}
use Rattle.std.proofs.lemmas.List.{length-map}
use Rattle.std.proofs.lemmas.Slice.Eq.{bytes_eq-Decides}
use Rattle.tase_points.specs.declared.kind.Kind.{Kind}
use Rattle.tase_points.specs.declared.layout.TheConstants.{COV_MODULUS}
use Rattle.tase_points.specs.Sample.{Sample}
use Rattle.tase_points.specs.Values.{is_change}
use Rattle.point_db.specs.Updates.{Update as PointUpdate, last_of, last_value, change_count}
use Rattle.point_db.specs.Updates.{values_given, kind_at}
use Rattle.bilateral.specs.declared.rows.See.{See}
use Rattle.bilateral.specs.Rows.{CentreRows, IsCentre, point_of, variants_of, variant_of}
use Rattle.bilateral.proofs.Names.{position-none_any}
use Rattle.transfer_sets.specs.SlotMoves.{PointChange}
use Rattle.transfer_sets.specs.Banks.{OwnedSlot}
use Rattle.tase_views.specs.declared.event.EventKind.TheVariants.{Update}
use Rattle.tase_views.specs.History.{Past, last_tick}
use Rattle.tase_views.specs.OwnTables.{OwnPoint, OwnTable, OwnTables, own_point, own_table}
use Rattle.tase_views.specs.OwnTables.{own_tables}
use Rattle.tase_views.specs.OwnTables.{table_in, is_point_of}
use Rattle.tase_views.specs.View.{View, updated, held, moment_in, view_of}
use Rattle.tase_views.specs.Values.{values_in, change_count_of}
use Rattle.tase_views.specs.Slots.{changes_point, count_shown}
use Rattle.node_core.specs.declared.node.peer.Peer.{Peer}
use Rattle.node_core.specs.LastValues.{kinds_of, updates_in}
use Rattle.node_core.specs.Objects.Found.{offered, table_at}
use Rattle.node_core.specs.Slots.SlotsKept.{IsBank}
use Rattle.node_core.specs.Feeds.SlotFeeds.{AreChanged, IsPlanned}
use Rattle.node_core.specs.PeerParts.{IsPart}
use Rattle.node_core.specs.PartFeeds.{IsReady, IsNoted}
use Rattle.node_core.proofs.OfReplies.Answered.{kind_there}
use Rattle.node_core.proofs.OfObjects.Known.{bytes_eq-names, named_by_variant, variant_is_lawful}
use Rattle.node_core.proofs.OfObjects.Known.{offered-at}
use Rattle.node_core.proofs.Moments.{moment_is}
use Rattle.node_core.proofs.OfNode.PartSteps.{AreOffered, IsPart-updated, IsPart-banked}
use Rattle.node_core.proofs.OfFeeds.SlotFeeds.{IsBank-changed, IsBank-unchanged, IsBank-unnamed}
use Rattle.node_core.proofs.OfFeeds.SlotFeeds.{changes_point-here}
use Rattle.node_core.proofs.Views.{values_in-view_of}

-- ---- the rows of a table for a point

module _ (rows : CentreRows) (lawful : IsCentre rows) (point : ℕ)
    (there : point < length rows.points) where
  abbrev named : OwnPoint → Bool
  named p = bytes_eq p.name (point_of rows point).name

  abbrev of_row : See → Bool
  of_row see = see.point == point

  -- a row's own point has the name where it is that point's row
  by_number : (see : See) → see.point < length rows.points
      → named (own_point rows see) ≡ of_row see
  by_number see known = bytes_eq-names rows see.point point lawful known there

  any_named : (sees : List See) → All (λ (see : See). see.point < length rows.points) sees
      → list_any named (map (own_point rows) sees) ≡ list_any of_row sees
  any_named [] known = refl
  any_named (see ∷ sees) known =
      rw (
        by_number see (known 0 see (omega arith)),
        any_named sees (λ i d within. known (suc i) d (omega (arith, within))),
      ) refl

  -- such a row is of the point's kind, so each test of a kind is one of that
  any_tested : (test : OwnPoint → Bool) (result : Bool)
      → ((see : See) → see.point ≡ point → test (own_point rows see) ≡ result)
      → (sees : List See) → All (λ (see : See). see.point < length rows.points) sees
      → list_any (λ (p : OwnPoint). named p && test p) (map (own_point rows) sees)
      ≡ (list_any of_row sees && result)
  any_tested test result same [] known = refl
  any_tested test result same (see ∷ sees) known =
      by (named (own_point rows see)) (by_number see (known 0 see (omega arith)))
      (any_tested test result same sees (λ i d within. known (suc i) d (omega (arith, within))))
    where
      by : (b : Bool) → b ≡ of_row see
          → list_any (λ (p : OwnPoint). named p && test p) (map (own_point rows) sees)
          ≡ (list_any of_row sees && result)
          → ((b && test (own_point rows see))
          || list_any (λ (p : OwnPoint). named p && test p) (map (own_point rows) sees))
          ≡ ((of_row see || list_any of_row sees) && result)
      by true e rest =
          rw (← e, same see (eqb-true see.point point (sym e)), rest)
          (absorbed result (list_any of_row sees))
        where
          absorbed : (r a : Bool) → (r || (a && r)) ≡ r
          absorbed true a = refl
          absorbed false true = refl
          absorbed false false = refl
      by false e rest = rw (← e) rest

  found_told : (f : OwnPoint → ℕ) (result : ℕ)
      → ((see : See) → see.point ≡ point → f (own_point rows see) ≡ result) → (sees : List See)
      → All (λ (see : See). see.point < length rows.points) sees
      → list_any of_row sees ≡ true
      → option_map_or f (find named (map (own_point rows) sees)) 0 ≡ result
  found_told f result same [] known any = absurd (false≢true any)
  found_told f result same (see ∷ sees) known any =
      by (named (own_point rows see)) (by_number see (known 0 see (omega arith)))
      (found_told f result same sees (λ i d within. known (suc i) d (omega (arith, within))))
    where
      by : (b : Bool) → b ≡ of_row see
          → (list_any of_row sees ≡ true
          → option_map_or f (find named (map (own_point rows) sees)) 0 ≡ result)
          → option_map_or f (if b then Some (own_point rows see)
          else find named (map (own_point rows) sees)) 0 ≡ result
      by true e rest = same see (eqb-true see.point point (sym e))
      by false e rest =
          rest (ap (λ (b : Bool). b || list_any of_row sees) e ∙ any)

-- a table names a point where some row is its row
any_place : (sees : List See) (point : ℕ)
    → list_any (λ (see : See). see.point == point) sees ≡ true
    → is_some (position (λ (see : See). see.point == point) sees) ≡ true
any_place sees point any =
    by (position (λ (see : See). see.point == point) sees)
    (position-none_any (λ (see : See). see.point == point) sees)
  where
    by : (found : Option ℕ)
        → (found ≡ None → list_any (λ (see : See). see.point == point) sees ≡ false)
        → is_some found ≡ true
    by None none = absurd (false≢true (sym (none refl) ∙ any))
    by (Some place) none = refl

-- ---- a part behind an update

module _ (rows : CentreRows) (lawful : IsCentre rows) (past : Past) (who point peer : ℕ)
    (value : Sample) (there : point < length rows.points) (part : Peer)
    (known : peer < length rows.tables)
    (p : IsPart (own_tables rows peer) (view_of rows peer past) part)
    (o : AreOffered (own_tables rows peer)) where
  abbrev tables : OwnTables
  tables = own_tables rows peer

  abbrev view : View
  view = view_of rows peer past

  abbrev name : List ℕ
  name = (point_of rows point).name

  abbrev sees : List See
  sees = (variant_of rows peer part.variant).sees

  abbrev kind : Kind
  kind = (point_of rows point).kind

  variant_there : part.variant < length (variants_of rows peer)
  variant_there = omega (arith, p.force_there, length-map (variants_of rows peer) (own_table rows))

  in_force : offered (table_at rows peer part.variant) ≡ held tables view
  in_force = offered-at rows peer part.variant variant_there ∙ ap (table_in tables) p.in_force

  rows_known : All (λ (see : See). see.point < length rows.points) sees
  rows_known = (variant_is_lawful rows peer part.variant
      (record { lawful = lawful; known = known; there = variant_there })).known

  points_are : (held tables view).points ≡ map (own_point rows) sees
  points_are = sym (ap (λ (t : OwnTable). t.points) in_force)

  abbrev after_view : View
  after_view = view_of rows peer (record { who = who; event = Update point value } ∷ past)

  -- the update is seen, or it isn't
  abbrev shown_if : Bool → View
  shown_if b = cons_option (if b then Some (updated name value) else None) view

  -- of a point that the table in force doesn't have nothing is noted
  unnamed : list_any (λ (q : OwnPoint). bytes_eq q.name name) (held tables view).points ≡ false
      → (slots : List OwnedSlot) → IsBank tables view slots
      → IsPart tables after_view (record part { slots = slots })
  unnamed none slots k = by (is_point_of rows peer point)
    where
      by : (b : Bool) → IsPart tables (shown_if b) (record part { slots = slots })
      by true =
          IsPart-updated tables o view part _ refl name value slots
          (IsBank-unchanged tables view name value slots
          (changes_point-here (held tables view) view name value none) k) p
      by false = IsPart-banked tables view part slots k p

  -- a point that it has: what the view gives it, whether an update changes it, and how often it has
  -- changed then
  values_are : list_any (λ (see : See). see.point == point) sees ≡ true
      → values_in view name ≡ values_given (updates_in past) point
  values_are any =
      values_in-view_of rows peer point lawful
      (named_by_variant rows peer part.variant point variant_there (any_place sees point any)) past

  kind_is : (see : See) → see.point ≡ point
      → (own_point rows see).kind ≡ kind_at (kinds_of rows) point
  kind_is see same =
      ap (λ (n : ℕ). (point_of rows n).kind) same ∙ sym (kind_there rows point there)

  changes_is : list_any (λ (see : See). see.point == point) sees ≡ true
      → changes_point (held tables view) view name value
      ≡ is_change (last_value (kinds_of rows) (updates_in past) point) value
  changes_is any =
      let test : OwnPoint → Bool = λ q. is_change (last_of q.kind (values_in view name)) value in
      let result = is_change (last_value (kinds_of rows) (updates_in past) point) value in
      ap (list_any (λ (q : OwnPoint). bytes_eq q.name name && test q)) points_are
      ∙ any_tested rows lawful point there test result
      (λ see same. rw (kind_is see same, values_are any) refl) sees rows_known
      ∙ ap (λ (b : Bool). b && result) any

  abbrev update : PointUpdate
  update = record { point = point; value = value }

  count_is : list_any (λ (see : See). see.point == point) sees ≡ true
      → count_shown (held tables view) (updated name value ∷ view) name
      ≡ change_count (kinds_of rows) (update ∷ updates_in past) point % COV_MODULUS
  count_is any =
      let values = values_in (updated name value ∷ view) name in
      let told : OwnPoint → ℕ = λ q. change_count_of q.kind values in
      let given : values ≡ values_given (update ∷ updates_in past) point =
      rw (
        (bytes_eq-Decides name name).1 refl,
        eq-eqb point point refl,
        values_are any,
      ) refl in
      ap (λ (ps : List OwnPoint). option_map_or told (find (λ (q : OwnPoint).
      bytes_eq q.name name) ps) 0) points_are
      ∙ found_told rows lawful point there told _
      (λ see same. rw (kind_is see same, given) refl) sees rows_known any

  -- what is noted as it was planned is what the view shows
  pub IsPart-noted : (changed : Bool) (cov : ℕ) (after : Peer)
      → changed ≡ is_change (last_value (kinds_of rows) (updates_in past) point) value
      → cov ≡ change_count (kinds_of rows) (update ∷ updates_in past) point % COV_MODULUS
      → (changed ≡ true → IsNoted (last_tick past) value cov part after)
      → (changed ≡ false → after ≡ part) → IsReady rows peer point part
      → IsPart tables after_view after
  IsPart-noted changed cov after changed_is cov_is noting leaving ready =
      by changed refl (list_any (λ (see : See). see.point == point) sees) refl
    where
      planned : IsPlanned (held tables view) part.book name part.slots part.plan
      planned = subst (λ (t : OwnTable). IsPlanned t part.book name part.slots part.plan) in_force
          ready.planned

      none_named : list_any (λ (see : See). see.point == point) sees ≡ false
          → list_any (λ (q : OwnPoint). bytes_eq q.name name) (held tables view).points ≡ false
      none_named none =
          ap (list_any (λ (q : OwnPoint). bytes_eq q.name name)) points_are
          ∙ any_named rows lawful point there sees rows_known ∙ none

      -- where the table has the point the update is seen
      seen : list_any (λ (see : See). see.point == point) sees ≡ true → (x : Peer)
          → IsPart tables (updated name value ∷ view) x → IsPart tables after_view x
      seen any x q =
          let shown = named_by_variant rows peer part.variant point variant_there
          (any_place sees point any) in
          subst (λ (b : Bool). IsPart tables (shown_if b) x) (sym shown) q

      by : (c : Bool) → changed ≡ c → (any : Bool)
          → list_any (λ (see : See). see.point == point) sees ≡ any
          → IsPart tables after_view after
      by true is false none =
          let n = noting is in
          let k = IsBank-unnamed tables view part.book _ part.slots after.slots (none_named none)
          (n.slots (held tables view) part.book name planned) p.slots in
          subst (λ (x : Peer). IsPart tables after_view x) (sym n.same)
          (unnamed (none_named none) after.slots k)
      by false is false none =
          subst (λ (x : Peer). IsPart tables after_view x) (sym (leaving is))
          (unnamed (none_named none) part.slots p.slots)
      by true is true any =
          let n = noting is in
          let change : (m k : ℕ) → PointChange = λ m k. record {
            point = name;
            moment = m;
            value = value;
            count = k;
          } in
          let changed_slots = subst (λ (c : PointChange).
          AreChanged (held tables view) part.book c part.slots after.slots)
          (ap (λ (m : ℕ). change m cov) (sym (moment_is rows peer past))
          ∙ ap (λ (k : ℕ). change (moment_in view) k) (cov_is ∙ sym (count_is any)))
          (n.slots (held tables view) part.book name planned) in
          seen any after
          (subst (λ (x : Peer). IsPart tables (updated name value ∷ view) x) (sym n.same)
          (IsPart-updated tables o view part _ refl name value after.slots
          (IsBank-changed tables view name value part.book part.slots after.slots
          (changes_is any ∙ sym changed_is ∙ is) p.sets.members changed_slots p.slots) p))
      by false is true any =
          seen any after
          (subst (λ (x : Peer). IsPart tables (updated name value ∷ view) x) (sym (leaving is))
          (IsPart-updated tables o view part _ refl name value part.slots
          (IsBank-unchanged tables view name value part.slots
          (changes_is any ∙ sym changed_is ∙ is) p.slots) p))
