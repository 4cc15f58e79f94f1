-- The lines of a lawful centre can be written.
use Rattle.std.proofs.Common.{◌≡◌, ◌≢◌, suc, ◌<◌, true, false, not, List, [], ◌∷◌}
use Rattle.std.proofs.Common.{◌++◌, length, map, get_or, All, AllPairs, IsTrue, refl, ap, inl, inr}
use Rattle.std.proofs.Common.{arith, subst}
use Rattle.std.specs.Prelude.{zip}
use Rattle.std.proofs.lemmas.List.{get_or_default}
use Rattle.std.specs.List.{flat_map, list_any}
use Rattle.std.proofs.lemmas.Bool.{and_from, cases_Bool}
use Rattle.std.proofs.lemmas.List.Elements.{All-head, All-tail, All-get_or}
use Rattle.std.proofs.lemmas.List.Folds.{list_any_none}
use Rattle.tase_points.specs.declared.layout.Component.{Component}
use Rattle.tase_points.specs.Layouts.{IsLayout}
use Rattle.tase_points.specs.Same.{same_component}
use Rattle.tase_points.proofs.Same.{same_component-true}
use Rattle.bilateral.specs.Words.Words.{is_name, is_distinct}
use Rattle.bilateral.specs.declared.line.TableLine.{TableLine}
use Rattle.bilateral.specs.declared.line.TableLine.TheVariants.{Point, Device}
use Rattle.bilateral.specs.declared.rows.PointRow.{PointRow}
use Rattle.bilateral.specs.declared.rows.DeviceRow.{DeviceRow}
use Rattle.bilateral.specs.declared.rows.See.{See as SeeRow}
use Rattle.bilateral.specs.declared.rows.Control.{Control as ControlRow}
use Rattle.bilateral.specs.declared.rows.Table.{Table}
use Rattle.bilateral.specs.Rows.{CentreRows, IsCentre, IsTable, IsControlling, IsDevice, no_point}
use Rattle.bilateral.specs.Rows.{no_device}
use Rattle.bilateral.specs.Writing.{AreWritable, see_line_of, control_line_of, table_lines}
use Rattle.bilateral.specs.Writing.{centre_lines, row_lines, variant_lines, peer_lines}

writable-append : (first second : List TableLine) → AreWritable first → AreWritable second
    → AreWritable (first ++ second)
writable-append [] second a b = b
writable-append (line ∷ first) second a b = (a.0, writable-append first second a.1 b)

-- components of which no two are one stand once each
distinct-from_pairs : (layout : List Component) → AllPairs (λ a b. a ≢ b) layout
    → is_distinct layout ≡ true
distinct-from_pairs [] pairs = refl
distinct-from_pairs (x ∷ xs) pairs =
    and_from (not (list_any (same_component x) xs)) (is_distinct xs)
    (ap not
    (list_any_none (same_component x) xs
    (λ k d below. other (get_or xs k d) (pairs 0 (suc k) d (omega arith) (omega arith)))))
    (distinct-from_pairs xs
    (λ i j d before below. pairs (suc i) (suc j) d (omega arith) (omega arith)))
  where
    other : (y : Component) → x ≢ y → same_component x y ≡ false
    other y apart =
        elim (cases_Bool (same_component x y)) [
          | inl same ↦ absurd (apart (same_component-true x y same))
          | inr differs ↦ differs
        ]

abbrev IsNamedPoint : PointRow → Type 0
IsNamedPoint row = IsTrue (is_name row.name)

points_writable : (points : List PointRow) → All IsNamedPoint points
    → AreWritable (map Point points)
points_writable [] named = tt
points_writable (point ∷ points) named = (
  All-head IsNamedPoint point points named,
  points_writable points (All-tail IsNamedPoint point points named),
)

devices_writable : (devices : List DeviceRow) → All IsDevice devices
    → AreWritable (map Device devices)
devices_writable [] lawful = tt
devices_writable (device ∷ devices) lawful =
    let is = All-head IsDevice device devices lawful in (
      (is.named, is.form, is.span),
      devices_writable devices (All-tail IsDevice device devices lawful),
    )

module _ (rows : CentreRows) (lawful : IsCentre rows) where
  sees_writable : (sees : List SeeRow) → All (λ see. see.point < length rows.points) sees
      → All (λ see. IsLayout see.layout) sees → AreWritable (map (see_line_of rows) sees)
  sees_writable [] known layouts = tt
  sees_writable (see ∷ sees) known layouts =
      let layout = All-head (λ (s : SeeRow). IsLayout s.layout) see sees layouts in (
        (
          All-get_or IsNamedPoint rows.points see.point no_point
              (All-head (λ (s : SeeRow). s.point < length rows.points) see sees known) lawful.named,
          (layout.nonempty, distinct-from_pairs see.layout layout.distinct),
        ),
        sees_writable sees
            (All-tail (λ (s : SeeRow). s.point < length rows.points) see sees known)
            (All-tail (λ (s : SeeRow). IsLayout s.layout) see sees layouts),
      )

  controls_writable : (controls : List ControlRow)
      → All (λ row. row.device < length rows.devices) controls
      → AreWritable (map (control_line_of rows) controls)
  controls_writable [] known = tt
  controls_writable (row ∷ controls) known = (
    (All-get_or IsDevice rows.devices row.device no_device
        (All-head (λ (r : ControlRow). r.device < length rows.devices) row controls known)
        lawful.devices).named,
    controls_writable controls
        (All-tail (λ (r : ControlRow). r.device < length rows.devices) row controls known),
  )

  rows_writable : (table : Table) → IsTable (length rows.points) table
      → IsControlling (length rows.devices) table → AreWritable (row_lines rows table)
  rows_writable table is controlling =
      writable-append (map (see_line_of rows) table.sees)
      (map (control_line_of rows) table.controls)
      (sees_writable table.sees is.known is.layouts)
      (controls_writable table.controls controlling.known)

  table_writable : (table : Table) → IsTable (length rows.points) table
      → IsControlling (length rows.devices) table → AreWritable (table_lines rows table)
  table_writable table is controlling = (
    (is.key, is.domain, is.id, refl, is.title),
    (
      (is.slots_least, is.slots),
      (
        (is.sets_least, is.sets),
        ((is.pending_least, is.pending), rows_writable table is controlling),
      ),
    ),
  )

  variant_writable : (table : Table) → IsTable (length rows.points) table
      → IsControlling (length rows.devices) table → AreWritable (variant_lines rows table)
  variant_writable table is controlling = (
    (is.key, is.domain, is.id),
    (
      (is.slots_least, is.slots),
      ((is.sets_least, is.sets), rows_writable table is controlling),
    ),
  )

  variants_writable : (further : List Table) → All (IsTable (length rows.points)) further
      → All (IsControlling (length rows.devices)) further
      → AreWritable (flat_map (variant_lines rows) further)
  variants_writable [] are controlling = tt
  variants_writable (table ∷ further) are controlling =
      writable-append (variant_lines rows table) (flat_map (variant_lines rows) further)
      (variant_writable table (All-head (IsTable (length rows.points)) table further are)
      (All-head (IsControlling (length rows.devices)) table further controlling))
      (variants_writable further (All-tail (IsTable (length rows.points)) table further are)
      (All-tail (IsControlling (length rows.devices)) table further controlling))

  peers_writable : (tables : List Table) (variants : List (List Table))
      → All (IsTable (length rows.points)) tables
      → All (IsControlling (length rows.devices)) tables
      → All (All (IsTable (length rows.points))) variants
      → All (All (IsControlling (length rows.devices))) variants
      → AreWritable (flat_map (peer_lines rows) (zip tables variants))
  peers_writable [] variants are controlling further further_controlling = tt
  peers_writable (table ∷ tables) [] are controlling further further_controlling = tt
  peers_writable (table ∷ tables) (own ∷ variants) are controlling further further_controlling =
      let P = IsTable (length rows.points) in
      let Q = IsControlling (length rows.devices) in
      writable-append (peer_lines rows (table, own))
      (flat_map (peer_lines rows) (zip tables variants))
      (writable-append (table_lines rows table) (flat_map (variant_lines rows) own)
      (table_writable table (All-head P table tables are) (All-head Q table tables controlling))
      (variants_writable own (All-head (All P) own variants further)
      (All-head (All Q) own variants further_controlling)))
      (peers_writable tables variants (All-tail P table tables are)
      (All-tail Q table tables controlling) (All-tail (All P) own variants further)
      (All-tail (All Q) own variants further_controlling))

  further_tables : All (All (IsTable (length rows.points))) rows.variants
  further_tables = λ k d below.
      subst (All (IsTable (length rows.points))) (get_or_default rows.variants k [] d below)
      (lawful.further k).tables

  further_controls : All (All (IsControlling (length rows.devices))) rows.variants
  further_controls = λ k d below.
      subst (All (IsControlling (length rows.devices))) (get_or_default rows.variants k [] d below)
      (lawful.further k).controls

  -- the lines of a lawful centre
  pub centre_writable : AreWritable (centre_lines rows)
  centre_writable =
      let peers = zip rows.tables rows.variants in
      writable-append (map Point rows.points)
      (map Device rows.devices ++ flat_map (peer_lines rows) peers)
      (points_writable rows.points lawful.named)
      (writable-append (map Device rows.devices) (flat_map (peer_lines rows) peers)
      (devices_writable rows.devices lawful.devices)
      (peers_writable rows.tables rows.variants lawful.tables lawful.controls further_tables
      further_controls))
