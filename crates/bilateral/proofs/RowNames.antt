-- In each table of a lawful centre a name is that of one row alone.
use Rattle.std.proofs.Common.{◌≢◌, ℕ, zero, suc, ◌<◌, not, List, [], ◌∷◌, ◌++◌, length}
use Rattle.std.proofs.Common.{map, filter, get_or, All, AllPairs, IsTrue, sym, subst, inl, inr}
use Rattle.std.proofs.Common.{arith}
use Rattle.std.proofs.lemmas.Bool.{cases_lt}
use Rattle.std.proofs.lemmas.List.{get_or_past}
use Rattle.std.proofs.lemmas.List.Elements.{All-get_or, All-head, All-tail, All-map, All-append}
use Rattle.std.proofs.lemmas.List.Elements.{All-filter}
use Rattle.std.proofs.lemmas.List.Kept.{AllPairs-cons, AllPairs-filter}
use Rattle.bilateral.specs.declared.rows.PointRow.{PointRow}
use Rattle.bilateral.specs.declared.rows.DeviceRow.{DeviceRow}
use Rattle.bilateral.specs.declared.rows.See.{See}
use Rattle.bilateral.specs.declared.rows.Table.{Table}
use Rattle.bilateral.specs.Words.Words.{is_name}
use Rattle.bilateral.specs.Rows.{CentreRows, IsCentre, IsTable, IsControlling, no_table}
use Rattle.bilateral.specs.Rows.{no_point, no_device, further_of}
use Rattle.bilateral.specs.Rows.{variant_of}
use Rattle.bilateral.specs.RowNames.{see_name, control_name, row_names, vmd_row_names}
use Rattle.bilateral.specs.RowNames.{domain_row_names}

AllPairs-map : {X Y : Type 0} (R : Y → Y → Type 0) (f : X → Y) (xs : List X)
    → AllPairs (λ a b. R (f a) (f b)) xs → AllPairs R (map f xs)
AllPairs-map R f [] pairs = λ i j d before below. absurd (omega arith)
AllPairs-map R f (x ∷ xs) pairs =
    AllPairs-cons R (f x) (map f xs)
    (All-map (R (f x)) f xs (λ k d below. pairs 0 (suc k) d (omega arith) (omega arith)))
    (AllPairs-map R f xs
    (λ i j d before below. pairs (suc i) (suc j) d (omega arith) (omega arith)))

AllPairs-append : {X : Type 0} (R : X → X → Type 0) (xs ys : List X) → AllPairs R xs
    → AllPairs R ys → All (λ x. All (R x) ys) xs → AllPairs R (xs ++ ys)
AllPairs-append R [] ys first second across = second
AllPairs-append {X = X} R (x ∷ xs) ys first second across =
    AllPairs-cons R x (xs ++ ys)
    (All-append (R x) xs ys (λ k d below. first 0 (suc k) d (omega arith) (omega arith))
    (All-head (λ (y : X). All (R y) ys) x xs across))
    (AllPairs-append R xs ys
    (λ i j d before below. first (suc i) (suc j) d (omega arith) (omega arith)) second
    (All-tail (λ (y : X). All (R y) ys) x xs across))

-- at two places what differs of all is different
differ_at : {X V : Type 0} (f : X → V) (xs : List X) (d : X) → AllPairs (λ a b. f a ≢ f b) xs
    → (p q : ℕ) → p < length xs → q < length xs → p ≢ q → f (get_or xs p d) ≢ f (get_or xs q d)
differ_at f xs d pairs p q first second apart same =
    elim (cases_lt p q) [
      | inl before ↦ pairs p q d before second same
      | inr behind ↦ pairs q p d (omega arith) first (sym same)
    ]

-- what a table's rows are for: points and devices that are there, none twice
record AreRows (points devices : ℕ) (table : Table) : Type 0 where
  sees : All (λ see. see.point < points) table.sees
  sees_once : AllPairs (λ a b. a.point ≢ b.point) table.sees
  controls : All (λ control. control.device < devices) table.controls
  controls_once : AllPairs (λ a b. a.device ≢ b.device) table.controls

AreRows-both : (points devices : ℕ) (table : Table) → IsTable points table
    → IsControlling devices table → AreRows points devices table
AreRows-both points devices table is controlling = record {
  sees = is.known;
  sees_once = is.once;
  controls = controlling.known;
  controls_once = controlling.once;
}

AreRows-none : (points devices : ℕ) → AreRows points devices no_table
AreRows-none points devices = record {
  sees = λ k d below. absurd (omega arith);
  sees_once = λ i j d before below. absurd (omega arith);
  controls = λ k d below. absurd (omega arith);
  controls_once = λ i j d before below. absurd (omega arith);
}

-- the same of a table that isn't there
AreRows-at : (points devices : ℕ) (tables : List Table) → All (AreRows points devices) tables
    → (n : ℕ) → AreRows points devices (get_or tables n no_table)
AreRows-at points devices tables all n =
    elim (cases_lt n (length tables)) [
      | inl here ↦ All-get_or (AreRows points devices) tables n no_table here all
      | inr behind ↦ subst (AreRows points devices) (sym (get_or_past tables n no_table behind))
          (AreRows-none points devices)
    ]

module _ (rows : CentreRows) (lawful : IsCentre rows) where
  rows_at : (peer variant : ℕ)
      → AreRows (length rows.points) (length rows.devices) (variant_of rows peer variant)
  rows_at peer zero =
      AreRows-at (length rows.points) (length rows.devices) rows.tables
      (λ k d below. AreRows-both (length rows.points) (length rows.devices) _
      (lawful.tables k d below) (lawful.controls k d below)) peer
  rows_at peer (suc variant) =
      AreRows-at (length rows.points) (length rows.devices) (further_of rows peer)
      (λ k d below. AreRows-both (length rows.points) (length rows.devices) _
      ((lawful.further peer).tables k d below) ((lawful.further peer).controls k d below)) variant

  module _ (table : Table) (are : AreRows (length rows.points) (length rows.devices) table) where
    sees_differ : AllPairs (λ a b. see_name rows a ≢ see_name rows b) table.sees
    sees_differ = λ i j d before below.
        differ_at (λ (row : PointRow). row.name) rows.points no_point lawful.names
        (get_or table.sees i d).point (get_or table.sees j d).point (are.sees i d (omega arith))
        (are.sees j d below) (are.sees_once i j d before below)

    controls_differ : AllPairs (λ a b. control_name rows a ≢ control_name rows b) table.controls
    controls_differ = λ i j d before below.
        differ_at (λ (row : DeviceRow). row.name) rows.devices no_device lawful.device_names
        (get_or table.controls i d).device (get_or table.controls j d).device
        (are.controls i d (omega arith)) (are.controls j d below)
        (are.controls_once i j d before below)

    apart : (see : See) → see.point < length rows.points
        → All (λ name. see_name rows see ≢ name) (map (control_name rows) table.controls)
    apart see known =
        All-map (λ name. see_name rows see ≢ name) (control_name rows) table.controls
        (λ k d below. lawful.apart (get_or table.controls k d).device no_device
        (are.controls k d below) see.point no_point known)

    -- the names of some of the points, and of all devices
    with_devices : (sees : List See) → All (λ see. see.point < length rows.points) sees
        → AllPairs (λ a b. see_name rows a ≢ see_name rows b) sees
        → AllPairs (λ a b. a ≢ b)
        (map (see_name rows) sees ++ map (control_name rows) table.controls)
    with_devices sees known differ =
        AllPairs-append (λ a b. a ≢ b) (map (see_name rows) sees)
        (map (control_name rows) table.controls)
        (AllPairs-map (λ a b. a ≢ b) (see_name rows) sees differ)
        (AllPairs-map (λ a b. a ≢ b) (control_name rows) table.controls controls_differ)
        (All-map (λ name. All (λ other. name ≢ other) (map (control_name rows) table.controls))
        (see_name rows) sees (λ k d below. apart (get_or sees k d) (known k d below)))

    names_once : AllPairs (λ a b. a ≢ b) (row_names rows table)
    names_once = with_devices table.sees are.sees sees_differ

    vmd_once : AllPairs (λ a b. a ≢ b) (vmd_row_names rows table)
    vmd_once =
        AllPairs-map (λ a b. a ≢ b) (see_name rows) (filter (λ see. see.vmd) table.sees)
        (AllPairs-filter (λ a b. see_name rows a ≢ see_name rows b) (λ see. see.vmd) table.sees
        sees_differ)

    domain_once : AllPairs (λ a b. a ≢ b) (domain_row_names rows table)
    domain_once =
        with_devices (filter (λ see. not see.vmd) table.sees)
        (All-filter (λ see. not see.vmd) (λ see. see.point < length rows.points) table.sees
        are.sees)
        (AllPairs-filter (λ a b. see_name rows a ≢ see_name rows b) (λ see. not see.vmd)
        table.sees sees_differ)

    names_lawful : All (λ name. IsTrue (is_name name)) (row_names rows table)
    names_lawful =
        All-append (λ name. IsTrue (is_name name)) (map (see_name rows) table.sees)
        (map (control_name rows) table.controls)
        (All-map (λ name. IsTrue (is_name name)) (see_name rows) table.sees
        (λ k d below. lawful.named (get_or table.sees k d).point no_point (are.sees k d below)))
        (All-map (λ name. IsTrue (is_name name)) (control_name rows) table.controls
        (λ k d below. (lawful.devices (get_or table.controls k d).device no_device
        (are.controls k d below)).named))

-- of each table of a peer
module _ (rows : CentreRows) (peer variant : ℕ) (lawful : IsCentre rows) where
  pub all_once : AllPairs (λ a b. a ≢ b) (row_names rows (variant_of rows peer variant))
  all_once =
      names_once rows lawful (variant_of rows peer variant) (rows_at rows lawful peer variant)

  pub whole_once : AllPairs (λ a b. a ≢ b) (vmd_row_names rows (variant_of rows peer variant))
  whole_once =
      vmd_once rows lawful (variant_of rows peer variant) (rows_at rows lawful peer variant)

  pub own_once : AllPairs (λ a b. a ≢ b) (domain_row_names rows (variant_of rows peer variant))
  own_once =
      domain_once rows lawful (variant_of rows peer variant) (rows_at rows lawful peer variant)

  pub all_lawful : All (λ name. IsTrue (is_name name))
      (row_names rows (variant_of rows peer variant))
  all_lawful =
      names_lawful rows lawful (variant_of rows peer variant) (rows_at rows lawful peer variant)
