-- The reports of selections that end, device by device.
use Rattle.std.proofs.Common.{◌≡◌, ℕ, Bool, true, false, List, [], ◌∷◌, ◌++◌, Option, Some, None}
use Rattle.std.proofs.Common.{is_some, map, refl, sym, ap}
use Rattle.std.specs.Prelude.{if◌then◌else◌, codes}
use Rattle.std.specs.List.{cons_option, filter_map}
use Rattle.std.proofs.lemmas.Bool.{false≢true}
use Rattle.std.proofs.lemmas.List.{append-nil}
use Rattle.mms_data.specs.Datum.{integer}
use Rattle.mms_data.specs.declared.outcome.Outcome.TheVariants.{Good}
use Rattle.bilateral.specs.declared.rows.Control.{Control}
use Rattle.bilateral.specs.Rows.{CentreRows}
use Rattle.tase_views.specs.declared.reply.ReportKind.{ReportKind}
use Rattle.tase_views.specs.declared.reply.ReportKind.TheVariants.{Variables}
use Rattle.tase_views.specs.OwnTables.{OwnDevice, OwnTables, own_device, domain_name}
use Rattle.tase_views.specs.View.{View, held}
use Rattle.tase_views.specs.Reports.{timeout_report}

-- where none ends, none is added
pub none_added : {R : Type 0} (made : List R) (found : Option R) → false ≡ is_some found
    → made ≡ made ++ cons_option found []
none_added made None none = sym (append-nil made)
none_added made (Some report) none = absurd (false≢true none)

one_added : {R : Type 0} (made : List R) (b : Bool) (report same : R)
    → true ≡ is_some (if b then Some same else None) → report ≡ same
    → made ++ report ∷ [] ≡ made ++ cons_option (if b then Some same else None) []
one_added {R} made true report same ends is = ap (λ (r : R). made ++ r ∷ []) is
one_added made false report same ends is = absurd (false≢true (sym ends))

-- where one ends, its report is
pub timeout-made : (tables : OwnTables) (view : View) (ordinal now : ℕ) (d : OwnDevice)
    (made : List ReportKind) (report : ReportKind)
    → true ≡ is_some (timeout_report tables view ordinal now d)
    → report ≡ Variables (domain_name (held tables view) (d.row.name ++ codes "_TIMEOUT") ∷ [])
    (Good (integer d.row.checkback) ∷ [])
    → made ++ report ∷ [] ≡ made ++ cons_option (timeout_report tables view ordinal now d) []
timeout-made tables view ordinal now d made report ends is =
    one_added made _ report _ ends is

-- those of a table's rows
abbrev pub timeouts_of : CentreRows → OwnTables → View → ℕ → ℕ → List Control → List ReportKind
timeouts_of rows tables view ordinal now controls =
    filter_map (timeout_report tables view ordinal now) (map (own_device rows) controls)

-- one row more, ahead of the rest
pub joined : {R : Type 0} (found : Option R) (rest : List R)
    → cons_option found rest ≡ cons_option found [] ++ rest
joined None rest = refl
joined (Some report) rest = refl
