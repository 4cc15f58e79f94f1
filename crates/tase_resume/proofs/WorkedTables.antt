-- The snapshot of a history in which a peer waits for another table, computed apart from all code.
use Rattle.std.proofs.Common.{◌≡◌, ℕ, [], ◌∷◌, reverse, refl, false}
use Rattle.std.specs.Prelude.{codes}
use Rattle.std.specs.Fmt.{digits}
use Rattle.tase_points.specs.declared.layout.Component.TheVariants.{Value}
use Rattle.bilateral.specs.declared.rows.Table.{Table}
use Rattle.bilateral.specs.Rows.{CentreRows}
use Rattle.tase_views.specs.declared.call.CallKind.TheVariants.{Define}
use Rattle.tase_views.specs.declared.event.EventKind.{EventKind}
use Rattle.tase_views.specs.declared.event.EventKind.TheVariants as events
use Rattle.tase_views.specs.declared.event.EventKind.TheVariants.{Open, Request, Close}
use Rattle.tase_views.specs.declared.event.Entry.{Entry}
use Rattle.tase_views.proofs.NodeSample.{rows, table_a, in_a}
use Rattle.tase_resume.specs.Warming.{warm_entries}

-- a further table of the first peer
abbrev table_x : Table
table_x = record table_a {
  domain = codes "DOMX";
  id = codes "TBLX";
  sees = record { point = 0; vmd = false; layout = Value ∷ [] }
      ∷ record { point = 2; vmd = false; layout = Value ∷ [] } ∷ [];
  controls = [];
}

abbrev two_tables : CentreRows
two_tables = record rows { variants = (table_x ∷ []) ∷ [] ∷ [] }

abbrev entry : ℕ → EventKind → Entry
entry who event = record { who = who; event = event }

abbrev s1 : EventKind
s1 = Request (Define (in_a (codes "S1")) (in_a (codes "BUS1") ∷ []))

-- the table that waits is told, and the data sets of the other one aren't
waiting : warm_entries two_tables
    (reverse (entry 1 (Open 0) ∷ entry 1 s1 ∷ entry 0 (events.Table 0 1) ∷ []))
    ≡ entry 0 (events.Table 0 1) ∷ []
unfolding digits
waiting = refl

-- where the same table is chosen anew, they are
chosen_anew : warm_entries two_tables
    (reverse (entry 1 (Open 0) ∷ entry 1 s1 ∷ entry 0 (events.Table 0 1)
    ∷ entry 0 (events.Table 0 0) ∷ []))
    ≡ entry 0 (Open 0) ∷ entry 0 s1 ∷ entry 0 Close ∷ []
unfolding digits
chosen_anew = refl
