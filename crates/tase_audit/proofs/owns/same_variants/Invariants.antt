use Rattle.bilateral.specs.Rows.{variants_of}
use Rattle.tase_views.specs.OwnTables.{own_table}
use Rattle.tase_audit.specs.Owns.{same_own_table}
use Rattle.tase_audit.proofs.Pairwise.{Decided}
use Rattle.tase_audit.proofs.owns.same_variants.Given as goal

abbrev pub invariant-loop-variant : goal.invariant-loop-variant
invariant-loop-variant l =
    Decided (λ x y. same_own_table (own_table l.one x) (own_table l.other y))
    (variants_of l.one l.peer) (variants_of l.other l.place) l.variant
