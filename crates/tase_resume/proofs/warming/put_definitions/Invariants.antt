use Rattle.std.proofs.Common.{◌≡◌, ◌++◌, map, take}
use Rattle.tase_views.specs.OwnTables.{OwnTable}
use Rattle.tase_resume.specs.Warming.{of_centre, define_event}
use Rattle.tase_resume.proofs.warming.put_definitions.Given as goal

abbrev pub invariant-loop-index : goal.invariant-loop-index
invariant-loop-index l = (owned : OwnTable) → owned.domain ≡ l.table.domain
    → l.out ≡ l.initial.out ++ map of_centre (map (define_event owned) (take l.index l.book.sets))
