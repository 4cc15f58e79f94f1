use Rattle.std.proofs.Common.{◌≡◌, ◌++◌, map, reverse}
use Rattle.std.specs.Prelude.{flat_map}
use Rattle.std.specs.List.{range_with_len}
use Rattle.tase_resume.specs.Bases.{settled_past}
use Rattle.tase_resume.specs.Warming.{of_centre, table_told}
use Rattle.tase_resume.proofs.warming.put_tables.Given as goal

abbrev pub invariant-loop-peer : goal.invariant-loop-peer
invariant-loop-peer l = l.out ≡ l.initial.out
    ++ map of_centre (flat_map
    (table_told l.node.setup.centre (settled_past (reverse l.node.history)))
    (range_with_len 0 l.peer))
