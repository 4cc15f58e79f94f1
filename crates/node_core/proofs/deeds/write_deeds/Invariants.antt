use Rattle.std.proofs.Common.{◌≡◌, ◌++◌, drop, map, length}
use Rattle.std.specs.List.{All}
use Rattle.tase_views.specs.Moves.{writes_of}
use Rattle.node_core.specs.Objects.Found.{offered}
use Rattle.node_core.specs.Deeds.{deed_at, deeds_done, IsDeedThere}
use Rattle.node_core.proofs.deeds.write_deeds.Given as goal

abbrev pub invariant-loop-place : goal.invariant-loop-place
invariant-loop-place l = record {
  deeds : map (deed_at l.table.rows) l.deeds.items
      ++ deeds_done (offered l.table) (writes_of (drop l.place l.names) (drop l.place l.values))
      ≡ deeds_done (offered l.table) (writes_of l.names l.values);
  there : All (IsDeedThere (length l.table.rows.devices)) l.deeds.items;
}
