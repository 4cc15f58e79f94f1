use Rattle.std.proofs.Common.{◌≡◌, ◌++◌, drop, map, length}
use Rattle.std.specs.List.{All}
use Rattle.tase_views.specs.Moves.{reads}
use Rattle.node_core.specs.Objects.Found.{offered}
use Rattle.node_core.specs.Deeds.{deed_at, deeds_done, IsDeedThere}
use Rattle.node_core.proofs.deeds.select_deeds.Given as goal

abbrev pub invariant-loop-place : goal.invariant-loop-place
invariant-loop-place l = record {
  deeds : map (deed_at l.table.rows) l.deeds.items
      ++ deeds_done (offered l.table) (map reads (drop l.place l.names))
      ≡ deeds_done (offered l.table) (map reads l.names);
  there : All (IsDeedThere (length l.table.rows.devices)) l.deeds.items;
}
