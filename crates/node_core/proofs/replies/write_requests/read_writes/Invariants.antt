use Rattle.std.proofs.Common.{◌≡◌, ◌++◌, drop, length}
use Rattle.std.specs.List.{All}
use Rattle.node_core.specs.Objects.Found.{offered}
use Rattle.node_core.specs.Slots.SlotWrites.{all_asked, IsAskedThere}
use Rattle.node_core.proofs.replies.write_requests.read_writes.Given as goal

abbrev pub invariant-loop-place : goal.invariant-loop-place
invariant-loop-place l = record {
  value : l.asked.items
      ++ all_asked l.table.rows (offered l.table) (drop l.place l.names) (drop l.place l.values)
      ≡ all_asked l.table.rows (offered l.table) l.names l.values;
  there : All (IsAskedThere (length l.table.rows.devices)) l.asked.items;
}
