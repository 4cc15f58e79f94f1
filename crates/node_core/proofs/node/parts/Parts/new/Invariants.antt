use Rattle.std.proofs.Common.{◌≡◌, map, take, length}
use Rattle.bilateral.specs.declared.rows.Table.{Table}
use Rattle.node_core.specs.declared.node.peer.Peer.{Peer}
use Rattle.node_core.specs.Feeds.Indexed.{AreIndexed}
use Rattle.node_core.specs.PeerParts.{new_part}
use Rattle.node_core.proofs.node.parts.Parts.new.Given as goal

abbrev pub part_of : Table → Peer
part_of table = new_part table.sets

abbrev pub invariant-loop-peer : goal.invariant-loop-peer
invariant-loop-peer l = record {
  parts : l.peers.items ≡ map part_of (take l.peer l.centre.tables);
  many : length l.peers.items ≡ l.peer;
  indexed : AreIndexed l.centre 0 l.peers.items l.indexes.items;
}
