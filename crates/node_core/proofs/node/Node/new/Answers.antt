use Rattle.std.proofs.Common.{◌≡◌, List, [], map, reverse, sym, subst, arith}
use Rattle.std.specs.Arc.{arc_value}
use Rattle.point_db.specs.Stored.{Keeps as KeepsPoints}
use Rattle.bilateral.specs.declared.rows.Table.{Table}
use Rattle.bilateral.specs.Rows.{CentreRows, IsCentre}
use Rattle.tase_views.specs.declared.event.Entry.{Entry}
use Rattle.tase_views.specs.Lived.{IsLived}
use Rattle.node_core.specs.Devices.DeviceBanks.{IsDeviceBank}
use Rattle.node_core.specs.LastValues.{kinds_of}
use Rattle.node_core.specs.PeerParts.{new_part}
use Rattle.node_core.specs.Stored.{IsNode, found_by}
use Rattle.node_core.proofs.OfNode.NodeAnswers.{indexed_as}
use Rattle.node_core.proofs.OfNode.Steps.{IsCommon-new, AreParts-new}
use Rattle.node_core.proofs.node.Node.new.Goals as goal

pub invariant_of-result : goal.invariant_of-result
invariant_of-result c =
    let rows = arc_value c.args.centre in
    let hub = c.in_ok-hub.hub in
    let parts = c.in_ok-parts.parts in
    let start : IsNode rows [] hub parts = record {
      common = IsCommon-new rows hub.plant (found_by hub)
          (subst (λ (those : CentreRows). IsCentre those) c.deref-2.ensures
          c.in_ok-parts.ensures.lawful)
          (subst (λ (those : CentreRows). KeepsPoints (kinds_of those) [] hub.plant.points)
          c.deref.ensures c.in_ok-hub.ensures.points)
          (subst (λ (those : CentreRows). IsDeviceBank those [] hub.plant.devices)
          c.deref.ensures c.in_ok-hub.ensures.devices)
          c.in_ok-hub.ensures.free;
      clock = c.in_ok-hub.ensures.clock;
      timed = rw c.in_ok-hub.ensures.clock (omega arith);
      peers = AreParts-new rows parts.peers.items
          (subst (λ (those : CentreRows). parts.peers.items
          ≡ map (λ (table : Table). new_part table.sets) those.tables) c.deref-2.ensures
          c.in_ok-parts.ensures.parts);
      indexed = indexed_as c.in_ok-parts.parts c.deref-2.ensures (sym c.in_ok-hub.ensures.clock)
          c.in_ok-parts.ensures.indexed;
    } in (
      rw c.in_ok-log.ensures.entries start,
      rw c.in_ok-hub.ensures.none c.in_ok-log.ensures.room,
      subst (λ (those : List Entry). IsLived rows (reverse those)) (sym c.in_ok-log.ensures.entries)
          tt,
    )
