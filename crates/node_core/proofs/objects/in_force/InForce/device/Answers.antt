use Rattle.std.proofs.Common.{sym, subst}
use Rattle.std.specs.Prelude.{Contains}
use Rattle.node_core.specs.Objects.Found.{TableInForce}
use Rattle.node_core.proofs.OfObjects.DeviceNames.{control_is_there}
use Rattle.node_core.proofs.objects.in_force.InForce.device.Goals as goal

pub device-requires : goal.device-requires
device-requires c =
    let at = c.self.inside in
    control_is_there at.centre.now at.peer at.variant c.args.control.now c.self.invariant
    (subst (λ (t : TableInForce). Contains t.table.controls c.args.control.now)
    (sym c.self.view_is) c.requires)
