use Rattle.std.proofs.Common.{◌<◌, length, ap, ◌∙◌}
use Rattle.std.specs.Arc.{arc_value}
use Rattle.sbo_device.specs.Moves.{Tag}
use Rattle.node_core.specs.Room.{past_of}
use Rattle.node_core.proofs.OfDevices.DevicesShown.{tag_is}
use Rattle.node_core.proofs.node.Node.tag.Goals as goal

pub returns-clause-value : goal.returns-clause-value
returns-clause-value c =
    let rows = arc_value c.self.inside.centre in
    let known : c.args.device < length rows.devices = rw (← c.self.view_is) at c.requires in
    rw (← c.self.view_is)
    (c.tag_of.ensures.value
    ∙ ap (λ (tag : Tag). tag.tag)
    (tag_is rows (past_of c.self.inside.log) c.self.inside.hub.plant.devices c.args.device known
    c.self.invariant.0.common.devices))
