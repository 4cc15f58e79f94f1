use Rattle.std.proofs.Common.{sym, ◌∙◌}
use Rattle.node_core.proofs.OfObjects.DeviceNames.{may_not_be}
use Rattle.node_core.proofs.objects.naming.may_be_device.Goals as goal

pub returns : goal.returns
returns c = λ control there none.
    may_not_be c.args.table.now.rows c.args.item.now control there
    (sym c.is_device.ensures ∙ c.if-is_device.false) (sym c.has_device_end.ensures ∙ none)
