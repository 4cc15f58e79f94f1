use Rattle.std.proofs.Common.{◌++◌, sym, ap, subst, ◌∙◌}
use Rattle.mms_data.specs.ObjectName.{IsIdentifier}
use Rattle.bilateral.specs.declared.rows.DeviceRow.{DeviceRow}
use Rattle.centre_client.proofs.DeviceRequests.{device_item}
use Rattle.centre_client.proofs.asking.item_of.Goals as goal

pub name_with-requires : goal.name_with-requires
name_with-requires c =
    (device_item c.device_row.result.now.name c.args.end.now c.device_row.ensures.named
    c.requires.end c.requires.short).1

pub returns-clause-value : goal.returns-clause-value
returns-clause-value c =
    c.in_ok-item.ensures
    ∙ ap (λ (row : DeviceRow). row.name ++ c.args.end.now) c.device_row.ensures.value

pub returns-clause-named : goal.returns-clause-named
returns-clause-named c =
    subst IsIdentifier (sym c.in_ok-item.ensures)
    (device_item c.device_row.result.now.name c.args.end.now c.device_row.ensures.named
    c.requires.end c.requires.short)
