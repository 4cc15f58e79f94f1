use Rattle.std.proofs.Common.{◌<◌, List, length, subst, ap, arith}
use Rattle.std.proofs.lemmas.List.Elements.{All-contains}
use Rattle.bilateral.specs.declared.rows.Control.{Control}
use Rattle.bilateral.specs.Rows.{IsControlling}
use Rattle.sbo_device.specs.Banks.{DeviceRecord}
use Rattle.node_core.specs.Objects.Found.{TableInForce}
use Rattle.node_core.proofs.replies.timeouts.ends_own.Goals as goal

pub ends_at-requires : goal.ends_at-requires
ends_at-requires c =
    let t = c.args.shown.now.table in
    let all : IsControlling (length t.rows.devices) t.table =
    subst (λ (t : TableInForce). IsControlling (length t.rows.devices) t.table) c.table.ensures
    c.table-lawful.ensures.controls in
    let below = All-contains (λ (x : Control). x.device < length t.rows.devices) t.table.controls
    c.args.control.now all.known c.requires in
    let many = ap (λ (l : List DeviceRecord). length l) c.devices.ensures.value in
    omega (arith, below, many, c.devices.ensures.many)
