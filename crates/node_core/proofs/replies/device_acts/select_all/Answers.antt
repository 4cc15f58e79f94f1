use Rattle.std.proofs.Common.{◌<◌, ◌+◌, ◌∷◌, List, drop, length, sym, ap, subst, ◌∙◌, arith}
use Rattle.std.proofs.lemmas.List.{at_drop_all, at_drop_more}
use Rattle.mms_data.specs.ObjectName.{ObjectName}
use Rattle.node_core.specs.Objects.Found.{offered}
use Rattle.node_core.specs.Replies.DeviceWrites.{AreOfRows, devices_read}
use Rattle.node_core.proofs.OfReplies.DeviceActs.{by_many, by_rows}
use Rattle.node_core.proofs.replies.device_acts.select_all.Goals as goal

pub loop-name-preserved : goal.loop-name-preserved
loop-name-preserved c =
    let t = c.args.table.now in
    let names = c.as_slice-name-items.result.now in
    let i = c.loop-name.name-index in
    let within : i < length names = omega arith in
    let name = c.name-item.result in
    record {
      left = ap (devices_read t.rows (offered t) c.args.now c.args.key (drop (i + 1) names))
          c.select_one.ensures.devices
          ∙ ap (λ (n : ObjectName). devices_read t.rows (offered t) c.args.now c.args.key
          (n ∷ drop (i + 1) names) c.loop-name.devices.devices) c.name-item.is
          ∙ sym (at_drop_more (λ ns. devices_read t.rows (offered t) c.args.now c.args.key ns
          c.loop-name.devices.devices) names i name within)
          ∙ c.loop-name.invariant.left;
      many = ap length c.select_one.ensures.devices ∙ by_many t.rows (offered t) c.args.now c.args.key _ _
          ∙ c.loop-name.invariant.many;
      kept = subst (AreOfRows t.rows) (sym c.select_one.ensures.devices)
          (by_rows t.rows (offered t) c.args.now c.args.key _ _ c.loop-name.invariant.kept);
      orders = c.select_one.ensures.orders ∙ c.loop-name.invariant.orders;
    }

pub returns-clause-devices : goal.returns-clause-devices
returns-clause-devices c =
    let t = c.args.table.now in
    let names = c.as_slice-name-items.result.now in
    sym (at_drop_all (λ (ns : List ObjectName). devices_read t.rows (offered t) c.args.now
    c.args.key ns c.loop-name.devices.devices) names c.loop-name.name-index (omega arith))
    ∙ c.loop-name.invariant.left
    ∙ ap (λ (ns : List ObjectName). devices_read t.rows (offered t) c.args.now c.args.key ns
    c.args.devices.now.devices) c.as_slice-name-items.ensures
