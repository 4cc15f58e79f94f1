use Rattle.std.proofs.Common.{◌≡◌, ◌<◌, ℕ, length, false, Some, Option, refl, sym, ap, ◌∙◌}
use Rattle.std.proofs.Common.{arith}
use Rattle.std.specs.Prelude.{Contains}
use Rattle.std.specs.Option.{option_and_then}
use Rattle.std.proofs.lemmas.List.Elements.{All-contains}
use Rattle.bilateral.specs.declared.rows.Control.{Control}
use Rattle.bilateral.specs.Rows.{device_of}
use Rattle.sbo_device.specs.Moves.{ControlPoint, selected}
use Rattle.sbo_device.specs.Banks.{BankState, moved_at}
use Rattle.tase_views.specs.OwnTables.{own_device}
use Rattle.tase_views.specs.Objects.{Object, object_named, selection}
use Rattle.tase_views.specs.Devices.{read_deed}
use Rattle.node_core.specs.Devices.DeviceBanks.{devices_by}
use Rattle.node_core.proofs.OfDevices.Numbers.{number_found}
use Rattle.node_core.specs.Objects.Found.{offered}
use Rattle.node_core.proofs.replies.device_acts.select_one.Goals as goal
use Rattle.node_core.proofs.replies.device_acts.select_one.Goals.{In-Some-Selection}

-- the device that is found is the table's
there : (c : In-Some-Selection)
    → Contains c.args.table.now.table.controls c.in-Some-Selection.control.now
    × ((device_of c.args.table.now.rows c.in-Some-Selection.control.now.device).direct ≡ false)
there c = rw c.in-Some-Selection.field-0-is at c.in-Some-Selection.ensures.there

below : (c : In-Some-Selection)
    → c.in-Some-Selection.control.now.device < length c.args.table.now.rows.devices
below c =
    All-contains (λ (x : Control). x.device < length c.args.table.now.rows.devices)
    c.args.table.now.table.controls c.in-Some-Selection.control.now
    c.table-lawful.ensures.controls.known (there c).0

pub select-answer-requires-clause-there : goal.select-answer-requires-clause-there
select-answer-requires-clause-there c =
    let within = below (goal.at.select-answer-requires-clause-there c).In-Some-Selection in
    omega (arith, within, c.requires.there)

pub select-answer-requires-clause-selectable : goal.select-answer-requires-clause-selectable
select-answer-requires-clause-selectable c =
    let at = (goal.at.select-answer-requires-clause-selectable c).In-Some-Selection in
    ap (λ (p : ControlPoint). p.direct)
    (c.requires.kept c.in-Some-Selection.control.now.device (below at))
    ∙ (there at).1

pub returns-in-Some-Selection-clause-devices : goal.returns-in-Some-Selection-clause-devices
returns-in-Some-Selection-clause-devices c =
    let at = (goal.at.returns-in-Some-Selection-clause-devices c).In-Some-Selection in
    let t = c.args.table.now in
    let control = c.in-Some-Selection.control.now in
    let devices = c.args.devices.now.devices in
    let named : Some (selection (own_device t.rows control))
    ≡ object_named (offered t) c.args.name.now =
    rw c.in-Some-Selection.field-0-is at c.in-Some-Selection.ensures.named in
    ap (λ (b : BankState). b.devices) c.select-answer.ensures.state
    ∙ ap (λ (n : ℕ). moved_at n (selected c.args.key c.args.now) devices)
    (sym (number_found t.rows (own_device t.rows control) c.table-lawful.ensures.centre
    (control.device, below at, refl)))
    ∙ ap (λ (o : Option Object). devices_by t.rows c.args.now c.args.key
    (option_and_then read_deed o) devices) named
