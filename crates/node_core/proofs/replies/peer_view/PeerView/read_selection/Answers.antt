use Rattle.std.proofs.Common.{◌≡◌, ◌<◌, ℤ, List, length, FitsSigned, w16, rules, ap, subst}
use Rattle.std.proofs.Common.{◌∙◌, arith}
use Rattle.std.proofs.lemmas.Int.{to_z-of_z}
use Rattle.std.proofs.lemmas.List.Elements.{All-contains}
use Rattle.bilateral.specs.declared.rows.Control.{Control}
use Rattle.bilateral.specs.declared.rows.DeviceRow.{DeviceRow}
use Rattle.bilateral.specs.Rows.{IsControlling, device_of}
use Rattle.sbo_device.specs.States.{select_answer}
use Rattle.sbo_device.specs.Banks.{DeviceRecord, device_at}
use Rattle.tase_views.specs.OwnTables.{own_device}
use Rattle.tase_views.specs.View.{own_key}
use Rattle.tase_views.specs.Answers.{select_outcome, device_state}
use Rattle.node_core.specs.Devices.DevicesSeen.{IsDeviceSeen}
use Rattle.node_core.proofs.OfDevices.SeenAlike.{select_alike}
use Rattle.node_core.specs.Replies.Shown.{Shown}
use Rattle.node_core.proofs.replies.peer_view.PeerView.read_selection.Goals as goal

pub select_answer-answer-requires : goal.select_answer-answer-requires
select_answer-answer-requires c =
    let shown = c.args.self.now in
    let rows = shown.table.rows in
    let controls = subst (λ (s : Shown). IsControlling (length s.table.rows.devices) s.table.table)
    c.self.view_is c.table-lawful.ensures.controls in
    let below = All-contains (λ (x : Control). x.device < length rows.devices)
    shown.table.table.controls c.args.control.now controls.known c.requires.there in
    let many = ap (λ (l : List DeviceRecord). length l) c.devices.ensures.value in
    omega (arith, below, many, c.devices.ensures.many)

pub returns-clause-value : goal.returns-clause-value
returns-clause-value c = λ updates tables view s.
    let shown = c.args.self.now in
    let control = c.args.control.now in
    let d = own_device shown.table.rows control in
    let n = control.device in
    let seen = All-contains (λ (x : Control). IsDeviceSeen tables view shown.peer
    (own_device shown.table.rows x) (device_at shown.devices x.device)) shown.table.table.controls
    control s.devices c.requires.there in
    let row : c.device.result.now ≡ device_of shown.table.rows n =
    c.device.ensures.row
    ∙ ap (λ (s : Shown). device_of s.table.rows n) c.self.view_is in
    let short : FitsSigned w16 c.device.result.now.checkback = search rules in
    c.selected.ensures.value
    ∙ ap (λ (z : ℤ). select_outcome z c.select_answer-answer.result)
    (to_z-of_z w16 c.device.result.now.checkback short)
    ∙ ap (select_outcome c.device.result.now.checkback)
    (c.select_answer-answer.ensures
    ∙ ap (λ (devices : List DeviceRecord). select_answer (device_at devices n).state
    c.key-key.result) c.devices.ensures.value
    ∙ ap (select_answer (device_at shown.devices n).state) c.key-key.ensures
    ∙ select_alike tables view shown.peer c.args.ordinal d (device_at shown.devices n) seen)
    ∙ ap (λ (r : DeviceRow). select_outcome r.checkback
    (select_answer (device_state tables view d) (own_key c.args.ordinal))) row
