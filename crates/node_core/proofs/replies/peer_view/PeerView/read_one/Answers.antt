use Rattle.std.proofs.Common.{◌≡◌, true, Some, None, Option, IfOk, is_some, refl, sym, subst}
use Rattle.std.proofs.Common.{ap, ◌∙◌, arith}
use Rattle.bilateral.specs.declared.rows.Table.{Table}
use Rattle.mms_data.specs.declared.outcome.Outcome.{Outcome}
use Rattle.bilateral.specs.Rows.{place_of_see}
use Rattle.tase_views.specs.OwnTables.{OwnTables, own_point, own_device}
use Rattle.tase_views.specs.Objects.{Object, object_named, indication_point, next_transfer_set}
use Rattle.tase_views.specs.Objects.{transfer_set, device_tag}
use Rattle.tase_views.specs.View.{View}
use Rattle.node_core.specs.Objects.Found.{offered, special_object}
use Rattle.node_core.specs.Slots.SlotsKept.{object_shown, drafted}
use Rattle.node_core.specs.Replies.Shown.{Shown}
use Rattle.node_core.proofs.OfReplies.Answered.{ok_each, ok_of, shown_special, special_kept}
use Rattle.node_core.proofs.OfReplies.Answered.{drafted-kept}
use Rattle.node_core.proofs.OfReplies.Answered.{drafted-next}
use Rattle.node_core.proofs.replies.peer_view.PeerView.read_one.Goals as goal

pub returns-in-Some-Special-clause-value : goal.returns-in-Some-Special-clause-value
returns-in-Some-Special-clause-value c =
    let table = offered c.self.inside.table in
    let name = c.args.name.now in
    let d = c.args.draft.now in
    let slots = drafted d in
    let special = c.in-Some-Special.special in
    let named : Some (special_object table special) ≡ object_named table name =
    rw c.in-Some-Special.field-0-is at c.in-Some-Special.ensures.named in
    ok_each _ c.args.self.now
    (λ (s : Shown) (outcome : Outcome) (tables : OwnTables) (view : View). outcome
    ≡ object_shown tables (offered s.table) view d.ordinal slots
    (object_named (offered s.table) name)) c.read_special.result c.self.view_is
    (λ updates tables view s.
    subst (λ (shown : Outcome). IfOk c.read_special.result (λ outcome. outcome ≡ shown))
    (sym (shown_special table special tables table view d.ordinal slots)
    ∙ ap (object_shown tables table view d.ordinal slots) named)
    (c.read_special.ensures.value table tables view d.ordinal
    (ap (λ (x : Table). x.id) (sym c.table-table.ensures.table))))

pub returns-in-Some-Special-clause-draft : goal.returns-in-Some-Special-clause-draft
returns-in-Some-Special-clause-draft c =
    let name = c.args.name.now in
    let special = c.in-Some-Special.special in
    let inside : Some (special_object (offered c.self.inside.table) special)
    ≡ object_named (offered c.self.inside.table) name =
    rw c.in-Some-Special.field-0-is at c.in-Some-Special.ensures.named in
    let named = subst (λ (s : Shown). Some (special_object (offered s.table) special)
    ≡ object_named (offered s.table) name) c.self.view_is inside in
    drafted-kept c.read_special.result (offered c.args.self.now.table) name
    (Some (special_object (offered c.args.self.now.table) special)) c.args.draft.now named
    (special_kept (offered c.args.self.now.table) special)

pub returns-in-Some-NextSlot-clause-value : goal.returns-in-Some-NextSlot-clause-value
returns-in-Some-NextSlot-clause-value c =
    let table = offered c.self.inside.table in
    let name = c.args.name.now in
    let d = c.args.draft.now in
    let named : Some next_transfer_set ≡ object_named table name =
    rw c.in-Some-NextSlot.field-0-is at c.in-Some-NextSlot.ensures.named in
    ok_each _ c.args.self.now
    (λ (s : Shown) (outcome : Outcome) (tables : OwnTables) (view : View). outcome
    ≡ object_shown tables (offered s.table) view d.ordinal (drafted d)
    (object_named (offered s.table) name)) c.read_next.result c.self.view_is
    (λ updates tables view s.
    subst (λ (object : Option Object). IfOk c.read_next.result (λ outcome. outcome
    ≡ object_shown tables table view d.ordinal (drafted d) object)) named
    (c.read_next.ensures.value table
    (ap (λ (x : Table). x.domain) (sym c.table-table.ensures.table))
    (ap (λ (x : Table). x.slots) (sym c.table-table.ensures.table))))

pub returns-in-Some-NextSlot-clause-draft : goal.returns-in-Some-NextSlot-clause-draft
returns-in-Some-NextSlot-clause-draft c =
    let name = c.args.name.now in
    let inside : Some next_transfer_set ≡ object_named (offered c.self.inside.table) name =
    rw c.in-Some-NextSlot.field-0-is at c.in-Some-NextSlot.ensures.named in
    let named = subst (λ (s : Shown). Some next_transfer_set
    ≡ object_named (offered s.table) name) c.self.view_is inside in
    drafted-next c.read_next.result (offered c.args.self.now.table) name
    c.table-table.result.now.slots c.args.draft.now c.read_next.new.draft named
    (ap (λ (x : Table). x.slots) c.table-table.ensures.table
    ∙ ap (λ (s : Shown). s.table.table.slots) c.self.view_is)
    c.read_next.ensures.draft

pub read_slot-requires : goal.read_slot-requires
read_slot-requires c =
    let there = rw c.in-Some-Slot.field-0-is at c.in-Some-Slot.ensures.there in
    omega (arith, there, c.table-table.ensures.lawful.slots)

pub read_status-requires : goal.read_status-requires
read_status-requires c =
    let there = rw c.in-Some-SlotStatus.field-0-is at c.in-Some-SlotStatus.ensures.there in
    omega (arith, there, c.table-table.ensures.lawful.slots)

pub returns-in-Some-Slot-clause-draft : goal.returns-in-Some-Slot-clause-draft
returns-in-Some-Slot-clause-draft c =
    let name = c.args.name.now in
    let slot = c.in-Some-Slot.slot in
    let inside : Some (transfer_set slot) ≡ object_named (offered c.self.inside.table) name =
    rw c.in-Some-Slot.field-0-is at c.in-Some-Slot.ensures.named in
    let named = subst (λ (s : Shown). Some (transfer_set slot)
    ≡ object_named (offered s.table) name) c.self.view_is inside in
    drafted-kept c.read_slot.result (offered c.args.self.now.table) name
    (Some (transfer_set slot)) c.args.draft.now named refl

pub read_point-requires : goal.read_point-requires
read_point-requires c =
    subst (λ (shown : Shown). is_some (place_of_see shown.table.table c.in-Some-Point.see.now.point)
    ≡ true) c.self.view_is (rw c.in-Some-Point.field-0-is at c.in-Some-Point.ensures.there)

pub returns-in-Some-Point-clause-value : goal.returns-in-Some-Point-clause-value
returns-in-Some-Point-clause-value c =
    let name = c.args.name.now in
    let see = c.in-Some-Point.see.now in
    let d = c.args.draft.now in
    let inside : Some (indication_point (own_point c.self.inside.table.rows see))
    ≡ object_named (offered c.self.inside.table) name =
    rw c.in-Some-Point.field-0-is at c.in-Some-Point.ensures.named in
    let named = subst (λ (s : Shown). Some (indication_point (own_point s.table.rows see))
    ≡ object_named (offered s.table) name) c.self.view_is inside in
    ok_of c.read_point.result
    (λ outcome each updates tables view s. each updates tables view s
    ∙ ap (object_shown tables (offered c.args.self.now.table) view d.ordinal (drafted d)) named)
    c.read_point.ensures.value

pub returns-in-Some-Point-clause-draft : goal.returns-in-Some-Point-clause-draft
returns-in-Some-Point-clause-draft c =
    let name = c.args.name.now in
    let see = c.in-Some-Point.see.now in
    let inside : Some (indication_point (own_point c.self.inside.table.rows see))
    ≡ object_named (offered c.self.inside.table) name =
    rw c.in-Some-Point.field-0-is at c.in-Some-Point.ensures.named in
    let named = subst (λ (s : Shown). Some (indication_point (own_point s.table.rows see))
    ≡ object_named (offered s.table) name) c.self.view_is inside in
    drafted-kept c.read_point.result (offered c.args.self.now.table) name
    (Some (indication_point (own_point c.args.self.now.table.rows see))) c.args.draft.now named refl

pub returns-in-None-clause-value : goal.returns-in-None-clause-value
returns-in-None-clause-value c = λ updates tables view s.
    let name = c.args.name.now in
    let d = c.args.draft.now in
    let named = subst (λ (s : Shown). None ≡ object_named (offered s.table) name) c.self.view_is
    c.in-None.ensures.named in
    ap (object_shown tables (offered c.args.self.now.table) view d.ordinal (drafted d)) named

pub returns-in-Some-DeviceTag-clause-value : goal.returns-in-Some-DeviceTag-clause-value
returns-in-Some-DeviceTag-clause-value c =
    let name = c.args.name.now in
    let control = c.in-Some-DeviceTag.control.now in
    let d = c.args.draft.now in
    let inside : Some (device_tag (own_device c.self.inside.table.rows control))
    ≡ object_named (offered c.self.inside.table) name =
    rw c.in-Some-DeviceTag.field-0-is at c.in-Some-DeviceTag.ensures.named in
    let named = subst (λ (s : Shown). Some (device_tag (own_device s.table.rows control))
    ≡ object_named (offered s.table) name) c.self.view_is inside in
    ok_of c.read_tag.result
    (λ outcome each updates tables view s. each updates tables view s d.ordinal
    ∙ ap (object_shown tables (offered c.args.self.now.table) view d.ordinal (drafted d)) named)
    c.read_tag.ensures.value

pub returns-in-Some-DeviceTag-clause-draft : goal.returns-in-Some-DeviceTag-clause-draft
returns-in-Some-DeviceTag-clause-draft c =
    let name = c.args.name.now in
    let control = c.in-Some-DeviceTag.control.now in
    let inside : Some (device_tag (own_device c.self.inside.table.rows control))
    ≡ object_named (offered c.self.inside.table) name =
    rw c.in-Some-DeviceTag.field-0-is at c.in-Some-DeviceTag.ensures.named in
    let named = subst (λ (s : Shown). Some (device_tag (own_device s.table.rows control))
    ≡ object_named (offered s.table) name) c.self.view_is inside in
    drafted-kept c.read_tag.result (offered c.args.self.now.table) name
    (Some (device_tag (own_device c.args.self.now.table.rows control))) c.args.draft.now named refl
