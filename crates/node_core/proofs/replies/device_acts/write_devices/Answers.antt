use Rattle.std.proofs.Common.{◌++◌, ℕ, List, [], ◌∷◌, length, sym, ap, subst, ◌∙◌, arith}
use Rattle.std.proofs.Common.{append_assoc}
use Rattle.std.specs.List.{All}
use Rattle.std.specs.Vec.Iter.{into_iter_items}
use Rattle.sbo_device.specs.declared.order.Order.{Order}
use Rattle.sbo_device.specs.Banks.{DeviceRecord}
use Rattle.node_core.specs.declared.slots.writes.Asked.{Asked}
use Rattle.node_core.specs.Slots.SlotWrites.{IsAskedThere}
use Rattle.node_core.specs.Replies.DeviceWrites.{left_of, orders_asked, all_left, all_devices}
use Rattle.node_core.specs.Replies.DeviceWrites.{all_orders}
use Rattle.node_core.proofs.OfReplies.Answered.{All-pushed}
use Rattle.node_core.proofs.OfReplies.SlotWrites.{there-rest, asked_many}
use Rattle.node_core.proofs.replies.device_acts.write_devices.Goals as goal

pub loop-one-preserved : goal.loop-one-preserved
loop-one-preserved c =
    let key = c.args.key in
    let one = c.in-Some.one in
    let rest = into_iter_items c.next.new.self in
    let devices = c.loop-one.devices.devices in
    let next = c.write_device-rest.new.devices.devices in
    let orders = c.loop-one.devices.orders in
    let left = c.loop-one.left.items in
    let front = c.in-Some.ensures.steps.0 in
    let done = c.write_device-rest.ensures in
    let many = ap (λ (ds : List DeviceRecord). length ds) done.devices
    ∙ asked_many key one devices in
    record {
      left = ap (λ (xs : List Asked). xs ++ all_left key rest next) c.push_reserved.ensures.items
          ∙ append_assoc left (c.write_device-rest.result ∷ []) (all_left key rest next)
          ∙ ap (λ (a : Asked). left ++ a ∷ all_left key rest next) done.left
          ∙ ap (λ (ds : List DeviceRecord). left ++ left_of key one devices
          ∷ all_left key rest ds) done.devices
          ∙ ap (λ (asked : List Asked). left ++ all_left key asked devices) (sym front)
          ∙ c.loop-one.invariant.left;
      devices = ap (all_devices key rest) done.devices
          ∙ ap (λ (asked : List Asked). all_devices key asked devices) (sym front)
          ∙ c.loop-one.invariant.devices;
      orders = ap (λ (os : List Order). os ++ all_orders key rest next) done.orders
          ∙ append_assoc orders (orders_asked key one devices) (all_orders key rest next)
          ∙ ap (λ (ds : List DeviceRecord). orders
          ++ (orders_asked key one devices ++ all_orders key rest ds)) done.devices
          ∙ ap (λ (asked : List Asked). orders ++ all_orders key asked devices) (sym front)
          ∙ c.loop-one.invariant.orders;
      there = subst (λ (n : ℕ). All (IsAskedThere n) rest) (sym many)
          (there-rest (length devices) one rest
          (subst (All (IsAskedThere (length devices))) front c.loop-one.invariant.there));
      done = λ before. All-pushed (IsAskedThere 0) _ _ _ c.push_reserved.ensures.items
          (c.loop-one.invariant.done before) done.there;
      spare = omega (
        arith,
        c.loop-one.invariant.spare,
        ap (λ (xs : List Asked). length xs) front,
        done.spare,
      );
      room = omega (
        arith,
        c.push_reserved.ensures.len,
        c.push_reserved.ensures.capacity,
        c.loop-one.invariant.room,
        ap (λ (xs : List Asked). length xs) front,
      );
    }

pub write_device-rest-requires-clause-there : goal.write_device-rest-requires-clause-there
write_device-rest-requires-clause-there c =
    let n = length c.loop-one.devices.devices in
    let all = subst (All (IsAskedThere n)) c.in-Some.ensures.steps.0 c.loop-one.invariant.there in
    all 0 c.in-Some.one (omega arith)
