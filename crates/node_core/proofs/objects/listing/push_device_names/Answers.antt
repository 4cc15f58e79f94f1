use Rattle.std.proofs.Common.{refl, [], arith}
use Rattle.std.specs.Prelude.{codes}
use Rattle.node_core.proofs.OfObjects.DeviceNames.{IsIdentifier-end, direct_listed, selected_listed}
use Rattle.node_core.proofs.objects.listing.push_device_names.Goals as goal

pub name_with-requires : goal.name_with-requires
name_with-requires c =
    (IsIdentifier-end c.args.row.now.name [] c.requires.named (omega arith) refl).1

pub name_with-requires-2 : goal.name_with-requires-2
name_with-requires-2 c =
    (IsIdentifier-end c.args.row.now.name (codes "_TAG") c.requires.named (omega arith) refl).1

pub name_with-requires-3 : goal.name_with-requires-3
name_with-requires-3 c =
    (IsIdentifier-end c.args.row.now.name (codes "_SBO") c.requires.named (omega arith) refl).1

pub name_with-requires-4 : goal.name_with-requires-4
name_with-requires-4 c =
    (IsIdentifier-end c.args.row.now.name (codes "_TIMEOUT") c.requires.named (omega arith) refl).1

pub returns-then-row : goal.returns-then-row
returns-then-row c = λ tag.
    direct_listed c.args.row.now tag c.args.names.now c.push.new.self c.push-2.new.self
    (rw c.in_ok-name_with.ensures at c.in_ok-push.ensures.ok)
    (rw c.in_ok-name_with-2.ensures at c.in_ok-push-2.ensures.ok) c.if-row.true

pub returns : goal.returns
returns c = λ tag.
    selected_listed c.args.row.now tag c.args.names.now c.push.new.self c.push-2.new.self
    (rw c.in_ok-name_with.ensures at c.in_ok-push.ensures.ok)
    (rw c.in_ok-name_with-2.ensures at c.in_ok-push-2.ensures.ok) c.push-3.new.self
    c.push-4.new.self c.if-row.false
    (rw c.in_ok-name_with-3.ensures at c.in_ok-push-3.ensures.ok)
    (rw c.in_ok-name_with-4.ensures at c.in_ok-push-4.ensures.ok)
