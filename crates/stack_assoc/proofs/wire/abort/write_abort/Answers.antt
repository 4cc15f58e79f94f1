use Rattle.std.proofs.Common.{◌/◌, ◌%◌, [], ◌∷◌, refl}
use Rattle.stack_assoc.proofs.OfWire.Fixed.{abort_behind, low_octets, high_octets, all_octets}
use Rattle.stack_assoc.proofs.wire.abort.write_abort.Goals as goal

pub returns-then-acse-lt128 : goal.returns-then-acse-lt128
returns-then-acse-lt128 c size least =
    let id = c.args.acse in
    abort_behind id size (id % 256 ∷ []) c.args.out.now.items c.put_abort.new.out.items
    c.requires.named least (low_octets id (id % 256) c.if-acse-lt128.true refl) c.put_abort.ensures

pub returns-then-acse-lt32768 : goal.returns-then-acse-lt32768
returns-then-acse-lt32768 c size least =
    let id = c.args.acse in
    abort_behind id size (id / 256 ∷ id % 256 ∷ []) c.args.out.now.items
    c.put_abort-then-acse-lt32768.new.out.items c.requires.named least
    (high_octets id (id / 256) (id % 256) c.if-acse-lt128.false c.if-acse-lt32768.true refl refl)
    c.put_abort-then-acse-lt32768.ensures

pub returns-else-acse-lt32768 : goal.returns-else-acse-lt32768
returns-else-acse-lt32768 c size least =
    let id = c.args.acse in
    abort_behind id size (0 ∷ id / 256 ∷ id % 256 ∷ []) c.args.out.now.items
    c.put_abort-else-acse-lt32768.new.out.items c.requires.named least
    (all_octets id (id / 256) (id % 256) c.if-acse-lt32768.false refl refl)
    c.put_abort-else-acse-lt32768.ensures
