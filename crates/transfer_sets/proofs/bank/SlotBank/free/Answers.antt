use Rattle.std.proofs.Common.{◌<◌, length, map, ap, ◌∙◌, arith}
use Rattle.transfer_sets.specs.Banks.{OwnedSlot, freed}
use Rattle.transfer_sets.proofs.BankLists.{part-step, part-all}
use Rattle.transfer_sets.proofs.bank.SlotBank.free.Goals as goal

pub loop-place-preserved : goal.loop-place-preserved
loop-place-preserved c =
    let items = c.self.inside.slots.items in
    let f : OwnedSlot → OwnedSlot = freed c.args.ordinal in
    let place = c.loop-place.place in
    let within : place < length items = omega (
      arith,
      c.loop-place-test.true,
      c.len-place-end.ensures,
      c.self.inside.slots.ok,
    ) in (
      rw (c.free.ensures, c.index_mut.ensures.value, c.loop-place.invariant.0)
          (part-step f place items _ within),
      omega (arith, c.add.ensures, c.loop-place.invariant.1),
    )

pub returns-clause-slots : goal.returns-clause-slots
returns-clause-slots c =
    c.loop-place.invariant.0
    ∙ part-all (freed c.args.ordinal) c.loop-place.place c.self.inside.slots.items
    (omega (arith, c.loop-place-test.false, c.len-place-end.ensures, c.self.inside.slots.ok))
    ∙ ap (map (freed c.args.ordinal)) c.self.view_is
