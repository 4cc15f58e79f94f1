use Rattle.std.proofs.Common.{◌<◌, length, ◌∙◌, arith}
use Rattle.sbo_device.specs.Moves.{closed}
use Rattle.sbo_device.specs.Banks.{DeviceRecord, moved}
use Rattle.sbo_device.proofs.BankLists.{part-step, part-all}
use Rattle.sbo_device.proofs.bank.close_all.Goals as goal

pub loop-place-preserved : goal.loop-place-preserved
loop-place-preserved c =
    let f : DeviceRecord → DeviceRecord = moved (closed c.args.key) in
    let place = c.loop-place.place in
    let within : place < length c.args.devices.now = c.loop-place-test.true in
    rw (c.close.ensures, c.index-devices-place.is, c.loop-place.invariant)
    (part-step f place c.args.devices.now _ within)

pub returns : goal.returns
returns c =
    c.loop-place.invariant
    ∙ part-all (moved (closed c.args.key)) c.loop-place.place c.args.devices.now
    (omega (arith, c.loop-place-test.false))
