use Rattle.std.proofs.Common.{◌<◌, length, ◌∙◌, arith}
use Rattle.sbo_device.specs.Moves.{ticked}
use Rattle.sbo_device.specs.Banks.{DeviceRecord, moved}
use Rattle.sbo_device.proofs.BankLists.{part-step, part-all}
use Rattle.sbo_device.proofs.bank.expire_all.Goals as goal

pub loop-place-preserved : goal.loop-place-preserved
loop-place-preserved c =
    let f : DeviceRecord → DeviceRecord = moved (ticked c.args.now) in
    let place = c.loop-place.place in
    let within : place < length c.args.devices.now = c.loop-place-test.true in
    rw (c.expire.ensures, c.index-devices-place.is, c.loop-place.invariant)
    (part-step f place c.args.devices.now _ within)

pub returns : goal.returns
returns c =
    c.loop-place.invariant
    ∙ part-all (moved (ticked c.args.now)) c.loop-place.place c.args.devices.now
    (omega (arith, c.loop-place-test.false))
