use Rattle.std.proofs.Common.{arith}
use Rattle.node_core.proofs.OfDevices.NewBanks.{has_span, has_more, has_all}
use Rattle.node_core.proofs.devices.making.new_bank.Goals as goal

pub push-requires : goal.push-requires
push-requires c =
    has_span c.args.centre.now c.loop-number.number c.device-row.result.now
    c.devices-number-end.ensures.lawful (omega arith) c.device-row.ensures

pub loop-number-preserved : goal.loop-number-preserved
loop-number-preserved c =
    has_more c.args.centre.now c.loop-number.number c.device-row.result.now c.loop-number.bank
    c.push.new.self (omega arith) c.device-row.ensures c.in_ok-push.ensures.ok
    c.loop-number.invariant

pub returns : goal.returns
returns c =
    has_all c.args.centre.now c.loop-number.number c.loop-number.bank (omega arith)
    c.loop-number.invariant
