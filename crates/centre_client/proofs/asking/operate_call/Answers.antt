use Rattle.centre_client.proofs.DeviceRequests.{operate_named}
use Rattle.centre_client.proofs.asking.operate_call.Goals as goal

pub returns-clause-askable : goal.returns-clause-askable
returns-clause-askable c =
    operate_named c.args.centre.now c.args.peer c.in_ok-item.item _ c.in_ok-names.ensures.domain
    c.in_ok-item.ensures.named _ _ c.new.result c.in_ok-names.ensures.value
    c.in_ok-values.ensures c.new.ensures
