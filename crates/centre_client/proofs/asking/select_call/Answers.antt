use Rattle.centre_client.proofs.DeviceRequests.{select_named}
use Rattle.centre_client.proofs.asking.select_call.Goals as goal

pub returns-clause-askable : goal.returns-clause-askable
returns-clause-askable c =
    select_named c.args.centre.now c.args.peer c.in_ok-item.item c.in_ok-names.ensures.domain
    c.in_ok-item.ensures.named _ c.new.result c.in_ok-names.ensures.value c.new.ensures
