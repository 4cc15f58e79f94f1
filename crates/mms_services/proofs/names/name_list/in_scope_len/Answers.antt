use Rattle.mms_services.proofs.OfNames.NameListsSized.{in_scope-sized}
use Rattle.mms_services.proofs.names.name_list.in_scope_len.Goals as goal

pub returns-clause-value : goal.returns-clause-value
returns-clause-value c = in_scope-sized c.args.scope.now c.scope_len.result
    c.scope_len.ensures.value c.scope_len.ensures.few
