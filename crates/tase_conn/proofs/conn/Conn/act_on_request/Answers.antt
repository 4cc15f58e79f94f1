use Rattle.std.proofs.Common.{ap, ◌∙◌}
use Rattle.tase_views.specs.declared.call.CallKind.{CallKind}
use Rattle.tase_views.specs.declared.event.EventKind.TheVariants as events
use Rattle.tase_conn.specs.declared.stage.Step.TheVariants as steps
use Rattle.tase_conn.proofs.Stepping.{requests_so}
use Rattle.tase_conn.proofs.conn.Conn.act_on_request.Goals as goal

pub returns-clause-ok : goal.returns-clause-ok
returns-clause-ok c = λ rows items told turns s.
    requests_so rows items told turns c.args.invoke c.args.request.now c.args.self.now
    c.request.new.self c.request.result c.requires.empty c.requires.idle
    (c.request.ensures.step
    ∙ ap (λ (k : CallKind). steps.Asks (events.Request k)) c.in_ok-call.ensures)
    c.request.ensures.same s
