use Rattle.std.proofs.Common.{◌≡◌, ap, ◌∙◌}
use Rattle.std.specs.declared.alloc.AllocError.{AllocError}
use Rattle.stack_assoc.specs.declared.input.StackIn.TheVariants as inputs
use Rattle.tase_views.specs.declared.call.CallKind.{CallKind}
use Rattle.tase_views.specs.declared.event.EventKind.TheVariants as events
use Rattle.tase_conn.specs.declared.stage.Coming.TheVariants as comings
use Rattle.tase_conn.specs.declared.stage.ConnEnd.TheVariants as conn_ends
use Rattle.tase_conn.specs.declared.stage.Progress.TheVariants as progresses
use Rattle.tase_conn.specs.declared.stage.Step.{Step}
use Rattle.tase_conn.specs.declared.stage.Step.TheVariants as steps
use Rattle.tase_conn.specs.Leaving.{AddsAnswer, finished}
use Rattle.tase_conn.specs.Wanting.{refusal_said}
use Rattle.tase_conn.specs.Acting.{ActsOn}
use Rattle.tase_conn.proofs.Stepping.{requests_badly, declines_bad, if_ok}
use Rattle.tase_conn.proofs.conn.Conn.act_on_input.Goals as goal

pub returns-in-BadOffer-clause-ok : goal.returns-in-BadOffer-clause-ok
returns-in-BadOffer-clause-ok c =
    let old = c.args.self.now in
    rw c.in-BadOffer.is (if_ok Step AllocError (AddsAnswer (refusal_said old.course.setup)
    (finished (progresses.Ended conn_ends.Declined) old) c.decline.new.self)
    (λ step. step ≡ steps.Ends)
    (λ step. ActsOn (comings.Input inputs.BadOffer) old step c.decline.new.self) c.decline.result
    (λ step e a rows items told turns s.
    declines_bad rows items told turns old c.decline.new.self step e c.requires.idle a s)
    c.decline.ensures.ok c.decline.ensures.done)

pub returns-in-BadRequest-clause-ok : goal.returns-in-BadRequest-clause-ok
returns-in-BadRequest-clause-ok c =
    rw c.in-BadRequest.is (λ rows items told turns s.
    requests_badly rows items told turns c.in-BadRequest.invoke c.args.self.now
    c.request.new.self c.request.result c.requires.empty c.requires.idle
    (c.request.ensures.step
    ∙ ap (λ (k : CallKind). steps.Asks (events.Request k)) c.invalid_call.ensures)
    c.request.ensures.same s)
