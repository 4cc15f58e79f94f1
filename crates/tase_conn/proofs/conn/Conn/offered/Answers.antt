use Rattle.std.proofs.Common.{◌≡◌, Some, None, rules}
use Rattle.std.specs.declared.alloc.AllocError.{AllocError}
use Rattle.bilateral.specs.Rows.{place_of_title}
use Rattle.stack_assoc.specs.declared.input.StackIn.TheVariants as inputs
use Rattle.tase_conn.specs.declared.stage.Coming.TheVariants as comings
use Rattle.tase_conn.specs.declared.stage.ConnEnd.TheVariants as conn_ends
use Rattle.tase_conn.specs.declared.stage.Progress.TheVariants as progresses
use Rattle.tase_conn.specs.declared.stage.Step.{Step}
use Rattle.tase_conn.specs.declared.stage.Step.TheVariants as steps
use Rattle.tase_conn.specs.Leaving.{AddsAnswer, finished}
use Rattle.tase_conn.specs.Wanting.{refusal_said}
use Rattle.tase_conn.specs.Acting.{ActsOn}
use Rattle.tase_conn.proofs.Stepping.{opens_so, declines_so, if_ok}
use Rattle.tase_conn.proofs.conn.Conn.offered.Goals as goal

pub returns-in-Some-negotiate-clause-ok : goal.returns-in-Some-negotiate-clause-ok
returns-in-Some-negotiate-clause-ok c = λ rows items told turns s.
    let place : place_of_title c.args.self.now.rows c.args.title.now ≡ Some c.in-Some.peer =
    search rules in
    opens_so rows items told turns c.args.title.now c.args.initiate.now c.in-Some-negotiate.granted
    c.in-Some.peer c.args.self.now c.ask.new.self c.ask.result c.requires.empty c.requires.idle
    c.ask.ensures.step c.ask.ensures.same place c.in-Some-negotiate.ensures.granted s

pub returns-in-None-clause-ok : goal.returns-in-None-clause-ok
returns-in-None-clause-ok c =
    let old = c.args.self.now in
    let place : place_of_title old.rows c.args.title.now ≡ None = search rules in
    if_ok Step AllocError (AddsAnswer (refusal_said old.course.setup)
    (finished (progresses.Ended conn_ends.Declined) old) c.decline-in-None.new.self)
    (λ step. step ≡ steps.Ends)
    (λ step. ActsOn (comings.Input (inputs.Offer c.args.title.now c.args.initiate.now)) old step
    c.decline-in-None.new.self) c.decline-in-None.result
    (λ step e a rows items told turns s.
    declines_so rows items told turns c.args.title.now c.args.initiate.now old
    c.decline-in-None.new.self step e c.requires.idle place a s) c.decline-in-None.ensures.ok
    c.decline-in-None.ensures.done
