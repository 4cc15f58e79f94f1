use Rattle.std.proofs.Common.{◌≡◌, sym, ap, ◌∙◌}
use Rattle.std.specs.declared.alloc.AllocError.{AllocError}
use Rattle.tase_conn.specs.declared.stage.Stage.TheVariants as stages
use Rattle.tase_conn.specs.declared.stage.Step.{Step}
use Rattle.tase_conn.specs.declared.stage.Step.TheVariants as steps
use Rattle.tase_conn.specs.Talking.{Talking}
use Rattle.tase_conn.specs.Leaving.{EndsFor}
use Rattle.tase_conn.specs.Acting.{ActsOn}
use Rattle.tase_conn.specs.Places.{coming_by}
use Rattle.tase_conn.proofs.Stepping.{closes_so, ends_so, if_ok}
use Rattle.tase_conn.proofs.conn.Conn.end_by.Goals as goal

pub returns-in-Open-clause-ok : goal.returns-in-Open-clause-ok
returns-in-Open-clause-ok c = λ rows items told turns s.
    closes_so rows items told turns c.args.cause c.in-Open.peer c.in-Open.detail c.args.self.now
    c.ask.new.self c.ask.result
    (sym (ap (λ (v : Talking). v.stage) c.self.view_is) ∙ c.in-Open.is) c.requires.empty
    c.requires.idle c.ask.ensures.step c.ask.ensures.same s

pub returns-in-Early-clause-ok : goal.returns-in-Early-clause-ok
returns-in-Early-clause-ok c =
    let old = c.args.self.now in
    let at = sym (ap (λ (v : Talking). v.stage) c.self.view_is) ∙ c.in-Early.is in
    if_ok Step AllocError (EndsFor c.args.cause old c.end_now.new.self) (λ step. step ≡ steps.Ends)
    (λ step. ActsOn (coming_by c.args.cause) old step c.end_now.new.self) c.end_now.result
    (λ step e n rows items told turns s.
    ends_so rows items told turns c.args.cause stages.Early old c.end_now.new.self step at tt e
    c.requires.idle n s) c.end_now.ensures.ok c.end_now.ensures.done

pub returns-in-Closed-clause-ok : goal.returns-in-Closed-clause-ok
returns-in-Closed-clause-ok c =
    let old = c.args.self.now in
    let at = sym (ap (λ (v : Talking). v.stage) c.self.view_is) ∙ c.in-Closed.is in
    if_ok Step AllocError (EndsFor c.args.cause old c.end_now-in-Closed.new.self)
    (λ step. step ≡ steps.Ends)
    (λ step. ActsOn (coming_by c.args.cause) old step c.end_now-in-Closed.new.self)
    c.end_now-in-Closed.result
    (λ step e n rows items told turns s.
    ends_so rows items told turns c.args.cause (stages.Closed c.in-Closed.peer) old
    c.end_now-in-Closed.new.self step at tt e c.requires.idle n s) c.end_now-in-Closed.ensures.ok
    c.end_now-in-Closed.ensures.done
