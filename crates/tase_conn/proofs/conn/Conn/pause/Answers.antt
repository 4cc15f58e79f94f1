use Rattle.std.proofs.Common.{refl, sym, ap, ◌∙◌}
use Rattle.tase_conn.specs.declared.stage.Stage.TheVariants as stages
use Rattle.tase_conn.specs.Talking.{Talking}
use Rattle.tase_conn.proofs.Stepping.{takes_so, pauses_so}
use Rattle.tase_conn.proofs.conn.Conn.pause.Goals as goal

pub returns-in-Open-clause-ok : goal.returns-in-Open-clause-ok
returns-in-Open-clause-ok c = λ rows items told turns s.
    takes_so rows items told turns c.in-Open.peer c.in-Open.detail c.args.self.now c.ask.new.self
    c.ask.result (sym (ap (λ (v : Talking). v.stage) c.self.view_is) ∙ c.in-Open.is)
    c.requires.empty c.requires.idle c.ask.ensures.step c.ask.ensures.same s

pub returns-in-Early : goal.returns-in-Early
returns-in-Early c = record {
  ok = λ rows items told turns s.
      pauses_so rows items told turns stages.Early c.args.self.now
      (sym (ap (λ (v : Talking). v.stage) c.self.view_is) ∙ c.in-Early.is) tt c.requires.empty
      c.requires.idle s;
  more = refl;
  stage = refl;
}

pub returns-in-Closed : goal.returns-in-Closed
returns-in-Closed c = record {
  ok = λ rows items told turns s.
      pauses_so rows items told turns (stages.Closed c.in-Closed.peer) c.args.self.now
      (sym (ap (λ (v : Talking). v.stage) c.self.view_is) ∙ c.in-Closed.is) tt c.requires.empty
      c.requires.idle s;
  more = refl;
  stage = refl;
}
