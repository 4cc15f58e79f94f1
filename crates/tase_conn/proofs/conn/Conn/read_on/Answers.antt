use Rattle.std.proofs.Common.{◌++◌, refl, sym, subst, ◌∙◌}
use Rattle.tase_conn.specs.declared.stage.Step.{Step}
use Rattle.tase_conn.specs.Acting.{StepsBy, StaysIdle}
use Rattle.tase_conn.proofs.Composed.{passes_none, passes_then, reads_event, reads_end, reads_all}
use Rattle.tase_conn.proofs.Composed.{placed_then}
use Rattle.tase_conn.proofs.conn.Conn.read_on.Goals as goal

pub loop-self-init : goal.loop-self-init
loop-self-init c = record {
  placed = c.requires.placed;
  idle = c.requires.idle;
  stage = refl;
  passes = λ rows items told turns s.
      passes_none rows items told turns c.args.self.now c.args.self.now s refl;
}

pub returns-in-Asks-clause-ok : goal.returns-in-Asks-clause-ok
returns-in-Asks-clause-ok c = λ rows items told turns s.
    let p = c.loop-self.invariant.passes rows items told turns s in
    let P : Step → Type 0 = λ step. StepsBy rows items (told ++ p.later) (turns ++ p.more) step
    c.loop-self.self c.step.new.self in
    reads_event rows items told turns c.in-Asks.event c.args.self.now c.loop-self.self
    c.step.new.self p
    (subst P c.in-Asks.is (c.in_ok-event.ensures.ok rows items (told ++ p.later) (turns ++ p.more)
    p.stands))

pub returns-in-Ends-clause-ok : goal.returns-in-Ends-clause-ok
returns-in-Ends-clause-ok c = λ rows items told turns s.
    let p = c.loop-self.invariant.passes rows items told turns s in
    let P : Step → Type 0 = λ step. StepsBy rows items (told ++ p.later) (turns ++ p.more) step
    c.loop-self.self c.step.new.self in
    reads_end rows items told turns c.args.self.now c.loop-self.self c.step.new.self p
    (subst P c.in-Ends.is (c.in_ok-event.ensures.ok rows items (told ++ p.later) (turns ++ p.more)
    p.stands))

pub loop-self-preserved : goal.loop-self-preserved
loop-self-preserved c =
    let here = c.loop-self.invariant.placed in
    let P : Step → Type 0 = λ step. StepsBy here.rows here.items here.told here.turns step
    c.loop-self.self c.step.new.self in
    let went = subst P c.in-GoesOn.is (c.in_ok-event.ensures.ok here.rows here.items here.told
    here.turns here.stands) in
    record {
      placed = placed_then here.rows here.items here.told here.turns c.loop-self.self
          c.step.new.self went;
      idle = subst (λ (step : Step). StaysIdle step c.step.new.self.progress) c.in-GoesOn.is
          c.in_ok-event.ensures.idle;
      stage = c.step.ensures.stage ∙ c.loop-self.invariant.stage;
      passes = λ rows items told turns s.
          let p = c.loop-self.invariant.passes rows items told turns s in
          let Q : Step → Type 0 = λ step. StepsBy rows items (told ++ p.later) (turns ++ p.more) step
          c.loop-self.self c.step.new.self in
          passes_then rows items told turns c.args.self.now c.loop-self.self c.step.new.self p
          (subst Q c.in-GoesOn.is (c.in_ok-event.ensures.ok rows items (told ++ p.later)
          (turns ++ p.more) p.stands));
    }

pub returns-clause-ok : goal.returns-clause-ok
returns-clause-ok c = λ rows items told turns s.
    reads_all rows items told turns c.args.self.now c.loop-self.self
    (c.loop-self.invariant.passes rows items told turns s) c.loop-self.invariant.idle
    (sym c.has_more.ensures ∙ c.loop-self-test.false)
