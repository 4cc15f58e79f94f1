use Rattle.std.proofs.Common.{arith}
use Rattle.asking_end.proofs.service.running.talk_on.Goals as goal

pub loop-init : goal.loop-init
loop-init g c = (c.requires.room, c.requires.few, λ start so e. (so, e))

pub loop-preserved : goal.loop-preserved
loop-preserved g c = (
  omega arith,
  omega arith,
  λ start so e.
      let t = c.loop.invariant.2 start so e in
      c.in_default.ensures start t.0 t.1,
)

pub returns-in-Some-talk_once : goal.returns-in-Some-talk_once
returns-in-Some-talk_once g c = λ start so e.
    let t = c.loop.invariant.2 start so e in
    c.in-Some-talk_once.ensures start t.0 t.1
