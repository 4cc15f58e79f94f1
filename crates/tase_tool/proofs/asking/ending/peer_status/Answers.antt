use Rattle.std.proofs.Common.{inl, inr, refl, subst}
use Rattle.outside.specs.Sink.{WritesAll}
use Rattle.tase_tool.proofs.asking.ending.peer_status.Goals as goal

pub returns-in-Ok : goal.returns-in-Ok
returns-in-Ok c = λ text before after w.
    ((refl, subst (λ r. WritesAll before after text r) c.in-Ok.is w), inl refl)

pub returns-in-Err : goal.returns-in-Err
returns-in-Err c = λ text before after w.
    (subst (λ r. WritesAll before after text r) c.in-Err.is w, inr refl)
