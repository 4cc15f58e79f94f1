use Rattle.std.proofs.Common.{Bool, subst}
use Rattle.tase_verify.specs.Association.Hearing.{HearsOn}
use Rattle.tase_verify.proofs.association.hearing.Heard.read_on.Goals as goal

pub returns-clause-hears : goal.returns-clause-hears
returns-clause-hears c = λ octets s.
    subst (λ (more : Bool). HearsOn more octets c.hear_next.new.self) c.if-branch.false
    (c.in_ok-hear_next.ensures.hears octets (c.loop.invariant.hears octets s))
