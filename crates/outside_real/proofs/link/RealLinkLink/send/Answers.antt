use Rattle.std.proofs.Common.{refl}
use Rattle.outside_real.proofs.link.RealLinkLink.send.Goals as goal

pub returns-in-Failed-clause-attempts : goal.returns-in-Failed-clause-attempts
returns-in-Failed-clause-attempts g c =
    rw (← c.self.view_is) (record {
      went = c.in-Failed.ensures.attempts;
      stays =
          rw c.count_fault-self-inside.ensures refl;
    })
