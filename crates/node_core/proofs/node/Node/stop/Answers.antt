use Rattle.std.proofs.Common.{◌≡◌, refl, arith}
use Rattle.tase_views.specs.declared.event.EventKind.TheVariants.{Stop}
use Rattle.node_core.specs.Room.{past_of, stops_left}
use Rattle.node_core.proofs.OfNode.Causes.{going-still}
use Rattle.node_core.proofs.OfNode.NodeAnswers.{light_enough, free_at, ended}
use Rattle.node_core.proofs.OfNode.NodeSteps.{IsNode-stop}
use Rattle.node_core.proofs.OfNode.Rooms.{line-stop, one_left}
use Rattle.node_core.proofs.node.Node.stop.Goals as goal

pub append-requires-clause-line : goal.append-requires-clause-line
append-requires-clause-line c =
    let free = free_at c.self.inside c.args.who c.self.view_is c.requires.stop c.requires.free in
    let left : stops_left c.self.inside.log.stop ≡ 1 = one_left c.self.invariant.1
    (going-still (past_of c.self.inside.log) Stop refl free.going) in
    omega (arith, left, c.self.invariant.1.lines)

pub append-requires-clause-octets : goal.append-requires-clause-octets
append-requires-clause-octets c =
    let free = free_at c.self.inside c.args.who c.self.view_is c.requires.stop c.requires.free in
    let left : stops_left c.self.inside.log.stop ≡ 1 = one_left c.self.invariant.1
    (going-still (past_of c.self.inside.log) Stop refl free.going) in
    rw c.requires.stop (omega (
      arith,
      left,
      c.self.invariant.1.octets,
      line-stop c.args.who c.ranges.who.fits,
    ))

pub append-requires-clause-light : goal.append-requires-clause-light
append-requires-clause-light c = light_enough c.self.invariant.1

pub invariant_of-self : goal.invariant_of-self
invariant_of-self c =
    let free = free_at c.self.inside c.args.who c.self.view_is c.requires.stop c.requires.free in
    ended c.self.inside c.self.invariant c.args.who c.append.new.self c.requires.stop
    c.append.ensures refl (going-still (past_of c.self.inside.log) Stop refl free.going) free
    (IsNode-stop _ _ _ _ c.self.invariant.0 c.args.who c.self.inside.hub c.self.inside.parts refl
    refl)
