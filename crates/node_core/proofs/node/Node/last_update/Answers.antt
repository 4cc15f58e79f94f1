use Rattle.std.proofs.Common.{◌<◌, ap, ◌∙◌, length, arith}
use Rattle.std.proofs.lemmas.List.{length-map}
use Rattle.std.specs.Arc.{arc_value}
use Rattle.point_db.specs.Updates.{Updates, last_given}
use Rattle.node_core.specs.LastValues.{kinds_of, updates_in}
use Rattle.node_core.specs.Room.{past_of}
use Rattle.node_core.proofs.OfNode.GivenValues.{updates_are}
use Rattle.node_core.proofs.node.Node.last_update.Goals as goal

pub last_update-requires : goal.last_update-requires
last_update-requires c =
    let rows = arc_value c.self.inside.centre in
    let known : c.args.point < length rows.points = rw (← c.self.view_is) at c.requires in
    omega (
      arith,
      known,
      c.self.invariant.0.common.kept.points,
      length-map rows.points (λ row. row.kind),
    )

pub returns : goal.returns
returns c =
    let past = past_of c.self.inside.log in
    rw (← c.self.view_is)
    (c.last_update.ensures (kinds_of (arc_value c.self.inside.centre)) (updates_in past)
    c.self.invariant.0.common.kept
    ∙ ap (λ (updates : Updates). last_given updates c.args.point) (updates_are past))
