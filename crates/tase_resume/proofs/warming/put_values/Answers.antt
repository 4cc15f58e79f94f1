use Rattle.std.proofs.Common.{reverse}
use Rattle.tase_resume.specs.Bases.{settled_past}
use Rattle.tase_resume.specs.Warming.{value_told}
use Rattle.tase_resume.proofs.PutPlaces.{put_more}
use Rattle.tase_resume.proofs.warming.put_values.Goals as goal

pub loop-point-preserved : goal.loop-point-preserved
loop-point-preserved c =
    let node = c.args.node.now in
    put_more (value_told node.setup.centre (settled_past (reverse node.history)))
    c.args.out.now c.loop-point.out c.put_value.new.out c.loop-point.point c.loop-point.invariant
    c.in_ok-put_value.ensures
