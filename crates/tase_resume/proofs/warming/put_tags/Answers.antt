use Rattle.std.proofs.Common.{reverse}
use Rattle.tase_resume.specs.Bases.{settled_past}
use Rattle.tase_resume.specs.Warming.{tag_told}
use Rattle.tase_resume.proofs.PutPlaces.{put_more}
use Rattle.tase_resume.proofs.warming.put_tags.Goals as goal

pub loop-device-preserved : goal.loop-device-preserved
loop-device-preserved c =
    let node = c.args.node.now in
    put_more (tag_told node.setup.centre (settled_past (reverse node.history)))
    c.args.out.now c.loop-device.out c.put_tag.new.out c.loop-device.device c.loop-device.invariant
    c.in_ok-put_tag.ensures
