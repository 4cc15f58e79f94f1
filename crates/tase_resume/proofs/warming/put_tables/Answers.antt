use Rattle.std.proofs.Common.{reverse}
use Rattle.tase_resume.specs.Bases.{settled_past}
use Rattle.tase_resume.specs.Warming.{table_told}
use Rattle.tase_resume.proofs.PutPlaces.{put_more}
use Rattle.tase_resume.proofs.warming.put_tables.Goals as goal

pub loop-peer-preserved : goal.loop-peer-preserved
loop-peer-preserved c =
    let node = c.args.node.now in
    put_more (table_told node.setup.centre (settled_past (reverse node.history)))
    c.args.out.now c.loop-peer.out c.put_table.new.out c.loop-peer.peer c.loop-peer.invariant
    c.in_ok-put_table.ensures
