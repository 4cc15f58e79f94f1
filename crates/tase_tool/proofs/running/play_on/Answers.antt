use Rattle.tase_tool.specs.Sent.{played_on}
use Rattle.tase_tool.proofs.Playing.{Tells-played}
use Rattle.tase_tool.proofs.Sending.{SendsSoFar-played}
use Rattle.tase_tool.proofs.Keeping.{OnWhole-played}
use Rattle.tase_tool.proofs.running.play_on.Goals as goal

pub returns-clause-tells : goal.returns-clause-tells
returns-clause-tells g c =
    Tells-played (played_on c.args.node.now c.args.scenario.now) c.args.node.now.history
    c.replay-end.new.node.history (g.K.Sink.told c.args.sink.now)
    (g.K.Sink.told c.replay-end.new.sink) (g.K.Sink.told c.tell_end.new.sink)
    c.replay-end.result c.tell_end.result c.replay-end.ensures.played c.tell_end.ensures

pub returns-clause-sent : goal.returns-clause-sent
returns-clause-sent g c =
    SendsSoFar-played c.args.node.now c.args.scenario.now c.replay-end.new.node.history
    (g.K.Sink.told c.args.sink.now) (g.K.Sink.told c.replay-end.new.sink)
    (g.K.Sink.told c.tell_end.new.sink) c.replay-end.result c.tell_end.result
    c.replay-end.ensures.played c.tell_end.ensures c.replay-end.ensures.sent

pub returns-clause-kept : goal.returns-clause-kept
returns-clause-kept g c =
    OnWhole-played c.args.node.now c.args.scenario.now c.replay-end.new.node.history
    (g.K.Sink.told c.args.sink.now) (g.K.Sink.told c.replay-end.new.sink)
    (g.K.Sink.told c.tell_end.new.sink) c.replay-end.result c.tell_end.result
    c.replay-end.ensures.played c.tell_end.ensures
