use Rattle.std.proofs.Common.{reverse, refl}
use Rattle.std.specs.Str.Lines.{lines}
use Rattle.tase_replay.specs.Play.{play, first_scene, steps_of}
use Rattle.tase_replay.proofs.Taking.{TakesPart-none}
use Rattle.tase_replay.proofs.SoFar.{AreSentSoFar-none}
use Rattle.tase_replay.proofs.playing.replay.Goals as goal

pub play_lines-requires : goal.play_lines-requires
play_lines-requires g c = record { past_is = refl; sits = c.in-Ok.ensures }

pub returns-in-Err-clause-played : goal.returns-in-Err-clause-played
returns-in-Err-clause-played g c =
    let node = c.args.node.now in
    TakesPart-none (steps_of
    (play node.setup (lines c.args.scenario.now) (first_scene (reverse node.history)) 1))
    node.history (g.K.Sink.told c.args.sink.now)

pub returns-in-Err-clause-sent : goal.returns-in-Err-clause-sent
returns-in-Err-clause-sent g c =
    let node = c.args.node.now in
    AreSentSoFar-none node.setup node.history
    (play node.setup (lines c.args.scenario.now) (first_scene (reverse node.history)) 1)
    (g.K.Sink.told c.args.sink.now)
