use Rattle.std.proofs.Common.{◌+◌, ◌≤◌, length}
use Rattle.std.specs.Str.Lines.{lines}
use Rattle.tase_replay.specs.Play.{Scene, play}
use Rattle.tase_replay.specs.Players.{StandsIn, IsSamePlayer, play_of}
use Rattle.tase_replay.proofs.SoFar.{Further}
use Rattle.tase_replay.proofs.playing.Player.play_lines.Given as goal

abbrev pub invariant-loop-line : goal.invariant-loop-line
invariant-loop-line g l =
    (scene : Scene) × (Further l.self.node.now.setup (play_of l.fn.self l.fn.scenario)
    (play l.self.node.now.setup (lines l.rest) scene l.number)
    l.fn.self.node.now.history l.self.node.now.history
    (g.K.Sink.told l.fn.self.sink.now) (g.K.Sink.told l.self.sink.now) scene)
    × (StandsIn scene l.self)
    × (IsSamePlayer l.fn.self l.self)
    × (l.number + length l.rest ≤ length l.scenario + 1)

abbrev pub decreases-loop-line : goal.decreases-loop-line
decreases-loop-line g l = length l.rest
