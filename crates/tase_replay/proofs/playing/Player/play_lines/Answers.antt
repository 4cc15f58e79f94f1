use Rattle.std.proofs.Common.{◌+◌, [], true, reverse, arith, ◌∙◌, refl, sym, subst}
use Rattle.std.specs.Str.Lines.{lines}
use Rattle.tase_views.specs.Setup.{Setup}
use Rattle.tase_replay.specs.AllSent.{AreSentSoFar, is_played_out}
use Rattle.tase_replay.specs.Play.{Scene, play, line_meaning, first_scene, scene_by}
use Rattle.tase_replay.specs.Players.{play_of}
use Rattle.tase_replay.proofs.Reached.{Reached-none, Reached-last}
use Rattle.tase_replay.proofs.SoFar.{PrintsLines, SentSoFar-none, SentSoFar-more}
use Rattle.tase_replay.proofs.SoFar.{AreSentSoFar-whole, AreSentSoFar-last, prints_lines}
use Rattle.tase_replay.proofs.playing.Player.play_lines.Goals as goal

pub loop-line-init : goal.loop-line-init
loop-line-init g c =
    let old = c.args.self.now in
    let node = old.node.now in (
      first_scene (reverse node.history),
      record {
        reached = Reached-none (play_of old c.args.scenario.now) node.history
            (g.K.Sink.told old.sink.now);
        sent = SentSoFar-none node.setup (reverse node.history);
      },
      c.requires,
      record { node = refl; sink = refl; setup = refl },
      omega arith,
    )

pub play_line-requires : goal.play_line-requires
play_line-requires g c = (c.loop-line.invariant.0, c.loop-line.invariant.2)

pub returns-in_default-play_line : goal.returns-in_default-play_line
returns-in_default-play_line g c =
    let old = c.args.self.now in
    let at = c.loop-line.self in
    let new = c.play_line.new.self in
    let first = old.node.now in
    let node = at.node.now in
    let scene = c.loop-line.invariant.0 in
    let same = c.loop-line.invariant.3 in
    let rest = λ (s : Scene). play node.setup (lines c.in-Some.more.now) s
    (c.loop-line.number + 1) in
    let all = play_of old c.args.scenario.now in
    let meaning = line_meaning node.setup scene c.in-Some.line.now in
    let so_far = rw c.in-Some.ensures.some at c.loop-line.invariant.1 in
    let line = c.play_line.ensures.plays scene c.loop-line.invariant.2 in
    let played = line.played c.in-Some.line.now in
    record {
      played = Reached-last c.in-Some.line.now c.loop-line.number meaning rest all first.history
          node.history new.node.now.history (g.K.Sink.told old.sink.now)
          (g.K.Sink.told at.sink.now) (g.K.Sink.told new.sink.now) c.play_line.result
          c.in_default-play_line.not-Done so_far.reached played;
      sent = subst (λ (setup : Setup). AreSentSoFar setup first.history all
          (is_played_out c.play_line.result) (g.K.Sink.told old.sink.now)
          (g.K.Sink.told new.sink.now)) same.setup
          (AreSentSoFar-last node.setup c.in-Some.line.now c.loop-line.number scene rest all
          first.history node.history new.node.now.history (g.K.Sink.told old.sink.now)
          (g.K.Sink.told at.sink.now) (g.K.Sink.told new.sink.now) so_far.reached so_far.sent
          (subst (λ (setup : Setup). PrintsLines setup first.history all) (sym same.setup)
          (prints_lines first.setup (lines c.args.scenario.now) first.history))
          c.loop-line.invariant.2.past_is c.play_line.result c.in_default-play_line.not-Done played
          line.sent);
      same = record {
        node = c.play_line.ensures.same.node ∙ same.node;
        sink = c.play_line.ensures.same.sink ∙ same.sink;
        setup = c.play_line.ensures.same.setup ∙ same.setup;
      };
    }

pub loop-line-preserved : goal.loop-line-preserved
loop-line-preserved g c =
    let old = c.args.self.now in
    let at = c.loop-line.self in
    let new = c.play_line.new.self in
    let first = old.node.now in
    let node = at.node.now in
    let scene = c.loop-line.invariant.0 in
    let same = c.loop-line.invariant.3 in
    let rest = λ (s : Scene). play node.setup (lines c.in-Some.more.now) s
    (c.loop-line.number + 1) in
    let so_far = rw c.in-Some.ensures.some at c.loop-line.invariant.1 in
    let line = c.in-Done.ensures.plays scene c.loop-line.invariant.2 in
    let further = SentSoFar-more node.setup c.in-Some.line.now c.loop-line.number scene rest
    (play_of old c.args.scenario.now) first.history node.history new.node.now.history
    (g.K.Sink.told old.sink.now) (g.K.Sink.told at.sink.now) (g.K.Sink.told new.sink.now)
    so_far.reached so_far.sent (line.played c.in-Some.line.now) line.sent in (
      scene_by scene (line_meaning node.setup scene c.in-Some.line.now),
      rw c.in-Done.ensures.same.setup further,
      rw c.in-Done.ensures.same.setup (line.stands refl),
      record {
        node = c.in-Done.ensures.same.node ∙ same.node;
        sink = c.in-Done.ensures.same.sink ∙ same.sink;
        setup = c.in-Done.ensures.same.setup ∙ same.setup;
      },
      omega (arith, c.in-Some.ensures.shorter),
    )

pub returns-clause-sent : goal.returns-clause-sent
returns-clause-sent g c =
    let old = c.args.self.now in
    let at = c.loop-line.self in
    let first = old.node.now in
    let node = at.node.now in
    let scene = c.loop-line.invariant.0 in
    let all = play_of old c.args.scenario.now in
    let so_far = rw c.in_default.ensures.none at c.loop-line.invariant.1 in
    subst (λ (setup : Setup). AreSentSoFar setup first.history all true
    (g.K.Sink.told old.sink.now) (g.K.Sink.told at.sink.now)) c.loop-line.invariant.3.setup
    (AreSentSoFar-whole node.setup all (play node.setup [] scene c.loop-line.number) first.history
    node.history (g.K.Sink.told old.sink.now) (g.K.Sink.told at.sink.now) scene
    so_far.reached so_far.sent
    (subst (λ (setup : Setup). PrintsLines setup first.history all)
    (sym c.loop-line.invariant.3.setup)
    (prints_lines first.setup (lines c.args.scenario.now) first.history))
    c.loop-line.invariant.2.past_is true
    (g.K.Sink.told at.sink.now) refl)
