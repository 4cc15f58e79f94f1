use Rattle.std.proofs.Common.{List, [], ℕ, true, refl}
use Rattle.commands.specs.declared.io.status.Status.TheVariants.{Outside}
use Rattle.commands.specs.Io.Saying.{prints}
use Rattle.commands.specs.Io.Runs.{IsSaid, TellsSaid, Took}
use Rattle.commands.proofs.OfIo.Printing.{IsRun-printed, IsRun-unprinted}
use Rattle.tase_replay.specs.Play.{shown_of}
use Rattle.tase_tool.specs.Saying.{played_said}
use Rattle.tase_tool.specs.Sent.{played_on}
use Rattle.tase_tool.proofs.Playing.{plays_alone, plays_command}
use Rattle.tase_tool.proofs.Sending.{output_of, SendsSoFar-further, SendsSoFar-none}
use Rattle.tase_tool.proofs.running.play_on_output.Goals as goal

pub returns-in_default-clause-runs : goal.returns-in_default-clause-runs
returns-in_default-clause-runs g c =
    let played = played_on c.args.node.now c.args.scenario.now in
    IsRun-unprinted (g.O.Outside.told c.args.outside.now) (g.O.Outside.told c.open_out.new.self)
    (g.O.Outside.told c.open_out.new.self) true
    (played_said played) (plays_alone (shown_of played) played.end) c.in_default.ensures

pub returns-clause-runs : goal.returns-clause-runs
returns-clause-runs g c =
    let played = played_on c.args.node.now c.args.scenario.now in
    IsRun-printed (g.O.Outside.told c.args.outside.now) (g.O.Outside.told c.open_out.new.self)
    (g.O.Outside.told c.close_out.new.self) true
    (played_said played) (plays_alone (shown_of played) played.end)
    (g.O.Out.Sink.told c.in-Some.sink) (g.O.Out.Sink.told c.play_gathered-sink.result.0)
    c.play_gathered-sink.result.1
    c.in-Some.ensures c.play_gathered-sink.ensures.tells c.close_out.ensures
    (plays_command (shown_of played)
    played.end _ _ c.play_gathered-sink.result.1 c.play_gathered-sink.ensures.tells)

pub returns-in_default-clause-sent : goal.returns-in_default-clause-sent
returns-in_default-clause-sent g c =
    let b = g.O.Outside.told c.args.outside.now in
    let m = g.O.Outside.told c.open_out.new.self in
    let said : IsSaid Outside b.sinks m.sinks (prints Outside []) =
    (IsRun-unprinted b m m true (prints Outside []) refl c.in_default.ensures).said in
    SendsSoFar-none c.args.node.now c.args.scenario.now Outside
    (Took Outside (output_of b.sinks) (output_of m.sinks)) refl
    said.output

pub returns-clause-sent : goal.returns-clause-sent
returns-clause-sent g c =
    let played = played_on c.args.node.now c.args.scenario.now in
    let status = c.play_gathered-sink.result.1 in
    let b = g.O.Outside.told c.args.outside.now in
    let a = g.O.Outside.told c.close_out.new.self in
    let k = g.O.Out.Sink.told c.in-Some.sink in
    let l = g.O.Out.Sink.told c.play_gathered-sink.result.0 in
    SendsSoFar-further c.args.node.now c.args.scenario.now status status
    (λ octets. TellsSaid (prints status octets) k l status)
    (Took status (output_of b.sinks) (output_of a.sinks))
    (λ whole. whole)
    (λ (octets : List ℕ) tells. let said : IsSaid status b.sinks a.sinks (prints status octets) =
    (IsRun-printed b (g.O.Outside.told c.open_out.new.self) a true (prints status octets) refl k l
    status c.in-Some.ensures tells c.close_out.ensures (plays_command (shown_of played)
    played.end _ _ status c.play_gathered-sink.ensures.tells)).said in said.output)
    c.play_gathered-sink.ensures.sent
