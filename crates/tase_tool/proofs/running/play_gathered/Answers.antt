use Rattle.std.proofs.Common.{ℕ, List, [], false, refl, sym, subst}
use Rattle.outside.specs.Sink.{AppendsPart}
use Rattle.outside.specs.Buffered.{buffered_told, Finishes}
use Rattle.outside.proofs.Writing.{AppendsPart-none}
use Rattle.commands.specs.Io.Runs.{TellsSaid}
use Rattle.commands.specs.declared.io.status.Status.TheVariants.{Outside, Memory}
use Rattle.commands.specs.Io.Saying.{prints}
use Rattle.tase_tool.specs.Saying.{played_said}
use Rattle.tase_tool.specs.Sent.{played_on, SendsSoFar}
use Rattle.commands.proofs.OfFiles.Handed.{Tells-handed, Tells-unhanded, Tells-failed}
use Rattle.tase_tool.proofs.Sending.{SendsSoFar-further, SendsSoFar-none}
use Rattle.tase_tool.proofs.running.play_gathered.Goals as goal

pub returns-in-Err-clause-tells : goal.returns-in-Err-clause-tells
returns-in-Err-clause-tells g c =
    let played = played_on c.args.node.now c.args.scenario.now in
    subst (λ s. AppendsPart (g.K.Sink.told c.args.sink) (g.K.Sink.told s)
    (played_said played).text false) (sym c.in-Err.ensures.err)
    (AppendsPart-none (g.K.Sink.told c.args.sink) (played_said played).text)

pub returns-in-Outside-clause-tells : goal.returns-in-Outside-clause-tells
returns-in-Outside-clause-tells g c =
    let played = played_on c.args.node.now c.args.scenario.now in
    subst (λ s. TellsSaid (played_said played) (g.K.Sink.told c.args.sink) (g.K.Sink.told s) Outside)
    (sym c.into_sink.ensures)
    (Tells-failed (g.K.Sink.told c.args.sink) (g.K.Sink.told c.play_on.new.sink.0)
    (g.K.Sink.told c.play_on.new.sink.0) c.play_on.new.sink.1 c.requires
    (played_said played)
    (subst (λ s. TellsSaid (played_said played) (buffered_told (g.K.Sink.told s.0) s.1)
    (buffered_told (g.K.Sink.told c.play_on.new.sink.0) c.play_on.new.sink.1) Outside)
    c.in-Ok.ensures.ok c.in-Outside.ensures.tells))

pub returns-in_default-Ok-clause-tells : goal.returns-in_default-Ok-clause-tells
returns-in_default-Ok-clause-tells g c =
    let played = played_on c.args.node.now c.args.scenario.now in
    Tells-handed (g.K.Sink.told c.args.sink) (g.K.Sink.told c.play_on.new.sink.0)
    (g.K.Sink.told c.finish.result.0) c.play_on.new.sink.1 c.requires
    (played_said played) c.play_on.result c.in_default.not-Outside
    (subst (λ s. TellsSaid (played_said played) (buffered_told (g.K.Sink.told s.0) s.1)
    (buffered_told (g.K.Sink.told c.play_on.new.sink.0) c.play_on.new.sink.1) c.play_on.result)
    c.in-Ok.ensures.ok c.play_on.ensures.tells)
    (subst (λ r. Finishes (g.K.Sink.told c.play_on.new.sink.0) (g.K.Sink.told c.finish.result.0)
    c.play_on.new.sink.1 r) c.in_default-Ok.is-1 c.finish.ensures)

pub returns-in_default-Err-clause-tells : goal.returns-in_default-Err-clause-tells
returns-in_default-Err-clause-tells g c =
    let played = played_on c.args.node.now c.args.scenario.now in
    Tells-unhanded (g.K.Sink.told c.args.sink) (g.K.Sink.told c.play_on.new.sink.0)
    (g.K.Sink.told c.finish.result.0) c.play_on.new.sink.1 c.requires
    (played_said played) c.play_on.result c.in_default-Err.field-0-1 c.in_default.not-Outside
    (subst (λ s. TellsSaid (played_said played) (buffered_told (g.K.Sink.told s.0) s.1)
    (buffered_told (g.K.Sink.told c.play_on.new.sink.0) c.play_on.new.sink.1) c.play_on.result)
    c.in-Ok.ensures.ok c.play_on.ensures.tells)
    (subst (λ r. Finishes (g.K.Sink.told c.play_on.new.sink.0) (g.K.Sink.told c.finish.result.0)
    c.play_on.new.sink.1 r) c.in_default-Err.is-1 c.finish.ensures)

pub returns-in-Err-clause-sent : goal.returns-in-Err-clause-sent
returns-in-Err-clause-sent g c =
    SendsSoFar-none c.args.node.now c.args.scenario.now Memory (λ octets. AppendsPart
    (g.K.Sink.told c.args.sink) (g.K.Sink.told c.in-Err.sink) octets false) refl
    (subst (λ s. AppendsPart (g.K.Sink.told c.args.sink) (g.K.Sink.told s) [] false)
    (sym c.in-Err.ensures.err) (AppendsPart-none (g.K.Sink.told c.args.sink) []))

pub returns-in-Outside-clause-sent : goal.returns-in-Outside-clause-sent
returns-in-Outside-clause-sent g c =
    let k = g.K.Sink.told c.args.sink in
    let m = g.K.Sink.told c.play_on.new.sink.0 in
    subst (λ s. SendsSoFar c.args.node.now c.args.scenario.now Outside
    (λ octets. TellsSaid (prints Outside octets) k (g.K.Sink.told s) Outside))
    (sym c.into_sink.ensures)
    (SendsSoFar-further c.args.node.now c.args.scenario.now Outside Outside
    (λ octets. TellsSaid (prints Outside octets) (buffered_told k [])
    (buffered_told m c.play_on.new.sink.1) Outside)
    (λ octets. TellsSaid (prints Outside octets) k m Outside) (λ whole. whole)
    (λ (octets : List ℕ) tells. Tells-failed k m m c.play_on.new.sink.1 c.requires
    (prints Outside octets) tells)
    (subst (λ s. SendsSoFar c.args.node.now c.args.scenario.now Outside
    (λ octets. TellsSaid (prints Outside octets) (buffered_told (g.K.Sink.told s.0) s.1)
    (buffered_told m c.play_on.new.sink.1) Outside)) c.in-Ok.ensures.ok c.in-Outside.ensures.sent))

pub returns-in_default-Ok-clause-sent : goal.returns-in_default-Ok-clause-sent
returns-in_default-Ok-clause-sent g c =
    let k = g.K.Sink.told c.args.sink in
    let m = g.K.Sink.told c.play_on.new.sink.0 in
    let l = g.K.Sink.told c.finish.result.0 in
    let status = c.play_on.result in
    SendsSoFar-further c.args.node.now c.args.scenario.now status status
    (λ octets. TellsSaid (prints status octets) (buffered_told k [])
    (buffered_told m c.play_on.new.sink.1) status)
    (λ octets. TellsSaid (prints status octets) k l status) (λ whole. whole)
    (λ (octets : List ℕ) tells. Tells-handed k m l c.play_on.new.sink.1 c.requires
    (prints status octets) status c.in_default.not-Outside tells
    (subst (λ r. Finishes m l c.play_on.new.sink.1 r) c.in_default-Ok.is-1 c.finish.ensures))
    (subst (λ s. SendsSoFar c.args.node.now c.args.scenario.now status
    (λ octets. TellsSaid (prints status octets) (buffered_told (g.K.Sink.told s.0) s.1)
    (buffered_told m c.play_on.new.sink.1) status)) c.in-Ok.ensures.ok c.play_on.ensures.sent)

pub returns-in_default-Err-clause-sent : goal.returns-in_default-Err-clause-sent
returns-in_default-Err-clause-sent g c =
    let k = g.K.Sink.told c.args.sink in
    let m = g.K.Sink.told c.play_on.new.sink.0 in
    let l = g.K.Sink.told c.finish.result.0 in
    let status = c.play_on.result in
    SendsSoFar-further c.args.node.now c.args.scenario.now status Outside
    (λ octets. TellsSaid (prints status octets) (buffered_told k [])
    (buffered_told m c.play_on.new.sink.1) status)
    (λ octets. TellsSaid (prints Outside octets) k l Outside) (λ whole. absurd cc)
    (λ (octets : List ℕ) tells. Tells-unhanded k m l c.play_on.new.sink.1 c.requires
    (prints status octets) status c.in_default-Err.field-0-1 c.in_default.not-Outside tells
    (subst (λ r. Finishes m l c.play_on.new.sink.1 r) c.in_default-Err.is-1 c.finish.ensures))
    (subst (λ s. SendsSoFar c.args.node.now c.args.scenario.now status
    (λ octets. TellsSaid (prints status octets) (buffered_told (g.K.Sink.told s.0) s.1)
    (buffered_told m c.play_on.new.sink.1) status)) c.in-Ok.ensures.ok c.play_on.ensures.sent)
