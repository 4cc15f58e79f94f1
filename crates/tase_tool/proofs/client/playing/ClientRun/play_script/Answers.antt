use Rattle.std.proofs.Common.{◌≡◌, rules, sym, subst}
use Rattle.std.specs.Arc.{arc_value}
use Rattle.commands.specs.Words.Words.{client_seen}
use Rattle.tase_tool.specs.Client.Playing.{GoesBehindScript, PlaysScript}
use Rattle.tase_tool.proofs.client.playing.ClientRun.play_script.Goals as goal

pub returns-in-Ok : goal.returns-in-Ok
returns-in-Ok g c =
    let task = client_seen c.args.self.now.words in
    let old = g.O.Outside.told c.args.outside.now in
    let now = g.O.Outside.told c.play_text.new.outside in
    let same : c.deref.result.now ≡ c.in-Ok.text.items = search rules in
    subst (λ read. GoesBehindScript task (arc_value c.args.centre.now) read old now c.play_text.result)
    (sym c.in-Ok.is)
    (subst (λ text. PlaysScript task (arc_value c.args.centre.now) text old now c.play_text.result) same
    c.play_text.ensures)
