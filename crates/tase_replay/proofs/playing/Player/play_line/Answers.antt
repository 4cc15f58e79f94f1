use Rattle.std.proofs.Common.{◌≡◌, true, false, sym, ap, ◌∙◌, Some, None, refl, subst}
use Rattle.plain_text.specs.Lines.{is_skipped}
use Rattle.tase_replay.specs.declared.entries.LineRequest.{LineRequest}
use Rattle.tase_replay.specs.declared.entries.LineRequest.TheVariants as askeds
use Rattle.tase_replay.specs.declared.playing.ReplayEnd.TheVariants.{Done}
use Rattle.tase_replay.specs.Links.{an_event, an_item, given_seen}
use Rattle.tase_replay.specs.Play.{LineMeaning}
use Rattle.tase_replay.specs.Players.{PlaysLine}
use Rattle.tase_replay.proofs.Entering.{line_in-skipped, line_in-read}
use Rattle.tase_replay.proofs.Own.{asked_so, unasked_so}
use Rattle.tase_replay.proofs.Players.{plays_skipped, plays_bad, plays_none}
use Rattle.tase_replay.proofs.playing.Player.play_line.Goals as goal

pub returns-then-is_skipped-clause-plays : goal.returns-then-is_skipped-clause-plays
returns-then-is_skipped-clause-plays g c = λ scene s.
    let old = c.args.self.now in
    let words : is_skipped c.args.line.now ≡ true = sym c.is_skipped.ensures ∙ c.if-is_skipped.true in
    subst (λ (m : LineMeaning). PlaysLine g.K.Sink.told c.args.number scene m old old Done)
    (sym (line_in-skipped old.node.now.setup c.args.line.now scene words))
    (plays_skipped g.K.Sink.told c.args.number scene old s)

pub returns-in-Ok-Some-Event-clause-plays : goal.returns-in-Ok-Some-Event-clause-plays
returns-in-Ok-Some-Event-clause-plays g c = λ scene s.
    let setup = c.args.self.now.node.now.setup in
    let line = c.args.line.now in
    let event = c.in-Ok-Some-Event in
    let asked = asked_so setup.centre c.centre.result.now line _ (askeds.Event event.entry)
    c.centre.ensures (event.field-0-is ∙ ap (λ (a : LineRequest). Some a) event.field-0-0-is)
    event.ensures.asked in
    let words : is_skipped line ≡ false = sym c.is_skipped.ensures ∙ c.if-is_skipped.false in
    subst (λ (m : LineMeaning). PlaysLine g.K.Sink.told c.args.number scene m c.args.self.now
    c.play_own.new.self c.play_own.result)
    (sym (line_in-read setup line scene (Some (an_event event.entry)) words asked))
    (c.play_own.ensures.plays scene s)

pub returns-in-Ok-Some-Item-clause-plays : goal.returns-in-Ok-Some-Item-clause-plays
returns-in-Ok-Some-Item-clause-plays g c = λ scene s.
    let setup = c.args.self.now.node.now.setup in
    let line = c.args.line.now in
    let item = c.in-Ok-Some-Item in
    let asked = asked_so setup.centre c.centre.result.now line _ (askeds.Item item.given)
    c.centre.ensures (item.field-0-is ∙ ap (λ (a : LineRequest). Some a) item.field-0-0-is)
    item.ensures.asked in
    let words : is_skipped line ≡ false = sym c.is_skipped.ensures ∙ c.if-is_skipped.false in
    subst (λ (m : LineMeaning). PlaysLine g.K.Sink.told c.args.number scene m c.args.self.now
    c.play_given.new.self c.play_given.result)
    (sym (line_in-read setup line scene (Some (an_item (given_seen item.given))) words asked))
    (c.play_given.ensures.plays scene s)

pub returns-in-Ok-None-clause-plays : goal.returns-in-Ok-None-clause-plays
returns-in-Ok-None-clause-plays g c = λ scene s.
    let setup = c.args.self.now.node.now.setup in
    let unasked = unasked_so setup.centre c.centre.result.now c.args.line.now _
    c.centre.ensures c.in-Ok-None.field-0-is c.in-Ok-None.ensures.asked in
    let words : is_skipped c.args.line.now ≡ false = sym c.is_skipped.ensures
    ∙ c.if-is_skipped.false in
    plays_bad g.K.Sink.told c.args.number scene _ _ _ refl refl
    (line_in-read setup c.args.line.now scene None words unasked)

pub returns-in-Err-clause-plays : goal.returns-in-Err-clause-plays
returns-in-Err-clause-plays g c = λ scene s.
    plays_none g.K.Sink.told c.args.number scene _ _ _ refl refl
