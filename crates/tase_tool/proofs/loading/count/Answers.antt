use Rattle.std.proofs.Common.{List, [], subst}
use Rattle.outside.specs.Sink.{SinkTold}
use Rattle.tase_views.specs.declared.event.Entry.{Entry}
use Rattle.tase_replay.specs.Ends.{IsPlayed}
use Rattle.tase_tool.specs.Sent.{played_on}
use Rattle.tase_tool.proofs.loading.count.Goals as goal

pub returns : goal.returns
returns g c =
    let played = played_on c.args.node c.args.scenario.now in
    let went = λ (history : List Entry) (shown : SinkTold). IsPlayed played history
    c.replay-end.new.node.history shown c.replay-end.new.sink c.replay-end.result in
    c.tell_counted.ensures played
    (subst (λ shown. went [] shown) c.new-shown.ensures
    (subst (λ history. went history c.new-shown.result) c.requires c.replay-end.ensures.played))
