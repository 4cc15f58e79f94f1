use Rattle.std.proofs.Common.{inl, inr, refl}
use Rattle.tase_tool.proofs.client.playing.ClientRun.connect.Goals as goal

pub returns-in-Some : goal.returns-in-Some
returns-in-Some g c = λ rows text talk. inl (record {
  link = _;
  sink = _;
  opened = g.O.Outside.told c.open_both.new.outside;
  opens = c.in-Some.ensures;
  plays = c.play_opened.ensures rows text talk;
})

pub returns-in-None : goal.returns-in-None
returns-in-None g c = λ rows text talk. inr (record {
  script = talk.script;
  spelled = talk.spelled;
  answers = refl;
  unopened = c.in-None.ensures;
})
