use Rattle.std.proofs.Common.{inl, inr, refl}
use Rattle.tase_tool.proofs.discover.discovering.DiscoverRun.connect.Goals as goal

pub returns-in-Some : goal.returns-in-Some
returns-in-Some g c = λ rows peer lister. inl (record {
  link = _;
  sink = _;
  opened = g.O.Outside.told c.open_both.new.outside;
  opens = c.in-Some.ensures;
  lists = c.list_opened.ensures rows peer lister;
})

pub returns-in-None : goal.returns-in-None
returns-in-None g c = λ rows peer lister. inr (record {
  answers = refl;
  unopened = c.in-None.ensures;
})
