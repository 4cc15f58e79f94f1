use Rattle.std.proofs.Common.{Some, None, refl, sym, subst}
use Rattle.tase_tool.specs.Server.Serving.{KeepsNode}
use Rattle.tase_tool.proofs.server.serving.keep_node.Goals as goal

pub returns-in-Some : goal.returns-in-Some
returns-in-Some g c = (
  Some c.write_journal-written.result,
  subst (λ node. KeepsNode c.args.name.now node (Some c.write_journal-written.result)
      c.args.status (g.O.Outside.told c.args.outside.now)
      (g.O.Outside.told c.write_journal-written.new.outside) c.status_behind.result)
      (sym c.in-Some.is) (c.write_journal-written.ensures, c.status_behind.ensures),
)

pub returns-in-None : goal.returns-in-None
returns-in-None g c = (
  None,
  subst (λ node. KeepsNode c.args.name.now node None c.args.status
      (g.O.Outside.told c.args.outside.now) (g.O.Outside.told c.args.outside.now) c.args.status)
      (sym c.in-None.is) (refl, refl),
)
