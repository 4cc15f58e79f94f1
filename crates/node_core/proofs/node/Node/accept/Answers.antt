use Rattle.std.proofs.Common.{reverse, sym, ◌∙◌}
use Rattle.node_core.proofs.OfNode.Outcomes.{few_by}
use Rattle.node_core.proofs.node.Node.accept.Goals as goal

pub returns-in-Open-clause-looks : goal.returns-in-Open-clause-looks
returns-in-Open-clause-looks c =
    few_by c.args.self.now.setup.centre (reverse c.args.self.now.history) c.args.event _
    c.args.looks.now c.args.looks.now (sym c.kind.ensures ∙ c.in-Open.is) tt

pub returns-in-Request-clause-looks : goal.returns-in-Request-clause-looks
returns-in-Request-clause-looks c =
    few_by c.args.self.now.setup.centre (reverse c.args.self.now.history) c.args.event _
    c.args.looks.now c.request.new.looks (sym c.kind.ensures ∙ c.in-Request.is) tt

pub returns-in-Take-clause-looks : goal.returns-in-Take-clause-looks
returns-in-Take-clause-looks c =
    few_by c.args.self.now.setup.centre (reverse c.args.self.now.history) c.args.event _
    c.args.looks.now c.args.looks.now (sym c.kind.ensures ∙ c.in-Take.is) tt

pub returns-in-Close-clause-looks : goal.returns-in-Close-clause-looks
returns-in-Close-clause-looks c =
    few_by c.args.self.now.setup.centre (reverse c.args.self.now.history) c.args.event _
    c.args.looks.now c.end_association.new.looks (sym c.kind.ensures ∙ c.in-Close.is) tt

pub returns-in-Update-clause-looks : goal.returns-in-Update-clause-looks
returns-in-Update-clause-looks c =
    few_by c.args.self.now.setup.centre (reverse c.args.self.now.history) c.args.event _
    c.args.looks.now c.update.new.looks (sym c.kind.ensures ∙ c.in-Update.is) c.update.ensures.looks

pub returns-in-Table-clause-looks : goal.returns-in-Table-clause-looks
returns-in-Table-clause-looks c =
    few_by c.args.self.now.setup.centre (reverse c.args.self.now.history) c.args.event _
    c.args.looks.now c.choose.new.looks (sym c.kind.ensures ∙ c.in-Table.is) tt

pub returns-in-Tag-clause-looks : goal.returns-in-Tag-clause-looks
returns-in-Tag-clause-looks c =
    few_by c.args.self.now.setup.centre (reverse c.args.self.now.history) c.args.event _
    c.args.looks.now c.args.looks.now (sym c.kind.ensures ∙ c.in-Tag.is) tt

pub returns-in-Tick-clause-looks : goal.returns-in-Tick-clause-looks
returns-in-Tick-clause-looks c =
    few_by c.args.self.now.setup.centre (reverse c.args.self.now.history) c.args.event _
    c.args.looks.now c.tick.new.looks (sym c.kind.ensures ∙ c.in-Tick.is) c.tick.ensures.looks

pub returns-in-Ask-clause-looks : goal.returns-in-Ask-clause-looks
returns-in-Ask-clause-looks c =
    few_by c.args.self.now.setup.centre (reverse c.args.self.now.history) c.args.event _
    c.args.looks.now c.ask.new.looks (sym c.kind.ensures ∙ c.in-Ask.is) tt

pub returns-in-TakeOrders-clause-looks : goal.returns-in-TakeOrders-clause-looks
returns-in-TakeOrders-clause-looks c =
    few_by c.args.self.now.setup.centre (reverse c.args.self.now.history) c.args.event _
    c.args.looks.now c.args.looks.now (sym c.kind.ensures ∙ c.in-TakeOrders.is) tt

pub returns-in-Stop-clause-looks : goal.returns-in-Stop-clause-looks
returns-in-Stop-clause-looks c =
    few_by c.args.self.now.setup.centre (reverse c.args.self.now.history) c.args.event _
    c.args.looks.now c.args.looks.now (sym c.kind.ensures ∙ c.in-Stop.is) tt
