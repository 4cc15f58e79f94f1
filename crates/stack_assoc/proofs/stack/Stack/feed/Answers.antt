use Rattle.std.proofs.Common.{◌∙◌, Bool, not, is_none, sym, ap}
use Rattle.stack_assoc.specs.Courses.{Course}
use Rattle.stack_assoc.proofs.Feeding.{stopped_fed}
use Rattle.stack_assoc.proofs.stack.Stack.feed.Goals as goal

pub returns-else-is_none-clause-ok : goal.returns-else-is_none-clause-ok
returns-else-is_none-clause-ok c = λ role octets told s.
    stopped_fed role octets c.args.piece.now told c.args.self.now
    (ap (λ (v : Course). is_none v.fault) (sym c.self.view_is)
    ∙ ap (λ (b : Bool). not b) (c.is_none.ensures
    ∙ ap (λ (b : Bool). not b) c.if-is_none.false)) s
