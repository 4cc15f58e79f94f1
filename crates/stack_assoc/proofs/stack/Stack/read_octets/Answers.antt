use Rattle.stack_assoc.proofs.Modest.{message-modest}
use Rattle.stack_assoc.proofs.stack.Stack.read_octets.Goals as goal

pub returns-in_ok-results-in-Ok-clause-tellable : goal.returns-in_ok-results-in-Ok-clause-tellable
returns-in_ok-results-in-Ok-clause-tellable c = (
  message-modest c.expecting-expecting.result c.args.octets.now c.in-Ok.heard
      (rw c.in-Ok.is at c.in_ok-fault.ensures.found),
  c.in_ok-results-in-Ok.ensures,
)
