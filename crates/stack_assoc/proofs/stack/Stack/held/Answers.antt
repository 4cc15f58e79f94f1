use Rattle.std.proofs.Common.{arith, option_map}
use Rattle.stack_assoc.specs.Taking.{following_seen}
use Rattle.stack_assoc.proofs.Holdings.{few_held}
use Rattle.stack_assoc.proofs.stack.Stack.held.Goals as goal

pub overflow_add-result : goal.overflow_add-result
overflow_add-result c =
    let few = few_held (option_map following_seen c.self.inside.held) c.self.inside.transport
    c.self.invariant.2 c.held.ensures.few in
    omega (arith, few, c.held_octets.ensures, c.held.ensures.count)

pub returns-clause-few : goal.returns-clause-few
returns-clause-few c =
    let few = few_held (option_map following_seen c.self.inside.held) c.self.inside.transport
    c.self.invariant.2 c.held.ensures.few in
    omega (arith, few, c.held_octets.ensures, c.held.ensures.count)
