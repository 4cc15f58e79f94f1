use Rattle.std.proofs.Common.{arith}
use Rattle.std.proofs.lemmas.Grind.{common_steps}
use Rattle.ber_values.proofs.DottedOctets.{marked_digits-step}
use Rattle.ber_values.proofs.object_identifier.+push_front.Goals as goal

pub returns : goal.returns
returns t c = let e = marked_digits-step c.args.front (omega arith) in grind (arith, common_steps)
