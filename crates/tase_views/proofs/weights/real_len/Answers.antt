use Rattle.std.proofs.Common.{arith}
use Rattle.plain_text.proofs.TextLengths.{length-hex_text}
use Rattle.tase_views.proofs.weights.real_len.Goals as goal

pub returns-clause-exact : goal.returns-clause-exact
returns-clause-exact c = omega (arith, length-hex_text c.args.real.now)
