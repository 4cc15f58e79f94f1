use Rattle.std.proofs.Common.{arith}
use Rattle.texts.proofs.OfJournal.Kept.{octets_all}
use Rattle.texts.proofs.journal.parts.are_octets.Goals as goal

pub returns : goal.returns
returns c = octets_all c.args.octets.now (λ i. omega (arith, c.type_inv.octets i))
