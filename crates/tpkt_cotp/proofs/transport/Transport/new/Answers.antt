use Rattle.std.proofs.Common.{◌∙◌, ℕ, List, length, ap, arith}
use Rattle.tpkt_cotp.specs.declared.turn.Turn.TheVariants as turns
use Rattle.tpkt_cotp.specs.Readings.{tpkt_in}
use Rattle.tpkt_cotp.proofs.LineLemmas.{nothing_read}
use Rattle.tpkt_cotp.proofs.OneReading.{partial_from}
use Rattle.tpkt_cotp.proofs.transport.Transport.new.Goals as goal

pub returns-clause-settled : goal.returns-clause-settled
returns-clause-settled c = (
  let e = ap length c.new-2.ensures.items in omega (arith, e),
  partial_from (turns.Opening c.args.role) (length c.new.result.items) c.new-2.result.items
      (ap (λ (os : List ℕ). tpkt_in (turns.Opening c.args.role) (length c.new.result.items) os)
      c.new-2.ensures.items ∙ nothing_read (turns.Opening c.args.role) (length c.new.result.items)),
)
