use Rattle.std.proofs.Common.{sym, ◌∙◌}
use Rattle.centre_client.proofs.ValuesSized.{bits-none}
use Rattle.centre_client.proofs.call_lines.word_sizes.bits_at.Goals as goal

pub returns-in_err-last : goal.returns-in_err-last
returns-in_err-last c =
    c.from_residual-in_err-last.ensures
    ∙ bits-none c.args.count.now c.args.digits.now c.in_ok-count.count
    (sym c.in_ok-count.ensures) (sym c.in_err-last.ensures)
