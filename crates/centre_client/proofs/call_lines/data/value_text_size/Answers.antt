use Rattle.std.proofs.Common.{rules, ◌∙◌}
use Rattle.centre_client.proofs.MembersSized.{whole-none, whole-sized, whole-over}
use Rattle.centre_client.proofs.call_lines.data.value_text_size.Goals as goal

pub returns-in_err-len-clause-size : goal.returns-in_err-len-clause-size
returns-in_err-len-clause-size c =
    c.from_residual.ensures ∙ whole-none c.args.text.now c.in_err-len.ensures.none

pub returns-then-is_empty-clause-size : goal.returns-then-is_empty-clause-size
returns-then-is_empty-clause-size c =
    whole-sized c.args.text.now c.in_ok-len.rest.now c.in_ok-len.len c.in_ok-len.ensures.some
    (search rules)

pub returns-else-is_empty-clause-size : goal.returns-else-is_empty-clause-size
returns-else-is_empty-clause-size c =
    whole-over c.args.text.now c.in_ok-len.rest.now c.in_ok-len.len c.in_ok-len.ensures.some
    (search rules)
