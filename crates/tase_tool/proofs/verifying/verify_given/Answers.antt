use Rattle.std.proofs.Common.{ℕ, Bool, List, codes, sym, subst}
use Rattle.std.specs.Prelude.{Result}
use Rattle.commands.specs.declared.io.input.InputEnd.{InputEnd}
use Rattle.commands.specs.Io.Inputs.{value_as}
use Rattle.tase_verify.specs.declared.link_text.LinkText.{LinkText}
use Rattle.tase_tool.specs.Verifying.{link_given}
use Rattle.tase_tool.specs.Lacking.{LacksBehind, LacksSent}
use Rattle.tase_tool.proofs.Lacking.{lacks_unread}
use Rattle.tase_tool.proofs.verifying.verify_given.Goals as goal

pub returns-in-Ok-clause-memory : goal.returns-in-Ok-clause-memory
returns-in-Ok-clause-memory g c =
    let before = g.O.Outside.told c.args.outside.now in
    let after = g.O.Outside.told c.verify_link.new.outside in
    λ lack. subst (λ (read : Result LinkText InputEnd).
    LacksBehind (λ (given : List ℕ × Bool). LacksSent c.args.question.sent.now)
    (value_as link_given read) before after) (sym c.in-Ok.is) (c.verify_link.ensures.memory lack)

pub returns-in-Err-clause-memory : goal.returns-in-Err-clause-memory
returns-in-Err-clause-memory g c =
    let before = g.O.Outside.told c.args.outside.now in
    let after = g.O.Outside.told c.end_unread.new.outside in
    λ lack. subst (λ (read : Result LinkText InputEnd).
    LacksBehind (λ (given : List ℕ × Bool). LacksSent c.args.question.sent.now)
    (value_as link_given read) before after) (sym c.in-Err.is)
    (lacks_unread (λ (given : List ℕ × Bool). LacksSent c.args.question.sent.now) (codes "in")
    c.in-Err.end before after c.end_unread.result c.end_unread.ensures lack)
