use Rattle.std.proofs.Common.{codes, sym, subst}
use Rattle.std.specs.Prelude.{Result}
use Rattle.bilateral.specs.Rows.{CentreRows}
use Rattle.commands.specs.declared.io.input.InputEnd.{InputEnd}
use Rattle.commands.specs.Words.Words.{question_seen}
use Rattle.tase_tool.specs.Lacking.{LacksBehind, LacksJournal}
use Rattle.tase_tool.proofs.Lacking.{lacks_unread}
use Rattle.tase_tool.proofs.verifying.verify_over.Goals as goal

pub returns-in-Ok-clause-memory : goal.returns-in-Ok-clause-memory
returns-in-Ok-clause-memory g c =
    let question = question_seen c.args.question in
    let before = g.O.Outside.told c.args.outside.now in
    let after = g.O.Outside.told c.share_centre.new.outside in
    λ lack. subst (λ (read : Result CentreRows InputEnd).
    LacksBehind (LacksJournal question) read before after) (sym c.in-Ok.is)
    (c.share_centre.ensures.memory lack)

pub returns-in-Err-clause-memory : goal.returns-in-Err-clause-memory
returns-in-Err-clause-memory g c =
    let question = question_seen c.args.question in
    let before = g.O.Outside.told c.args.outside.now in
    let after = g.O.Outside.told c.end_unread.new.outside in
    λ lack. subst (λ (read : Result CentreRows InputEnd).
    LacksBehind (LacksJournal question) read before after) (sym c.in-Err.is)
    (lacks_unread (LacksJournal question) (codes "tables") c.in-Err.end before after
    c.end_unread.result c.end_unread.ensures lack)
