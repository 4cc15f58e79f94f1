use Rattle.std.proofs.Common.{◌∙◌}
use Rattle.commands.specs.Words.Words.{question_seen}
use Rattle.tase_tool.specs.Verifying.{given_plan}
use Rattle.tase_views.specs.History.{Past}
use Rattle.tase_tool.specs.Lacking.{LacksGiven}
use Rattle.tase_tool.proofs.Verified.{answered_there, answered_unread}
use Rattle.tase_tool.proofs.Lacking.{answered_lacks, unanswered_lacks}
use Rattle.tase_tool.proofs.verifying.verify_answered.Goals as goal

pub returns-in-Ok-clause-runs : goal.returns-in-Ok-clause-runs
returns-in-Ok-clause-runs g c =
    answered_there c.args.centre.now c.args.key
    (given_plan (question_seen c.args.question) c.args.centre.now c.args.key)
    (g.O.Outside.told c.args.outside.now) (g.O.Outside.told c.verify_meant.new.outside)
    c.verify_meant.result c.args.read c.in-Ok.events c.in-Ok.is
    (λ past is. c.verify_meant.ensures.runs past (c.as_slice-answered.ensures.value ∙ is))

pub returns-in-Err-clause-runs : goal.returns-in-Err-clause-runs
returns-in-Err-clause-runs g c =
    answered_unread c.args.centre.now c.args.key
    (given_plan (question_seen c.args.question) c.args.centre.now c.args.key)
    (g.O.Outside.told c.args.outside.now) (g.O.Outside.told c.end_unread.new.outside)
    c.end_unread.result c.args.read c.in-Err.end c.in-Err.is c.end_unread.ensures

pub returns-in-Ok-clause-memory : goal.returns-in-Ok-clause-memory
returns-in-Ok-clause-memory g c =
    answered_lacks c.args.centre.now c.args.key
    (λ (past : Past). LacksGiven (question_seen c.args.question))
    (g.O.Outside.told c.args.outside.now) (g.O.Outside.told c.verify_meant.new.outside)
    c.verify_meant.result c.args.read c.in-Ok.events c.in-Ok.is
    (λ past is. c.verify_meant.ensures.memory)

pub returns-in-Err-clause-memory : goal.returns-in-Err-clause-memory
returns-in-Err-clause-memory g c =
    unanswered_lacks c.args.centre.now c.args.key
    (λ (past : Past). LacksGiven (question_seen c.args.question))
    (g.O.Outside.told c.args.outside.now) (g.O.Outside.told c.end_unread.new.outside)
    c.end_unread.result c.args.read c.in-Err.end c.in-Err.is c.end_unread.ensures
