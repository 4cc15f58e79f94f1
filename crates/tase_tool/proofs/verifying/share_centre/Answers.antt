use Rattle.std.proofs.Common.{inl, refl, subst}
use Rattle.commands.specs.Io.Plans.{RunsPlan}
use Rattle.commands.proofs.OfIo.Plans.{RunsPlan-idle}
use Rattle.commands.specs.Words.Words.{question_seen}
use Rattle.tase_tool.specs.Verifying.{journal_plan}
use Rattle.tase_tool.specs.Lacking.{LacksJournal}
use Rattle.tase_tool.proofs.verifying.share_centre.Goals as goal

pub returns-in-Ok-clause-runs : goal.returns-in-Ok-clause-runs
returns-in-Ok-clause-runs g c =
    subst (λ rows. RunsPlan (journal_plan (question_seen c.args.question) rows)
    (g.O.Outside.told c.args.outside.now) (g.O.Outside.told c.verify_centre.new.outside)
    c.verify_centre.result)
    c.in-Ok.ensures c.verify_centre.ensures.runs

pub returns-in-Err-clause-runs : goal.returns-in-Err-clause-runs
returns-in-Err-clause-runs g c =
    RunsPlan-idle (journal_plan (question_seen c.args.question) c.args.centre)
    (g.O.Outside.told c.args.outside.now)

pub returns-in-Ok-clause-memory : goal.returns-in-Ok-clause-memory
returns-in-Ok-clause-memory g c =
    λ lack. subst (λ rows. LacksJournal (question_seen c.args.question) rows
    (g.O.Outside.told c.args.outside.now) (g.O.Outside.told c.verify_centre.new.outside))
    c.in-Ok.ensures (c.verify_centre.ensures.memory lack)

pub returns-in-Err-clause-memory : goal.returns-in-Err-clause-memory
returns-in-Err-clause-memory g c = λ lack. inl refl
