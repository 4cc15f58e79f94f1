use Rattle.std.proofs.Common.{inr, codes}
use Rattle.commands.specs.declared.io.input.TheConstants.{TEXT_LIMIT}
use Rattle.commands.proofs.OfIo.Plans.{IsRun-value}
use Rattle.commands.specs.Words.Words.{question_seen}
use Rattle.commands.specs.Files.Tables.{tables_in}
use Rattle.tase_tool.specs.Verifying.{input_asked, journal_plan}
use Rattle.tase_tool.specs.Lacking.{LacksJournal}
use Rattle.tase_tool.proofs.Lacking.{lacks_from}
use Rattle.tase_tool.proofs.verifying.run_verify.Goals as goal

pub returns-clause-runs : goal.returns-clause-runs
returns-clause-runs g c =
    let question = question_seen c.args.question in
    IsRun-value (g.O.Outside.told c.args.outside.now)
    (g.O.Outside.told c.read_tables-read.new.outside)
    (g.O.Outside.told c.verify_over.new.outside)
    (input_asked (codes "tables") TEXT_LIMIT question.tables) tables_in (journal_plan question)
    c.read_tables-read.result c.verify_over.result
    c.read_tables-read.ensures c.verify_over.ensures.runs

pub returns-clause-memory : goal.returns-clause-memory
returns-clause-memory g c =
    let question = question_seen c.args.question in
    λ lack. inr
    (lacks_from tables_in (LacksJournal question) question.tables TEXT_LIMIT
    (g.O.Outside.told c.args.outside.now) (g.O.Outside.told c.read_tables-read.new.outside)
    (g.O.Outside.told c.verify_over.new.outside) c.read_tables-read.result
    c.read_tables-read.ensures (c.verify_over.ensures.memory lack))
