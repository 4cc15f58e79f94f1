use Rattle.std.proofs.Common.{◌≡◌, ◌∙◌, ap, inr, subst, codes}
use Rattle.std.specs.Arc.{arc_value}
use Rattle.tase_views.specs.History.{Past}
use Rattle.tase_verify.specs.JournalIn.{journal_in}
use Rattle.tase_verify.specs.Verifying.{journal_setup}
use Rattle.commands.specs.declared.io.input.TheConstants.{JOURNAL_LIMIT}
use Rattle.commands.specs.declared.io.status.Status.TheVariants.{Memory}
use Rattle.commands.specs.Io.Plans.{EndsPlan}
use Rattle.commands.specs.Words.Words.{question_seen}
use Rattle.tase_tool.specs.Verifying.{key_meant, given_plan, AreAnswers}
use Rattle.tase_tool.proofs.Verified.{IsRun-journal}
use Rattle.tase_tool.specs.Lacking.{LacksBehind, LacksGiven}
use Rattle.tase_tool.proofs.Lacking.{lacks_from}
use Rattle.tase_tool.proofs.verifying.verify_centre.Goals as goal

pub returns-clause-runs : goal.returns-clause-runs
returns-clause-runs g c =
    let question = question_seen c.args.question in
    let key = c.key_meant-key.result in
    let read = c.read_answered-read.ensures in
    let m = g.O.Outside.told c.read_answered-read.new.outside in
    let a = g.O.Outside.told c.verify_answered.new.outside in
    IsRun-journal question (arc_value c.args.centre.now) key
    (g.O.Outside.told c.args.outside.now) m a c.verify_answered.result
    (c.key_meant-key.ensures ∙ ap (λ rows. key_meant rows question) c.deref-tables.ensures)
    read.0 read.1.0
    (subst (λ rows. AreAnswers rows key read.0 c.read_answered-read.result
    → EndsPlan (codes "journal") (given_plan question rows key) read.0 m a
    c.verify_answered.result) c.deref-tables.ensures (c.verify_answered.ensures.runs read.0) read.1.1)

pub returns-clause-memory : goal.returns-clause-memory
returns-clause-memory g c =
    let question = question_seen c.args.question in
    let key = c.key_meant-key.result in
    let read = c.read_answered-read.ensures in
    let m = g.O.Outside.told c.read_answered-read.new.outside in
    let a = g.O.Outside.told c.verify_answered.new.outside in
    let behind = λ (past : Past). LacksGiven question in
    λ lack. inr
    (lacks_from (journal_in (journal_setup (arc_value c.args.centre.now))) behind question.journal
    JOURNAL_LIMIT (g.O.Outside.told c.args.outside.now) m a read.0 read.1.0
    (subst (λ rows. AreAnswers rows key read.0 c.read_answered-read.result
    → c.verify_answered.result ≡ Memory → LacksBehind behind read.0 m a) c.deref-tables.ensures
    (c.verify_answered.ensures.memory read.0) read.1.1 lack))
