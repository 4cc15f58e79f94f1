use Rattle.std.proofs.Common.{ℕ, Bool, List, inl, inr, refl, codes}
use Rattle.commands.specs.declared.io.input.TheConstants.{TEXT_LIMIT}
use Rattle.commands.specs.Io.Inputs.{value_as}
use Rattle.commands.proofs.OfIo.Plans.{IsRun-value}
use Rattle.tase_verify.specs.LinkText.{given_in}
use Rattle.commands.specs.Words.Words.{question_seen}
use Rattle.tase_tool.specs.Verifying.{input_asked, link_given, sent_plan}
use Rattle.tase_tool.specs.Lacking.{LacksSent}
use Rattle.tase_tool.proofs.Lacking.{lacks_over}
use Rattle.tase_tool.proofs.verifying.verify_meant.Goals as goal

pub returns-clause-runs : goal.returns-clause-runs
returns-clause-runs g c =
    let question = question_seen c.args.question in
    let rows = c.args.meant.centre.now in
    let key = c.args.meant.key in
    λ past is. IsRun-value (g.O.Outside.told c.args.outside.now)
    (g.O.Outside.told c.read_link-read.new.outside)
    (g.O.Outside.told c.verify_given.new.outside)
    (input_asked (codes "in") TEXT_LIMIT question.given) given_in
    (sent_plan question rows key past)
    (value_as link_given c.read_link-read.result) c.verify_given.result
    c.read_link-read.ensures.value (c.verify_given.ensures.runs past is)

pub returns-clause-memory : goal.returns-clause-memory
returns-clause-memory g c =
    let question = question_seen c.args.question in
    λ lack. inr
    (lacks_over given_in (λ (given : List ℕ × Bool). LacksSent question.sent) link_given
    (λ given o. inl refl) question.given TEXT_LIMIT
    (g.O.Outside.told c.args.outside.now) (g.O.Outside.told c.read_link-read.new.outside)
    (g.O.Outside.told c.verify_given.new.outside) c.read_link-read.result
    c.read_link-read.ensures.value c.read_link-read.ensures.memory
    (c.verify_given.ensures.memory lack))
