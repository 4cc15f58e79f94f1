use Rattle.std.proofs.Common.{true, ◌∙◌, codes, sym, subst}
use Rattle.commands.specs.Io.Saying.{duty_to_say}
use Rattle.commands.specs.Io.Runs.{IsRun}
use Rattle.commands.specs.Io.Plans.{says, by_value, RunsPlan}
use Rattle.tase_tool.specs.Verifying.{verdict_said}
use Rattle.tase_tool.proofs.Lacking.{refused_told}
use Rattle.tase_tool.proofs.verifying.judge_text.Goals as goal

pub returns-in-Ok-clause-runs : goal.returns-in-Ok-clause-runs
returns-in-Ok-clause-runs g c =
    let before = g.O.Outside.told c.args.outside.now in
    let after = g.O.Outside.told c.tell_verdict.new.outside in
    λ judged are. subst (λ spelled. RunsPlan
    (by_value (codes "out") (λ sent. says (verdict_said (judged sent))) spelled) before after
    c.tell_verdict.result) (sym c.in-Ok.ensures)
    (subst (λ verdict. IsRun (duty_to_say true (verdict_said verdict)) before after
    c.tell_verdict.result) (c.judge.ensures ∙ are c.in-Ok.pieces) c.tell_verdict.ensures.runs)

pub returns-in-Err-clause-runs : goal.returns-in-Err-clause-runs
returns-in-Err-clause-runs g c =
    let before = g.O.Outside.told c.args.outside.now in
    let after = g.O.Outside.told c.refuse_line.new.outside in
    λ judged are. subst (λ spelled. RunsPlan
    (by_value (codes "out") (λ sent. says (verdict_said (judged sent))) spelled) before after
    c.refuse_line.result) (sym c.in-Err.ensures) c.refuse_line.ensures.runs

pub returns-in-Err-clause-memory : goal.returns-in-Err-clause-memory
returns-in-Err-clause-memory g c =
    refused_told c.refuse_line.result c.refuse_line.ensures.answers
