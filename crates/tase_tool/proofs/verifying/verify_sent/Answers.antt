use Rattle.std.proofs.Common.{inl, inr, refl, subst}
use Rattle.std.specs.Prelude.{IfOk}
use Rattle.commands.proofs.OfIo.Plans.{RunsPlan-idle}
use Rattle.tase_verify.specs.Association.Verdicts.{Judges}
use Rattle.tase_tool.specs.Verifying.{judged_plan}
use Rattle.tase_tool.proofs.verifying.verify_sent.Goals as goal

pub returns-in-Ok-clause-runs : goal.returns-in-Ok-clause-runs
returns-in-Ok-clause-runs g c =
    λ judged is. c.judge_file.ensures.runs judged
    (subst (λ account. IfOk account (Judges judged)) c.in-Ok.is is)

pub returns-in-Ok-clause-memory : goal.returns-in-Ok-clause-memory
returns-in-Ok-clause-memory g c = λ lack. inr (c.judge_file.ensures.memory lack)

pub returns-in-Err-clause-runs : goal.returns-in-Err-clause-runs
returns-in-Err-clause-runs g c =
    λ judged is. RunsPlan-idle (judged_plan c.args.name.now judged)
    (g.O.Outside.told c.args.outside.now)

pub returns-in-Err-clause-memory : goal.returns-in-Err-clause-memory
returns-in-Err-clause-memory g c = λ lack. inl refl
