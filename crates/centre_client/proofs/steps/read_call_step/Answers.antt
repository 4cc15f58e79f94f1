use Rattle.std.proofs.Common.{◌≡◌, Result, sym, ◌∙◌, subst}
use Rattle.std.specs.Prelude.{IfOk}
use Rattle.plain_text.specs.Words.{words}
use Rattle.texts.specs.Journal.CallIn.{call_in}
use Rattle.centre_client.specs.declared.fault.ScriptWhy.{ScriptWhy}
use Rattle.centre_client.specs.declared.script.StepKind.{StepKind}
use Rattle.centre_client.specs.StepLines.{call_step}
use Rattle.centre_client.proofs.LineFaultsMet.{fault-err, judged-good}
use Rattle.centre_client.proofs.steps.read_call_step.Goals as goal

pub returns-in-Some : goal.returns-in-Some
returns-in-Some c =
    sym (fault-err (call_step c.args.centre.now c.args.peer (call_in (words c.args.text.now)))
    c.in-Some.why (sym c.call_fault.ensures ∙ c.in-Some.is))

pub returns-in-None : goal.returns-in-None
returns-in-None c =
    subst (λ (step : Result StepKind ScriptWhy). IfOk c.read_judged_call.result
    (λ read. read ≡ step))
    (judged-good c.args.centre.now c.args.peer (call_in (words c.args.text.now))
    (sym c.call_fault.ensures ∙ c.in-None.is))
    c.read_judged_call.ensures
