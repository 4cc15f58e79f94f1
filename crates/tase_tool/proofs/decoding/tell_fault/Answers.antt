use Rattle.std.proofs.Common.{true, ap, ◌∙◌, subst}
use Rattle.commands.specs.declared.io.status.Status.TheVariants.{Input}
use Rattle.commands.specs.Io.Saying.{prints, duty_to_say}
use Rattle.commands.specs.Io.Runs.{IsRun}
use Rattle.tase_tool.specs.Decoding.{pdu_fault_line}
use Rattle.tase_tool.proofs.decoding.tell_fault.Goals as goal

pub returns-in-Ok : goal.returns-in-Ok
returns-in-Ok g c =
    subst (λ text. IsRun (duty_to_say true (prints Input text))
    (g.O.Outside.told c.args.outside.now) (g.O.Outside.told c.print.new.outside) c.print.result)
    (c.as_bytes.ensures.value ∙ c.in-Ok.ensures
    ∙ ap (pdu_fault_line c.args.place) c.why_name.ensures)
    c.print.ensures
