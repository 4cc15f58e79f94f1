use Rattle.std.proofs.Common.{true, ◌∙◌, subst}
use Rattle.commands.specs.declared.io.status.Status.TheVariants.{Done}
use Rattle.commands.specs.Io.Saying.{prints, duty_to_say}
use Rattle.commands.specs.Io.Runs.{IsRun}
use Rattle.tase_tool.proofs.loading.print_summary.Goals as goal

pub returns-in-Ok : goal.returns-in-Ok
returns-in-Ok g c =
    subst (λ octets. IsRun (duty_to_say true (prints Done octets))
    (g.O.Outside.told c.args.outside.now) (g.O.Outside.told c.print.new.outside) c.print.result)
    (c.deref.ensures.value ∙ c.in-Ok.ensures) c.print.ensures
