use Rattle.std.proofs.Common.{true, Ok, refl}
use Rattle.commands.specs.Io.Saying.{duty_to_say}
use Rattle.commands.proofs.OfIo.Running.{IsRun-idle}
use Rattle.tase_tool.specs.Saying as own
use Rattle.tase_tool.proofs.loading.load_over.Goals as goal

pub returns-in_default : goal.returns-in_default
returns-in_default g c =
    IsRun-idle (duty_to_say true (own.load_over c.args.rounds (Ok c.args.centre)))
    (g.O.Outside.told c.args.outside.now) refl
