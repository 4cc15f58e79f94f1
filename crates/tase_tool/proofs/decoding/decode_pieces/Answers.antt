use Rattle.std.proofs.Common.{true, ◌∙◌, refl, subst}
use Rattle.commands.specs.Io.Runs.{IsRun}
use Rattle.commands.specs.Io.Saying.{duty_to_say}
use Rattle.commands.proofs.OfIo.Running.{IsRun-idle}
use Rattle.tase_tool.specs.Decoding.{pdu_said}
use Rattle.tase_tool.proofs.decoding.decode_pieces.Goals as goal

pub returns-in-Ok : goal.returns-in-Ok
returns-in-Ok g c =
    subst (λ octets. IsRun (duty_to_say true (pdu_said octets))
    (g.O.Outside.told c.args.outside.now) (g.O.Outside.told c.decode_pdu.new.outside)
    c.decode_pdu.result) (c.deref.ensures.value ∙ c.in-Ok.ensures) c.decode_pdu.ensures

pub returns-in-Err : goal.returns-in-Err
returns-in-Err g c =
    IsRun-idle (duty_to_say true (pdu_said c.args.pieces))
    (g.O.Outside.told c.args.outside.now) refl
