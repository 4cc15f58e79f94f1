use Rattle.std.proofs.Common.{◌<◌, length, arith, append_assoc}
use Rattle.std.proofs.lemmas.Grind.{common_steps}
use Rattle.texts.proofs.OfEvents.Assigned.{assigned_text-take}
use Rattle.texts.proofs.events.writing.calls.put_assigned.Goals as goal

pub loop-index-preserved : goal.loop-index-preserved
loop-index-preserved c =
    let names = c.args.names.now in
    let values = c.args.values.now in
    let index = c.loop-index.index in
    let within : index < length names = omega (arith, c.loop-index-test.true) in
    let beside : index < length values = omega (arith, within, c.requires) in
    let text = assigned_text-take names values index c.index-names-index.result
    c.index-values-index.result within beside in
    grind (arith, common_steps, text, append_assoc)
