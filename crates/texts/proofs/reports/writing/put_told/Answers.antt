use Rattle.std.proofs.Common.{◌<◌, length, arith, append_assoc}
use Rattle.std.proofs.lemmas.Grind.{common_steps}
use Rattle.texts.proofs.OfReports.Told.{told_text-take}
use Rattle.texts.proofs.reports.writing.put_told.Goals as goal

pub loop-index-preserved : goal.loop-index-preserved
loop-index-preserved c =
    let names = c.args.names.now in
    let outcomes = c.args.outcomes.now in
    let index = c.loop-index.index in
    let within : index < length names = omega (arith, c.loop-index-test.true) in
    let beside : index < length outcomes = omega (arith, within, c.requires) in
    let text = told_text-take names outcomes index c.index-names-index.result
    c.index-outcomes-index.result within beside in
    grind (arith, common_steps, text, append_assoc)
