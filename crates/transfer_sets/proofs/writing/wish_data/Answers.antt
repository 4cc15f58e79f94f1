use Rattle.transfer_sets.proofs.Readings.{shown_so}
use Rattle.transfer_sets.proofs.writing.wish_data.Goals as goal

pub returns-clause-lawful : goal.returns-clause-lawful
returns-clause-lawful c = shown_so c.args.wish.now c.shown.result c.shown.ensures
