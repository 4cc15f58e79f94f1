use Rattle.tase_audit.proofs.ItemWords.{same_items}
use Rattle.tase_audit.proofs.LawfulItems.{watch_lawful}
use Rattle.tase_audit.proofs.laws.items_have_one_text.Goals as goal

pub returns-clause-one : goal.returns-clause-one
returns-clause-one c = same_items

pub returns-clause-lawful : goal.returns-clause-lawful
returns-clause-lawful c = λ run peer is.
    watch_lawful run.centre peer run.past is.lawful is.entries is.count
