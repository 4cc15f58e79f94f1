use Rattle.bilateral.proofs.RowNames.{all_once, whole_once, own_once, all_lawful}
use Rattle.bilateral.proofs.laws.names_stand_once.Goals as goal

pub returns-clause-all : goal.returns-clause-all
returns-clause-all c = all_once

pub returns-clause-vmd : goal.returns-clause-vmd
returns-clause-vmd c = whole_once

pub returns-clause-domain : goal.returns-clause-domain
returns-clause-domain c = own_once

pub returns-clause-lawful : goal.returns-clause-lawful
returns-clause-lawful c = all_lawful
