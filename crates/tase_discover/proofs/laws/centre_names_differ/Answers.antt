use Rattle.tase_discover.proofs.TableNames.{names_differ}
use Rattle.tase_discover.proofs.laws.centre_names_differ.Goals as goal

pub returns : goal.returns
returns c = λ rows peer variant lawful.
    names_differ rows peer variant lawful
    (c.names_stand_once.ensures.vmd rows peer variant lawful)
    (c.names_stand_once.ensures.domain rows peer variant lawful)
    (c.names_stand_once.ensures.lawful rows peer variant lawful)
