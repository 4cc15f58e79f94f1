use Rattle.tase_views.specs.View.{moves_in}
use Rattle.tase_views.proofs.KeyNumbers.{common_numbers}
use Rattle.tase_views.proofs.DevicesSeen.{tag-seen}
use Rattle.tase_views.proofs.Seated.{orderly}
use Rattle.tase_views.proofs.Holders.{hold-seen}
use Rattle.tase_views.proofs.laws.devices_are_seen_as_they_are.Goals as goal

pub returns-clause-tag : goal.returns-clause-tag
returns-clause-tag c = tag-seen

pub returns-clause-hold : goal.returns-clause-hold
returns-clause-hold c = λ rows past peer name point.
    hold-seen rows (moves_in past) peer name point (orderly past)

pub returns-clause-numbers : goal.returns-clause-numbers
returns-clause-numbers c = common_numbers
