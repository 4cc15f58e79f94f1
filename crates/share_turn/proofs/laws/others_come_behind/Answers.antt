use Rattle.std.proofs.Common.{◌≢◌}
use Rattle.share_turn.proofs.Others.{each_reverse, behind_others, others_behind}
use Rattle.share_turn.proofs.Others.{own_filtered, own_back}
use Rattle.share_turn.proofs.laws.others_come_behind.Goals as goal

pub returns-clause-others : goal.returns-clause-others
returns-clause-others g c = λ n front rest.
    (behind_others n front rest, others_behind n front rest)

pub returns-clause-backwards : goal.returns-clause-backwards
returns-clause-backwards g c = λ n rest. each_reverse (λ e. e.0 ≢ n) rest

pub returns-clause-events : goal.returns-clause-events
returns-clause-events g c = λ n. own_filtered n

pub returns-clause-newest : goal.returns-clause-newest
returns-clause-newest g c = λ n. own_back n
