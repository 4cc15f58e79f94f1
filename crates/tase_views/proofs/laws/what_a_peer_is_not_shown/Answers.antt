use Rattle.std.proofs.Common.{refl}
use Rattle.tase_views.proofs.NotShown.{no_deed_unseen, unnamed_unseen, direct_unseen, close_unseen}
use Rattle.tase_views.proofs.NotShown.{update_unseen, tag_unseen, request_unseen, choice_unseen}
use Rattle.tase_views.proofs.laws.what_a_peer_is_not_shown.Goals as goal

pub returns-clause-no_deed : goal.returns-clause-no_deed
returns-clause-no_deed c = no_deed_unseen

pub returns-clause-unnamed : goal.returns-clause-unnamed
returns-clause-unnamed c = unnamed_unseen

pub returns-clause-direct : goal.returns-clause-direct
returns-clause-direct c = direct_unseen

pub returns-clause-close : goal.returns-clause-close
returns-clause-close c = close_unseen

pub returns-clause-update : goal.returns-clause-update
returns-clause-update c = update_unseen

pub returns-clause-tag : goal.returns-clause-tag
returns-clause-tag c = tag_unseen

pub returns-clause-request : goal.returns-clause-request
returns-clause-request c = request_unseen

pub returns-clause-choice : goal.returns-clause-choice
returns-clause-choice c = choice_unseen

pub returns-clause-orders : goal.returns-clause-orders
returns-clause-orders c = λ rows owns peer before. refl
