use Rattle.std.proofs.Common.{List, ap}
use Rattle.tase_views.specs.Moves.{Move}
use Rattle.tase_views.specs.OwnTables.{own_tables}
use Rattle.tase_views.specs.View.{view_by}
use Rattle.tase_views.proofs.Reseated.{moves_in-reseated}
use Rattle.tase_views.proofs.laws.seats_are_unseen.Goals as goal

pub returns : goal.returns
returns c = λ rows past peer seat apart.
    ap (λ (moves : List Move). view_by rows (own_tables rows) peer moves)
    (moves_in-reseated seat apart past)
