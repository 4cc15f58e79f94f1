-- The data sets of a peer in the order in which they were defined (IEC 60870-6-503, data set
-- objects).
use Rattle.std.specs.Prelude.{if◌then◌else◌, List, [], ◌∷◌, ◌++◌, filter, is_some, is_none}
use Rattle.data_sets.specs.declared.book.DataSet.{DataSet}
use Rattle.tase_views.specs.Moves.{defines}
use Rattle.tase_views.specs.OwnTables.{OwnTables}
use Rattle.tase_views.specs.View.{Seen, own, View, held}
use Rattle.tase_views.specs.Sets.{define_fault}
use Rattle.tase_views.specs.Slots.{sets_in}

module _ (tables : OwnTables) where
  -- the data set that a seen move defines behind this view, if it does
  abbrev pub defined_by : View → Seen → List DataSet
  defined_by view (own ordinal (defines set members)) =
      if is_none (define_fault (held tables view) (sets_in tables view) view set members)
      then record { name = set.item; members = members } ∷ [] else []
  defined_by view _ = []

  -- the data sets that there are in a view
  abbrev pub sets_listed : View → List DataSet
  sets_listed [] = []
  sets_listed (move ∷ view) =
      filter (λ (set : DataSet). is_some (sets_in tables (move ∷ view) set.name))
      (sets_listed view)
      ++ defined_by view move
