-- A listing of a node that answers by the table against which it is held, message by message.
use Rattle.std.specs.Prelude.{◌≡◌, ℕ, true, List, Option, flat_map}
use Rattle.tase_views.specs.declared.reply.ReplyKind.{ReplyKind}
use Rattle.tase_views.specs.OwnTables.{OwnTable}
use Rattle.asking_end.specs.Askers.{AskerStep}
use Rattle.asking_end.specs.Exchanges.{Admission, FinishesBy}
use Rattle.tase_discover.specs.declared.end.ListingEnd.{ListingEnd}
use Rattle.tase_discover.specs.Listings.{listed_names, is_same}
use Rattle.tase_discover.specs.Listers.{TableListing, listing_of}
use Rattle.tase_discover.specs.Acts.{listing_acts}
use Rattle.tase_discover.specs.SelfListings.{name_shown}

-- a calling end that is answered so has listed the table, and has finished
pub record FinishesAlike (table : OwnTable) (replies : ℕ → ReplyKind)
    (title : Option (List ℕ)) (a : Admission) : Type 0 where
  pub count : ℕ
  pub step : AskerStep TableListing ListingEnd ℕ
  pub finishes : FinishesBy listing_acts (listing_of table) replies title a count step
  pub shown : step.shown ≡ flat_map (name_shown table) (listed_names table)
  pub same : is_same table step.state.asker.agenda.seen ≡ true
