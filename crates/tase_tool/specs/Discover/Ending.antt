-- How a listing ended, as it is told behind the lines that it showed.
use Rattle.std.specs.Prelude.{Bool, ℕ, List, [], ◌∷◌, ◌++◌, codes}
use Rattle.outside.specs.Sink.{SinkTold}
use Rattle.plain_text.specs.Escaped.{escaped_text}
use Rattle.mms_data.specs.ObjectName.{ObjectName}
use Rattle.commands.specs.declared.io.status.Status.{Status}
use Rattle.tase_discover.specs.AskingEnd.declared.calling.CallingEnd.{CallingEnd}
use Rattle.tase_discover.specs.AskingEnd.declared.service.run_end.RunEnd.{RunEnd}
use Rattle.tase_discover.specs.declared.end.ListingEnd.{ListingEnd}
use Rattle.tase_discover.specs.Ends.{item_from_end, listing_end_text}
use Rattle.tase_discover.specs.Listings.{is_same}
use Rattle.tase_discover.specs.Listers.{TableListing}
use Rattle.tase_tool.specs.Asking.Ending.{TellsAsked}

-- `unordered LAST GOT`: the last name that came, which doesn't stand above the one before it
abbrev pub unordered_line : List ObjectName → List ℕ
unordered_line names = codes "unordered " ++ escaped_text (item_from_end names 2) ++ 32
    ∷ escaped_text (item_from_end names 1) ++ 10 ∷ []

-- the line of a listing that ended so, by how its calling end stands
abbrev pub ended_text : CallingEnd TableListing ListingEnd → ListingEnd → List ℕ
ended_text asking end =
    listing_end_text asking.asker.agenda.seen asking.asker.last end ++ 10 ∷ []

-- whether all that its peer offers is as the table has it
abbrev pub offers_same : CallingEnd TableListing ListingEnd → Bool
offers_same asking = is_same asking.asker.agenda.table asking.asker.agenda.seen

-- where the listing came to its end, the status says whether nothing differs
abbrev pub TellsListing : CallingEnd TableListing ListingEnd → RunEnd ListingEnd → SinkTold
    → SinkTold → Status → Type 0
TellsListing asking end before after status =
    TellsAsked (offers_same asking) (ended_text asking) end before after status
