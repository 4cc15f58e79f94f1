use Rattle.std.proofs.Common.{sym, subst}
use Rattle.tase_discover.specs.AskingEnd.declared.calling.CallingEnd.{CallingEnd}
use Rattle.tase_discover.specs.declared.end.ListingEnd.{ListingEnd}
use Rattle.tase_discover.specs.Listers.{TableListing}
use Rattle.tase_tool.specs.Asking.Ending.{TellsAskEnd}
use Rattle.tase_tool.specs.Discover.Ending.{TellsListing, ended_text, offers_same}
use Rattle.tase_tool.proofs.discover.ending.tell_listing.Goals as goal

pub returns-in-Ended : goal.returns-in-Ended
returns-in-Ended g c =
    let old = g.K.Sink.told c.args.sink.now in
    let now = g.K.Sink.told c.tell_end.new.sink in
    subst (λ end. TellsListing c.args.talk.now.asking end old now c.tell_end.result)
    (sym c.in-Ended.is)
    (subst (λ (a : CallingEnd TableListing ListingEnd).
    TellsAskEnd (offers_same a) (ended_text a) c.in-Ended.end old now c.tell_end.result)
    c.asking.ensures c.tell_end.ensures)
