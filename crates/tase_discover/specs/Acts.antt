-- A listing as what a calling end asks.
use Rattle.std.specs.Prelude.{ℕ, []}
use Rattle.asking_end.specs.Agendas.{AgendaActs}
use Rattle.asking_end.specs.declared.next.Next.TheVariants as nexts
use Rattle.tase_discover.specs.declared.end.ListingEnd.{ListingEnd}
use Rattle.tase_discover.specs.Listings.{reply_heeded, reply_shown, listing_call}
use Rattle.tase_discover.specs.Listers.{TableListing}

-- it begins with the names of the whole device, and goes on by each reply; reports have no effect
abbrev pub listing_acts : AgendaActs TableListing ListingEnd ℕ
listing_acts = record {
  begun = λ l. (l, nexts.Ask);
  replied = λ number reply l. (
    record l { seen = (reply_heeded l.table l.seen reply).seen },
    (reply_heeded l.table l.seen reply).next,
  );
  reply_shown = λ number reply l. reply_shown l.table l.seen reply;
  reported = λ report l. (l, nexts.Wait);
  report_shown = λ report l. [];
  call = λ l. listing_call l.table l.seen;
}
