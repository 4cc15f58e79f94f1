-- What the command `discover` leaves outside, and the status that it answers.
use Rattle.std.specs.Prelude.{◌≡◌, ◌≢◌, ◌⊎◌, Bool, true, false, ℕ, List, [], ◌∷◌}
use Rattle.std.specs.Prelude.{Option, Some, None, Result, Ok, Err, codes}
use Rattle.outside.specs.Sink.{SinkTold}
use Rattle.outside.specs.Links.LinkAnswers.{LinkAnswers}
use Rattle.outside.specs.Links.Links.{LinkTold}
use Rattle.outside.specs.Names.Outside.{OutsideTold, ClosesOut}
use Rattle.server_main.specs.NodeServer.Links.LinkUses.{HasHeard}
use Rattle.bilateral.specs.Rows.{CentreRows, place_of_peer, table_of}
use Rattle.tase_discover.specs.AskingEnd.declared.calling.CallingEnd.{CallingEnd}
use Rattle.tase_discover.specs.AskingEnd.declared.end.AskEnd.TheVariants.{Finished}
use Rattle.tase_discover.specs.AskingEnd.declared.service.run_end.RunEnd.{RunEnd}
use Rattle.tase_discover.specs.AskingEnd.declared.service.run_end.RunEnd.TheVariants.{Ended}
use Rattle.tase_discover.specs.AskingEnd.declared.service.talking.Talk.{Talk}
use Rattle.tase_discover.specs.AskingEnd.Service.Runs.{TalksOver}
use Rattle.tase_discover.specs.AskingEnd.Service.Talks.{IsTalk}
use Rattle.tase_discover.specs.AskingEnd.Service.Terminals.{TerminalTold, link_terminal}
use Rattle.tase_discover.specs.declared.end.ListingEnd.{ListingEnd}
use Rattle.tase_discover.specs.Listings.{first_table}
use Rattle.tase_discover.specs.Listers.{TableListing, listing_of}
use Rattle.tase_discover.specs.Acts.{listing_acts}
use Rattle.commands.specs.declared.io.status.Status.{Status}
use Rattle.commands.specs.declared.io.status.Status.TheVariants as statuses
use Rattle.commands.specs.declared.io.input.TheConstants.{TEXT_LIMIT}
use Rattle.commands.specs.declared.io.input.InputEnd.{InputEnd}
use Rattle.commands.specs.declared.io.input.InputEnd.TheVariants.{Refused}
use Rattle.commands.specs.declared.io.input.Refusal.TheVariants.{BadKey}
use Rattle.commands.specs.Io.OutsideUse.{Rises}
use Rattle.commands.specs.Io.Runs.{EndsUnread}
use Rattle.commands.specs.Io.Plans.{ReadsValue}
use Rattle.commands.specs.Words.Words.{DiscoverTask}
use Rattle.commands.specs.Files.Tables.{tables_in}
use Rattle.tase_tool.specs.Asking.Opening.{OpensEach, OpensBoth, LeavesLink}
use Rattle.tase_tool.specs.Asking.Ending.{finish_status}
use Rattle.tase_tool.specs.Asking.Parts.{HasFaultyObject, HasCleanObjects}
use Rattle.tase_tool.specs.Discover.Ending.{TellsListing, offers_same}

-- a calling end is about to list what is offered in the place of the peer with this number: it
-- calls by the title of the peer's first table, and holds what comes against that
abbrev pub IsLister : CentreRows → ℕ → Talk TableListing ℕ ListingEnd → Type 0
IsLister rows peer talk =
    IsTalk listing_acts (table_of rows peer).title (listing_of (first_table rows peer)) talk

-- it was run over a terminal to this end, and then stood so
abbrev pub ListsOver : CentreRows → ℕ → TerminalTold → TerminalTold → LinkAnswers
    → RunEnd ListingEnd → CallingEnd TableListing ListingEnd → Type 0
ListsOver rows peer before after first end asking =
    TalksOver listing_acts (table_of rows peer).title (listing_of (first_table rows peer))
    before after first end asking

-- it is run over a link and standard output; the link is closed, and behind the lines that it
-- showed is told how it ended
pub record ListsOpened (rows : CentreRows) (peer : ℕ) (link : LinkTold) (sink : SinkTold)
    (before after : OutsideTold) (status : Status) : Type 0 where
  pub gone : LinkTold
  pub shown : SinkTold
  pub end : RunEnd ListingEnd
  pub asking : CallingEnd TableListing ListingEnd
  pub lists : (first : LinkAnswers) → HasHeard link first
      → ListsOver rows peer (link_terminal link sink) (link_terminal gone shown) first end asking
  pub mid : OutsideTold
  pub leaves : LeavesLink before mid gone
  pub told : SinkTold
  pub tells : TellsListing asking end shown told status
  pub closes : ClosesOut mid after told

-- the same, where the link and standard output are opened before
pub record ListsAtNode (task : DiscoverTask) (rows : CentreRows) (peer : ℕ)
    (before after : OutsideTold) (status : Status) : Type 0 where
  pub link : LinkTold
  pub sink : SinkTold
  pub opened : OutsideTold
  pub opens : OpensEach task.address before opened link sink
  pub lists : ListsOpened rows peer link sink opened after status

-- one of them isn't handed out
pub record IsUnreached (address : List ℕ) (before after : OutsideTold) (status : Status)
    : Type 0 where
  pub answers : status ≡ statuses.Outside
  pub unopened : OpensBoth address before after None

-- it connects to its node
abbrev pub ListsNode : DiscoverTask → CentreRows → ℕ → OutsideTold → OutsideTold → Status → Type 0
ListsNode task rows peer before after status = ListsAtNode task rows peer before after status
    ⊎ IsUnreached task.address before after status

-- the same; or memory is wanting, and nothing is opened
abbrev pub ListsPeer : DiscoverTask → CentreRows → ℕ → OutsideTold → OutsideTold → Status → Type 0
ListsPeer task rows peer before after status = ListsNode task rows peer before after status
    ⊎ ((status ≡ statuses.Memory) × (after ≡ before))

-- in the place of the peer with a key: where no peer has it, that is told, and nothing is connected
-- to
abbrev pub ListsByKey : DiscoverTask → CentreRows → Option ℕ → OutsideTold → OutsideTold → Status
    → Type 0
ListsByKey task rows None before after status =
    EndsUnread (codes "tables") (Refused BadKey) before after status
ListsByKey task rows (Some peer) before after status =
    ListsPeer task rows peer before after status

-- what the command does behind its tables, which were read to this
abbrev pub ListsBehind : DiscoverTask → Result CentreRows InputEnd → OutsideTold → OutsideTold
    → Status → Type 0
ListsBehind task (Ok rows) before after status =
    ListsByKey task rows (place_of_peer rows task.key) before after status
ListsBehind task (Err end) before after status =
    EndsUnread (codes "tables") end before after status

-- The tables were read, a peer has the key, all that is offered in its place was listed, and the
-- release answered; and whether nothing differed from the peer's table.
pub record IsListed (task : DiscoverTask) (same : Bool) (before after : OutsideTold)
    : Type 0 where
  pub rows : CentreRows
  pub peer : ℕ
  pub mid : OutsideTold
  pub tables : ReadsValue tables_in task.tables TEXT_LIMIT (Ok rows) before mid
  pub key : place_of_peer rows task.key ≡ Some peer
  pub lists : ListsAtNode task rows peer mid after (finish_status same)
  pub finished : lists.lists.end ≡ Ended Finished
  pub alike : offers_same lists.lists.asking ≡ same

-- a run of `discover`: what it leaves outside, and the status that it answers
pub record DiscoverCommand (task : DiscoverTask) (before after : OutsideTold) (status : Status)
    : Type 0 where
  pub read : Result CentreRows InputEnd
  pub mid : OutsideTold
  pub tables : ReadsValue tables_in task.tables TEXT_LIMIT read before mid
  pub goes : ListsBehind task read mid after status
  -- it answers no other words
  pub words : status ≢ statuses.Usage
  -- a failure is answered only where the outside's count of faults rose
  pub outside : status ≡ statuses.Outside → Rises before.faults after.faults
  -- and only where one of the objects outside is missing or has failed
  pub reason : status ≡ statuses.Outside
      → HasFaultyObject (task.tables ∷ []) task.address before after
  -- where no object has an older fault, the count rises only where a failure is answered
  pub exact : HasCleanObjects (task.tables ∷ []) task.address before → status ≢ statuses.Outside
      → after.faults ≡ before.faults
  -- it is called done only where all was listed and nothing differs
  pub done : status ≡ statuses.Done → IsListed task true before after
  -- and differing only where all was listed and something differs
  pub differs : status ≡ statuses.Differs → IsListed task false before after
