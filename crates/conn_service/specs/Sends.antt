-- What is owed to the peer of a link, whoever serves its connection: which events of the seat have
-- come of what the link gave, and which octets were said.
use Rattle.std.specs.Prelude.{◌≡◌, ◌⊎◌, ℕ, ◌<◌, List, [], ◌∷◌, ◌++◌, reverse, Option, Some, None}
use Rattle.std.specs.Prelude.{unsigned_abs}
use Rattle.sbo_device.specs.declared.key.Key.{Key}
use Rattle.stack_assoc.specs.Expectations.{setup_after}
use Rattle.tase_views.specs.Setup.{Setup}
use Rattle.tase_views.specs.History.{Past, association_in}
use Rattle.tase_views.specs.Outcomes.{refusal_of, answer_of}
use Rattle.tase_views.specs.declared.event.EventKind.{EventKind}
use Rattle.tase_views.specs.declared.event.EventKind.TheVariants as events
use Rattle.tase_views.specs.declared.reply.Answer.TheVariants as answers
use Rattle.tase_views.specs.declared.reply.ReportKind.{ReportKind}
use Rattle.tase_views.specs.declared.fault.StepFault.{StepFault}
use Rattle.tase_views.specs.declared.fault.StepFault.TheVariants as faults
use Rattle.tase_conn.specs.Map.Inputs.{Item, text_given}
use Rattle.tase_conn.specs.Map.Readings.{reading_of}
use Rattle.tase_conn.specs.Map.Asks.{asks_of}
use Rattle.tase_conn.specs.Map.Out.{abort_wire, first_too_long}
use Rattle.tase_conn.specs.Map.Sent.{events_by, with_event}
use Rattle.tase_conn.specs.declared.stage.ConnEnd.{ConnEnd}
use Rattle.tase_conn.specs.declared.stage.ConnEnd.TheVariants as conn_ends
use Rattle.tase_conn.specs.Map.Linked.{link_octets, detail_given}
use Rattle.tase_conn.specs.PeerEnd.{peer_end}

-- ---- the events

-- all that the link asks was taken, and the connection goes on, or the peer has ended it
pub record IsAllTaken (setup : Setup) (past : Past) (who : ℕ) (items : List Item)
    (end : Option ConnEnd) : Type 0 where
  pub events : reverse (events_by who past) ≡ asks_of setup.centre items
  pub by_peer : peer_end setup.centre items ≡ end

-- how a node refuses the first of these events, if there is one
abbrev pub first_refused : Setup → Past → ℕ → List EventKind → Option StepFault
first_refused setup past who [] = None
first_refused setup past who (event ∷ events) = refusal_of setup past who event

-- the seat's last event was a take, and the first of its reports that is longer than was agreed on
-- has so many octets
pub record TakesTooLong (setup : Setup) (past : Past) (who : ℕ) (items : List Item)
    (len detail : ℕ) : Type 0 where
  pub later : Past
  pub before : Past
  pub past_is : past ≡ later ++ with_event who events.Take before
  pub last : events_by who later ≡ []
  pub reports : List ReportKind
  pub answer : answer_of setup before who events.Take ≡ answers.Reports reports
  pub len_is : first_too_long (detail_given items) reports ≡ Some len
  pub detail_is : detail ≡ unsigned_abs (detail_given items)

-- why a connection is cut, by how the node refuses the next event: it was stopped, or its history is
-- full; a report is too long; more octets wait than may; the link has failed, or memory ran out, at
-- any event
abbrev pub IsCutFor : Setup → Past → ℕ → List Item → ConnEnd → Option StepFault → Type 0
IsCutFor setup past who items conn_ends.Stopped refusal =
    (place : ℕ) × (refusal ≡ Some (faults.Stopped place))
IsCutFor setup past who items (conn_ends.Full weight limit) refusal =
    refusal ≡ Some (faults.HistoryFull weight limit)
IsCutFor setup past who items (conn_ends.TooLong len detail) refusal =
    TakesTooLong setup past who items len detail
IsCutFor setup past who items (conn_ends.Overflow pending limit) refusal = limit < pending
IsCutFor setup past who items conn_ends.LinkFault refusal = Unit {0}
IsCutFor setup past who items conn_ends.Memory refusal = Unit {0}
IsCutFor setup past who items conn_ends.Finished refusal = ⊥
IsCutFor setup past who items conn_ends.PeerEnd refusal = ⊥
IsCutFor setup past who items conn_ends.Declined refusal = ⊥
IsCutFor setup past who items (conn_ends.Refused fault) refusal = ⊥

-- all that the link asks was taken before, where it is cut for its link, which has failed or takes
-- too little: of what the link gave no event is left unasked
abbrev pub IsWholeFor : ConnEnd → List EventKind → Type 0
IsWholeFor conn_ends.LinkFault others = others ≡ []
IsWholeFor (conn_ends.Overflow pending limit) others = others ≡ []
IsWholeFor end others = Unit {0}

-- a close, where an association is open
abbrev pub close_of : Option Key → List EventKind
close_of None = []
close_of (Some key) = events.Close ∷ []

-- the first events that the link asks were taken, all of them where it is cut for its link, and then
-- the connection was cut: its association was closed, if one was open, and none is open since
pub record IsCutOff (setup : Setup) (past : Past) (who : ℕ) (items : List Item)
    (end : ConnEnd) : Type 0 where
  pub later : Past
  pub before : Past
  pub past_is : past ≡ later ++ before
  pub others : List EventKind
  pub asks_are : asks_of setup.centre items ≡ reverse (events_by who before) ++ others
  pub whole : IsWholeFor end others
  pub cause : IsCutFor setup before who items end (first_refused setup before who others)
  pub closed : events_by who later ≡ close_of (association_in before who)
  pub none_open : association_in past who ≡ None

abbrev pub HasEvents : Setup → Past → ℕ → List Item → Option ConnEnd → Type 0
HasEvents setup past who items end = IsAllTaken setup past who items end
    ⊎ ((cut : ConnEnd) × (end ≡ Some cut) × IsCutOff setup past who items cut)

-- ---- the octets

-- octets, and others behind them, are these
pub record IsFrontOf (front all : List ℕ) : Type 0 where
  pub others : List ℕ
  pub are : all ≡ front ++ others

-- where memory is wanting a front part is said, and maybe a front part of an abort
pub record IsSaidInPart (items : List Item) (octets all : List ℕ) : Type 0 where
  pub first : List ℕ
  pub parting : List ℕ
  pub are : octets ≡ first ++ parting
  pub front : IsFrontOf first all
  pub aborts : IsFrontOf parting (abort_wire (setup_after (reading_of (text_given items)).told))

-- how much is said of all that is owed: all of it, but for a link that fails or doesn't take it, and
-- for want of memory
abbrev pub IsSaidByEnd : List Item → Option ConnEnd → List ℕ → List ℕ → Type 0
IsSaidByEnd items (Some conn_ends.LinkFault) octets all = IsFrontOf octets all
IsSaidByEnd items (Some (conn_ends.Overflow pending limit)) octets all = IsFrontOf octets all
IsSaidByEnd items (Some conn_ends.Memory) octets all = IsSaidInPart items octets all
IsSaidByEnd items end octets all = octets ≡ all

-- ---- both

-- a seat's connection over this past, whose link gave these items, and that has ended so, if it has
pub record Sends (setup : Setup) (past : Past) (who : ℕ) (items : List Item)
    (end : Option ConnEnd) (octets : List ℕ) : Type 0 where
  pub events : HasEvents setup past who items end
  pub said : IsSaidByEnd items end octets (link_octets setup.centre past who items)
