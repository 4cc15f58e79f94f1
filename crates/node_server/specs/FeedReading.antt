-- What the lines of a feed say, as functions of all of its octets.
use Rattle.std.specs.Prelude.{◌≡◌, ℕ, ◌==◌, Bool, true, false, List, [], ◌∷◌, ◌++◌, length, nat_lt}
use Rattle.std.specs.Prelude.{if◌then◌else◌, Option, Some, None}
use Rattle.std.specs.List.{slice_split}
use Rattle.std.specs.Str.Lines.{lines, strip_carriage_return}
use Rattle.outside.specs.Faults.{next_count}
use Rattle.plain_text.specs.Lines.{is_skipped}
use Rattle.bilateral.specs.Rows.{CentreRows}
use Rattle.tase_views.specs.declared.event.EventKind.{EventKind}
use Rattle.tase_views.specs.History.{Past, is_stop}
use Rattle.tase_views.specs.Outcomes.{own_refusal, clock_refusal}
use Rattle.texts.specs.Events.FeedLines.{feed_event_in}
use Rattle.node_server.specs.declared.feed_end.FeedEnd.{FeedEnd}
use Rattle.node_server.specs.declared.feed_end.FeedEnd.TheVariants.{Ended, StopLine, BadLine}
use Rattle.node_server.specs.declared.feed_end.FeedEnd.TheVariants.{LongLine, SourceFault, Stopped}
use Rattle.node_server.specs.declared.feed_end.FeedEnd.TheVariants.{Full, Memory}
use Rattle.node_server.specs.declared.feed_reader.FeedSays.{FeedSays}
use Rattle.node_server.specs.declared.feed_reader.FeedSays.TheVariants.{Nothing, Asks, Ends}
use Rattle.node_server.specs.declared.feed_reader.TheConstants.{LINE_LIMIT}

-- what a feed asks, in order, and how it ends
pub record Fed : Type 0 where
  pub events : List EventKind
  pub end : FeedEnd

-- what a line with this number says that is neither too long nor skipped, by its event: a bad line
-- has none, and a line `stop` ends the feed
abbrev pub event_says : ℕ → Option EventKind → FeedSays
event_says number None = Ends (BadLine number)
event_says number (Some event) = if is_stop event then Ends StopLine else Asks event

-- what a line with this number says
abbrev pub line_says : CentreRows → ℕ → List ℕ → FeedSays
line_says rows number line =
    if nat_lt LINE_LIMIT (length line) then Ends (LongLine number)
    else (if is_skipped line then Nothing else event_says number (feed_event_in rows line))

-- what is said, and then the rest
abbrev pub says_then : FeedSays → Fed → Fed
says_then Nothing rest = rest
says_then (Asks event) rest = record { events = event ∷ rest.events; end = rest.end }
says_then (Ends end) rest = record { events = []; end = end }

-- what lines say of which the first has this number: the events of the lines before the first one
-- that is bad, too long or `stop`, and how that ends the feed
abbrev pub fed_from : CentreRows → ℕ → List (List ℕ) → Fed
fed_from rows number [] = record { events = []; end = Ended }
fed_from rows number (line ∷ more) =
    says_then (line_says rows number line) (fed_from rows (next_count number) more)

-- the parts between LFs but the last, as lines
abbrev pub ended_parts : List (List ℕ) → List (List ℕ)
ended_parts [] = []
ended_parts (part ∷ []) = []
ended_parts (part ∷ next ∷ parts) = strip_carriage_return part ∷ ended_parts (next ∷ parts)

-- the lines of a feed that gave these octets: all of them where it is whole, and else those that an
-- LF ends, since more of the last one may come
abbrev pub feed_lines : Bool → List ℕ → List (List ℕ)
feed_lines true octets = lines octets
feed_lines false octets = ended_parts (slice_split (λ octet. octet == 10) octets)

-- where a feed stands: the octets of a line that isn't ended, and the number of this line
pub record FeedPlace : Type 0 where
  pub held : List ℕ
  pub number : ℕ

-- what a feed says from a place on that still gives these octets
abbrev pub yet_fed : CentreRows → Bool → FeedPlace → List ℕ → Fed
yet_fed rows whole place octets =
    fed_from rows place.number (feed_lines whole (place.held ++ octets))

-- An octet took a feed from one place to the next, and this was said: whatever comes next, and
-- whether it is whole then, the feed says that and what it says from there. Where it ends so, it
-- does whatever comes next.
abbrev pub TakesOctet : CentreRows → FeedPlace → ℕ → FeedPlace → FeedSays → Type 0
TakesOctet rows place octet next Nothing = (whole : Bool) (more : List ℕ)
    → yet_fed rows whole place (octet ∷ more) ≡ yet_fed rows whole next more
TakesOctet rows place octet next (Asks event) = (whole : Bool) (more : List ℕ)
    → yet_fed rows whole place (octet ∷ more)
    ≡ says_then (Asks event) (yet_fed rows whole next more)
TakesOctet rows place octet next (Ends end) = (more : List ℕ)
    → yet_fed rows true place (octet ∷ more) ≡ record { events = []; end = end }

-- Whatever came before, a node refuses the event of any seat for none of the causes of its own: for
-- no association, for no name, and for no moment.
abbrev pub IsFedEvent : CentreRows → EventKind → Type 0
IsFedEvent rows event = (past : Past) (who : ℕ)
    → (own_refusal rows past who event ≡ None) × (clock_refusal past event ≡ None)

-- a line ends a feed as `stop`, or as bad or too long
abbrev pub IsLineEnd : FeedEnd → Type 0
IsLineEnd StopLine = Unit {0}
IsLineEnd (BadLine line) = Unit {0}
IsLineEnd (LongLine line) = Unit {0}
IsLineEnd Ended = ⊥
IsLineEnd SourceFault = ⊥
IsLineEnd Stopped = ⊥
IsLineEnd (Full weight limit) = ⊥
IsLineEnd Memory = ⊥

-- a line of a feed may say this
abbrev pub MayBeSaid : CentreRows → FeedSays → Type 0
MayBeSaid rows Nothing = Unit {0}
MayBeSaid rows (Asks event) = IsFedEvent rows event
MayBeSaid rows (Ends end) = IsLineEnd end
