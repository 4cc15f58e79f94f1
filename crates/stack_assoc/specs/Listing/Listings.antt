-- The listing of a captured stream.
use Rattle.std.specs.Prelude.{◌≡◌, ℕ, ◌+◌, ◌-◌, length, Bool, true, false, if◌then◌else◌, List, []}
use Rattle.std.specs.Prelude.{◌∷◌, ◌++◌}
use Rattle.std.specs.Prelude.{Option, Result, Ok, Err}
use Rattle.tpkt_cotp.specs.declared.turn.Role.TheVariants.{Either}
use Rattle.tpkt_cotp.specs.declared.fault.CotpFault.{CotpFault}
use Rattle.tpkt_cotp.specs.Streams.{Message, stream_place}
use Rattle.tpkt_cotp.specs.Lines.{Line, IsLineSettled, fed}
use Rattle.tpkt_cotp.specs.Places.{Placed, End, left, stopped, ended, stream_in}
use Rattle.tpkt_cotp.specs.Goings.{stream_of}
use Rattle.stack_assoc.specs.declared.messages.fault.Layer.TheVariants as layers
use Rattle.stack_assoc.specs.declared.messages.fault.StackFault.{StackFault}
use Rattle.stack_assoc.specs.declared.listing.hearing.ListedMessage.{ListedMessage}
use Rattle.stack_assoc.specs.Listing.Lines.{at_line, rest_line, fault_line}
use Rattle.stack_assoc.specs.Listing.Hearing.{told_in, either_of, context_told, context_of}

-- the lines, and whether the last one tells a fault
pub record Listing : Type 0 where
  pub text : List ℕ
  pub broken : Bool

-- a text before a listing
abbrev pub with_text : List ℕ → Listing → Listing
with_text text listing = record { text = text ++ listing.text; broken = listing.broken }

-- a fault ends a listing
abbrev pub broken_by : StackFault → Listing
broken_by f = record { text = fault_line f; broken = true }

-- a fault of the transport
abbrev pub listed_transport_fault : CotpFault → StackFault
listed_transport_fault f = record { layer = layers.Transport; place = f.place; why = f.why }

-- behind the last message
abbrev pub end_listing : End → Listing
end_listing (left count) = record { text = rest_line count; broken = false }
end_listing (stopped f) = broken_by (listed_transport_fault f)

-- a message with what is told of it, and what is listed behind it
abbrev pub listed_before : Placed → Result ListedMessage StackFault → Listing → Listing
listed_before p (Ok told) listing =
    with_text (at_line p.place told.name (p.next - p.place)) listing
listed_before p (Err f) listing = broken_by f

-- messages that come after others: each by the id that counts after all before it
abbrev pub list_after : List Message → List Placed → End → Listing
list_after before [] end = end_listing end
list_after before (p ∷ ps) end = listed_before p (told_in (context_of before) p.message)
    (list_after (before ++ p.message ∷ []) ps end)

-- the listing of all octets of a captured stream
abbrev pub listing_of : List ℕ → Listing
listing_of octets =
    let stream = stream_in Either octets in list_after [] stream.messages stream.end

-- ---- what a lister has yet to list

-- where it stands in the stream, the id that counts, and whether it has told a fault
pub record State : Type 0 where
  pub line : Line
  pub context : Option ℕ
  pub ended : Bool

-- messages that come where this id counts
abbrev pub list_from : Option ℕ → List Placed → End → Listing
list_from context [] end = end_listing end
list_from context (p ∷ ps) end = listed_before p (told_in context p.message)
    (list_from (either_of context (context_told (told_in context p.message))) ps end)

-- what is yet to be listed, where these octets are still to come
abbrev pub yet_listed : State → List ℕ → Listing
yet_listed s octets = if s.ended then record { text = []; broken = true } else
    (let stream = stream_of (fed s.line octets) in list_from s.context stream.messages stream.end)

-- what was listed from one state to the next is added behind a text
pub record Lists (old new : State) (before after : List ℕ) : Type 0 where
  pub added : List ℕ
  pub is : after ≡ before ++ added
  pub goes : (more : List ℕ) → yet_listed old more ≡ with_text added (yet_listed new more)

-- what was listed of a piece, from one state to the next, is added behind a text
pub record ListsPiece (old new : State) (piece before after : List ℕ) : Type 0 where
  pub added : List ℕ
  pub is : after ≡ before ++ added
  pub goes : (more : List ℕ)
      → yet_listed old (piece ++ more) ≡ with_text added (yet_listed new more)

-- where nothing more comes, what was yet to be listed is added
pub record FinishesListing (old : State) (before after : List ℕ) (broken : Bool) : Type 0 where
  pub added : List ℕ
  pub is : after ≡ before ++ added
  pub ends : yet_listed old [] ≡ record { text = added; broken = broken }

abbrev pub state : Line → Option ℕ → Bool → State
state line context ended = record { line = line; context = context; ended = ended }

-- no message is left in a transport, and it may be fed
pub record IsAtRest (t : Line) : Type 0 where
  pub settled : IsLineSettled t
  pub rest : stream_of t ≡ ended (left (stream_place (t.place + length t.unread) - t.start))

-- what was added for a message, of which this is told, and the id that counts after it
abbrev pub IsListed : Result ListedMessage StackFault → ℕ → ℕ → Option ℕ → Option ℕ → List ℕ
    → List ℕ → Bool → Type 0
IsListed (Ok told) place size context now before after broken = (broken ≡ false)
    × (now ≡ either_of context told.context) × (after ≡ before ++ at_line place told.name size)
IsListed (Err f) place size context now before after broken = (broken ≡ true)
    × (after ≡ before ++ fault_line f)
