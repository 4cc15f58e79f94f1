-- Links of peers in a scenario: which lines give something to a link, what a node then takes of
-- its connection, what the peer is sent, and how the connection ends.
use Rattle.std.specs.Prelude.{ℕ, ◌≤◌, ◌==◌, nat_le, ◌&&◌, ◌||◌, if◌then◌else◌, Bool, List, [], ◌∷◌}
use Rattle.std.specs.Prelude.{◌++◌, length, Option, Some, None}
use Rattle.std.specs.Prelude.{option_map, option_and_then, codes, bytes_eq, decimal}
use Rattle.std.proofs.Common.{drop}
use Rattle.std.specs.List.{filter_map}
use Rattle.std.specs.Result.{result_ok}
use Rattle.hex.specs.Hex.{decode_of}
use Rattle.plain_text.specs.Numbers.{if_passes}
use Rattle.plain_text.specs.Octets.{hex_text}
use Rattle.plain_text.specs.Words.{words_in}
use Rattle.bilateral.specs.Rows.{CentreRows}
use Rattle.stack_assoc.specs.declared.messages.fault.StackFault.{StackFault}
use Rattle.stack_assoc.specs.Listing.Names.{layer_name, why_name}
use Rattle.tase_views.specs.declared.event.EventKind.{EventKind}
use Rattle.conn_service.specs.TaseConn.Map.Inputs.{Item, piece, idle, ended}
use Rattle.conn_service.specs.TaseConn.Map.Asks.{asks_of}
use Rattle.conn_service.specs.TaseConn.declared.stage.ConnEnd.{ConnEnd}
use Rattle.conn_service.specs.TaseConn.declared.stage.ConnEnd.TheVariants as conn_ends
use Rattle.tase_views.specs.declared.event.Entry.{Entry}
use Rattle.tase_replay.specs.declared.links.TheConstants.{LINE_OCTETS}
use Rattle.tase_replay.specs.declared.links.LinkItem.{LinkItem}
use Rattle.tase_replay.specs.declared.links.LinkItem.TheVariants as link_items
use Rattle.tase_replay.specs.declared.links.LineItem.{LineItem as Read}
use Rattle.tase_replay.specs.declared.entries.LineRequest.{LineRequest}
use Rattle.tase_replay.specs.declared.entries.LineRequest.TheVariants as askeds
use Rattle.tase_replay.specs.Lines.{seat_in, entry_of}

-- ---- the lines

-- an item that the link of a seat gives
pub record SeatItem : Type 0 where
  pub who : ℕ
  pub item : Item

abbrev pub given_by : Item → ℕ → SeatItem
given_by item who = record { who = who; item = item }

-- 1 to 16,384 octets
abbrev pub is_piece : List ℕ → Bool
is_piece octets = nat_le 1 (length octets) && nat_le (length octets) LINE_OCTETS

-- the octets that pairs of hexadecimal digits in either case are
abbrev pub piece_in : List ℕ → Option Item
piece_in word = option_map piece (option_and_then (if_passes is_piece) (result_ok (decode_of word)))

-- `in W HEX`, less its first word
abbrev pub piece_given : List (List ℕ) → Option SeatItem
piece_given (seat ∷ digits ∷ []) =
    option_and_then (λ w. option_map (λ item. given_by item w) (piece_in digits)) (seat_in seat)
piece_given words = None

-- `idle W` or `end W`, less its first word
abbrev pub item_given : Item → List (List ℕ) → Option SeatItem
item_given item (seat ∷ []) = option_map (given_by item) (seat_in seat)
item_given item words = None

-- whether a line with this first word is a link's
abbrev pub is_link_word : List ℕ → Bool
is_link_word verb =
    bytes_eq verb (codes "in") || bytes_eq verb (codes "idle") || bytes_eq verb (codes "end")

-- what such a line gives
abbrev pub given_of : List (List ℕ) → Option SeatItem
given_of [] = None
given_of (verb ∷ words) =
    if bytes_eq verb (codes "in") then piece_given words
    else (if bytes_eq verb (codes "idle") then item_given idle words
    else (if bytes_eq verb (codes "end") then item_given ended words else None))

-- what a line asks for: an event of a seat, or that a link gives something
pub data Asking : Type 0 where
  an_event : Entry → Asking
  an_item : SeatItem → Asking

abbrev pub asking_of : CentreRows → List (List ℕ) → Option Asking
asking_of rows [] = None
asking_of rows (verb ∷ words) =
    if is_link_word verb then option_map an_item (given_of (verb ∷ words))
    else option_map an_event (entry_of rows (verb ∷ words))

-- what a line asks for, where it is one of the forms and names what the centre has
abbrev pub asking_in : CentreRows → List ℕ → Option Asking
asking_in rows line = option_and_then (asking_of rows) (words_in line)

-- ---- what is read of them

abbrev pub item_seen : LinkItem → Item
item_seen (link_items.Piece octets) = piece octets.items
item_seen link_items.Idle = idle
item_seen link_items.End = ended

abbrev pub given_seen : Read → SeatItem
given_seen given = record { who = given.who; item = item_seen given.item }

abbrev pub asking_seen : LineRequest → Asking
asking_seen (askeds.Event entry) = an_event entry
asking_seen (askeds.Item given) = an_item (given_seen given)

-- a connection takes such a piece in
abbrev pub IsFit : LinkItem → Type 0
IsFit (link_items.Piece octets) =
    (1 ≤ length octets.items) × (length octets.items ≤ LINE_OCTETS)
IsFit link_items.Idle = Unit {0}
IsFit link_items.End = Unit {0}

abbrev pub IsFitting : LineRequest → Type 0
IsFitting (askeds.Event entry) = Unit {0}
IsFitting (askeds.Item given) = IsFit given.item

-- ---- the input of a link

abbrev pub item_by : ℕ → SeatItem → Option Item
item_by who given = if given.who == who then Some given.item else None

-- what the lines so far gave to the link of a seat
abbrev pub items_of : ℕ → List SeatItem → List Item
items_of who given = filter_map (item_by who) given

-- which events one more item asks, behind those that the items before it ask
abbrev pub asks_more : CentreRows → List Item → Item → List EventKind
asks_more rows before item =
    drop (length (asks_of rows before)) (asks_of rows (before ++ item ∷ []))

-- ---- what is printed

abbrev pub line_of_out : ℕ → List ℕ → List ℕ
line_of_out who [] = []
line_of_out who (octet ∷ octets) =
    codes "out " ++ decimal who ++ 32 ∷ hex_text (octet ∷ octets) ++ 10 ∷ []

abbrev pub fault_text : StackFault → List ℕ
fault_text fault =
    layer_name fault.layer ++ 32 ∷ decimal fault.place ++ 32 ∷ why_name fault.why

-- the ends of which no scenario shows one have no text
abbrev pub end_text : ConnEnd → List ℕ
end_text conn_ends.Finished = codes "finished"
end_text conn_ends.PeerEnd = codes "peerend"
end_text conn_ends.Declined = codes "declined"
end_text (conn_ends.Refused fault) = codes "refused " ++ fault_text fault
end_text (conn_ends.TooLong len detail) =
    codes "toolong " ++ decimal len ++ 32 ∷ decimal detail
end_text (conn_ends.Overflow pending limit) = []
end_text conn_ends.LinkFault = []
end_text conn_ends.Stopped = codes "stopped"
end_text (conn_ends.Full weight limit) = []
end_text conn_ends.Memory = []

abbrev pub line_of_end : ℕ → Option ConnEnd → List ℕ
line_of_end who None = []
line_of_end who (Some end) = codes "ended " ++ decimal who ++ 32 ∷ end_text end ++ 10 ∷ []
