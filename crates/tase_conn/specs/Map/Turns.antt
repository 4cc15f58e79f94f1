-- What an input tells that a connection has to act on, in order.
use Rattle.std.specs.Prelude.{ℕ, List, [], ◌∷◌, ◌++◌, length, drop, filter_map, Option, Some, None}
use Rattle.mms_services.specs.declared.pdu.MmsPdu.{MmsPdu}
use Rattle.mms_services.specs.declared.pdu.MmsPdu.TheVariants as pdus
use Rattle.stack_assoc.specs.declared.messages.fault.StackFault.{StackFault}
use Rattle.stack_assoc.specs.declared.input.StackIn.{StackIn}
use Rattle.stack_assoc.specs.declared.input.StackIn.TheVariants as inputs
use Rattle.stack_assoc.specs.Handing.{handed_out}
use Rattle.tase_views.specs.declared.call.CallKind.{CallKind}
use Rattle.tase_conn.specs.Map.Asked.{call_of_request, invalid}
use Rattle.tase_conn.specs.Map.Inputs.{Item, piece, idle, ended, text_given}
use Rattle.tase_conn.specs.Map.Readings.{Reading, reading_of}

pub data Turn : Type 0 where
  -- an offer that may be accepted, by this title, and one that can only be refused
  offers : Option (List ℕ) → Turn
  offers_badly : Turn
  -- a call, by the request with this number
  asks : ℕ → CallKind → Turn
  concludes : Turn
  releases : Turn
  aborts : Turn
  -- a rule is broken
  breaks : Turn
  -- the link has ended
  ends : Turn
  -- all of a piece, or of an idle, was taken
  pauses : Turn

-- a request and conclude; no other PDU has an effect
abbrev pub turn_of_pdu : MmsPdu → Option Turn
turn_of_pdu (pdus.Request invoke request) = Some (asks invoke (call_of_request request))
turn_of_pdu pdus.Conclude = Some concludes
turn_of_pdu _ = None

abbrev pub turn_in : StackIn → Option Turn
turn_in (inputs.Offer title initiate) = Some (offers title)
turn_in inputs.BadOffer = Some offers_badly
turn_in (inputs.Accepted initiate) = None
turn_in (inputs.Pdu pdu) = turn_of_pdu pdu
turn_in (inputs.BadRequest invoke) = Some (asks invoke invalid)
turn_in inputs.Released = Some releases
turn_in inputs.Aborted = Some aborts
turn_in inputs.Refused = None

abbrev pub fault_turns : Option StackFault → List Turn
fault_turns None = []
fault_turns (Some fault) = breaks ∷ []

-- what a text tells
abbrev pub turns_told : Reading → List Turn
turns_told reading = filter_map turn_in (handed_out reading.told) ++ fault_turns reading.broken

-- what a text tells that its front doesn't tell yet: each message whose last octet is behind the
-- front, and a rule that isn't broken in it
abbrev pub turns_between : Reading → Reading → List Turn
turns_between front whole = drop (length (turns_told front)) (turns_told whole)

abbrev pub turns_behind_octets : Item → List Turn
turns_behind_octets (piece octets) = pauses ∷ []
turns_behind_octets idle = pauses ∷ []
turns_behind_octets ended = ends ∷ []

-- what an item tells behind those before it
abbrev pub turns_at : List Item → Item → List Turn
turns_at before item =
    turns_between (reading_of (text_given before)) (reading_of (text_given (before ++ item ∷ [])))
    ++ turns_behind_octets item

-- what items tell behind those before them
abbrev pub turns_from : List Item → List Item → List Turn
turns_from before [] = []
turns_from before (item ∷ items) =
    turns_at before item ++ turns_from (before ++ item ∷ []) items

-- what an input tells
abbrev pub turns_of : List Item → List Turn
turns_of items = turns_from [] items
