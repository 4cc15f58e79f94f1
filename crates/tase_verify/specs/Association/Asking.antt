-- The events that turns ask, where the first of them opens an association.
use Rattle.std.specs.Prelude.{ℕ, Bool, true, false, List, [], ◌∷◌, ◌++◌, Option, Some, None}
use Rattle.std.specs.List.{filter_map}
use Rattle.stack_assoc.specs.declared.input.StackIn.{StackIn}
use Rattle.stack_assoc.specs.declared.input.StackIn.TheVariants as inputs
use Rattle.mms_services.specs.Lawful.{IsLawfulPdu}
use Rattle.bilateral.specs.Rows.{CentreRows, place_of_title}
use Rattle.tase_views.specs.declared.call.CallKind.{CallKind}
use Rattle.tase_views.specs.declared.event.EventKind.{EventKind}
use Rattle.tase_views.specs.declared.event.EventKind.TheVariants as events
use Rattle.tase_conn.specs.Map.Turns.{Turn, offers, asks, concludes, releases, aborts}
use Rattle.tase_conn.specs.Map.Turns.{breaks, ends, turn_in}
use Rattle.tase_conn.specs.Map.Out.{end_turns}

-- a rule that is broken behind what was handed out, and the end of the link
abbrev pub broken_turns : Bool → List Turn
broken_turns true = breaks ∷ []
broken_turns false = []

abbrev pub last_turns : Bool → Bool → List Turn
last_turns broken ended = broken_turns broken ++ end_turns ended

-- the turns of what was handed out, and those behind it
abbrev pub turns_of_inputs : List StackIn → Bool → Bool → List Turn
turns_of_inputs handed broken ended = filter_map turn_in handed ++ last_turns broken ended

-- behind an open: requests, up to a close
abbrev pub asked_open : List Turn → List EventKind
asked_open (asks invoke call ∷ turns) = events.Request call ∷ asked_open turns
asked_open (concludes ∷ turns) = events.Close ∷ []
asked_open (releases ∷ turns) = events.Close ∷ []
asked_open (aborts ∷ turns) = events.Close ∷ []
asked_open (breaks ∷ turns) = events.Close ∷ []
asked_open (ends ∷ turns) = events.Close ∷ []
asked_open _ = []

abbrev pub asked_by : Option ℕ → List Turn → List EventKind
asked_by None turns = []
asked_by (Some peer) turns = events.Open peer ∷ asked_open turns

-- none, unless the first turn is an offer of a peer
abbrev pub asked_in : CentreRows → List Turn → List EventKind
asked_in rows (offers title ∷ turns) = asked_by (place_of_title rows title) turns
asked_in rows _ = []

-- the call that a turn asks for, if it is a request
abbrev pub call_by : Option Turn → Option CallKind
call_by (Some (asks invoke call)) = Some call
call_by turn = None

-- the PDUs that are handed out have lawful parts
abbrev pub IsLawfulInput : StackIn → Type 0
IsLawfulInput (inputs.Pdu pdu) = IsLawfulPdu pdu
IsLawfulInput input = Unit {0}
