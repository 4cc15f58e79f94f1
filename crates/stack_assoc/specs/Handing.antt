-- What is handed out of the messages that come, and what is answered at once.
use Rattle.std.specs.Prelude.{ℕ, ℤ, pos, int_lt, Bool, false, not, ◌&&◌, ◌||◌, List, []}
use Rattle.std.specs.Prelude.{Option, Some, None, is_some, filter_map, flat_map, bytes_eq}
use Rattle.std.specs.Prelude.{if◌then◌else◌}
use Rattle.tpkt_cotp.specs.Written.{confirm_octets, wire}
use Rattle.presentation_profile.specs.Agreements.{acse_of}
use Rattle.acse_assoc.specs.Writing.{mms_context}
use Rattle.mms_services.specs.declared.initiate.Initiate.{Initiate}
use Rattle.mms_services.specs.declared.initiate.TheConstants.{LEAST_DETAIL}
use Rattle.stack_assoc.specs.declared.messages.heard.Connecting.{Connecting}
use Rattle.stack_assoc.specs.declared.messages.heard.Heard.{Heard}
use Rattle.stack_assoc.specs.declared.messages.heard.Heard.TheVariants as heards
use Rattle.stack_assoc.specs.Wire.Setups.{cut_size}
use Rattle.stack_assoc.specs.Wire.Tsdus.{connect_tsdu}
use Rattle.stack_assoc.specs.declared.input.StackIn.{StackIn}
use Rattle.stack_assoc.specs.declared.input.StackIn.TheVariants as inputs
use Rattle.stack_assoc.specs.Arrivals.{Arrival, asked, confirmed, gone, heard, Role}
use Rattle.stack_assoc.specs.Arrivals.{called, calling}

-- too little is offered of one of the parameters, so that nothing can be granted
abbrev pub is_offered_below : ℤ → Option ℤ → Bool
is_offered_below least None = false
is_offered_below least (Some number) = int_lt number least

abbrev pub is_too_little : Initiate → Bool
is_too_little i = int_lt i.version (pos 1) || (int_lt i.calling (pos 1) || (int_lt i.called (pos 1)
    || (is_offered_below LEAST_DETAIL i.detail || is_offered_below (pos 1) i.nesting)))

-- a connect that may be accepted: its offers agree, it is of MMS, and enough is offered
abbrev pub is_offer : Connecting → Bool
is_offer c = is_some (acse_of c.contexts)
    && (bytes_eq c.context mms_context && not (is_too_little c.initiate))

abbrev pub input_heard : Heard → StackIn
input_heard (heards.Connect c) =
    if is_offer c then inputs.Offer c.title c.initiate else inputs.BadOffer
input_heard (heards.Accept a) = inputs.Accepted a.initiate
input_heard heards.Refuse = inputs.Refused
input_heard heards.Finish = inputs.Released
input_heard heards.Disconnect = inputs.Released
input_heard heards.Abort = inputs.Aborted
input_heard heards.AbortAccept = inputs.Aborted
input_heard (heards.Pdu p) = inputs.Pdu p
input_heard (heards.BadRequest invoke) = inputs.BadRequest invoke

-- what is handed out of a message: nothing of a connect request or confirm
abbrev pub stack_in : Arrival → Option StackIn
stack_in (asked r) = None
stack_in (confirmed c) = None
stack_in gone = Some inputs.Aborted
stack_in (heard h) = Some (input_heard h)

abbrev pub handed_out : List Arrival → List StackIn
handed_out told = filter_map stack_in told

-- the octets that answer a message at once: the called end confirms a connect request, the calling
-- end sends its connect behind a connect confirm
abbrev pub answer_to : Role → Arrival → List ℕ
answer_to called (asked r) = confirm_octets r
answer_to (calling title said) (confirmed c) =
    wire (cut_size c.parameters.size) (connect_tsdu title)
answer_to _ _ = []

abbrev pub answers_to : Role → List Arrival → List ℕ
answers_to role told = flat_map (answer_to role) told
