-- What a stream tells, and where it stops: messages of the transport, each TSDU read by what may
-- come behind those before it.
use Rattle.std.specs.Prelude.{◌≡◌, ℕ, List, [], ◌∷◌, ◌++◌, ◌⊎◌}
use Rattle.tpkt_cotp.specs.declared.fault.CotpFault.{CotpFault}
use Rattle.tpkt_cotp.specs.Streams as transport
use Rattle.tpkt_cotp.specs.Streams.{Message, asks, confirms, tsdu}
use Rattle.stack_assoc.specs.declared.messages.fault.Layer.TheVariants as layers
use Rattle.stack_assoc.specs.declared.messages.fault.StackFault.{StackFault}
use Rattle.stack_assoc.specs.Messages.Messages.{message}
use Rattle.stack_assoc.specs.Fronts.{StartsWith}
use Rattle.stack_assoc.specs.InTurn.{SpellInTurn}
use Rattle.stack_assoc.specs.Arrivals.{Arrival, asked, confirmed, gone, heard, Role, end_of}
use Rattle.stack_assoc.specs.Expectations.{expecting_after}

-- behind these messages one of the transport tells this
abbrev pub TellsNext : Role → List Arrival → Arrival → Message → Type 0
TellsNext role before (asked r) (asks q) = r ≡ q
TellsNext role before (confirmed c) (confirms d) = c ≡ d
TellsNext role before gone transport.gone = Unit {0}
TellsNext role before (heard h) (tsdu place octets) =
    (message (expecting_after role before) octets).says h
TellsNext role before _ _ = ⊥

-- behind these messages a TSDU breaks this rule first
abbrev pub BreaksNext : Role → List Arrival → Message → StackFault → Type 0
BreaksNext role before (tsdu place octets) f =
    (message (expecting_after role before) octets).breaks f
BreaksNext role before _ f = ⊥

-- messages of the transport tell these
abbrev pub Tell : Role → List Arrival → List Message → Type 0
Tell role told messages = SpellInTurn (TellsNext role) [] told messages

-- the octets so far tell these messages, and then a rest that isn't whole and breaks no rule
pub record Tells (role : Role) (octets : List ℕ) (told : List Arrival) (rest : List ℕ) :
    Type 0 where
  pub messages : List Message
  pub said : transport.Says (end_of role) octets messages rest
  pub tell : Tell role told messages

abbrev pub transport_fault : CotpFault → StackFault
transport_fault f = record { layer = layers.Transport; place = f.place; why = f.why }

-- the octets so far tell these messages, and then break a rule of the transport
pub record StopsBelow (role : Role) (octets : List ℕ) (told : List Arrival) (fault : StackFault) :
    Type 0 where
  pub messages : List Message
  pub broken : CotpFault
  pub stops : transport.Stops (end_of role) octets messages broken
  pub tell : Tell role told messages
  pub is : fault ≡ transport_fault broken

-- the octets so far tell these messages, and then a message that breaks a rule
pub record StopsAbove (role : Role) (octets : List ℕ) (told : List Arrival) (fault : StackFault) :
    Type 0 where
  pub messages : List Message
  pub next : Message
  pub starts : StartsWith (end_of role) octets (messages ++ next ∷ [])
  pub tell : Tell role told messages
  pub breaks : BreaksNext role told next fault

-- the octets so far tell these messages, and then break a rule
abbrev pub StopsTelling : Role → List ℕ → List Arrival → StackFault → Type 0
StopsTelling role octets told fault = StopsBelow role octets told fault
    ⊎ StopsAbove role octets told fault
