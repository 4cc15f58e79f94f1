-- The PDUs that messages tell have lawful parts.
use Rattle.std.proofs.Common.{◌≡◌, ℕ, ◌≤◌, List, [], ◌∷◌, ◌++◌, sym, subst, inl, inr, arith}
use Rattle.std.specs.List.{All}
use Rattle.std.proofs.lemmas.List.Elements.{All-nil, All-cons}
use Rattle.ber_values.specs.declared.fault.Span.{Span}
use Rattle.session_profile.specs.declared.spdu.Spdu.{Spdu}
use Rattle.session_profile.specs.declared.spdu.Spdu.TheVariants as spdus
use Rattle.presentation_profile.specs.declared.ppdu.Ppdu.{Ppdu}
use Rattle.presentation_profile.specs.declared.ppdu.Ppdu.TheVariants as ppdus
use Rattle.mms_services.specs.declared.pdu.MmsPdu.{MmsPdu}
use Rattle.mms_services.specs.Lawful.{IsLawfulPdu}
use Rattle.mms_services.proofs.SpelledPdus.{pdu-holds}
use Rattle.stack_assoc.specs.declared.messages.expecting.Expecting.{Expecting}
use Rattle.stack_assoc.specs.declared.messages.heard.Heard.{Heard}
use Rattle.stack_assoc.specs.declared.messages.heard.Heard.TheVariants as heards
use Rattle.stack_assoc.specs.Messages.Layers.{octets_at, in_layer, pdu_at}
use Rattle.stack_assoc.specs.Messages.Meanings.{says_just}
use Rattle.stack_assoc.specs.Messages.Messages.{data_at, user_data_in, carry_at, said_in_turn, message}
use Rattle.stack_assoc.specs.Messages.Turns.{spdu_may_come}
use Rattle.tpkt_cotp.specs.Streams.{Message, asks, confirms, tsdu}
use Rattle.tpkt_cotp.specs.Streams as transport
use Rattle.stack_assoc.specs.InTurn.{SpellInTurn}
use Rattle.stack_assoc.specs.Arrivals.{Arrival, asked, confirmed, gone, heard, Role}
use Rattle.stack_assoc.specs.Expectations.{expecting_after}
use Rattle.stack_assoc.specs.Tellings.{TellsNext}
use Rattle.tase_conn.specs.Map.LawfulTold.{IsLawfulHeard, IsLawfulTold}
use Rattle.tase_conn.proofs.OfMap.MessageOrder.{kind_of, no_says, just_kind, inside_says, connect_kind}
use Rattle.tase_conn.proofs.OfMap.MessageOrder.{accept_kind, allowed}

other_lawful : (h : Heard) (n : ℕ) → kind_of h ≡ n → n ≤ 6 → IsLawfulHeard h
other_lawful (heards.Connect c) n k most = tt
other_lawful (heards.Accept a) n k most = tt
other_lawful heards.Refuse n k most = tt
other_lawful heards.Finish n k most = tt
other_lawful heards.Disconnect n k most = tt
other_lawful heards.Abort n k most = tt
other_lawful heards.AbortAccept n k most = tt
other_lawful (heards.Pdu p) n k most = absurd (omega (arith, k, most))
other_lawful (heards.BadRequest invoke) n k most = tt

pdu_lawful : (octets : List ℕ) (body : Span) (p : MmsPdu) → (pdu_at octets body).says p
    → IsLawfulPdu p
unfolding pdu_at in_layer
pdu_lawful octets body p s =
    subst (λ (x : MmsPdu). IsLawfulPdu x) s.2 (pdu-holds 0 (octets_at octets body) s.0 s.1)

data_lawful : (e : Expecting) (octets : List ℕ) (body : Span) (h : Heard)
    → (data_at e octets body).says h → IsLawfulHeard h
unfolding data_at
data_lawful e octets body h (inl s) =
    subst (λ (x : Heard). IsLawfulHeard x) (sym s.3) (pdu_lawful octets body s.0 s.1)
data_lawful e octets body h (inr s) = subst (λ (x : Heard). IsLawfulHeard x) (sym s.2) tt

user_data_lawful : (e : Expecting) (octets : List ℕ) (ppdu : Ppdu) (h : Heard)
    → (user_data_in e octets ppdu).says h → IsLawfulHeard h
user_data_lawful e octets (ppdus.Connect presented contexts id body) h s = absurd (no_says _ h s)
user_data_lawful e octets (ppdus.Accept presented results id body) h s = absurd (no_says _ h s)
user_data_lawful e octets (ppdus.Carry id body) h s = data_lawful e octets body h s

carry_lawful : (e : Expecting) (octets : List ℕ) (body : Span) (h : Heard)
    → (carry_at e octets body).says h → IsLawfulHeard h
unfolding carry_at
carry_lawful e octets body h s =
    let i = inside_says _ _ h s in user_data_lawful e octets i.0 h i.2

just_lawful : (value h : Heard) → kind_of value ≤ 6 → (says_just value).says h → IsLawfulHeard h
just_lawful value h most s = other_lawful h (kind_of value) (just_kind value h s) most

said_lawful : (e : Expecting) (octets : List ℕ) (spdu : Spdu) (h : Heard)
    → (said_in_turn e octets spdu).says h → IsLawfulHeard h
said_lawful e octets (spdus.Connect presented body) h s =
    let a = allowed (spdu_may_come e.side e.phase (spdus.Connect presented body)) _ _ h s in
    other_lawful h 0 (connect_kind octets presented body h a.1) (omega arith)
said_lawful e octets (spdus.Accept presented body) h s =
    let a = allowed (spdu_may_come e.side e.phase (spdus.Accept presented body)) _ _ h s in
    other_lawful h 1 (accept_kind e octets body h a.1) (omega arith)
said_lawful e octets spdus.Refuse h s =
    let a = allowed (spdu_may_come e.side e.phase spdus.Refuse) _ _ h s in
    just_lawful heards.Refuse h (omega arith) a.1
said_lawful e octets (spdus.Carry body) h s =
    let a = allowed (spdu_may_come e.side e.phase (spdus.Carry body)) _ _ h s in
    carry_lawful e octets body h a.1
said_lawful e octets spdus.Finish h s =
    let a = allowed (spdu_may_come e.side e.phase spdus.Finish) _ _ h s in
    just_lawful heards.Finish h (omega arith) a.1
said_lawful e octets spdus.Disconnect h s =
    let a = allowed (spdu_may_come e.side e.phase spdus.Disconnect) _ _ h s in
    just_lawful heards.Disconnect h (omega arith) a.1
said_lawful e octets spdus.Abort h s = just_lawful heards.Abort h (omega arith) s
said_lawful e octets spdus.AbortAccept h s = just_lawful heards.AbortAccept h (omega arith) s

message_lawful : (e : Expecting) (octets : List ℕ) (h : Heard) → (message e octets).says h
    → IsLawfulHeard h
unfolding message
message_lawful e octets h s = let i = inside_says _ _ h s in said_lawful e octets i.0 h i.2

next_lawful : (role : Role) (before : List Arrival) (t : Arrival) (m : Message)
    → TellsNext role before t m → IsLawfulTold t
next_lawful role before (asked r) m s = tt
next_lawful role before (confirmed c) m s = tt
next_lawful role before gone m s = tt
next_lawful role before (heard h) (asks q) s = absurd s
next_lawful role before (heard h) (confirms c) s = absurd s
next_lawful role before (heard h) transport.gone s = absurd s
next_lawful role before (heard h) (tsdu place octets) s =
    message_lawful (expecting_after role before) octets h s

pub told_lawful : (role : Role) (before told : List Arrival) (messages : List Message)
    → SpellInTurn (TellsNext role) before told messages → All IsLawfulTold told
told_lawful role before [] messages s = All-nil IsLawfulTold
told_lawful role before (t ∷ told) [] s = absurd s
told_lawful role before (t ∷ told) (m ∷ messages) s =
    All-cons IsLawfulTold t told (next_lawful role before t m s.0)
    (told_lawful role (before ++ t ∷ []) told messages s.1)
