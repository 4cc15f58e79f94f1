-- Octets tell one thing, and what follows adds to it.
use Rattle.std.proofs.Common.{◌≡◌, ℕ, List, [], ◌∷◌, ◌++◌, Option, Some, None, Result, Ok, Err}
use Rattle.std.proofs.Common.{MatchResult, refl, sym, ap, subst, ◌∙◌, ◌⊎◌, inl, inr, append_assoc}
use Rattle.std.specs.List.{filter_map}
use Rattle.std.proofs.lemmas.List.{append-nil}
use Rattle.std.proofs.lemmas.List.Elements.{filter_map-append}
use Rattle.tpkt_cotp.specs.Places.{End, left, stopped, messages_of, stream_in}
use Rattle.tpkt_cotp.specs.Streams.{Message, asks, confirms, tsdu}
use Rattle.tpkt_cotp.specs.Streams as transport
use Rattle.tpkt_cotp.proofs.Streaming.{left_says, stopped_stops}
use Rattle.stack_assoc.specs.declared.messages.fault.StackFault.{StackFault}
use Rattle.stack_assoc.specs.declared.messages.heard.Heard.{Heard}
use Rattle.stack_assoc.specs.Messages.Meanings.{IsReadAs}
use Rattle.stack_assoc.specs.Messages.Messages.{message}
use Rattle.stack_assoc.proofs.OfMessages.OneMessage.{message_read, one_message}
use Rattle.stack_assoc.specs.Fronts.{StartsWith}
use Rattle.stack_assoc.specs.InTurn.{SpellInTurn}
use Rattle.stack_assoc.specs.Arrivals.{Arrival, called, end_of}
use Rattle.stack_assoc.specs.Expectations.{expecting_after}
use Rattle.stack_assoc.specs.Handing.{stack_in, handed_out}
use Rattle.stack_assoc.specs.Tellings.{TellsNext, BreaksNext, Tell, transport_fault}
use Rattle.stack_assoc.proofs.FrontsKept.{said_front, stopped_front}
use Rattle.stack_assoc.proofs.StreamLaws.{above_of, tells_once, stops_once, never_both}
use Rattle.stack_assoc.proofs.StreamLaws.{told_stays, stopped_stays, fault_stays}
use Rattle.stack_assoc.proofs.TurnLaws.{BrokenTurn, broken_first, broken_later}
use Rattle.tase_conn.specs.Map.Readings.{Reading, arrival_heard, arrival_in, with_arrival, reading_behind}
use Rattle.tase_conn.specs.Map.Readings.{broken_at_end, reading_of, TellsReading}
use Rattle.tase_conn.specs.Map.Turns.{Turn, turn_in, fault_turns, turns_told}

abbrev pub reading : List Arrival → Option StackFault → Reading
reading told broken = record { told = told; broken = broken }

-- ---- what messages tell

-- what a message tells behind these, or the rule that it breaks
abbrev IsAnswer : List Arrival → Message → Result Arrival StackFault → Type 0
IsAnswer before m answer = MatchResult answer (λ t. TellsNext called before t m)
    (λ f. BreaksNext called before m f)

heard_answers : (before : List Arrival) (place : ℕ) (octets : List ℕ)
    (read : Result Heard StackFault)
    → IsReadAs (message (expecting_after called before) octets) read
    → IsAnswer before (tsdu place octets) (arrival_heard read)
heard_answers before place octets (Ok h) is = is.found
heard_answers before place octets (Err f) is = (is.fault f).0 refl

answers : (before : List Arrival) (m : Message) → IsAnswer before m (arrival_in before m)
answers before (asks request) = refl
answers before (confirms confirm) = refl
answers before transport.gone = tt
answers before (tsdu place octets) =
    let e = expecting_after called before in
    heard_answers before place octets (message e octets).reading (message_read e octets)

-- all messages tell what is read, or those before one that breaks a rule do
abbrev IsTold : List Arrival → Option StackFault → List Message → Reading → Type 0
IsTold before broken ms r =
    (SpellInTurn (TellsNext called) before r.told ms × (r.broken ≡ broken))
    ⊎ ((b : BrokenTurn {B = StackFault} (TellsNext called) (BreaksNext called) before ms)
    × (reading b.told (Some b.fault) ≡ r))

told_first : (before : List Arrival) (broken : Option StackFault) (m : Message)
    (ms : List Message) (others : Arrival → Reading) (answer : Result Arrival StackFault)
    → IsAnswer before m answer
    → ((t : Arrival) → IsTold (before ++ t ∷ []) broken ms (others t))
    → IsTold before broken (m ∷ ms) (with_arrival others answer)
told_first before broken m ms others (Ok t) is each = elim (each t) [
  | inl all ↦ inl ((is, all.0), all.1)
  | inr b ↦ inr (
    broken_later (TellsNext called) (BreaksNext called) before t m ms is b.0,
    ap (λ (r : Reading). record r { told = t ∷ r.told }) b.1,
  )
]
told_first before broken m ms others (Err f) is each =
    inr (broken_first (TellsNext called) (BreaksNext called) before m ms f is, refl)

told_behind : (before : List Arrival) (broken : Option StackFault) (ms : List Message)
    → IsTold before broken ms (reading_behind before broken ms)
told_behind before broken [] = inl (tt, refl)
told_behind before broken (m ∷ ms) =
    told_first before broken m ms (λ t. reading_behind (before ++ t ∷ []) broken ms)
    (arrival_in before m) (answers before m) (λ t. told_behind (before ++ t ∷ []) broken ms)

-- ---- what octets tell

abbrev FindsReading : List ℕ → Reading → Type 0
FindsReading octets r = TellsReading octets r.told r.broken

found_told : (octets : List ℕ) (broken : Option StackFault) (ms : List Message) (r : Reading)
    → StartsWith (end_of called) octets ms
    → ((told : List Arrival) → Tell called told ms → TellsReading octets told broken)
    → IsTold [] broken ms r → FindsReading octets r
found_told octets broken ms r starts all (inl s) =
    subst (λ (b : Option StackFault). TellsReading octets r.told b) (sym s.1) (all r.told s.0)
found_told octets broken ms r starts all (inr b) =
    subst (FindsReading octets) b.1 (inr (above_of called octets ms starts b.0))

found_at : (octets : List ℕ) (end : End) → (stream_in (end_of called) octets).end ≡ end
    → FindsReading octets (reading_behind [] (broken_at_end end)
    (messages_of (stream_in (end_of called) octets).messages))
found_at octets (left count) e =
    let ms : List Message = messages_of (stream_in (end_of called) octets).messages in
    let s = left_says (end_of called) octets count e in
    found_told octets None ms (reading_behind [] None ms)
    (said_front (end_of called) octets s.0 ms s.1)
    (λ told t. (s.0, record { messages = ms; said = s.1; tell = t })) (told_behind [] None ms)
found_at octets (stopped f) e =
    let ms : List Message = messages_of (stream_in (end_of called) octets).messages in
    let s = stopped_stops (end_of called) octets f e in
    let broken : Option StackFault = Some (transport_fault f) in
    found_told octets broken ms (reading_behind [] broken ms)
    (stopped_front (end_of called) octets ms f s)
    (λ told t. inl (record { messages = ms; broken = f; stops = s; tell = t; is = refl }))
    (told_behind [] broken ms)

-- what is read of octets is what they tell
pub reading_found : (octets : List ℕ)
    → TellsReading octets (reading_of octets).told (reading_of octets).broken
unfolding reading_of
reading_found octets = found_at octets (stream_in (end_of called) octets).end refl

told_alike : (octets : List ℕ) (one told : List Arrival) (broken now : Option StackFault)
    → TellsReading octets one broken → TellsReading octets told now
    → reading one broken ≡ reading told now
told_alike octets one told None None r s = ap (λ (ts : List Arrival). reading ts None)
    (tells_once one_message called octets one told r.0 s.0 r.1 s.1).0
told_alike octets one told None (Some fault) r s =
    absurd (never_both one_message called octets one told r.0 fault r.1 s)
told_alike octets one told (Some f) None r s =
    absurd (never_both one_message called octets told one s.0 f s.1 r)
told_alike octets one told (Some f) (Some fault) r s =
    let e = stops_once one_message called octets one told f fault r s in
    ap (λ (ts : List Arrival). reading ts (Some f)) e.0
    ∙ ap (λ (g : StackFault). reading told (Some g)) e.1

-- and nothing else is
pub reading_only : (octets : List ℕ) (told : List Arrival) (broken : Option StackFault)
    → TellsReading octets told broken → reading_of octets ≡ reading told broken
reading_only octets told broken r = told_alike octets (reading_of octets).told told
    (reading_of octets).broken broken (reading_found octets) r

-- ---- what follows

abbrev pub Continues : List Turn → List Turn → Type 0
Continues front whole = (others : List Turn) × (whole ≡ front ++ others)

more_turns : (told later others : List Arrival) (broken : Option StackFault)
    → later ≡ told ++ others
    → Continues (turns_told (reading told None)) (turns_told (reading later broken))
more_turns told later others broken e = (
  filter_map turn_in (handed_out others) ++ fault_turns broken,
  ap (λ (ts : List Arrival). filter_map turn_in (handed_out ts) ++ fault_turns broken) e
      ∙ ap (λ (ms : List _). filter_map turn_in ms ++ fault_turns broken)
      (filter_map-append stack_in told others)
      ∙ ap (λ (ts : List Turn). ts ++ fault_turns broken)
      (filter_map-append turn_in (handed_out told) (handed_out others))
      ∙ append_assoc (filter_map turn_in (handed_out told)) (filter_map turn_in (handed_out others))
      (fault_turns broken)
      ∙ sym (ap (λ (ts : List Turn). ts
      ++ (filter_map turn_in (handed_out others) ++ fault_turns broken))
      (append-nil (filter_map turn_in (handed_out told)))),
)

grown : (text more : List ℕ) (told later : List Arrival) (broken now : Option StackFault)
    → TellsReading text told broken → TellsReading (text ++ more) later now
    → Continues (turns_told (reading told broken)) (turns_told (reading later now))
grown text more told later None None r s =
    let e = told_stays one_message called text more told later r.0 s.0 r.1 s.1 in
    more_turns told later e.0 None e.1
grown text more told later None (Some fault) r s =
    let e = stopped_stays one_message called text more told later r.0 fault r.1 s in
    more_turns told later e.0 (Some fault) e.1
grown text more told later (Some fault) now r s =
    let same : reading_of (text ++ more) ≡ reading told (Some fault) =
    reading_only (text ++ more) told (Some fault)
    (fault_stays called text more told fault r) in
    let other : reading_of (text ++ more) ≡ reading later now =
    reading_only (text ++ more) later now s in (
      [],
      ap (λ (x : Reading). turns_told x) (sym other ∙ same)
          ∙ sym (append-nil (turns_told (reading told (Some fault)))),
    )

-- a text with more behind it tells what it told, and then more
pub turns_go_on : (text more : List ℕ)
    → Continues (turns_told (reading_of text)) (turns_told (reading_of (text ++ more)))
turns_go_on text more =
    grown text more (reading_of text).told (reading_of (text ++ more)).told
    (reading_of text).broken (reading_of (text ++ more)).broken (reading_found text)
    (reading_found (text ++ more))
