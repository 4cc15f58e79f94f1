-- What a transport answers is right.
use Rattle.std.proofs.Common.{◌≡◌, ℕ, ◌<◌, ◌≤◌, true, false, List, [], ◌∷◌, ◌++◌, length, take, drop, Option}
use Rattle.std.proofs.Common.{Some, None, MatchOption, Ok, Err, sym, ap, subst, ◌∙◌, arith}
use Rattle.std.proofs.Common.{append_assoc}
use Rattle.std.proofs.lemmas.List.{length-append, length-drop, length-take, take-append-le}
use Rattle.tpkt_cotp.specs.declared.fault.CotpFault.{CotpFault}
use Rattle.tpkt_cotp.specs.declared.limits.TheConstants.{TSDU_LIMIT}
use Rattle.tpkt_cotp.specs.declared.message.TransportIn.{TransportIn}
use Rattle.tpkt_cotp.specs.declared.turn.Role.{Role}
use Rattle.tpkt_cotp.specs.declared.turn.Turn.{Turn}
use Rattle.tpkt_cotp.specs.declared.turn.Turn.TheVariants as turns
use Rattle.tpkt_cotp.specs.Tpdus.{Tpdu, request, confirm, disconnect, part, Tpkt, SpellsTpkt}
use Rattle.tpkt_cotp.specs.Readings.{tpkt_in}
use Rattle.tpkt_cotp.specs.Streams.{Message, Section, held_of, section_octets_of, Opens, BreaksRule}
use Rattle.tpkt_cotp.specs.Streams.{turn_after, Stops, part_after, IsPartial, message_of, MayComeAfter}
use Rattle.tpkt_cotp.specs.Sound.{IsSoundTpdu, IsSoundMessage}
use Rattle.tpkt_cotp.specs.Seen.{message_seen}
use Rattle.tpkt_cotp.specs.Lines.{Line, Reads, Stands, IsLineSettled, IsTransportAnswer, fed}
use Rattle.tpkt_cotp.specs.Steps.{StepsPart, StepsMessage, StepsNowhere, StepsBroken}
use Rattle.tpkt_cotp.proofs.Exact.{Begins}
use Rattle.tpkt_cotp.proofs.ExactTpkt.{tpkt_found}
use Rattle.tpkt_cotp.proofs.Cuts.{sound_of}
use Rattle.tpkt_cotp.proofs.Stays.{tpkt_broken}
use Rattle.tpkt_cotp.proofs.FaultReading.{fault_found}
use Rattle.tpkt_cotp.proofs.FaultFirst.{fault_first}
use Rattle.tpkt_cotp.proofs.Standing.{no_end, stands_message, stands_broken}
use Rattle.tpkt_cotp.proofs.OneReading.{rest_from, partial_from}
use Rattle.tpkt_cotp.proofs.LineLemmas.{line}

-- parts of a TSDU stay, whatever follows
pub opens_more : (turn : Turn) (octets rest more : List ℕ) (sections : List Section)
    → Opens turn sections octets rest → Opens turn sections (octets ++ more) (rest ++ more)
opens_more turn octets rest more sections o = record {
  each = o.each;
  order = o.order;
  within = o.within;
  is = ap (λ (os : List ℕ). os ++ more) o.is
      ∙ append_assoc (section_octets_of sections) rest more;
}

-- a broken rule stays broken, whatever follows
pub breaks_more : (turn : Turn) (at : ℕ) (octets more : List ℕ) (f : CotpFault)
    → BreaksRule turn at octets f → BreaksRule turn at (octets ++ more) f
breaks_more turn at octets more f b = record {
  sections = b.sections;
  rest = b.rest ++ more;
  opens = opens_more turn octets b.rest more b.sections b.opens;
  broken = b.broken;
  breaks = fault_found turn (length (held_of b.sections)) (b.rest ++ more) b.broken
      (tpkt_broken turn (length (held_of b.sections)) b.rest more b.broken
      (fault_first turn (length (held_of b.sections)) b.rest b.broken b.breaks));
  is = b.is;
}

pub stops_more : (role : Role) (heard more : List ℕ) (given : List Message) (f : CotpFault)
    → Stops role heard given f → Stops role (heard ++ more) given f
stops_more role heard more given f s = record {
  whole = s.whole;
  rest = s.rest ++ more;
  is = ap (λ (os : List ℕ). os ++ more) s.is ∙ append_assoc s.whole s.rest more;
  spelled = s.spelled;
  breaks = breaks_more (turn_after (turns.Opening role) given) (length s.whole) s.rest more f
      s.breaks;
}

fed_stands : (role : Role) (heard piece : List ℕ) (given : List Message) (turn : Turn)
    (place start : ℕ) (held unread : List ℕ) (fault : Option CotpFault)
    → Stands role heard given (line turn place start held unread fault)
    → Stands role (heard ++ piece) given (fed (line turn place start held unread fault) piece)
fed_stands role heard piece given turn place start held unread None r = record {
  whole = r.whole;
  pending = r.pending ++ piece;
  sections = r.sections;
  is = ap (λ (os : List ℕ). os ++ piece) r.is ∙ append_assoc r.whole r.pending piece;
  spelled = r.spelled;
  opens = opens_more (turn_after (turns.Opening role) given) r.pending unread piece r.sections
      r.opens;
  turn_is = r.turn_is;
  held_is = r.held_is;
  start_is = r.start_is;
  place_is = r.place_is;
}
fed_stands role heard piece given turn place start held unread (Some f) s =
    (stops_more role heard piece given f s.0, s.1)

pub stands_fed : (role : Role) (heard piece : List ℕ) (given : List Message) (old new : Line)
    → Stands role heard given old → new ≡ fed old piece → Stands role (heard ++ piece) given new
stands_fed role heard piece given old new s is =
    let P : Line → Type 0 = Stands role (heard ++ piece) given in
    subst P (sym is) (fed_stands role heard piece given old.turn old.place old.start old.held
    old.unread old.fault s)

-- without a fault
pub stands_of : (role : Role) (heard : List ℕ) (given : List Message) (t : Line) → t.fault ≡ None
    → Reads role heard given t → Stands role heard given t
stands_of role heard given t none r = subst
    (λ (o : Option CotpFault). MatchOption o (Reads role heard given t)
    (λ f. Stops role heard given f × (t.unread ≡ []))) (sym none) r

pub reads_of : (role : Role) (heard : List ℕ) (given : List Message) (t : Line) → t.fault ≡ None
    → Stands role heard given t → Reads role heard given t
reads_of role heard given t none s = subst
    (λ (o : Option CotpFault). MatchOption o (Reads role heard given t)
    (λ f. Stops role heard given f × (t.unread ≡ []))) none s

pub answers_message : (role : Role) (heard : List ℕ) (given : List Message) (old new : Line)
    (m : TransportIn) → old.fault ≡ None → Reads role heard given old
    → StepsMessage old (message_seen m) new → IsTransportAnswer role heard given (Ok (Some m)) new
answers_message role heard given old new m none r s = stands_of role heard
    (given ++ message_seen m ∷ []) new (ap (λ (l : Line). l.fault) s.is ∙ none)
    (stands_message role heard given old new (message_seen m) r s)

pub settled_of : (t : Line) → t.fault ≡ None → length t.unread ≤ 65534
    → tpkt_in t.turn (length t.held) t.unread ≡ Ok None → IsLineSettled t
settled_of t none few read = (
  few,
  subst (λ (o : Option CotpFault). MatchOption o
      (IsPartial t.turn (length t.held) t.unread) (λ _. t.unread ≡ [])) (sym none)
      (partial_from t.turn (length t.held) t.unread read),
)

stopped_of : (t : Line) (f : CotpFault) → t.fault ≡ Some f → t.unread ≡ [] → IsLineSettled t
stopped_of t f some none = (
  let l = ap length none in omega (arith, l),
  subst (λ (o : Option CotpFault). MatchOption o
      (IsPartial t.turn (length t.held) t.unread) (λ _. t.unread ≡ [])) (sym some) none,
)

pub answers_rest : (role : Role) (heard : List ℕ) (given : List Message) (old new : Line)
    → old.fault ≡ None → Reads role heard given old → StepsNowhere old new
    → IsTransportAnswer role heard given (Ok None) new
answers_rest role heard given old new none r s =
    let P : Line → Type 0 = IsTransportAnswer role heard given (Ok None) in
    let turn = turn_after (turns.Opening role) given in
    let read : tpkt_in turn (length (held_of r.sections)) old.unread ≡ Ok None = ap
    (λ (t : Turn). tpkt_in t (length (held_of r.sections)) old.unread) (sym r.turn_is)
    ∙ ap (λ (h : List ℕ). tpkt_in old.turn (length h) old.unread) (sym r.held_is) ∙ s.read in
    subst P (sym s.is) (
      stands_of role heard given old none r,
      (
        r.pending,
        record {
          whole = r.whole;
          is = r.is;
          spelled = r.spelled;
          remains = rest_from turn (length r.whole) r.pending r.sections old.unread r.opens read;
        },
      ),
      settled_of old none s.few s.read,
    )

pub answers_stopped : (role : Role) (heard : List ℕ) (given : List Message) (t : Line)
    (f : CotpFault) → t.fault ≡ Some f → t.unread ≡ [] → Stops role heard given f
    → IsTransportAnswer role heard given (Err f) t
answers_stopped role heard given t f some none stops = (
  subst (λ (o : Option CotpFault). MatchOption o (Reads role heard given t)
      (λ f. Stops role heard given f × (t.unread ≡ []))) (sym some) (stops, none),
  stops,
  stopped_of t f some none,
)

pub answers_broken : (role : Role) (heard : List ℕ) (given : List Message) (old new : Line)
    (f : CotpFault) → Reads role heard given old → StepsBroken old f new
    → IsTransportAnswer role heard given (Err f) new
answers_broken role heard given old new f r s = answers_stopped role heard given new f
    (ap (λ (l : Line). l.fault) s.is) (ap (λ (l : Line). l.unread) s.is)
    (stands_broken role heard given old new f r s)

-- the same fault again
pub answers_again : (role : Role) (heard : List ℕ) (given : List Message) (t : Line)
    (f : CotpFault) → t.fault ≡ Some f → Stands role heard given t
    → IsTransportAnswer role heard given (Err f) t
answers_again role heard given t f some s =
    let both : Stops role heard given f × (t.unread ≡ []) = subst
    (λ (o : Option CotpFault). MatchOption o (Reads role heard given t)
    (λ f. Stops role heard given f × (t.unread ≡ []))) some s in
    answers_stopped role heard given t f some both.1 both.0

abbrev IsSoundAnswer : Option Message → Type 0
IsSoundAnswer (Some m) = IsSoundMessage m
IsSoundAnswer None = Unit {0}

-- each TPKT has octets
pub tpkt_some : (tpdu : Tpdu) (octets : List ℕ) → SpellsTpkt tpdu octets → 0 < length octets
tpkt_some (request r) octets s = let l = ap length s.1.is in omega (arith, l)
tpkt_some (confirm c) octets s = let l = ap length s.is in omega (arith, l)
tpkt_some disconnect octets s = let l = ap length s.is in omega (arith, l)
tpkt_some (part last held) octets s = let l = ap length s.is in omega (arith, l)

unread_shorter : (old : Line) (p : Tpkt) (unread : List ℕ)
    → Begins old.turn (length old.held) old.unread p → unread ≡ drop p.size old.unread
    → length unread < length old.unread
unread_shorter old p unread b is =
    let some : 0 < length b.spelling = tpkt_some p.tpdu b.spelling b.spelled in
    let m = ap length b.is in
    let n = length-append b.spelling b.rest in
    let u = ap length is in
    let d = length-drop p.size old.unread in
    omega (arith, m, n, u, d, b.size)

pub steps_shorter : (old new : Line) → StepsPart old new → length new.unread < length old.unread
steps_shorter old new s = unread_shorter old s.tpkt new.unread
    (tpkt_found old.turn (length old.held) old.unread s.tpkt s.read)
    (ap (λ (l : Line). l.unread) s.is)

pub message_shorter : (old new : Line) (m : Message) → StepsMessage old m new
    → length new.unread < length old.unread
message_shorter old new m s = unread_shorter old s.tpkt new.unread
    (tpkt_found old.turn (length old.held) old.unread s.tpkt s.read)
    (ap (λ (l : Line). l.unread) s.is)

-- what is handed out may be answered, and a TSDU is within the limit
sound_end : (at : ℕ) (held : List ℕ) (tpdu : Tpdu) (m : Message) → IsSoundTpdu tpdu
    → MayComeAfter (length held) tpdu → message_of at held tpdu ≡ Some m → IsSoundMessage m
sound_end at held (request r) m sound fits is = subst IsSoundAnswer is sound
sound_end at held (confirm c) m sound fits is = subst IsSoundAnswer is sound
sound_end at held disconnect m sound fits is = subst IsSoundAnswer is tt
sound_end at held (part true more) m sound fits is =
    let n = length-append held more in
    let few : length (held ++ more) ≤ TSDU_LIMIT = omega (arith, n, fits.0) in
    subst IsSoundAnswer is few
sound_end at held (part false more) m sound fits is = absurd cc

pub message_sound : (old new : Line) (m : Message) → StepsMessage old m new → IsSoundMessage m
message_sound old new m s =
    let b = tpkt_found old.turn (length old.held) old.unread s.tpkt s.read in
    sound_end old.start old.held s.tpkt.tpdu m (sound_of s.tpkt.tpdu b.spelling b.spelled)
    b.comes.fits s.ends

pub clear_part : (old new : Line) → old.fault ≡ None → StepsPart old new → new.fault ≡ None
clear_part old new none s = ap (λ (l : Line). l.fault) s.is ∙ none

-- what was held is held in front of a part
pub begins_part : (before : List ℕ) (old new : Line) → take (length before) old.held ≡ before
    → StepsPart old new → take (length before) new.held ≡ before
begins_part before old new begins s =
    let more = (no_end old.start old.held s.tpkt.tpdu s.ends).0 in
    let is : new.held ≡ old.held ++ more = ap (λ (l : Line). l.held) s.is
    ∙ ap (λ (t : Tpdu). part_after old.held t) (no_end old.start old.held s.tpkt.tpdu s.ends).1 in
    ap (λ (os : List ℕ). take (length before) os) is ∙ take-append-le (length before) old.held more
    (let e = ap length begins in let l = length-take (length before) old.held in omega (arith, e, l))
    ∙ begins
