-- Where a transport stands in a stream, one TPKT after another.
use Rattle.std.proofs.Common.{◌≡◌, ℕ, ◌+◌, true, false, List, [], ◌∷◌, ◌++◌, length, drop, Some}
use Rattle.std.proofs.Common.{None, refl, sym, ap, subst, ◌∙◌, arith, append_assoc}
use Rattle.std.specs.List.{AllByRecursion}
use Rattle.std.proofs.lemmas.List.{drop_at, length-append, append-nil}
use Rattle.std.proofs.lemmas.List.Concat.{flat_map-append}
use Rattle.tpkt_cotp.specs.declared.fault.CotpFault.{CotpFault}
use Rattle.tpkt_cotp.specs.declared.turn.Role.{Role}
use Rattle.tpkt_cotp.specs.declared.turn.Role.TheVariants as roles
use Rattle.tpkt_cotp.specs.declared.turn.Turn.{Turn}
use Rattle.tpkt_cotp.specs.declared.turn.Turn.TheVariants as turns
use Rattle.tpkt_cotp.specs.declared.turn.Kind.TheVariants as kinds
use Rattle.tpkt_cotp.specs.Turns.{may_come}
use Rattle.tpkt_cotp.specs.Tpdus.{Tpdu, request, confirm, disconnect, part, SpellsTpkt}
use Rattle.tpkt_cotp.specs.Readings.{tpkt_in}
use Rattle.tpkt_cotp.specs.Streams.{Message, tsdu, stream_place, Section, IsSection, held_of, section_octets_of}
use Rattle.tpkt_cotp.specs.Streams.{Comes, message_of, part_after, SpellsMessage, SpellsMessages}
use Rattle.tpkt_cotp.specs.Streams.{turn_after, Stops}
use Rattle.tpkt_cotp.specs.Lines.{Line, Reads}
use Rattle.tpkt_cotp.specs.Steps.{StepsPart, StepsMessage, StepsBroken}
use Rattle.tpkt_cotp.proofs.Exact.{Begins}
use Rattle.tpkt_cotp.proofs.ExactTpkt.{tpkt_found}
use Rattle.tpkt_cotp.proofs.FaultReading.{fault_found}

pub stream_place-add : (a b : ℕ) → stream_place (stream_place a + b) ≡ stream_place (a + b)
stream_place-add a b = omega arith

placed_twice : (a : ℕ) → stream_place (stream_place a) ≡ stream_place a
placed_twice a = omega arith

pub message_of-placed : (at : ℕ) (held : List ℕ) (tpdu : Tpdu)
    → message_of (stream_place at) held tpdu ≡ message_of at held tpdu
message_of-placed at held (request r) = refl
message_of-placed at held (confirm c) = refl
message_of-placed at held disconnect = refl
message_of-placed at held (part true more) = ap (λ (place : ℕ). Some (tsdu place (held ++ more)))
    (placed_twice at)
message_of-placed at held (part false more) = refl

-- a TPDU that ends no message is a part
pub no_end : (at : ℕ) (held : List ℕ) (tpdu : Tpdu) → message_of at held tpdu ≡ None
    → (more : List ℕ) × (tpdu ≡ part false more)
no_end at held (request r) is = absurd cc
no_end at held (confirm c) is = absurd cc
no_end at held disconnect is = absurd cc
no_end at held (part true more) is = absurd cc
no_end at held (part false more) is = (more, refl)

-- a part comes behind the first TPDU alone
pub part_turn : (turn : Turn) → may_come turn kinds.Part ≡ true → turn ≡ turns.Transfer
part_turn (turns.Opening roles.Called) is = absurd cc
part_turn (turns.Opening roles.Calling) is = absurd cc
part_turn (turns.Opening roles.Either) is = absurd cc
part_turn turns.Transfer is = refl

pub turn_after-push : (turn : Turn) (given : List Message) (m : Message)
    → turn_after turn (given ++ m ∷ []) ≡ turns.Transfer
turn_after-push turn [] m = refl
turn_after-push turn (g ∷ given) m = refl

pub sections_push : (sections : List Section) (s : Section) → AllByRecursion IsSection sections
    → IsSection s → AllByRecursion IsSection (sections ++ s ∷ [])
sections_push [] s each one = (one, tt)
sections_push (t ∷ sections) s each one = (each.0, sections_push sections s each.1 one)

pub later : (given : List Message) → turn_after turns.Transfer given ≡ turns.Transfer
later [] = refl
later (g ∷ given) = refl

-- one message more
pub messages_push : (turn : Turn) (at : ℕ) (given : List Message) (m : Message)
    (whole more : List ℕ) → SpellsMessages turn at given whole
    → SpellsMessage (turn_after turn given) (at + length whole) m more
    → SpellsMessages turn at (given ++ m ∷ []) (whole ++ more)
messages_push turn at [] m whole more spelled one =
    let P : List ℕ → Type 0 = λ w. SpellsMessage turn (at + length w) m more in
    let none : SpellsMessage turn (at + 0) m more = subst P spelled one in
    let Q : ℕ → Type 0 = λ n. SpellsMessage turn n m more in
    let e : at + 0 ≡ at = omega arith in
    (more, [], ap (λ (w : List ℕ). w ++ more) spelled ∙ sym (append-nil more), subst Q e none, refl)
messages_push turn at (g ∷ given) m whole more spelled one =
    let first = spelled.0 in
    let rest = spelled.1 in
    let is : whole ≡ first ++ rest = spelled.2 in
    let P : Turn → Type 0 = λ t. SpellsMessage t (at + length whole) m more in
    let Q : ℕ → Type 0 = λ n. SpellsMessage (turn_after turns.Transfer given) n m more in
    let place : at + length whole ≡ at + length first + length rest = let l = ap length is in let n
    = length-append first rest in omega (arith, l, n) in (
      first,
      rest ++ more,
      ap (λ (w : List ℕ). w ++ more) is ∙ append_assoc first rest more,
      spelled.3,
      messages_push turns.Transfer (at + length first) given m rest more spelled.4
          (subst Q place (subst P (sym (later given)) one)),
    )

pub held_push : (sections : List Section) (s : Section)
    → held_of (sections ++ s ∷ []) ≡ held_of sections ++ s.held
held_push sections s = flat_map-append (λ (t : Section). t.held) sections (s ∷ [])
    ∙ ap (λ (os : List ℕ). held_of sections ++ os) (append-nil s.held)

pub octets_push : (sections : List Section) (s : Section)
    → section_octets_of (sections ++ s ∷ []) ≡ section_octets_of sections ++ s.octets
octets_push sections s = flat_map-append (λ (t : Section). t.octets) sections (s ∷ [])
    ∙ ap (λ (os : List ℕ). section_octets_of sections ++ os) (append-nil s.octets)

-- what is left behind a TPKT
left : (octets spelling rest : List ℕ) (size : ℕ) → octets ≡ spelling ++ rest
    → size ≡ length spelling → drop size octets ≡ rest
left octets spelling rest size is n = ap (λ (os : List ℕ). drop size os) is
    ∙ drop_at spelling rest size (sym n)

pub stands_part : (role : Role) (heard : List ℕ) (given : List Message) (old new : Line)
    → Reads role heard given old → StepsPart old new → Reads role heard given new
stands_part role heard given old new r s =
    let b : Begins old.turn (length old.held) old.unread s.tpkt = tpkt_found old.turn
    (length old.held) old.unread s.tpkt s.read in
    let p = no_end old.start old.held s.tpkt.tpdu s.ends in
    let more = p.0 in
    let section : Section = record { held = more; octets = b.spelling } in
    let spelled : IsSection section = subst (λ (t : Tpdu). SpellsTpkt t b.spelling) p.1 b.spelled in
    let comes : Comes old.turn (length old.held) (part false more) = subst
    (λ (t : Tpdu). Comes old.turn (length old.held) t) p.1 b.comes in
    let transfer : old.turn ≡ turns.Transfer = part_turn old.turn comes.order in
    let held : held_of (r.sections ++ section ∷ []) ≡ held_of r.sections ++ more = held_push
    r.sections section in
    let octets : section_octets_of (r.sections ++ section ∷ []) ≡ section_octets_of r.sections ++ b.spelling =
    octets_push r.sections section in
    let turn : turn_after (turns.Opening role) given ≡ turns.Transfer = sym r.turn_is ∙ transfer in
    let after : part_after old.held s.tpkt.tpdu ≡ old.held ++ more = ap
    (λ (t : Tpdu). part_after old.held t) p.1 in
    let unread : new.unread ≡ b.rest = ap (λ (l : Line). l.unread) s.is
    ∙ left old.unread b.spelling b.rest s.tpkt.size b.is b.size in
    record {
      whole = r.whole;
      pending = r.pending;
      sections = r.sections ++ section ∷ [];
      is = r.is;
      spelled = r.spelled;
      opens = record {
        each = sections_push r.sections section r.opens.each spelled;
        order = λ some. turn;
        within = let l = ap length held in let m = length-append (held_of r.sections) more in let n
            = ap length r.held_is in omega (arith, l, m, n, comes.fits.0);
        is = r.opens.is ∙ ap (λ (os : List ℕ). section_octets_of r.sections ++ os)
            (b.is ∙ ap (λ (os : List ℕ). b.spelling ++ os) (sym unread))
            ∙ sym (append_assoc (section_octets_of r.sections) b.spelling new.unread)
            ∙ ap (λ (os : List ℕ). os ++ new.unread) (sym octets);
      };
      turn_is = ap (λ (l : Line). l.turn) s.is ∙ sym turn;
      held_is = ap (λ (l : Line). l.held) s.is ∙ after ∙ ap (λ (os : List ℕ). os ++ more) r.held_is
          ∙ sym held;
      start_is = ap (λ (l : Line). l.start) s.is ∙ r.start_is;
      place_is =
          let at : stream_place (old.place + s.tpkt.size) ≡ stream_place
          (length r.whole + length (section_octets_of r.sections) + s.tpkt.size) = ap
          (λ (n : ℕ). stream_place (n + s.tpkt.size)) r.place_is
          ∙ stream_place-add (length r.whole + length (section_octets_of r.sections)) s.tpkt.size in
          let e : length r.whole + length (section_octets_of r.sections) + s.tpkt.size ≡ length r.whole +
          length (section_octets_of (r.sections ++ section ∷ [])) = let l = ap length octets in let m =
          length-append (section_octets_of r.sections) b.spelling in omega (arith, l, m, b.size) in
          ap (λ (l : Line). l.place) s.is ∙ at ∙ ap stream_place e;
    }

pub stands_message : (role : Role) (heard : List ℕ) (given : List Message) (old new : Line)
    (m : Message) → Reads role heard given old → StepsMessage old m new
    → Reads role heard (given ++ m ∷ []) new
stands_message role heard given old new m r s =
    let b : Begins old.turn (length old.held) old.unread s.tpkt = tpkt_found old.turn
    (length old.held) old.unread s.tpkt s.read in
    let turn = turn_after (turns.Opening role) given in
    let first : List ℕ = section_octets_of r.sections ++ b.spelling in
    let unread : new.unread ≡ b.rest = ap (λ (l : Line). l.unread) s.is
    ∙ left old.unread b.spelling b.rest s.tpkt.size b.is b.size in
    let comes : Comes turn (length (held_of r.sections)) s.tpkt.tpdu = subst
    (λ (h : List ℕ). Comes turn (length h) s.tpkt.tpdu) r.held_is
    (subst (λ (t : Turn). Comes t (length old.held) s.tpkt.tpdu) r.turn_is b.comes) in
    let ends : message_of (length r.whole) (held_of r.sections) s.tpkt.tpdu ≡ Some m =
    sym (message_of-placed (length r.whole) (held_of r.sections) s.tpkt.tpdu)
    ∙ ap (λ (n : ℕ). message_of n (held_of r.sections) s.tpkt.tpdu) (sym r.start_is)
    ∙ ap (λ (h : List ℕ). message_of old.start h s.tpkt.tpdu) (sym r.held_is)
    ∙ s.ends in
    let one : SpellsMessage turn (length r.whole) m first = record {
      sections = r.sections;
      last = b.spelling;
      tpdu = s.tpkt.tpdu;
      opens = record {
        each = r.opens.each;
        order = r.opens.order;
        within = r.opens.within;
        is = refl;
      };
      spelled = b.spelled;
      comes = comes;
      ends = ends;
    } in
    let pending : r.pending ≡ first ++ b.rest = r.opens.is
    ∙ ap (λ (os : List ℕ). section_octets_of r.sections ++ os) b.is
    ∙ sym (append_assoc (section_octets_of r.sections) b.spelling b.rest) in
    let size : length (r.whole ++ first) ≡ length r.whole + length (section_octets_of r.sections) +
    s.tpkt.size = let l = length-append r.whole first in let n = length-append
    (section_octets_of r.sections) b.spelling in omega (arith, l, n, b.size) in
    let at : stream_place (old.place + s.tpkt.size) ≡ stream_place (length (r.whole ++ first)) = ap
    (λ (n : ℕ). stream_place (n + s.tpkt.size)) r.place_is
    ∙ stream_place-add (length r.whole + length (section_octets_of r.sections)) s.tpkt.size
    ∙ ap stream_place (sym size) in
    record {
      whole = r.whole ++ first;
      pending = b.rest;
      sections = [];
      is = r.is ∙ ap (λ (os : List ℕ). r.whole ++ os) pending
          ∙ sym (append_assoc r.whole first b.rest);
      spelled = let P : ℕ → Type 0 = λ n. SpellsMessage turn n m first in let e : length r.whole ≡
          0 + length r.whole = omega arith in messages_push (turns.Opening role) 0 given m r.whole
          first r.spelled (subst P e one);
      opens = record {
        each = tt;
        order = λ none. absurd (omega arith);
        within = omega arith;
        is = sym unread;
      };
      turn_is = ap (λ (l : Line). l.turn) s.is ∙ sym (turn_after-push (turns.Opening role) given m);
      held_is = ap (λ (l : Line). l.held) s.is;
      start_is = ap (λ (l : Line). l.start) s.is ∙ at;
      place_is = let e : length (r.whole ++ first) + 0 ≡ length (r.whole ++ first) = omega arith in
          ap (λ (l : Line). l.place) s.is ∙ at ∙ ap stream_place (sym e);
    }

abbrev faulted : ℕ → CotpFault → CotpFault
faulted place f = record { place = place; why = f.why }

pub stands_broken : (role : Role) (heard : List ℕ) (given : List Message) (old new : Line)
    (f : CotpFault) → Reads role heard given old → StepsBroken old f new → Stops role heard given f
stands_broken role heard given old new f r s =
    let turn = turn_after (turns.Opening role) given in
    record {
      whole = r.whole;
      rest = r.pending;
      is = r.is;
      spelled = r.spelled;
      breaks = record {
        sections = r.sections;
        rest = old.unread;
        opens = r.opens;
        broken = s.broken;
        breaks = fault_found turn (length (held_of r.sections)) old.unread s.broken
            (ap (λ (t : Turn). tpkt_in t (length (held_of r.sections)) old.unread) (sym r.turn_is)
            ∙ ap (λ (h : List ℕ). tpkt_in old.turn (length h) old.unread) (sym r.held_is) ∙ s.read);
        is = s.fault ∙ ap (λ (n : ℕ). faulted n s.broken)
            (ap (λ (n : ℕ). stream_place (n + s.broken.place)) r.place_is
            ∙ stream_place-add (length r.whole + length (section_octets_of r.sections)) s.broken.place);
      };
    }
