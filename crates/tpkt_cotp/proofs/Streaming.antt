-- What a stream is told to be holds of its octets, and of them alone.
use Rattle.std.proofs.Common.{◌≡◌, ℕ, zero, suc, ◌+◌, ◌-◌, ◌<◌, List, [], ◌∷◌, ◌++◌, length, drop}
use Rattle.std.proofs.Common.{Option, Some, None, Ok, Err, refl, sym, ap, subst, ◌∙◌, arith}
use Rattle.std.proofs.Common.{append_assoc}
use Rattle.std.proofs.lemmas.List.{length-append, drop_at}
use Rattle.tpkt_cotp.specs.declared.fault.CotpFault.{CotpFault}
use Rattle.tpkt_cotp.specs.declared.turn.Role.{Role}
use Rattle.tpkt_cotp.specs.declared.turn.Turn.{Turn}
use Rattle.tpkt_cotp.specs.declared.turn.Turn.TheVariants as turns
use Rattle.tpkt_cotp.specs.Tpdus.{Tpkt}
use Rattle.tpkt_cotp.specs.Readings.{Read, tpkt_in}
use Rattle.tpkt_cotp.specs.Streams.{Message, Section, stream_place, held_of, section_octets_of, Opens, message_of}
use Rattle.tpkt_cotp.specs.Streams.{part_after, SpellsMessage, SpellsMessages}
use Rattle.tpkt_cotp.specs.Streams.{turn_after, Says, Stops}
use Rattle.tpkt_cotp.specs.Places.{Placed, End, left, stopped, Stream, messages_of, SpellsPlaced}
use Rattle.tpkt_cotp.specs.Places.{EndsWith, IsStream, ended, with_message, behind_tpkt, by_tpkt}
use Rattle.tpkt_cotp.specs.Places.{stream_from, stream_in}
use Rattle.tpkt_cotp.proofs.Exact.{Begins}
use Rattle.tpkt_cotp.proofs.ExactTpkt.{tpkt_found}
use Rattle.tpkt_cotp.proofs.FaultReading.{fault_found}
use Rattle.tpkt_cotp.proofs.Standing.{later, stream_place-add, message_of-placed, held_push}
use Rattle.tpkt_cotp.proofs.Standing.{octets_push, no_end}
use Rattle.tpkt_cotp.proofs.OneReading.{rest_from}
use Rattle.tpkt_cotp.proofs.OneStream.{one_message, one_fault, SameStream, same_stream, at_zero}
use Rattle.tpkt_cotp.proofs.OneStream.{NoMessage, fault_no_message, says_or_stops, says_once}
use Rattle.tpkt_cotp.proofs.OneStream.{stops_once}
use Rattle.tpkt_cotp.proofs.Answering.{tpkt_some}
use Rattle.tpkt_cotp.proofs.Always.{opens_part}
use Rattle.tpkt_cotp.proofs.Going.{goes_behind, stream_from-read}

abbrev faulted : ℕ → CotpFault → CotpFault
faulted place f = record { place = place; why = f.why }

abbrev placed : Message → ℕ → ℕ → Placed
placed m place next = record { message = m; place = place; next = next }

abbrev stream : List Placed → End → Stream
stream ps end = record { messages = ps; end = end }

-- from a place on
record Tells (turn : Turn) (at : ℕ) (octets : List ℕ) (s : Stream) : Type 0 where
  pub whole : List ℕ
  pub rest : List ℕ
  pub is : octets ≡ whole ++ rest
  pub spelled : SpellsPlaced turn at s.messages whole
  pub ends : EndsWith (turn_after turn (messages_of s.messages)) (at + length whole) rest s.end

tells_none : (turn : Turn) (at : ℕ) (octets : List ℕ) (end : End) → EndsWith turn at octets end
    → Tells turn at octets (ended end)
tells_none turn at octets end ends =
    let e : at ≡ at + 0 = omega arith in
    record {
      whole = [];
      rest = octets;
      is = refl;
      spelled = refl;
      ends = subst (λ (n : ℕ). EndsWith turn n octets end) e ends;
    }

tells_then : (turn : Turn) (at : ℕ) (octets first rest : List ℕ) (p : Placed) (s : Stream)
    → octets ≡ first ++ rest → SpellsMessage turn at p.message first → p.place ≡ stream_place at
    → p.next ≡ stream_place (at + length first) → Tells turns.Transfer (at + length first) rest s
    → Tells turn at octets (with_message p s)
tells_then turn at octets first rest p s is one place next t =
    let l = length-append first t.whole in
    let n : at + length first + length t.whole ≡ at + length (first ++ t.whole) = omega (arith, l)
    in
    record {
      whole = first ++ t.whole;
      rest = t.rest;
      is = is ∙ ap (λ (os : List ℕ). first ++ os) t.is ∙ sym (append_assoc first t.whole t.rest);
      spelled = (first, t.whole, refl, one, place, next, t.spelled);
      ends = subst (λ (k : ℕ). EndsWith turns.Transfer k t.rest s.end) n
          (subst (λ (u : Turn). EndsWith u (at + length first + length t.whole) t.rest s.end)
          (later (messages_of s.messages)) t.ends);
    }

-- a stream from where it stands behind parts of a TSDU
abbrev from_parts : Turn → ℕ → List Section → List ℕ → Stream
from_parts turn at sections rest = stream_from turn (stream_place at)
    (stream_place (at + length (section_octets_of sections))) (held_of sections) 0 rest

-- with shorter octets done
abbrev Done : ℕ → Type 0
Done n = (turn : Turn) (at : ℕ) (sections : List Section) (octets rest : List ℕ)
    → Opens turn sections octets rest → length rest < n
    → Tells turn at octets (from_parts turn at sections rest)

nothing_opened : (turn : Turn) (octets : List ℕ) → Opens turn [] octets octets
nothing_opened turn octets = record {
  each = tt;
  order = λ none. absurd (omega arith);
  within = omega arith;
  is = refl;
}

module _ (n : ℕ) (done : Done n) (turn : Turn) (at : ℕ) (sections : List Section)
    (octets rest : List ℕ) (o : Opens turn sections octets rest) (few : length rest < suc n) where
  behind_place : (p : Tpkt) (b : Begins turn (length (held_of sections)) rest p)
      → stream_place (stream_place (at + length (section_octets_of sections)) + p.size)
      ≡ stream_place (at + length (section_octets_of sections ++ b.spelling))
  behind_place p b =
      let l = length-append (section_octets_of sections) b.spelling in
      let e : at + length (section_octets_of sections) + p.size
      ≡ at + length (section_octets_of sections ++ b.spelling) = omega (arith, l, b.size) in
      stream_place-add (at + length (section_octets_of sections)) p.size ∙ ap stream_place e

  fewer : (p : Tpkt) (b : Begins turn (length (held_of sections)) rest p) → length b.rest < n
  fewer p b =
      let some : 0 < length b.spelling = tpkt_some p.tpdu b.spelling b.spelled in
      let l = ap length b.is in
      let m = length-append b.spelling b.rest in
      omega (arith, l, m)

  behind_rest : (p : Tpkt) (b : Begins turn (length (held_of sections)) rest p)
      → drop p.size rest ≡ b.rest
  behind_rest p b = ap (drop p.size) b.is ∙ drop_at b.spelling b.rest p.size (sym b.size)

  by_part : (p : Tpkt) (b : Begins turn (length (held_of sections)) rest p)
      → message_of (stream_place at) (held_of sections) p.tpdu ≡ None
      → Tells turn at octets (goes_behind rest p (stream_place at)
      (stream_place (stream_place (at + length (section_octets_of sections)) + p.size))
      (part_after (held_of sections) p.tpdu))
  by_part p b ends =
      let more = no_end (stream_place at) (held_of sections) p.tpdu ends in
      let section : Section = record { held = more.0; octets = b.spelling } in
      let opens : Opens turn (sections ++ section ∷ []) octets b.rest =
      opens_part turn sections octets rest p more.0 o b more.1 in
      let transfer : turn ≡ turns.Transfer = opens.order (let l = length-append sections
      (section ∷ []) in omega (arith, l)) in
      let there : Tells turn at octets (from_parts turn at (sections ++ section ∷ []) b.rest) =
      done turn at (sections ++ section ∷ []) octets b.rest opens (fewer p b) in
      let place : stream_place (at + length (section_octets_of (sections ++ section ∷ [])))
      ≡ stream_place (stream_place (at + length (section_octets_of sections)) + p.size) =
      ap (λ (os : List ℕ). stream_place (at + length os)) (octets_push sections section)
      ∙ sym (behind_place p b) in
      let held : held_of (sections ++ section ∷ []) ≡ part_after (held_of sections) p.tpdu =
      held_push sections section
      ∙ ap (part_after (held_of sections)) (sym more.1) in
      subst (λ (os : List ℕ). Tells turn at octets (stream_from turns.Transfer (stream_place at)
      (stream_place (stream_place (at + length (section_octets_of sections)) + p.size))
      (part_after (held_of sections) p.tpdu) 0 os)) (sym (behind_rest p b))
      (subst (λ (h : List ℕ). Tells turn at octets (stream_from turns.Transfer (stream_place at)
      (stream_place (stream_place (at + length (section_octets_of sections)) + p.size)) h 0 b.rest)) held
      (subst (λ (k : ℕ). Tells turn at octets (stream_from turns.Transfer (stream_place at) k
      (held_of (sections ++ section ∷ [])) 0 b.rest)) place
      (subst (λ (t : Turn). Tells turn at octets (stream_from t (stream_place at)
      (stream_place (at + length (section_octets_of (sections ++ section ∷ []))))
      (held_of (sections ++ section ∷ [])) 0 b.rest)) transfer there)))

  by_message : (p : Tpkt) (b : Begins turn (length (held_of sections)) rest p) (m : Message)
      → message_of (stream_place at) (held_of sections) p.tpdu ≡ Some m
      → Tells turn at octets (with_message (record {
        message = m;
        place = stream_place at;
        next = stream_place (stream_place (at + length (section_octets_of sections)) + p.size);
      }) (goes_behind rest p (stream_place (stream_place (at + length (section_octets_of sections)) + p.size))
      (stream_place (stream_place (at + length (section_octets_of sections)) + p.size)) []))
  by_message p b m ends =
      let first : List ℕ = section_octets_of sections ++ b.spelling in
      let one : SpellsMessage turn at m first = record {
        sections = sections;
        last = b.spelling;
        tpdu = p.tpdu;
        opens = record { each = o.each; order = o.order; within = o.within; is = refl };
        spelled = b.spelled;
        comes = b.comes;
        ends = sym (message_of-placed at (held_of sections) p.tpdu) ∙ ends;
      } in
      let e : at + length first + 0 ≡ at + length first = omega arith in
      let there : Tells turns.Transfer (at + length first) b.rest
      (from_parts turns.Transfer (at + length first) [] b.rest) =
      done turns.Transfer (at + length first) [] b.rest b.rest
      (nothing_opened turns.Transfer b.rest) (fewer p b) in
      let here : Tells turns.Transfer (at + length first) b.rest
      (goes_behind rest p (stream_place (stream_place (at + length (section_octets_of sections)) + p.size))
      (stream_place (stream_place (at + length (section_octets_of sections)) + p.size)) []) =
      subst (λ (os : List ℕ). Tells turns.Transfer (at + length first) b.rest
      (stream_from turns.Transfer
      (stream_place (stream_place (at + length (section_octets_of sections)) + p.size))
      (stream_place (stream_place (at + length (section_octets_of sections)) + p.size)) [] 0 os))
      (sym (behind_rest p b))
      (subst (λ (k : ℕ). Tells turns.Transfer (at + length first) b.rest
      (stream_from turns.Transfer k k [] 0 b.rest)) (sym (behind_place p b))
      (subst (λ (k : ℕ). Tells turns.Transfer (at + length first) b.rest
      (stream_from turns.Transfer (stream_place (at + length first)) (stream_place k) [] 0 b.rest)) e there)) in
      tells_then turn at octets first b.rest _ _
      (o.is ∙ ap (λ (os : List ℕ). section_octets_of sections ++ os) b.is
      ∙ sym (append_assoc (section_octets_of sections) b.spelling b.rest)) one refl
      (behind_place p b) here

  by_end : (p : Tpkt) (b : Begins turn (length (held_of sections)) rest p)
      (m : Option Message) → message_of (stream_place at) (held_of sections) p.tpdu ≡ m
      → Tells turn at octets (behind_tpkt (stream_place at)
      (stream_place (stream_place (at + length (section_octets_of sections)) + p.size))
      (part_after (held_of sections) p.tpdu) (goes_behind rest p) m)
  by_end p b None ends = by_part p b ends
  by_end p b (Some m) ends = by_message p b m ends

  by_read : (r : Read Tpkt) → tpkt_in turn (length (held_of sections)) rest ≡ r
      → Tells turn at octets (by_tpkt (stream_place at) (stream_place (at + length (section_octets_of sections)))
      (held_of sections) rest (goes_behind rest) r)
  by_read (Ok (Some p)) read =
      by_end p (tpkt_found turn (length (held_of sections)) rest p read)
      (message_of (stream_place at) (held_of sections) p.tpdu) refl
  by_read (Ok None) read =
      let l = ap length o.is in
      let m = length-append (section_octets_of sections) rest in
      let e : at + length (section_octets_of sections) + length rest ≡ at + length octets =
      omega (arith, l, m) in
      tells_none turn at octets _ (
        rest_from turn at octets sections rest o read,
        ap (λ (k : ℕ). k - stream_place at) (stream_place-add (at + length (section_octets_of sections)) (length rest)
            ∙ ap stream_place e),
      )
  by_read (Err f) read =
      tells_none turn at octets _ (record {
        sections = sections;
        rest = rest;
        opens = o;
        broken = f;
        breaks = fault_found turn (length (held_of sections)) rest f read;
        is = ap (λ (k : ℕ). faulted k f) (stream_place-add (at + length (section_octets_of sections)) f.place);
      })

tells : (n : ℕ) → Done n
tells zero turn at sections octets rest o few = absurd (omega arith)
tells (suc n) turn at sections octets rest o few =
    subst (Tells turn at octets)
    (sym (stream_from-read turn (stream_place at) (stream_place (at + length (section_octets_of sections)))
    (held_of sections) rest))
    (by_read n (tells n) turn at sections octets rest o few
    (tpkt_in turn (length (held_of sections)) rest) refl)

-- all octets of a stream are what it is told to be
pub stream_found : (role : Role) (octets : List ℕ) → IsStream role octets (stream_in role octets)
stream_found role octets =
    let enough : length octets < suc (length octets) = omega arith in
    let t : Tells (turns.Opening role) 0 octets (stream_in role octets) =
    tells (suc (length octets)) (turns.Opening role) 0 [] octets octets
    (nothing_opened (turns.Opening role) octets) enough in
    let e : 0 + length t.whole ≡ length t.whole = omega arith in
    record {
      whole = t.whole;
      rest = t.rest;
      is = t.is;
      spelled = t.spelled;
      ends = subst (λ (k : ℕ). EndsWith (turn_after (turns.Opening role)
          (messages_of (stream_in role octets).messages)) k t.rest (stream_in role octets).end)
          e t.ends;
    }

-- without places
pub messages_placed : (turn : Turn) (at : ℕ) (ps : List Placed) (whole : List ℕ)
    → SpellsPlaced turn at ps whole → SpellsMessages turn at (messages_of ps) whole
messages_placed turn at [] whole spelled = spelled
messages_placed turn at (p ∷ ps) whole s =
    (s.0, s.1, s.2, s.3, messages_placed turns.Transfer (at + length s.0) ps s.1 s.6)

-- places are told by the octets
same_placed : (turn : Turn) (at : ℕ) (ps qs : List Placed) (w v r q : List ℕ)
    → SpellsPlaced turn at ps w → SpellsPlaced turn at qs v → w ++ r ≡ v ++ q
    → messages_of ps ≡ messages_of qs → ps ≡ qs
same_placed turn at [] [] w v r q one two is same = refl
same_placed turn at [] (b ∷ qs) w v r q one two is same = absurd cc
same_placed turn at (a ∷ ps) [] w v r q one two is same = absurd cc
same_placed turn at (a ∷ ps) (b ∷ qs) w v r q one two is same =
    let e : one.0 ++ (one.1 ++ r) ≡ two.0 ++ (two.1 ++ q) = sym (append_assoc one.0 one.1 r)
    ∙ sym (ap (λ (os : List ℕ). os ++ r) one.2) ∙ is ∙ ap (λ (os : List ℕ). os ++ q) two.2
    ∙ append_assoc two.0 two.1 q in
    let first = one_message turn at a.message b.message one.0 two.0 (one.1 ++ r) (two.1 ++ q)
    one.3 two.3 e in
    let size : length one.0 ≡ length two.0 = ap length first.0 in
    let rest : one.1 ++ r ≡ two.1 ++ q = sym (drop_at one.0 (one.1 ++ r) (length one.0) refl)
    ∙ ap (λ (os : List ℕ). drop (length one.0) os) e
    ∙ drop_at two.0 (two.1 ++ q) (length one.0) (sym size) in
    let after : SpellsPlaced turns.Transfer (at + length one.0) qs two.1 = subst
    (λ (s : ℕ). SpellsPlaced turns.Transfer (at + s) qs two.1) (sym size) two.6 in
    let tails : messages_of ps ≡ messages_of qs = ap (drop 1) same in
    let place : a.place ≡ b.place = one.4 ∙ sym two.4 in
    let next : a.next ≡ b.next = one.5 ∙ ap (λ (s : ℕ). stream_place (at + s)) size ∙ sym two.5 in
    let message : a.message ≡ b.message = first.1 in
    let head : a ≡ b =
    ap (λ (m : Message). placed m a.place a.next) message
    ∙ ap (λ (n : ℕ). placed b.message n a.next) place
    ∙ ap (λ (n : ℕ). placed b.message b.place n) next in
    ap (λ (x : Placed). x ∷ ps) head
    ∙ ap (λ (xs : List Placed). b ∷ xs)
    (same_placed turns.Transfer (at + length one.0) ps qs one.1 two.1 r q one.6 after rest tails)

-- an end has no message before it
end_no_message : (turn : Turn) (at : ℕ) (rest : List ℕ) (end : End) → EndsWith turn at rest end
    → NoMessage turn at rest
end_no_message turn at rest (left count) ends = ends.0.no_message
end_no_message turn at rest (stopped f) ends = fault_no_message turn at rest f ends

same_end : (turn : Turn) (at : ℕ) (rest : List ℕ) (a b : End) → EndsWith turn at rest a
    → EndsWith turn at rest b → a ≡ b
same_end turn at rest (left m) (left n) one two = ap left (one.1 ∙ sym two.1)
same_end turn at rest (left m) (stopped g) one two = absurd (one.0.no_fault g two)
same_end turn at rest (stopped f) (left n) one two = absurd (two.0.no_fault f one)
same_end turn at rest (stopped f) (stopped g) one two = ap stopped (one_fault turn at rest f g one two)

pub stream_once : (role : Role) (octets : List ℕ) (s t : Stream) → IsStream role octets s
    → IsStream role octets t → s ≡ t
stream_once role octets s t a b =
    let opening = turns.Opening role in
    let same : SameStream (messages_of s.messages) (messages_of t.messages) a.whole b.whole a.rest
    b.rest = same_stream opening 0 (messages_of s.messages) (messages_of t.messages) a.whole b.whole
    a.rest b.rest (messages_placed opening 0 s.messages a.whole a.spelled)
    (messages_placed opening 0 t.messages b.whole b.spelled) (sym a.is ∙ b.is)
    (at_zero (turn_after opening (messages_of s.messages)) (length a.whole) a.rest
    (end_no_message (turn_after opening (messages_of s.messages)) (length a.whole) a.rest s.end
    a.ends))
    (at_zero (turn_after opening (messages_of t.messages)) (length b.whole) b.rest
    (end_no_message (turn_after opening (messages_of t.messages)) (length b.whole) b.rest t.end
    b.ends)) in
    let messages : s.messages ≡ t.messages = same_placed opening 0 s.messages t.messages a.whole
    b.whole a.rest b.rest a.spelled b.spelled (sym a.is ∙ b.is) same.messages in
    let there : EndsWith (turn_after opening (messages_of t.messages)) (length b.whole) b.rest
    s.end =
    subst (λ (ms : List Message). EndsWith (turn_after opening ms) (length b.whole) b.rest s.end)
    same.messages
    (subst (λ (w : List ℕ). EndsWith (turn_after opening (messages_of s.messages)) (length w)
    b.rest s.end) same.whole
    (subst (λ (r : List ℕ). EndsWith (turn_after opening (messages_of s.messages))
    (length a.whole) r s.end) same.rest a.ends)) in
    ap (λ (ps : List Placed). stream ps s.end) messages
    ∙ ap (stream t.messages) (same_end (turn_after opening (messages_of t.messages))
    (length b.whole) b.rest s.end t.end there b.ends)

pub stream_only : (role : Role) (octets : List ℕ) (s : Stream) → IsStream role octets s
    → s ≡ stream_in role octets
stream_only role octets s is = stream_once role octets s (stream_in role octets) is
    (stream_found role octets)

-- a stream ends with a rest where it says its messages
said_left : (role : Role) (octets : List ℕ) (s : Stream) (count : ℕ) → IsStream role octets s
    → s.end ≡ left count
    → (rest : List ℕ) × Says role octets (messages_of s.messages) rest
said_left role octets s count is end =
    let turn = turn_after (turns.Opening role) (messages_of s.messages) in
    let ends : EndsWith turn (length is.whole) is.rest (left count) =
    subst (EndsWith turn (length is.whole) is.rest) end is.ends in (
      is.rest,
      record {
        whole = is.whole;
        is = is.is;
        spelled = messages_placed (turns.Opening role) 0 s.messages is.whole is.spelled;
        remains = ends.0;
      },
    )

-- and with a fault where it stops
said_stopped : (role : Role) (octets : List ℕ) (s : Stream) (f : CotpFault)
    → IsStream role octets s → s.end ≡ stopped f → Stops role octets (messages_of s.messages) f
said_stopped role octets s f is end =
    let turn = turn_after (turns.Opening role) (messages_of s.messages) in
    record {
      whole = is.whole;
      rest = is.rest;
      is = is.is;
      spelled = messages_placed (turns.Opening role) 0 s.messages is.whole is.spelled;
      breaks = subst (EndsWith turn (length is.whole) is.rest) end is.ends;
    }

pub left_says : (role : Role) (octets : List ℕ) (count : ℕ)
    → (stream_in role octets).end ≡ left count
    → (rest : List ℕ) × Says role octets (messages_of (stream_in role octets).messages) rest
left_says role octets count end =
    said_left role octets (stream_in role octets) count (stream_found role octets) end

pub stopped_stops : (role : Role) (octets : List ℕ) (f : CotpFault)
    → (stream_in role octets).end ≡ stopped f
    → Stops role octets (messages_of (stream_in role octets).messages) f
stopped_stops role octets f end =
    said_stopped role octets (stream_in role octets) f (stream_found role octets) end

pub says_left : (role : Role) (octets : List ℕ) (messages : List Message) (rest : List ℕ)
    → Says role octets messages rest
    → (messages_of (stream_in role octets).messages ≡ messages)
    × ((count : ℕ) × ((stream_in role octets).end ≡ left count))
says_left role octets messages rest says = here (stream_in role octets).end refl
  where
    here : (end : End) → (stream_in role octets).end ≡ end
        → (messages_of (stream_in role octets).messages ≡ messages)
        × ((count : ℕ) × ((stream_in role octets).end ≡ left count))
    here (left count) at =
        let other = left_says role octets count at in
        ((says_once role octets _ messages other.0 rest other.1 says).0, (count, at))
    here (stopped f) at =
        absurd (says_or_stops role octets messages _ rest f says (stopped_stops role octets f at))

pub stops_stopped : (role : Role) (octets : List ℕ) (messages : List Message) (f : CotpFault)
    → Stops role octets messages f
    → (messages_of (stream_in role octets).messages ≡ messages)
    × ((stream_in role octets).end ≡ stopped f)
stops_stopped role octets messages f stops = here (stream_in role octets).end refl
  where
    here : (end : End) → (stream_in role octets).end ≡ end
        → (messages_of (stream_in role octets).messages ≡ messages)
        × ((stream_in role octets).end ≡ stopped f)
    here (left count) at =
        let other = left_says role octets count at in
        absurd (says_or_stops role octets _ messages other.0 f other.1 stops)
    here (stopped g) at =
        let same = stops_once role octets _ messages g f (stopped_stops role octets g at) stops in
        (same.0, at ∙ ap stopped same.1)
