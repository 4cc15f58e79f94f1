-- A stream always says or stops; what was said stays said.
use Rattle.std.proofs.Common.{◌≡◌, ℕ, zero, suc, ◌+◌, ◌/◌, ◌%◌, ◌<◌, ◌≤◌, Bool, true, false, List}
use Rattle.std.proofs.Common.{[], ◌∷◌, ◌++◌, length, drop, map, Some, None, Ok, Err, refl, sym, ap}
use Rattle.std.proofs.Common.{subst, ◌∙◌, inl, inr, ◌⊎◌, arith, append_assoc}
use Rattle.std.specs.List.{AllByRecursion}
use Rattle.std.proofs.lemmas.List.{length-append, drop_at}
use Rattle.tpkt_cotp.specs.declared.fault.CotpFault.{CotpFault}
use Rattle.tpkt_cotp.specs.declared.turn.Role.{Role}
use Rattle.tpkt_cotp.specs.declared.turn.Turn.{Turn}
use Rattle.tpkt_cotp.specs.declared.turn.Turn.TheVariants as turns
use Rattle.tpkt_cotp.specs.Tpdus.{Tpdu, part, Tpkt, SpellsTpkt, request, confirm, disconnect}
use Rattle.tpkt_cotp.specs.Readings.{Read, tpkt_in}
use Rattle.tpkt_cotp.specs.Streams.{Message, tsdu, Section, IsSection, stream_place, held_of, section_octets_of}
use Rattle.tpkt_cotp.specs.Streams.{Opens, Comes, message_of, SpellsMessage, SpellsMessages}
use Rattle.tpkt_cotp.specs.Streams.{BreaksRule, IsRest, turn_after, Says, Stops}
use Rattle.tpkt_cotp.specs.Written.{part_octets, parts_octets, joined_parts, IsCut}
use Rattle.tpkt_cotp.proofs.Exact.{Begins}
use Rattle.tpkt_cotp.proofs.ExactTpkt.{tpkt_found}
use Rattle.tpkt_cotp.proofs.FaultReading.{fault_found}
use Rattle.tpkt_cotp.proofs.Standing.{later, part_turn, sections_push, held_push, octets_push}
use Rattle.tpkt_cotp.proofs.OneReading.{rest_from}
use Rattle.tpkt_cotp.proofs.OneStream.{one_message, NoMessage, at_zero, fault_no_message}

-- messages, and then a rest or a fault
pub record Reading (turn : Turn) (at : ℕ) (octets : List ℕ) : Type 0 where
  pub messages : List Message
  pub whole : List ℕ
  pub left : List ℕ
  pub is : octets ≡ whole ++ left
  pub spelled : SpellsMessages turn at messages whole
  pub end : IsRest (turn_after turn messages) (at + length whole) left
      ⊎ ((f : CotpFault) × BreaksRule (turn_after turn messages) (at + length whole) left f)

nothing_said : (turn : Turn) (at : ℕ) (octets : List ℕ) → IsRest turn at octets
    ⊎ ((f : CotpFault) × BreaksRule turn at octets f) → Reading turn at octets
nothing_said turn at octets end =
    let e : at ≡ at + 0 = omega arith in
    record {
      messages = [];
      whole = [];
      left = octets;
      is = refl;
      spelled = refl;
      end = subst (λ (n : ℕ). IsRest turn n octets
          ⊎ ((f : CotpFault) × BreaksRule turn n octets f)) e end;
    }

-- a part more of a TSDU
pub opens_part : (turn : Turn) (sections : List Section) (octets rest : List ℕ) (p : Tpkt)
    (more : List ℕ) → (o : Opens turn sections octets rest)
    → (b : Begins turn (length (held_of sections)) rest p) → p.tpdu ≡ part false more
    → Opens turn (sections ++ record { held = more; octets = b.spelling } ∷ []) octets b.rest
opens_part turn sections octets rest p more o b is =
    let s : Section = record { held = more; octets = b.spelling } in
    let spelled : IsSection s = subst (λ (t : Tpdu). SpellsTpkt t b.spelling) is b.spelled in
    let comes : Comes turn (length (held_of sections)) (part false more) = subst
    (λ (t : Tpdu). Comes turn (length (held_of sections)) t) is b.comes in
    let held = held_push sections s in
    record {
      each = sections_push sections s o.each spelled;
      order = λ some. part_turn turn comes.order;
      within = let l = ap length held in let m = length-append (held_of sections) more in omega
          (arith, l, m, comes.fits.0);
      is = o.is ∙ ap (λ (os : List ℕ). section_octets_of sections ++ os) b.is
          ∙ sym (append_assoc (section_octets_of sections) b.spelling b.rest)
          ∙ ap (λ (os : List ℕ). os ++ b.rest) (sym (octets_push sections s));
    }

-- a TPKT has octets
tpkt_some : (tpdu : Tpdu) (octets : List ℕ) → SpellsTpkt tpdu octets → 0 < length octets
tpkt_some (request r) octets s = let l = ap length s.1.is in omega (arith, l)
tpkt_some (confirm c) octets s = let l = ap length s.is in omega (arith, l)
tpkt_some disconnect octets s = let l = ap length s.is in omega (arith, l)
tpkt_some (part last held) octets s = let l = ap length s.is in omega (arith, l)

one_then : (turn : Turn) (at : ℕ) (octets first rest : List ℕ) (m : Message)
    → octets ≡ first ++ rest → SpellsMessage turn at m first
    → Reading turns.Transfer (at + length first) rest → Reading turn at octets
one_then turn at octets first rest m is one r =
    let l = length-append first r.whole in
    let n : at + length first + length r.whole ≡ at + length (first ++ r.whole) = omega (arith, l)
    in
    let E : Turn → ℕ → Type 0 = λ t k. IsRest t k r.left
    ⊎ ((f : CotpFault) × BreaksRule t k r.left f) in
    record {
      messages = m ∷ r.messages;
      whole = first ++ r.whole;
      left = r.left;
      is = is ∙ ap (λ (os : List ℕ). first ++ os) r.is ∙ sym (append_assoc first r.whole r.left);
      spelled = (first, r.whole, refl, one, r.spelled);
      end = subst (λ (k : ℕ). E turns.Transfer k) n
          (subst (λ (t : Turn). E t (at + length first + length r.whole)) (later r.messages) r.end);
    }

-- the message that a TPDU ends, or that it is a part
ends_or_part : (at : ℕ) (held : List ℕ) (tpdu : Tpdu)
    → ((m : Message) × (message_of at held tpdu ≡ Some m))
    ⊎ ((more : List ℕ) × (tpdu ≡ part false more))
ends_or_part at held (request r) = inl (_, refl)
ends_or_part at held (confirm c) = inl (_, refl)
ends_or_part at held disconnect = inl (_, refl)
ends_or_part at held (part true more) = inl (_, refl)
ends_or_part at held (part false more) = inr (more, refl)

read_case : (r : Read Tpkt) → (r ≡ Ok None)
    ⊎ (((f : CotpFault) × (r ≡ Err f)) ⊎ ((p : Tpkt) × (r ≡ Ok (Some p))))
read_case (Ok None) = inl refl
read_case (Err f) = inr (inl (f, refl))
read_case (Ok (Some p)) = inr (inr (p, refl))

-- with so many steps to spare
reading : (n : ℕ) (turn : Turn) (at : ℕ) (sections : List Section) (octets rest : List ℕ)
    → Opens turn sections octets rest → length rest < n → Reading turn at octets
reading zero turn at sections octets rest o few = absurd (omega arith)
reading (suc n) turn at sections octets rest o few =
    elim (read_case (tpkt_in turn (length (held_of sections)) rest)) [
      | inl none ↦ nothing_said turn at octets (inl (rest_from turn at octets sections rest o none))
      | inr other ↦ elim other [
        | inl fault ↦ nothing_said turn at octets
            (inr (
              _,
              record {
                sections = sections;
                rest = rest;
                opens = o;
                broken = fault.0;
                breaks = fault_found turn (length (held_of sections)) rest fault.0 fault.1;
                is = refl;
              },
            ))
        | inr found ↦
            let b : Begins turn (length (held_of sections)) rest found.0 = tpkt_found turn
            (length (held_of sections)) rest found.0 found.1 in
            let some : 0 < length b.spelling = tpkt_some found.0.tpdu b.spelling b.spelled in
            let l = ap length b.is in
            let m = length-append b.spelling b.rest in
            let fewer : length b.rest < n = omega (arith, l, m) in
            elim (ends_or_part at (held_of sections) found.0.tpdu) [
              | inl ends ↦
                  let first : List ℕ = section_octets_of sections ++ b.spelling in
                  let one : SpellsMessage turn at ends.0 first = record {
                    sections = sections;
                    last = b.spelling;
                    tpdu = found.0.tpdu;
                    opens = record {
                      each = o.each;
                      order = o.order;
                      within = o.within;
                      is = refl;
                    };
                    spelled = b.spelled;
                    comes = b.comes;
                    ends = ends.1;
                  } in
                  one_then turn at octets first b.rest ends.0
                  (o.is ∙ ap (λ (os : List ℕ). section_octets_of sections ++ os) b.is
                  ∙ sym (append_assoc (section_octets_of sections) b.spelling b.rest)) one
                  (reading n turns.Transfer (at + length first) [] b.rest b.rest
                  (record {
                    each = tt;
                    order = λ none. absurd (omega arith);
                    within = omega arith;
                    is = refl;
                  }) fewer)
              | inr more ↦ reading n turn at (sections ++ record
                  { held = more.0; octets = b.spelling } ∷ []) octets b.rest
                  (opens_part turn sections octets rest found.0 more.0 o b more.1) fewer
            ]
      ]
    ]

pub always : (role : Role) (octets : List ℕ)
    → ((messages : List Message) × (rest : List ℕ) × Says role octets messages rest)
    ⊎ ((messages : List Message) × (f : CotpFault) × Stops role octets messages f)
always role octets =
    let enough : length octets < suc (length octets) = omega arith in
    let r = reading (suc (length octets)) (turns.Opening role) 0 [] octets octets
    (record {
      each = tt;
      order = λ none. absurd (omega arith);
      within = omega arith;
      is = refl;
    }) enough in
    let e : 0 + length r.whole ≡ length r.whole = omega arith in
    let turn = turn_after (turns.Opening role) r.messages in
    elim r.end [
      | inl rest ↦ inl (
        r.messages,
        r.left,
        record {
          whole = r.whole;
          is = r.is;
          spelled = r.spelled;
          remains = subst (λ (n : ℕ). IsRest turn n r.left) e rest;
        },
      )
      | inr fault ↦ inr (
        r.messages,
        fault.0,
        record {
          whole = r.whole;
          rest = r.left;
          is = r.is;
          spelled = r.spelled;
          breaks = subst (λ (n : ℕ). BreaksRule turn n r.left fault.0) e fault.1;
        },
      )
    ]

-- the octets of full parts, as parts of one TSDU
abbrev section_of : List ℕ → Section
section_of p = record { held = p; octets = part_octets false p }

part_spelled : (last : Bool) (p : List ℕ) → SpellsTpkt (part last p) (part_octets last p)
part_spelled true p = record {
  reserved = 0;
  high = (7 + length p) / 256;
  low = (7 + length p) % 256;
  mark = 128;
  is = refl;
  size = omega arith;
  last_is = refl;
}
part_spelled false p = record {
  reserved = 0;
  high = (7 + length p) / 256;
  low = (7 + length p) % 256;
  mark = 0;
  is = refl;
  size = omega arith;
  last_is = refl;
}

sections_spelled : (ps : List (List ℕ)) → AllByRecursion IsSection (map section_of ps)
sections_spelled [] = tt
sections_spelled (p ∷ ps) = (part_spelled false p, sections_spelled ps)

held_map : (ps : List (List ℕ)) → held_of (map section_of ps) ≡ joined_parts ps
held_map [] = refl
held_map (p ∷ ps) = ap (λ (os : List ℕ). p ++ os) (held_map ps)

octets_map : (ps : List (List ℕ)) → section_octets_of (map section_of ps) ≡ parts_octets ps
octets_map [] = refl
octets_map (p ∷ ps) = ap (λ (os : List ℕ). part_octets false p ++ os) (octets_map ps)

pub written_said : (size at : ℕ) (octets written : List ℕ) → IsCut size octets written
    → length octets ≤ 65531 → SpellsMessage turns.Transfer at (tsdu (stream_place at) octets) written
written_said size at octets written c few =
    let held = held_map c.parts in
    let h = ap length held in
    let l = ap length c.are in
    let m = length-append (joined_parts c.parts) c.last in
    record {
      sections = map section_of c.parts;
      last = part_octets true c.last;
      tpdu = part true c.last;
      opens = record {
        each = sections_spelled c.parts;
        order = λ some. refl;
        within = omega (arith, h, l, m);
        is = c.written_is
            ∙ ap (λ (os : List ℕ). os ++ part_octets true c.last) (sym (octets_map c.parts));
      };
      spelled = part_spelled true c.last;
      comes = record {
        order = refl;
        fits = (
          omega (arith, h, l, m),
          λ e. let s = c.some in omega arith,
        );
      };
      ends = ap (λ (os : List ℕ). Some (tsdu (stream_place at) os))
          (ap (λ (os : List ℕ). os ++ c.last) held ∙ sym c.are);
    }

-- messages begin with these
abbrev pub Continues : List Message → List Message → Type 0
Continues ms ns = (others : List Message) × (ns ≡ ms ++ others)

pub goes_on : (turn : Turn) (at : ℕ) (ms ns : List Message) (w v r q : List ℕ)
    → SpellsMessages turn at ms w → SpellsMessages turn at ns v → w ++ r ≡ v ++ q
    → NoMessage (turn_after turn ns) (at + length v) q → Continues ms ns
goes_on turn at [] ns w v r q one two is neither = (ns, refl)
goes_on turn at (m ∷ ms) [] w v r q one two is neither =
    let e : q ≡ one.0 ++ (one.1 ++ r) = sym (ap (λ (os : List ℕ). os ++ q) two) ∙ sym is
    ∙ ap (λ (os : List ℕ). os ++ r) one.2 ∙ append_assoc one.0 one.1 r in
    let place : at ≡ at + length v = let l = ap length two in omega (arith, l) in
    absurd (neither m one.0 (one.1 ++ r) e (subst (λ (k : ℕ). SpellsMessage turn k m one.0) place
    one.3))
goes_on turn at (m ∷ ms) (n ∷ ns) w v r q one two is neither =
    let e : one.0 ++ (one.1 ++ r) ≡ two.0 ++ (two.1 ++ q) = sym (append_assoc one.0 one.1 r)
    ∙ sym (ap (λ (os : List ℕ). os ++ r) one.2) ∙ is ∙ ap (λ (os : List ℕ). os ++ q) two.2
    ∙ append_assoc two.0 two.1 q in
    let first = one_message turn at m n one.0 two.0 (one.1 ++ r) (two.1 ++ q) one.3 two.3 e in
    let size : length one.0 ≡ length two.0 = ap length first.0 in
    let left : one.1 ++ r ≡ two.1 ++ q = sym (drop_at one.0 (one.1 ++ r) (length one.0) refl)
    ∙ ap (λ (os : List ℕ). drop (length one.0) os) e
    ∙ drop_at two.0 (two.1 ++ q) (length one.0) (sym size) in
    let k = at + length one.0 in
    let there : at + length v ≡ k + length two.1 = let l = ap length two.2 in let j = length-append
    two.0 two.1 in omega (arith, l, j, size) in
    let after : SpellsMessages turns.Transfer k ns two.1 = subst
    (λ (s : ℕ). SpellsMessages turns.Transfer (at + s) ns two.1) (sym size) two.4 in
    let others = goes_on turns.Transfer k ms ns one.1 two.1 r q one.4 after left
    (subst (λ (t : Turn). NoMessage t (k + length two.1) q) (sym (later ns))
    (subst (λ (s : ℕ). NoMessage turns.Transfer s q) there neither)) in (
      others.0,
      ap (λ (x : Message). x ∷ ns) (sym first.1)
          ∙ ap (λ (xs : List Message). m ∷ xs) others.1,
    )

pub said_stays : (role : Role) (octets more : List ℕ) (ms ns : List Message) (rest left : List ℕ)
    → Says role octets ms rest → Says role (octets ++ more) ns left → Continues ms ns
said_stays role octets more ms ns rest left s t =
    goes_on (turns.Opening role) 0 ms ns s.whole t.whole (rest ++ more) left s.spelled t.spelled
    (sym (append_assoc s.whole rest more) ∙ ap (λ (os : List ℕ). os ++ more) (sym s.is) ∙ t.is)
    (at_zero (turn_after (turns.Opening role) ns) (length t.whole) left t.remains.no_message)

pub stopped_stays : (role : Role) (octets more : List ℕ) (ms ns : List Message) (rest : List ℕ)
    (f : CotpFault) → Says role octets ms rest → Stops role (octets ++ more) ns f → Continues ms ns
stopped_stays role octets more ms ns rest f s t =
    goes_on (turns.Opening role) 0 ms ns s.whole t.whole (rest ++ more) t.rest s.spelled t.spelled
    (sym (append_assoc s.whole rest more) ∙ ap (λ (os : List ℕ). os ++ more) (sym s.is) ∙ t.is)
    (at_zero (turn_after (turns.Opening role) ns) (length t.whole) t.rest
    (fault_no_message (turn_after (turns.Opening role) ns) (length t.whole) t.rest f t.breaks))
