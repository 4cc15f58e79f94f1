-- A stream has one reading: parts of a TSDU, and then one end of them.
use Rattle.std.proofs.Common.{◌≡◌, ℕ, ◌+◌, ◌<◌, ◌≤◌, false, List, [], ◌∷◌, ◌++◌, length, take, drop}
use Rattle.std.proofs.Common.{Some, None, Ok, Err, refl, sym, ap, subst, ◌∙◌, arith, append_assoc}
use Rattle.std.specs.List.{AllByRecursion}
use Rattle.std.proofs.lemmas.List.{take_at, drop_at, length-append}
use Rattle.tpkt_cotp.specs.declared.fault.CotpFault.{CotpFault}
use Rattle.tpkt_cotp.specs.declared.limits.TheConstants.{TSDU_LIMIT}
use Rattle.tpkt_cotp.specs.declared.turn.Turn.{Turn}
use Rattle.tpkt_cotp.specs.declared.turn.Turn.TheVariants as turns
use Rattle.tpkt_cotp.specs.declared.turn.Kind.TheVariants as kinds
use Rattle.tpkt_cotp.specs.Turns.{may_come}
use Rattle.tpkt_cotp.specs.Tpdus.{Tpdu, request, confirm, disconnect, part, Tpkt}
use Rattle.tpkt_cotp.specs.Readings.{Read, tpkt_of, tpkt_in}
use Rattle.tpkt_cotp.specs.Streams.{Message, Section, IsSection, held_of, section_octets_of, Opens, Comes}
use Rattle.tpkt_cotp.specs.Streams.{message_of, SpellsMessage, BreaksRule, IsPartial, IsRest}
use Rattle.tpkt_cotp.proofs.Again.{tpkt_again}
use Rattle.tpkt_cotp.proofs.FaultFirst.{fault_first}

-- a reading that isn't a further part
abbrev pub IsEnd : Read Tpkt → Type 0
IsEnd (Ok (Some p)) = (more : List ℕ) → p.tpdu ≡ part false more → ⊥
IsEnd (Ok None) = Unit {0}
IsEnd (Err f) = Unit {0}

part_is_no_end : (size : ℕ) (held : List ℕ) (r : Read Tpkt) → r ≡ tpkt_of size (part false held)
    → IsEnd r → ⊥
part_is_no_end size held r is end = let e = subst IsEnd is end in e held refl

-- a section at the front is read
front_read : (turn : Turn) (total : ℕ) (s : Section) (rest : List ℕ) → IsSection s
    → turn ≡ turns.Transfer → total + length s.held ≤ TSDU_LIMIT
    → tpkt_in turn total (s.octets ++ rest) ≡ tpkt_of (length s.octets) (part false s.held)
front_read turn total s rest spelled transfer within =
    let comes : Comes turn total (part false s.held) = record {
      order = ap (λ (t : Turn). may_come t kinds.Part) transfer;
      fits = (within, λ e. absurd cc);
    } in
    tpkt_again turn total (part false s.held) s.octets rest spelled comes

abbrev pub size_of : Read Tpkt → ℕ
size_of (Ok (Some p)) = p.size
size_of (Ok None) = 0
size_of (Err f) = 0

abbrev part_in_tpdu : Tpdu → List ℕ
part_in_tpdu (part last held) = held
part_in_tpdu (request r) = []
part_in_tpdu (confirm c) = []
part_in_tpdu disconnect = []

abbrev held_in : Read Tpkt → List ℕ
held_in (Ok (Some p)) = part_in_tpdu p.tpdu
held_in (Ok None) = []
held_in (Err f) = []

pub record SameFront (s t : Section) (more rest : List ℕ) : Type 0 where
  pub held : s.held ≡ t.held
  pub octets : s.octets ≡ t.octets
  pub left : more ≡ rest

same_front : (turn : Turn) (total : ℕ) (s t : Section) (more rest : List ℕ) → IsSection s
    → IsSection t → turn ≡ turns.Transfer → total + length s.held ≤ TSDU_LIMIT
    → total + length t.held ≤ TSDU_LIMIT → s.octets ++ more ≡ t.octets ++ rest
    → SameFront s t more rest
same_front turn total s t more rest one two transfer small little is =
    let r : tpkt_of (length s.octets) (part false s.held) ≡ tpkt_of (length t.octets)
    (part false t.held) =
    sym (front_read turn total s more one transfer small)
    ∙ ap (λ (os : List ℕ). tpkt_in turn total os) is
    ∙ front_read turn total t rest two transfer little in
    let n : length s.octets ≡ length t.octets = ap size_of r in
    record {
      held = ap held_in r;
      octets = sym (take_at s.octets more (length s.octets) refl)
          ∙ ap (λ (os : List ℕ). take (length s.octets) os) is
          ∙ take_at t.octets rest (length s.octets) (sym n);
      left = sym (drop_at s.octets more (length s.octets) refl)
          ∙ ap (λ (os : List ℕ). drop (length s.octets) os) is
          ∙ drop_at t.octets rest (length s.octets) (sym n);
    }

pub record SameParts (a b : List Section) (r q : List ℕ) : Type 0 where
  pub held : held_of a ≡ held_of b
  pub octets : section_octets_of a ≡ section_octets_of b
  pub rest : r ≡ q

same_parts : (turn : Turn) (total : ℕ) (a b : List Section) (r q : List ℕ)
    → AllByRecursion IsSection a → AllByRecursion IsSection b
    → (0 < length a → turn ≡ turns.Transfer) → (0 < length b → turn ≡ turns.Transfer)
    → total + length (held_of a) ≤ TSDU_LIMIT → total + length (held_of b) ≤ TSDU_LIMIT
    → section_octets_of a ++ r ≡ section_octets_of b ++ q → IsEnd (tpkt_in turn (total + length (held_of a)) r)
    → IsEnd (tpkt_in turn (total + length (held_of b)) q) → SameParts a b r q
same_parts turn total [] [] r q one two order other small little is end last = record
    { held = refl; octets = refl; rest = is }
same_parts turn total [] (t ∷ b) r q one two order other small little is end last =
    let transfer : turn ≡ turns.Transfer = other (omega arith) in
    let l = length-append t.held (held_of b) in
    let within : total + length t.held ≤ TSDU_LIMIT = omega (arith, l) in
    let e : total + 0 ≡ total = omega arith in
    absurd (part_is_no_end (length t.octets) t.held (tpkt_in turn (total + 0) r)
    (ap (λ (n : ℕ). tpkt_in turn n r) e ∙ ap (λ (os : List ℕ). tpkt_in turn total os)
    (is ∙ append_assoc t.octets (section_octets_of b) q)
    ∙ front_read turn total t (section_octets_of b ++ q) two.0 transfer within) end)
same_parts turn total (s ∷ a) [] r q one two order other small little is end last =
    let transfer : turn ≡ turns.Transfer = order (omega arith) in
    let l = length-append s.held (held_of a) in
    let within : total + length s.held ≤ TSDU_LIMIT = omega (arith, l) in
    let e : total + 0 ≡ total = omega arith in
    absurd (part_is_no_end (length s.octets) s.held (tpkt_in turn (total + 0) q)
    (ap (λ (n : ℕ). tpkt_in turn n q) e ∙ ap (λ (os : List ℕ). tpkt_in turn total os)
    (sym is ∙ append_assoc s.octets (section_octets_of a) r)
    ∙ front_read turn total s (section_octets_of a ++ r) one.0 transfer within) last)
same_parts turn total (s ∷ a) (t ∷ b) r q one two order other small little is end last =
    let transfer : turn ≡ turns.Transfer = order (omega arith) in
    let l = length-append s.held (held_of a) in
    let m = length-append t.held (held_of b) in
    let front = same_front turn total s t (section_octets_of a ++ r) (section_octets_of b ++ q) one.0 two.0
    transfer (omega (arith, l)) (omega (arith, m))
    (sym (append_assoc s.octets (section_octets_of a) r) ∙ is ∙ append_assoc t.octets (section_octets_of b) q) in
    let E : List ℕ → ℕ → Type 0 = λ os n. IsEnd (tpkt_in turn n os) in
    let n : total + length (s.held ++ held_of a) ≡ total + length s.held + length (held_of a) =
    omega (arith, l) in
    let same : length s.held ≡ length t.held = ap length front.held in
    let k : total + length (t.held ++ held_of b) ≡ total + length s.held + length (held_of b) =
    omega (arith, m) in
    let others = same_parts turn (total + length s.held) a b r q one.1 two.1 (λ some. transfer)
    (λ some. transfer) (omega (arith, l)) (omega (arith, m)) front.left (subst (E r) n end)
    (subst (E q) k last) in
    record {
      held = ap (λ (os : List ℕ). os ++ held_of a) front.held
          ∙ ap (λ (os : List ℕ). t.held ++ os) others.held;
      octets = ap (λ (os : List ℕ). os ++ section_octets_of a) front.octets
          ∙ ap (λ (os : List ℕ). t.octets ++ os) others.octets;
      rest = others.rest;
    }

-- parts of a TSDU, and their end
pub record EndsAs (turn : Turn) (octets : List ℕ) (sections : List Section) (rest : List ℕ)
    (r : Read Tpkt) : Type 0 where
  pub opens : Opens turn sections octets rest
  pub read : tpkt_in turn (length (held_of sections)) rest ≡ r
  pub end : IsEnd r

pub one_end : (turn : Turn) (octets : List ℕ) (a b : List Section) (p q : List ℕ) (r s : Read Tpkt)
    → EndsAs turn octets a p r → EndsAs turn octets b q s → SameParts a b p q × (r ≡ s)
one_end turn octets a b p q r s one two =
    let n : (k : ℕ) → 0 + k ≡ k = λ (k : ℕ). omega arith in
    let E : List ℕ → ℕ → Type 0 = λ os k. IsEnd (tpkt_in turn k os) in
    let first : IsEnd (tpkt_in turn (length (held_of a)) p) = subst IsEnd (sym one.read) one.end in
    let second : IsEnd (tpkt_in turn (length (held_of b)) q) = subst IsEnd (sym two.read) two.end in
    let within : 0 + length (held_of a) ≤ TSDU_LIMIT = omega (arith, one.opens.within) in
    let inside : 0 + length (held_of b) ≤ TSDU_LIMIT = omega (arith, two.opens.within) in
    let same = same_parts turn 0 a b p q one.opens.each two.opens.each one.opens.order
    two.opens.order within inside (sym one.opens.is ∙ two.opens.is)
    (subst (E p) (sym (n (length (held_of a)))) first)
    (subst (E q) (sym (n (length (held_of b)))) second) in (
      same,
      sym one.read ∙ ap (λ (h : List ℕ). tpkt_in turn (length h) p) same.held
          ∙ ap (λ (os : List ℕ). tpkt_in turn (length (held_of b)) os) same.rest ∙ two.read,
    )

-- a message is parts and an end
pub message_ends : (turn : Turn) (at : ℕ) (octets first more : List ℕ) (m : Message)
    → octets ≡ first ++ more → (s : SpellsMessage turn at m first)
    → EndsAs turn octets s.sections (s.last ++ more) (tpkt_of (length s.last) s.tpdu)
message_ends turn at octets first more m is s = record {
  opens = record {
    each = s.opens.each;
    order = s.opens.order;
    within = s.opens.within;
    is = is
        ∙ ap (λ (os : List ℕ). os ++ more) s.opens.is
        ∙ append_assoc (section_octets_of s.sections) s.last more;
  };
  read = tpkt_again turn (length (held_of s.sections)) s.tpdu s.last more s.spelled s.comes;
  end = λ held is_part. no_part at (held_of s.sections) s.tpdu held m is_part s.ends;
}
  where
    no_part : (at : ℕ) (before : List ℕ) (tpdu : Tpdu) (held : List ℕ) (m : Message)
        → tpdu ≡ part false held → message_of at before tpdu ≡ Some m → ⊥
    no_part at before tpdu held m is ends = let e : None ≡ Some m = sym
        (ap (λ (t : Tpdu). message_of at before t) is) ∙ ends in absurd cc

-- a fault is parts and an end
pub fault_ends : (turn : Turn) (at : ℕ) (octets : List ℕ) (f : CotpFault)
    → (b : BreaksRule turn at octets f) → EndsAs turn octets b.sections b.rest (Err b.broken)
fault_ends turn at octets f b = record {
  opens = b.opens;
  read = fault_first turn (length (held_of b.sections)) b.rest b.broken b.breaks;
  end = tt;
}

-- where the parts go on to no whole TPKT and no fault, there is a rest
pub rest_from : (turn : Turn) (at : ℕ) (octets : List ℕ) (sections : List Section) (rest : List ℕ)
    → Opens turn sections octets rest → tpkt_in turn (length (held_of sections)) rest ≡ Ok None
    → IsRest turn at octets
rest_from turn at octets sections rest opens none =
    let here : EndsAs turn octets sections rest (Ok None) = record
    { opens = opens; read = none; end = tt } in
    record {
      no_message = λ m first more is s. let same = one_end turn octets sections s.sections rest
          (s.last ++ more) (Ok None) (tpkt_of (length s.last) s.tpdu) here
          (message_ends turn at octets first more m is s) in let e = same.1 in absurd cc;
      no_fault = λ f b. let same = one_end turn octets sections b.sections rest b.rest (Ok None)
          (Err b.broken) here (fault_ends turn at octets f b) in let e = same.1 in absurd cc;
    }

-- where no whole TPKT is read and no fault, there is a part of one
pub partial_from : (turn : Turn) (total : ℕ) (octets : List ℕ) → tpkt_in turn total octets ≡ Ok None
    → IsPartial turn total octets
partial_from turn total octets none = record {
  no_tpkt = λ tpdu first more is spelled comes. let e = sym none
      ∙ ap (λ (os : List ℕ). tpkt_in turn total os) is
      ∙ tpkt_again turn total tpdu first more spelled comes in absurd cc;
  no_fault = λ f breaks. let e = sym none ∙ fault_first turn total octets f breaks in absurd cc;
}
