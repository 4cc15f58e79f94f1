-- A stream says or stops, in one way; no message begins another; what was said stays said.
use Rattle.std.proofs.Common.{◌≡◌, ℕ, ◌+◌, List, [], ◌∷◌, ◌++◌, length, take, drop, Option, Some}
use Rattle.std.proofs.Common.{None, Ok, Err, refl, sym, ap, subst, ◌∙◌, arith, append_assoc}
use Rattle.std.proofs.lemmas.List.{take_at, drop_at, length-append}
use Rattle.tpkt_cotp.specs.declared.fault.CotpFault.{CotpFault}
use Rattle.tpkt_cotp.specs.declared.turn.Role.{Role}
use Rattle.tpkt_cotp.specs.declared.turn.Turn.{Turn}
use Rattle.tpkt_cotp.specs.declared.turn.Turn.TheVariants as turns
use Rattle.tpkt_cotp.specs.Tpdus.{Tpdu, Tpkt, disconnect}
use Rattle.tpkt_cotp.specs.Readings.{Read, tpkt_of}
use Rattle.tpkt_cotp.specs.Streams.{Message, stream_place, held_of, section_octets_of, message_of, SpellsMessage}
use Rattle.tpkt_cotp.specs.Streams.{SpellsMessages, BreaksRule, turn_after, Says, Stops}
use Rattle.tpkt_cotp.proofs.Standing.{later}
use Rattle.tpkt_cotp.proofs.OneReading.{one_end, message_ends, fault_ends, size_of}

abbrev tpdu_of : Read Tpkt → Tpdu
tpdu_of (Ok (Some p)) = p.tpdu
tpdu_of (Ok None) = disconnect
tpdu_of (Err f) = disconnect

abbrev some_message : Message → Option Message
some_message m = Some m

some_is : (m n : Message) → some_message m ≡ some_message n → m ≡ n
some_is m n e = cc

-- no message begins another
pub one_message : (turn : Turn) (at : ℕ) (m n : Message) (a b x y : List ℕ)
    → SpellsMessage turn at m a → SpellsMessage turn at n b → a ++ x ≡ b ++ y → (a ≡ b) × (m ≡ n)
one_message turn at m n a b x y s t is =
    let same = one_end turn (a ++ x) s.sections t.sections (s.last ++ x) (t.last ++ y)
    (tpkt_of (length s.last) s.tpdu) (tpkt_of (length t.last) t.tpdu)
    (message_ends turn at (a ++ x) a x m refl s) (message_ends turn at (a ++ x) b y n is t) in
    let size : length s.last ≡ length t.last = ap size_of same.1 in
    let tpdu : s.tpdu ≡ t.tpdu = ap tpdu_of same.1 in
    let last : s.last ≡ t.last = sym (take_at s.last x (length s.last) refl)
    ∙ ap (λ (os : List ℕ). take (length s.last) os) same.0.rest
    ∙ take_at t.last y (length s.last) (sym size) in (
      s.opens.is ∙ ap (λ (os : List ℕ). os ++ s.last) same.0.octets
          ∙ ap (λ (os : List ℕ). section_octets_of t.sections ++ os) last ∙ sym t.opens.is,
      some_is m n (sym s.ends ∙ ap (λ (h : List ℕ). message_of at h s.tpdu) same.0.held
          ∙ ap (λ (p : Tpdu). message_of at (held_of t.sections) p) tpdu ∙ t.ends),
    )

-- no message stands at the front
abbrev pub NoMessage : Turn → ℕ → List ℕ → Type 0
NoMessage turn at octets = (m : Message) (first more : List ℕ) → octets ≡ first ++ more
    → SpellsMessage turn at m first → ⊥

pub fault_no_message : (turn : Turn) (at : ℕ) (octets : List ℕ) (f : CotpFault)
    → BreaksRule turn at octets f → NoMessage turn at octets
fault_no_message turn at octets f b m first more is s =
    let same = one_end turn octets s.sections b.sections (s.last ++ more) b.rest
    (tpkt_of (length s.last) s.tpdu) (Err b.broken)
    (message_ends turn at octets first more m is s) (fault_ends turn at octets f b) in
    let e = same.1 in absurd cc

abbrev faulted : ℕ → CotpFault → CotpFault
faulted place h = record { place = stream_place (place + h.place); why = h.why }

abbrev failed : CotpFault → Read Tpkt
failed f = Err f

err_is : (f g : CotpFault) → failed f ≡ failed g → f ≡ g
err_is f g e = cc

-- one rule is the first
pub one_fault : (turn : Turn) (at : ℕ) (octets : List ℕ) (f g : CotpFault)
    → BreaksRule turn at octets f → BreaksRule turn at octets g → f ≡ g
one_fault turn at octets f g b c =
    let same = one_end turn octets b.sections c.sections b.rest c.rest (Err b.broken)
    (Err c.broken) (fault_ends turn at octets f b) (fault_ends turn at octets g c) in
    let broken : b.broken ≡ c.broken = err_is b.broken c.broken same.1 in
    b.is ∙ ap (λ (os : List ℕ). faulted (at + length os) b.broken) same.0.octets
    ∙ ap (λ (h : CotpFault). faulted (at + length (section_octets_of c.sections)) h) broken ∙ sym c.is

pub record SameStream (ms ns : List Message) (w v r q : List ℕ) : Type 0 where
  pub messages : ms ≡ ns
  pub whole : w ≡ v
  pub rest : r ≡ q

pub same_stream : (turn : Turn) (at : ℕ) (ms ns : List Message) (w v r q : List ℕ)
    → SpellsMessages turn at ms w → SpellsMessages turn at ns v → w ++ r ≡ v ++ q
    → NoMessage (turn_after turn ms) (at + length w) r
    → NoMessage (turn_after turn ns) (at + length v) q → SameStream ms ns w v r q
same_stream turn at [] [] w v r q one two is none neither =
    record {
      messages = refl;
      whole = one ∙ sym two;
      rest = sym (ap (λ (os : List ℕ). os ++ r) one)
          ∙ is ∙ ap (λ (os : List ℕ). os ++ q) two;
    }
same_stream turn at [] (n ∷ ns) w v r q one two is none neither =
    let e : r ≡ two.0 ++ (two.1 ++ q) = sym (ap (λ (os : List ℕ). os ++ r) one) ∙ is
    ∙ ap (λ (os : List ℕ). os ++ q) two.2 ∙ append_assoc two.0 two.1 q in
    let place : at ≡ at + length w = let l = ap length one in omega (arith, l) in
    absurd (none n two.0 (two.1 ++ q) e (subst (λ (k : ℕ). SpellsMessage turn k n two.0) place
    two.3))
same_stream turn at (m ∷ ms) [] w v r q one two is none neither =
    let e : q ≡ one.0 ++ (one.1 ++ r) = sym (ap (λ (os : List ℕ). os ++ q) two) ∙ sym is
    ∙ ap (λ (os : List ℕ). os ++ r) one.2 ∙ append_assoc one.0 one.1 r in
    let place : at ≡ at + length v = let l = ap length two in omega (arith, l) in
    absurd (neither m one.0 (one.1 ++ r) e (subst (λ (k : ℕ). SpellsMessage turn k m one.0) place
    one.3))
same_stream turn at (m ∷ ms) (n ∷ ns) w v r q one two is none neither =
    let e : one.0 ++ (one.1 ++ r) ≡ two.0 ++ (two.1 ++ q) = sym (append_assoc one.0 one.1 r)
    ∙ sym (ap (λ (os : List ℕ). os ++ r) one.2) ∙ is ∙ ap (λ (os : List ℕ). os ++ q) two.2
    ∙ append_assoc two.0 two.1 q in
    let first = one_message turn at m n one.0 two.0 (one.1 ++ r) (two.1 ++ q) one.3 two.3 e in
    let size : length one.0 ≡ length two.0 = ap length first.0 in
    let left : one.1 ++ r ≡ two.1 ++ q = sym (drop_at one.0 (one.1 ++ r) (length one.0) refl)
    ∙ ap (λ (os : List ℕ). drop (length one.0) os) e
    ∙ drop_at two.0 (two.1 ++ q) (length one.0) (sym size) in
    let k = at + length one.0 in
    let here : at + length w ≡ k + length one.1 = let l = ap length one.2 in let j = length-append
    one.0 one.1 in omega (arith, l, j) in
    let there : at + length v ≡ k + length two.1 = let l = ap length two.2 in let j = length-append
    two.0 two.1 in omega (arith, l, j, size) in
    let after : SpellsMessages turns.Transfer k ns two.1 = subst
    (λ (s : ℕ). SpellsMessages turns.Transfer (at + s) ns two.1) (sym size) two.4 in
    let others = same_stream turns.Transfer k ms ns one.1 two.1 r q one.4 after left
    (subst (λ (t : Turn). NoMessage t (k + length one.1) r) (sym (later ms))
    (subst (λ (s : ℕ). NoMessage turns.Transfer s r) here none))
    (subst (λ (t : Turn). NoMessage t (k + length two.1) q) (sym (later ns))
    (subst (λ (s : ℕ). NoMessage turns.Transfer s q) there neither)) in
    record {
      messages = ap (λ (x : Message). x ∷ ms) first.1
          ∙ ap (λ (xs : List Message). n ∷ xs) others.messages;
      whole = one.2 ∙ ap (λ (os : List ℕ). os ++ one.1) first.0
          ∙ ap (λ (os : List ℕ). two.0 ++ os) others.whole ∙ sym two.2;
      rest = others.rest;
    }

-- places count from the start
pub at_zero : (turn : Turn) (n : ℕ) (octets : List ℕ) → NoMessage turn n octets
    → NoMessage turn (0 + n) octets
at_zero turn n octets none = let e : n ≡ 0 + n = omega arith in subst
    (λ (k : ℕ). NoMessage turn k octets) e none

pub says_once : (role : Role) (octets : List ℕ) (ms ns : List Message) (rest other : List ℕ)
    → Says role octets ms rest → Says role octets ns other → (ms ≡ ns) × (rest ≡ other)
says_once role octets ms ns rest other s t =
    let same = same_stream (turns.Opening role) 0 ms ns s.whole t.whole rest other s.spelled
    t.spelled (sym s.is ∙ t.is) (at_zero (turn_after (turns.Opening role) ms) (length s.whole)
    rest s.remains.no_message) (at_zero (turn_after (turns.Opening role) ns) (length t.whole)
    other t.remains.no_message) in
    (same.messages, same.rest)

pub stops_once : (role : Role) (octets : List ℕ) (ms ns : List Message) (f g : CotpFault)
    → Stops role octets ms f → Stops role octets ns g → (ms ≡ ns) × (f ≡ g)
stops_once role octets ms ns f g s t =
    let opening = turns.Opening role in
    let same = same_stream opening 0 ms ns s.whole t.whole s.rest t.rest s.spelled t.spelled
    (sym s.is ∙ t.is)
    (at_zero (turn_after opening ms) (length s.whole) s.rest
    (fault_no_message (turn_after opening ms) (length s.whole) s.rest f s.breaks))
    (at_zero (turn_after opening ns) (length t.whole) t.rest
    (fault_no_message (turn_after opening ns) (length t.whole) t.rest g t.breaks)) in
    let there : BreaksRule (turn_after opening ns) (length t.whole) t.rest f =
    subst (λ (xs : List Message). BreaksRule (turn_after opening xs) (length t.whole) t.rest f)
    same.messages
    (subst (λ (w : List ℕ). BreaksRule (turn_after opening ms) (length w) t.rest f) same.whole
    (subst (λ (r : List ℕ). BreaksRule (turn_after opening ms) (length s.whole) r f) same.rest
    s.breaks)) in
    (same.messages, one_fault (turn_after opening ns) (length t.whole) t.rest f g there t.breaks)

pub says_or_stops : (role : Role) (octets : List ℕ) (ms ns : List Message) (rest : List ℕ)
    (g : CotpFault) → Says role octets ms rest → Stops role octets ns g → ⊥
says_or_stops role octets ms ns rest g s t =
    let opening = turns.Opening role in
    let same = same_stream opening 0 ms ns s.whole t.whole rest t.rest s.spelled t.spelled
    (sym s.is ∙ t.is)
    (at_zero (turn_after opening ms) (length s.whole) rest s.remains.no_message)
    (at_zero (turn_after opening ns) (length t.whole) t.rest
    (fault_no_message (turn_after opening ns) (length t.whole) t.rest g t.breaks)) in
    let there : BreaksRule (turn_after opening ms) (length s.whole) rest g =
    subst (λ (xs : List Message). BreaksRule (turn_after opening xs) (length s.whole) rest g)
    (sym same.messages)
    (subst (λ (w : List ℕ). BreaksRule (turn_after opening ns) (length w) rest g) (sym same.whole)
    (subst (λ (r : List ℕ). BreaksRule (turn_after opening ns) (length t.whole) r g)
    (sym same.rest) t.breaks)) in
    s.remains.no_fault g there
