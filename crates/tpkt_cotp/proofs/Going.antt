-- A stream, one TPKT after another, whatever octets may follow.
use Rattle.std.proofs.Common.{◌≡◌, ℕ, zero, suc, ◌+◌, ◌-◌, ◌<◌, ◌≤◌, List, [], ◌∷◌, ◌++◌, length}
use Rattle.std.proofs.Common.{drop, Option, Some, None, Result, Ok, Err, refl, sym, ap, subst, ◌∙◌}
use Rattle.std.proofs.Common.{arith, append_assoc}
use Rattle.std.proofs.lemmas.List.{length-append, drop_at}
use Rattle.tpkt_cotp.specs.declared.fault.CotpFault.{CotpFault}
use Rattle.tpkt_cotp.specs.declared.message.TransportIn.{TransportIn}
use Rattle.tpkt_cotp.specs.declared.turn.Turn.{Turn}
use Rattle.tpkt_cotp.specs.declared.turn.Turn.TheVariants as turns
use Rattle.tpkt_cotp.specs.Tpdus.{Tpkt}
use Rattle.tpkt_cotp.specs.Readings.{Read, tpkt_in}
use Rattle.tpkt_cotp.specs.Streams.{Message, stream_place, message_of, part_after}
use Rattle.tpkt_cotp.specs.Seen.{message_seen}
use Rattle.tpkt_cotp.specs.Lines.{Line, fed_to, fed}
use Rattle.tpkt_cotp.specs.Steps.{behind_part, behind_message, StepsPart, StepsMessage}
use Rattle.tpkt_cotp.specs.Steps.{StepsNowhere, StepsBroken}
use Rattle.tpkt_cotp.specs.Places.{stopped, ended, with_message, GoesBehind, behind_tpkt}
use Rattle.tpkt_cotp.specs.Places.{by_tpkt, stream_from}
use Rattle.tpkt_cotp.specs.Goings.{unless_stopped, stream_of, HandsOut}
use Rattle.tpkt_cotp.proofs.Exact.{Begins}
use Rattle.tpkt_cotp.proofs.ExactTpkt.{tpkt_found}
use Rattle.tpkt_cotp.proofs.Again.{tpkt_again}
use Rattle.tpkt_cotp.proofs.Stays.{tpkt_broken}
use Rattle.tpkt_cotp.proofs.LineLemmas.{nothing_read}
use Rattle.tpkt_cotp.proofs.Answering.{tpkt_some, settled_of}

-- octets that are passed over
stream_from-passed : (turn : Turn) (start place : ℕ) (held : List ℕ) (passed : ℕ) (octets : List ℕ)
    → stream_from turn start place held passed octets
    ≡ stream_from turn start place held 0 (drop passed octets)
unfolding stream_from
stream_from-passed turn start place held zero octets = refl
stream_from-passed turn start place held (suc passed) [] = refl
stream_from-passed turn start place held (suc passed) (o ∷ octets) =
    stream_from-passed turn start place held passed octets

-- how a stream goes on behind a TPKT, by the octets behind it
abbrev pub goes_behind : List ℕ → Tpkt → GoesBehind
goes_behind octets p = λ start next held. stream_from turns.Transfer start next held 0
    (drop p.size octets)

behind_same : (start next : ℕ) (held : List ℕ) (g h : GoesBehind)
    → ((s n : ℕ) (l : List ℕ) → g s n l ≡ h s n l) → (m : Option Message)
    → behind_tpkt start next held g m ≡ behind_tpkt start next held h m
behind_same start next held g h same None = same start next held
behind_same start next held g h same (Some m) =
    ap (with_message (record { message = m; place = start; next = next })) (same next next [])

-- each TPKT has octets
size_some : (turn : Turn) (total : ℕ) (octets : List ℕ) (p : Tpkt) → Begins turn total octets p
    → (0 < p.size) × (p.size ≤ length octets)
size_some turn total octets p b =
    let some : 0 < length b.spelling = tpkt_some p.tpdu b.spelling b.spelled in
    let l = ap length b.is in
    let m = length-append b.spelling b.rest in
    (omega (arith, b.size), omega (arith, b.size, l, m))

drop_first : (n o : ℕ) (octets : List ℕ) → 0 < n → drop (n - 1) octets ≡ drop n (o ∷ octets)
drop_first zero o octets some = absurd (omega arith)
drop_first (suc n) o octets some =
    let e : suc n - 1 ≡ n = omega arith in ap (λ (k : ℕ). drop k octets) e

-- what stands at the front of octets
pub stream_from-read : (turn : Turn) (start place : ℕ) (held octets : List ℕ)
    → stream_from turn start place held 0 octets
    ≡ by_tpkt start place held octets (goes_behind octets) (tpkt_in turn (length held) octets)
unfolding stream_from
stream_from-read turn start place held [] =
    ap (by_tpkt start place held [] (goes_behind [])) (sym (nothing_read turn (length held)))
stream_from-read turn start place held (o ∷ octets) =
    here (tpkt_in turn (length held) (o ∷ octets)) refl
  where
    goes : Tpkt → GoesBehind
    goes p start next held = stream_from turns.Transfer start next held (p.size - 1) octets

    here : (r : Read Tpkt) → tpkt_in turn (length held) (o ∷ octets) ≡ r
        → by_tpkt start place held (o ∷ octets)
        (λ p start next held. stream_from turns.Transfer start next held (p.size - 1) octets) r
        ≡ by_tpkt start place held (o ∷ octets) (goes_behind (o ∷ octets)) r
    here (Ok (Some p)) read =
        behind_same start (stream_place (place + p.size)) (part_after held p.tpdu)
        (λ start next held. stream_from turns.Transfer start next held (p.size - 1) octets)
        (goes_behind (o ∷ octets) p)
        (λ s n l. stream_from-passed turns.Transfer s n l (p.size - 1) octets
        ∙ ap (λ (os : List ℕ). stream_from turns.Transfer s n l 0 os)
        (drop_first p.size o octets (size_some turn (length held) (o ∷ octets) p
        (tpkt_found turn (length held) (o ∷ octets) p read)).0))
        (message_of start held p.tpdu)
    here (Ok None) read = refl
    here (Err f) read = refl

-- a whole TPKT stays, whatever follows
pub tpkt_more : (turn : Turn) (total : ℕ) (octets more : List ℕ) (p : Tpkt)
    → tpkt_in turn total octets ≡ Ok (Some p) → tpkt_in turn total (octets ++ more) ≡ Ok (Some p)
tpkt_more turn total octets more p read =
    let b : Begins turn total octets p = tpkt_found turn total octets p read in
    ap (λ (os : List ℕ). tpkt_in turn total (os ++ more)) b.is
    ∙ ap (λ (os : List ℕ). tpkt_in turn total os) (append_assoc b.spelling b.rest more)
    ∙ tpkt_again turn total p.tpdu b.spelling (b.rest ++ more) b.spelled b.comes
    ∙ ap (λ (n : ℕ). Ok (Some (record { size = n; tpdu = p.tpdu }))) (sym b.size)

-- what is left behind it, too
left_more : (turn : Turn) (total : ℕ) (octets more : List ℕ) (p : Tpkt)
    → tpkt_in turn total octets ≡ Ok (Some p)
    → drop p.size (octets ++ more) ≡ drop p.size octets ++ more
left_more turn total octets more p read =
    let b : Begins turn total octets p = tpkt_found turn total octets p read in
    ap (λ (os : List ℕ). drop p.size (os ++ more)) b.is
    ∙ ap (drop p.size) (append_assoc b.spelling b.rest more)
    ∙ drop_at b.spelling (b.rest ++ more) p.size (sym b.size)
    ∙ ap (λ (os : List ℕ). os ++ more)
    (sym (drop_at b.spelling b.rest p.size (sym b.size)) ∙ ap (drop p.size) (sym b.is))

-- a transport that has stopped, and one that hasn't
pub stream_of-clear : (t : Line) (more : List ℕ) → t.fault ≡ None → stream_of (fed t more)
    ≡ stream_from t.turn t.start t.place t.held 0 (t.unread ++ more)
stream_of-clear t more clear =
    ap (λ (o : Option CotpFault). unless_stopped o
    (stream_from t.turn t.start t.place t.held 0 (fed_to o t.unread more))) clear

pub stream_of-stopped : (t : Line) (f : CotpFault) → t.fault ≡ Some f
    → stream_of t ≡ ended (stopped f)
stream_of-stopped t f is =
    ap (λ (o : Option CotpFault). unless_stopped o
    (stream_from t.turn t.start t.place t.held 0 t.unread)) is

-- by a TPKT that is whole, whatever follows
by_whole : (old : Line) (more : List ℕ) (p : Tpkt) → old.fault ≡ None
    → tpkt_in old.turn (length old.held) old.unread ≡ Ok (Some p)
    → stream_of (fed old more) ≡ behind_tpkt old.start (stream_place (old.place + p.size))
    (part_after old.held p.tpdu)
    (λ start next held. stream_from turns.Transfer start next held 0 (drop p.size old.unread ++ more))
    (message_of old.start old.held p.tpdu)
by_whole old more p clear read =
    stream_of-clear old more clear
    ∙ stream_from-read old.turn old.start old.place old.held (old.unread ++ more)
    ∙ ap (by_tpkt old.start old.place old.held (old.unread ++ more)
    (goes_behind (old.unread ++ more)))
    (tpkt_more old.turn (length old.held) old.unread more p read)
    ∙ behind_same old.start (stream_place (old.place + p.size)) (part_after old.held p.tpdu)
    (goes_behind (old.unread ++ more) p)
    (λ start next held. stream_from turns.Transfer start next held 0 (drop p.size old.unread ++ more))
    (λ s n l. ap (λ (os : List ℕ). stream_from turns.Transfer s n l 0 os)
    (left_more old.turn (length old.held) old.unread more p read))
    (message_of old.start old.held p.tpdu)

-- a part of a TSDU hands nothing out
pub steps_part : (old new : Line) → old.fault ≡ None → StepsPart old new → (more : List ℕ)
    → stream_of (fed old more) ≡ stream_of (fed new more)
steps_part old new clear s more =
    let p = s.tpkt in
    subst (λ (t : Line). stream_of (fed old more) ≡ stream_of (fed t more)) (sym s.is)
    (by_whole old more p clear s.read
    ∙ ap (behind_tpkt old.start (stream_place (old.place + p.size)) (part_after old.held p.tpdu)
    (λ start next held. stream_from turns.Transfer start next held 0 (drop p.size old.unread ++ more)))
    s.ends
    ∙ sym (stream_of-clear (behind_part old p) more clear))

pub steps_message : (old new : Line) (m : TransportIn) → old.fault ≡ None
    → StepsMessage old (message_seen m) new → HandsOut old (Ok (Some m)) new
steps_message old new m clear s =
    let p = s.tpkt in
    λ more. subst (λ (t : Line). stream_of (fed old more)
    ≡ with_message (record { message = message_seen m; place = old.start; next = t.start })
    (stream_of (fed t more))) (sym s.is)
    (by_whole old more p clear s.read
    ∙ ap (behind_tpkt old.start (stream_place (old.place + p.size)) (part_after old.held p.tpdu)
    (λ start next held. stream_from turns.Transfer start next held 0 (drop p.size old.unread ++ more)))
    s.ends
    ∙ ap (with_message (record
    { message = message_seen m; place = old.start; next = stream_place (old.place + p.size) }))
    (sym (stream_of-clear (behind_message old p) more clear)))

-- where no whole TPKT is left
pub steps_nowhere : (old new : Line) → old.fault ≡ None → StepsNowhere old new
    → HandsOut old (Ok None) new
steps_nowhere old new clear s =
    subst (λ (t : Line). HandsOut old (Ok None) t) (sym s.is) (
      λ more. refl,
      ap (λ (o : Option CotpFault). unless_stopped o
          (stream_from old.turn old.start old.place old.held 0 old.unread)) clear
          ∙ stream_from-read old.turn old.start old.place old.held old.unread
          ∙ ap (by_tpkt old.start old.place old.held old.unread (goes_behind old.unread)) s.read,
      settled_of old clear s.few s.read,
    )

pub steps_broken : (old new : Line) (f : CotpFault) → old.fault ≡ None → StepsBroken old f new
    → HandsOut old (Err f) new
steps_broken old new f clear s =
    λ more. (
      stream_of-clear old more clear
          ∙ stream_from-read old.turn old.start old.place old.held (old.unread ++ more)
          ∙ ap (by_tpkt old.start old.place old.held (old.unread ++ more)
          (goes_behind (old.unread ++ more)))
          (tpkt_broken old.turn (length old.held) old.unread more s.broken s.read)
          ∙ ap (λ (g : CotpFault). ended (stopped g)) (sym s.fault),
      stream_of-stopped (fed new more) f (ap (λ (t : Line). t.fault) s.is),
    )

-- the same fault again
pub again_stopped : (t : Line) (f : CotpFault) → t.fault ≡ Some f → HandsOut t (Err f) t
again_stopped t f is =
    λ more. (stream_of-stopped (fed t more) f is, stream_of-stopped (fed t more) f is)

-- after parts that handed nothing out
pub hands_after : (old mid new : Line) (answer : Result (Option TransportIn) CotpFault)
    → ((more : List ℕ) → stream_of (fed old more) ≡ stream_of (fed mid more))
    → old.start ≡ mid.start → HandsOut mid answer new → HandsOut old answer new
hands_after old mid new (Ok (Some m)) same start h =
    λ more. same more ∙ h more ∙ ap (λ (n : ℕ). with_message (record
    { message = message_seen m; place = n; next = new.start }) (stream_of (fed new more)))
    (sym start)
hands_after old mid new (Ok None) same start h = (λ more. same more ∙ h.0 more, h.1, h.2)
hands_after old mid new (Err f) same start h = λ more. (same more ∙ (h more).0, (h more).1)
