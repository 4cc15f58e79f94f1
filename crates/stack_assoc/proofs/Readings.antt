-- What the laws of one reading rest on: a message of the transport tells one thing, or breaks one
-- rule.
use Rattle.std.proofs.Common.{◌≡◌, ℕ, List, ◌⊎◌, inl, inr, refl, sym, ap, ◌∙◌}
use Rattle.tpkt_cotp.specs.declared.tpdu.ConnectRequest.{ConnectRequest}
use Rattle.tpkt_cotp.specs.declared.tpdu.ConnectConfirm.{ConnectConfirm}
use Rattle.tpkt_cotp.specs.Streams.{Message, asks, confirms, tsdu}
use Rattle.tpkt_cotp.specs.Streams as transport
use Rattle.stack_assoc.specs.declared.messages.expecting.Expecting.{Expecting}
use Rattle.stack_assoc.specs.declared.messages.fault.StackFault.{StackFault}
use Rattle.stack_assoc.specs.declared.messages.heard.Heard.{Heard}
use Rattle.stack_assoc.specs.Messages.Meanings.{Meaning, HasOneMeaning}
use Rattle.stack_assoc.specs.Messages.Messages.{message}
use Rattle.stack_assoc.specs.Arrivals.{Arrival, asked, confirmed, gone, heard, Role}
use Rattle.stack_assoc.specs.Expectations.{expecting_after}
use Rattle.stack_assoc.specs.Tellings.{TellsNext, BreaksNext}
use Rattle.stack_assoc.proofs.TurnLaws.{OneEach}

-- every TSDU has one reading
abbrev pub OneMeaning : Type 0
OneMeaning = (e : Expecting) (tsdu : List ℕ) → HasOneMeaning (message e tsdu)

said_or_broken : {X : Type 0} (m : Meaning X) → HasOneMeaning m
    → ((x : X) × m.says x) ⊎ ((f : StackFault) × m.breaks f)
said_or_broken m one = elim one [
  | inl s ↦ inl (s.0.0, s.0.1)
  | inr b ↦ inr (b.1.0, b.1.1)
]

said_once : {X : Type 0} (m : Meaning X) → HasOneMeaning m → (x y : X) → m.says x → m.says y → x ≡ y
said_once m one x y s r = elim one [
  | inl o ↦ o.0.2 x s ∙ sym (o.0.2 y r)
  | inr b ↦ absurd (b.0 x s)
]

broken_once : {X : Type 0} (m : Meaning X) → HasOneMeaning m → (f g : StackFault) → m.breaks f
    → m.breaks g → f ≡ g
broken_once m one f g s r = elim one [
  | inl o ↦ absurd (o.1 f s)
  | inr b ↦ b.1.2 f s ∙ sym (b.1.2 g r)
]

never_both : {X : Type 0} (m : Meaning X) → HasOneMeaning m → (x : X) (f : StackFault) → m.says x
    → m.breaks f → ⊥
never_both m one x f s r = elim one [
  | inl o ↦ o.1 f r
  | inr b ↦ b.0 x s
]

abbrev TellsOrBreaks : Role → List Arrival → Message → Type 0
TellsOrBreaks role b m = ((t : Arrival) × TellsNext role b t m) ⊎ ((f : StackFault) × BreaksNext role b m f)

each : (one : OneMeaning) (role : Role) (b : List Arrival) (m : Message) → TellsOrBreaks role b m
each one role b (asks r) = inl (asked r, refl)
each one role b (confirms c) = inl (confirmed c, refl)
each one role b transport.gone = inl (gone, tt)
each one role b (tsdu place octets) =
    elim (said_or_broken (message (expecting_after role b) octets) (one (expecting_after role b) octets))
    [ inl s ↦ inl (heard s.0, s.1) | inr f ↦ inr f ]

once : (one : OneMeaning) (role : Role) (b : List Arrival) (t u : Arrival) (m : Message)
    → TellsNext role b t m → TellsNext role b u m → t ≡ u
once one role b (asked r) (asked q) (asks p) s v = ap (λ (x : ConnectRequest). asked x) (s ∙ sym v)
once one role b (confirmed c) (confirmed d) (confirms e) s v =
    ap (λ (x : ConnectConfirm). confirmed x) (s ∙ sym v)
once one role b gone gone transport.gone s v = refl
once one role b (heard h) (heard g) (tsdu place octets) s v =
    ap (λ (x : Heard). heard x) (said_once (message (expecting_after role b) octets)
    (one (expecting_after role b) octets) h g s v)
once one role b (asked r) u (confirms e) s v = absurd s
once one role b (asked r) u transport.gone s v = absurd s
once one role b (asked r) u (tsdu place octets) s v = absurd s
once one role b (asked r) (confirmed d) (asks p) s v = absurd v
once one role b (asked r) gone (asks p) s v = absurd v
once one role b (asked r) (heard g) (asks p) s v = absurd v
once one role b (confirmed c) u (asks p) s v = absurd s
once one role b (confirmed c) u transport.gone s v = absurd s
once one role b (confirmed c) u (tsdu place octets) s v = absurd s
once one role b (confirmed c) (asked q) (confirms e) s v = absurd v
once one role b (confirmed c) gone (confirms e) s v = absurd v
once one role b (confirmed c) (heard g) (confirms e) s v = absurd v
once one role b gone u (asks p) s v = absurd s
once one role b gone u (confirms e) s v = absurd s
once one role b gone u (tsdu place octets) s v = absurd s
once one role b gone (asked q) transport.gone s v = absurd v
once one role b gone (confirmed d) transport.gone s v = absurd v
once one role b gone (heard g) transport.gone s v = absurd v
once one role b (heard h) u (asks p) s v = absurd s
once one role b (heard h) u (confirms e) s v = absurd s
once one role b (heard h) u transport.gone s v = absurd s
once one role b (heard h) (asked q) (tsdu place octets) s v = absurd v
once one role b (heard h) (confirmed d) (tsdu place octets) s v = absurd v
once one role b (heard h) gone (tsdu place octets) s v = absurd v

first : (one : OneMeaning) (role : Role) (b : List Arrival) (m : Message) (f g : StackFault)
    → BreaksNext role b m f → BreaksNext role b m g → f ≡ g
first one role b (asks r) f g s v = absurd s
first one role b (confirms c) f g s v = absurd s
first one role b transport.gone f g s v = absurd s
first one role b (tsdu place octets) f g s v =
    broken_once (message (expecting_after role b) octets) (one (expecting_after role b) octets) f g s v

never : (one : OneMeaning) (role : Role) (b : List Arrival) (t : Arrival) (m : Message) (f : StackFault)
    → TellsNext role b t m → BreaksNext role b m f → ⊥
never one role b t (asks r) f s v = v
never one role b t (confirms c) f s v = v
never one role b t transport.gone f s v = v
never one role b (asked r) (tsdu place octets) f s v = s
never one role b (confirmed c) (tsdu place octets) f s v = s
never one role b gone (tsdu place octets) f s v = s
never one role b (heard h) (tsdu place octets) f s v =
    never_both (message (expecting_after role b) octets) (one (expecting_after role b) octets) h f s v

pub one_each : (one : OneMeaning) (role : Role) → OneEach (TellsNext role) (BreaksNext role)
one_each one role = record {
  each = each one role;
  once = once one role;
  first = first one role;
  never = never one role;
}
