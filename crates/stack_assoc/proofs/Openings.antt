-- What begins a connection of the transport comes first, and once.
use Rattle.std.proofs.Common.{◌≡◌, ℕ, ◌+◌, true, false, List, [], ◌∷◌, ◌++◌, length, Option, Some, None}
use Rattle.std.proofs.Common.{refl, sym, subst}
use Rattle.tpkt_cotp.specs.declared.turn.Role as transport
use Rattle.tpkt_cotp.specs.declared.turn.Turn.{Turn}
use Rattle.tpkt_cotp.specs.declared.turn.Turn.TheVariants as turns
use Rattle.tpkt_cotp.specs.Turns.{may_come}
use Rattle.tpkt_cotp.specs.Tpdus.{Tpdu, request, confirm, disconnect, part, kind}
use Rattle.tpkt_cotp.specs.Streams.{Message, asks, confirms, gone, tsdu, message_of}
use Rattle.tpkt_cotp.specs.Streams.{SpellsMessages}
use Rattle.stack_assoc.specs.declared.taken.Opening.{Opening}
use Rattle.stack_assoc.specs.declared.taken.Opening.TheVariants as openings
use Rattle.stack_assoc.specs.Fronts.{StartsWith}
use Rattle.stack_assoc.specs.Taking.{opening_seen}

abbrev IsOpening : Message → Type 0
IsOpening (asks r) = Unit {0}
IsOpening (confirms c) = Unit {0}
IsOpening gone = ⊥
IsOpening (tsdu place octets) = ⊥

abbrev IsOpeningAnswer : Option Message → Type 0
IsOpeningAnswer (Some m) = IsOpening m
IsOpeningAnswer None = ⊥

opening_is : (o : Opening) → IsOpening (opening_seen o)
opening_is (openings.Request r) = tt
opening_is (openings.Confirm c) = tt

not_behind : (at : ℕ) (held : List ℕ) (tpdu : Tpdu) (m : Message)
    → may_come turns.Transfer (kind tpdu) ≡ true → message_of at held tpdu ≡ Some m → IsOpening m
    → ⊥
not_behind at held (request r) m order ends is = absurd cc
not_behind at held (confirm c) m order ends is = absurd cc
not_behind at held disconnect m order ends is = subst IsOpeningAnswer (sym ends) is
not_behind at held (part true more) m order ends is = subst IsOpeningAnswer (sym ends) is
not_behind at held (part false more) m order ends is = subst IsOpeningAnswer (sym ends) is

not_later : (at : ℕ) (ms : List Message) (m : Message) (octets : List ℕ) → IsOpening m
    → SpellsMessages turns.Transfer at (ms ++ m ∷ []) octets → ⊥
not_later at [] m octets is s =
    not_behind at _ s.3.tpdu m s.3.comes.order s.3.ends is
not_later at (n ∷ ms) m octets is s = not_later (at + length s.0) ms m s.1 is s.4

nothing_first : (turn : Turn) (ms : List Message) (m : Message) (octets : List ℕ) → IsOpening m
    → SpellsMessages turn 0 (ms ++ m ∷ []) octets → ms ≡ []
nothing_first turn [] m octets is s = refl
nothing_first turn (n ∷ ms) m octets is s = absurd (not_later (0 + length s.0) ms m s.1 is s.4)

-- nothing comes before an opening
pub nothing_before : (role : transport.Role) (octets : List ℕ) (ms : List Message) (o : Opening)
    → StartsWith role octets (ms ++ opening_seen o ∷ []) → ms ≡ []
nothing_before role octets ms o s =
    nothing_first (turns.Opening role) ms (opening_seen o) s.whole (opening_is o) s.spelled
