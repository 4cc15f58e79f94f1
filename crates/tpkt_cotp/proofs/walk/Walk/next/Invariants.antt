use Rattle.std.proofs.Common.{◌≡◌, ◌-◌, ◌≤◌, ℕ, List, None, length, take}
use Rattle.tpkt_cotp.specs.declared.turn.Role.{Role}
use Rattle.tpkt_cotp.specs.Streams.{Message}
use Rattle.tpkt_cotp.specs.Lines.{Line, IsWalkWithin, line_of, Reads, Stands, fed}
use Rattle.tpkt_cotp.specs.Goings.{stream_of}
use Rattle.tpkt_cotp.proofs.walk.Walk.next.Given as goal

-- no rule was broken, it stands where it stood, and holds what it held
pub record Keeps (old t : Line) : Type 0 where
  pub clear : t.fault ≡ None
  pub start : old.start ≡ t.start
  pub goes : (more : List ℕ) → stream_of (fed old more) ≡ stream_of (fed t more)
  pub begins : take (length old.held) t.held ≡ old.held
  pub reads : (role : Role) (heard : List ℕ) (given : List Message) → Stands role heard given old
      → Reads role heard given t

abbrev pub invariant-loop-message : goal.invariant-loop-message
invariant-loop-message l = Keeps (line_of l.fn.self l.fn.part.items l.octets)
    (line_of l.self l.part.items l.octets) × IsWalkWithin l.self l.part.items l.octets
    × (l.fn.self.passed ≤ l.self.passed)

abbrev pub decreases-loop-message : goal.decreases-loop-message
decreases-loop-message l = length l.octets - l.self.passed
