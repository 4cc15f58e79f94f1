-- What contracts see of the doubles in memory, and what these tell: all of it.
use Rattle.std.specs.Prelude.{Bool, ℕ, List, Some}
use Rattle.outside.specs.Source.{SourceTold}
use Rattle.outside.specs.Sink.{SinkTold}

-- a source: the octets left, those given so far, whether the last read answered that nothing is
-- left, whether it did or failed, how many reads came directly after the end or a failed read, the
-- numbers of the calls that fail, the number of the next call, the faults, the name
pub record TextState : Type 0 where
  pub left : List ℕ
  pub given : List ℕ
  pub ended : Bool
  pub stopped : Bool
  pub late : ℕ
  pub fails : List ℕ
  pub calls : ℕ
  pub faults : ℕ
  pub name : List ℕ

abbrev pub text_told : TextState → SourceTold
text_told s = record {
  left = Some s.left;
  given = Some s.given;
  ended = Some s.ended;
  calls = Some (record { stopped = s.stopped; late = s.late });
  faults = s.faults;
  name = s.name;
}

-- a sink: the octets taken, the room left for more, whether the last write failed, how many writes
-- came directly after a failed one, the numbers of the calls that fail, the number of the next
-- call, the faults, the name
pub record ByteState : Type 0 where
  pub taken : List ℕ
  pub room : ℕ
  pub stopped : Bool
  pub late : ℕ
  pub fails : List ℕ
  pub calls : ℕ
  pub faults : ℕ
  pub name : List ℕ

abbrev pub byte_told : ByteState → SinkTold
byte_told s = record {
  taken = Some s.taken;
  held = 0;
  calls = Some (record { stopped = s.stopped; late = s.late });
  faults = s.faults;
  name = s.name;
}
