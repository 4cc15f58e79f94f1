-- What a sink with a buffer tells: what the sink behind it took and what is gathered for that.
use Rattle.std.specs.Prelude.{true, ◌≡◌, ℕ, ◌+◌, List, [], ◌++◌, length, option_map, Result, Ok}
use Rattle.std.specs.Prelude.{Err}
use Rattle.outside.specs.declared.sink.SinkFailed.{SinkFailed}
use Rattle.outside.specs.Sink.{SinkTold, Appends, AppendsAll}

abbrev pub buffered_told : SinkTold → List ℕ → SinkTold
buffered_told sink gathered = record {
  taken = option_map (λ octets. octets ++ gathered) sink.taken;
  held = sink.held + length gathered;
  calls = sink.calls;
  faults = sink.faults;
  name = sink.name;
}

-- what was gathered went out, or a front part of it before a write that failed
abbrev pub HandsOn : SinkTold → SinkTold → List ℕ → List ℕ → Result (Unit {0}) SinkFailed → Type 0
HandsOn before after gathered rest (Ok done) = AppendsAll before after gathered × (rest ≡ [])
HandsOn before after gathered rest (Err failed) =
    (front : List ℕ) × (gathered ≡ front ++ rest) × Appends before after front true

-- what was gathered went out, or a front part of it before a write that failed; what didn't go out
-- is lost
abbrev pub Finishes : SinkTold → SinkTold → List ℕ → Result (Unit {0}) SinkFailed → Type 0
Finishes before after gathered result = (rest : List ℕ) × HandsOn before after gathered rest result
