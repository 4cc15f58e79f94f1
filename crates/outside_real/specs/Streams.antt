-- A standard stream or a file, and what the objects made of them tell: their faults alone.
use Rattle.std.specs.Prelude.{Bool, true, false, ℕ, List, [], Option, None, Some, Result, codes}
use Rattle.std.specs.Prelude.{bytes_eq}
use Rattle.std.specs.Global.{Box}
use Rattle.std.specs.Io.{ReadsAtMost, WritesAtMost}
use Rattle.std.specs.Io.KnownBytes.{ReadConsumes, WriteAppends}
use Rattle.std.specs.declared.io.Error.{Error}
use Rattle.outside.specs.Source.{SourceTold}
use Rattle.outside.specs.Sink.{SinkTold}
use Rattle.outside.specs.Names.Outside.{OutsideTold, untold}
use Rattle.outside_real.specs.declared.stream.Stream.{Stream}
use Rattle.outside_real.specs.declared.stream.Stream.TheVariants.{Standard, File}

abbrev pub source_told : ℕ → SourceTold
source_told faults =
    record { left = None; given = None; ended = None; calls = None; faults = faults; name = [] }

abbrev pub sink_told : ℕ → SinkTold
sink_told faults = record { taken = None; held = 0; calls = None; faults = faults; name = [] }

abbrev pub outside_told : ℕ → OutsideTold
outside_told faults = record {
  sources = λ name. untold;
  sinks = λ name. untold;
  read_names = None;
  written_names = None;
  network = record {
    listeners = λ address. untold;
    links = λ address. untold;
    clock = untold;
    listened = None;
    connected = None;
  };
  faults = faults;
}

-- whether it is the standard stream
abbrev pub is_standard_stream : {S F : Type 0} → Stream S F → Bool
is_standard_stream {S} {F} (Standard stream) = true
is_standard_stream {S} {F} (File file) = false

-- the name of the standard stream is `-`
abbrev pub is_standard_name : List ℕ → Bool
is_standard_name name = bytes_eq name (codes "-")

-- what a reader in memory of its own has left, if there was memory for it
abbrev pub left_boxed : {T : Type 0} → (T → Option (List ℕ)) → Option (Box T)
    → Option (List ℕ)
left_boxed {T} left None = None
left_boxed {T} left (Some reader) = left reader.value

-- an attempt at reading is one at the stream or the file that it is, of which std says this
abbrev pub reads_stream : {S F : Type 0} → (S → Option (List ℕ)) → (F → Option (List ℕ))
    → Stream S F → Stream S F → Result ℕ Error → List ℕ → Type 0
reads_stream {S} {F} stream_left file_left (Standard before) (Standard after) outcome buf =
    ReadsAtMost outcome buf × ReadConsumes (stream_left before) (stream_left after) outcome buf
reads_stream {S} {F} stream_left file_left (File before) (File after) outcome buf =
    ReadsAtMost outcome buf × ReadConsumes (file_left before) (file_left after) outcome buf
reads_stream {S} {F} stream_left file_left (Standard before) (File after) outcome buf = ⊥
reads_stream {S} {F} stream_left file_left (File before) (Standard after) outcome buf = ⊥

-- an attempt at writing is one at the stream or the file that it is, of which std says this
abbrev pub writes_stream : {S F : Type 0} → (S → Option (List ℕ)) → (F → Option (List ℕ))
    → Stream S F → Stream S F → Result ℕ Error → List ℕ → Type 0
writes_stream {S} {F} stream_holds file_holds (Standard before) (Standard after) outcome piece =
    WritesAtMost outcome piece × WriteAppends (stream_holds before)
    (stream_holds after) outcome piece
writes_stream {S} {F} stream_holds file_holds (File before) (File after) outcome piece =
    WritesAtMost outcome piece × WriteAppends (file_holds before) (file_holds after) outcome piece
writes_stream {S} {F} stream_holds file_holds (Standard before) (File after) outcome piece = ⊥
writes_stream {S} {F} stream_holds file_holds (File before) (Standard after) outcome piece = ⊥
