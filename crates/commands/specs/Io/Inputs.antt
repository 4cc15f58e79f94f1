-- The inputs of a command: what one is read to, and why there is none.
use Rattle.std.specs.Prelude.{◌≡◌, ℕ, Bool, true, false, ◌<◌, ◌≤◌, List, [], ◌∷◌, length}
use Rattle.std.specs.Prelude.{Result, Ok, Err, Vec, OnOk}
use Rattle.std.specs.declared.alloc.AllocError.{AllocError}
use Rattle.std.specs.declared.alloc.Global.{Global}
use Rattle.outside.specs.declared.text.TextEnd.TheVariants as text_ends
use Rattle.outside.specs.Source.{SourceTold}
use Rattle.outside.specs.Text.{TextResult, ReadsText}
use Rattle.outside.specs.Names.Outside.{OutsideTold, Asks, Acts}
use Rattle.commands.specs.declared.io.input.Refusal.TheVariants.{Long, BadLine, BadKey}
use Rattle.commands.specs.declared.io.input.InputEnd.{InputEnd}
use Rattle.commands.specs.declared.io.input.InputEnd.TheVariants.{Refused, Outside, Memory}
use Rattle.commands.specs.Io.OutsideUse.{Uses}
use Rattle.commands.specs.Io.Saying.{Text, untold, missing, told, emptied, text_of}

-- an input's text as it is read, or why there is none
abbrev pub input_of : TextResult → Result (Vec ℕ Global) InputEnd
input_of (Ok (Ok text)) = Ok text
input_of (Ok (Err text_ends.Failed)) = Err Outside
input_of (Ok (Err text_ends.Long)) = Err (Refused Long)
input_of (Err out_of_memory) = Err Memory

-- the value that an input's octets were read to, or why there is none
abbrev pub value_or_end : {V : Type 0} → Result (Result V ℕ) AllocError → Result V InputEnd
value_or_end (Ok (Ok value)) = Ok value
value_or_end (Ok (Err line)) = Err (Refused (BadLine line))
value_or_end (Err out_of_memory) = Err Memory

-- the same by what such a value means
abbrev pub value_as : {T V : Type 0} → (T → V) → Result T InputEnd → Result V InputEnd
value_as meant (Ok value) = Ok (meant value)
value_as meant (Err end) = Err end

-- the whole text is read, and it is too long exactly where it has more octets than the limit
abbrev pub IsInput : ℕ → Result (Vec ℕ Global) InputEnd → Text → Type 0
IsInput limit (Ok text) untold = length text.items ≤ limit
IsInput limit (Err (Refused (BadLine line))) untold = ⊥
IsInput limit (Err (Refused BadKey)) untold = ⊥
IsInput limit (Err end) untold = Unit {0}
IsInput limit result missing = result ≡ Err Outside
IsInput limit (Ok text) (told octets) = (octets ≡ text.items) × (length octets ≤ limit)
IsInput limit (Err (Refused Long)) (told octets) = limit < length octets
IsInput limit (Err (Refused (BadLine line))) (told octets) = ⊥
IsInput limit (Err (Refused BadKey)) (told octets) = ⊥
IsInput limit (Err Outside) (told octets) = Unit {0}
IsInput limit (Err Memory) (told octets) = Unit {0}

-- whether there is no input since something outside failed
abbrev pub is_lost : {T : Type 0} → Result T InputEnd → Bool
is_lost (Ok value) = false
is_lost (Err (Refused refusal)) = false
is_lost (Err Outside) = true
is_lost (Err Memory) = false

-- a source was read as a text of at most so many octets is, to this
abbrev pub IsReadTo : ℕ → Result (Vec ℕ Global) InputEnd → SourceTold → SourceTold → Type 0
IsReadTo limit result before after = (read : TextResult) × (input_of read ≡ result)
    × ((octets : List ℕ) × ReadsText before after limit read octets)

-- no other input was opened, and no output
pub record OpensInput (before after : OutsideTold) (name : List ℕ) (failed : Bool) : Type 0 where
  pub uses : Uses (name ∷ []) [] failed before after
  pub asked : Asks before.read_names after.read_names (name ∷ [])
  pub sinks : after.sinks ≡ before.sinks
  pub written : after.written_names ≡ before.written_names

-- what an input leaves outside, of at most so many octets, that was opened, read and closed again,
-- and what it is read to
pub record ReadsInput (before after : OutsideTold) (name : List ℕ) (limit : ℕ)
    (result : Result (Vec ℕ Global) InputEnd) : Type 0 where
  pub text : IsInput limit result (text_of (before.sources name))
  -- nothing is left of a text that was read
  pub spent : OnOk result (text_of (after.sources name) ≡ emptied (text_of (before.sources name)))
  -- it was read once, and no call came after the last one of that reading
  pub read : Acts (IsReadTo limit result) (before.sources name) (after.sources name)
  pub opens : OpensInput before after name (is_lost result)
