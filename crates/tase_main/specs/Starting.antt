-- How the program starts: its words as the system gives them, and the run of these.
use Rattle.std.specs.Prelude.{◌≡◌, ◌≢◌, ℕ, [], drop, map, string_bytes, String}
use Rattle.std.specs.Prelude.{Result, Ok, Err, Vec, IsErr, IsOkAnd, IfOk}
use Rattle.std.specs.declared.alloc.AllocError.{AllocError}
use Rattle.std.specs.declared.alloc.Global.{Global}
use Rattle.std.specs.declared.io.Error.{Error}
use Rattle.std.specs.declared.io.ErrorKind.TheVariants.{InvalidData}
use Rattle.std.specs.IoError.{error_kind}
use Rattle.std.specs.declared.vec.IntoIter.{IntoIter}
use Rattle.std.specs.Vec.Iter.{into_iter_items}
use Rattle.outside.specs.Names.Outside.{OutsideTold}
use Rattle.commands.specs.declared.io.status.Status.{Status}
use Rattle.commands.specs.declared.io.status.Status.TheVariants.{Memory}
use Rattle.commands.specs.Io.Statuses.{code_of}
use Rattle.commands.specs.Words.Words.{task_in}
use Rattle.tase_tool.specs.Running.{RunsTask}

-- words in memory
abbrev pub Words : Type 0
Words = Vec (String Global) Global

-- none where one of the words isn't text; where there is no error, those after the first, which is
-- the program's name; every other error is want of memory
abbrev pub IsWordsFrom : Result (IntoIter (String Global) Global) Error → Result Words AllocError
    → Type 0
IsWordsFrom (Ok args) result = IfOk result (λ words. words.items ≡ drop 1 (into_iter_items args))
IsWordsFrom (Err error) result =
    (error_kind error ≡ InvalidData → IsOkAnd result (λ words. words.items ≡ []))
    × (error_kind error ≢ InvalidData → IsErr result)

-- what is outside, and the count of threads that couldn't be surroundings_of
pub record Surroundings : Type 0 where
  pub outside : OutsideTold
  pub refused : ℕ

abbrev pub surroundings_of : OutsideTold → ℕ → Surroundings
surroundings_of outside refused = record { outside = outside; refused = refused }

-- words that are there are run; without memory for them nothing is done
abbrev pub IsStart : Result Words AllocError → Surroundings → Surroundings → Status → Type 0
IsStart (Ok words) before after status = RunsTask (task_in (map string_bytes words.items))
    before.outside after.outside before.refused after.refused status
IsStart (Err memory) before after status = (status ≡ Memory) × (after ≡ before)

-- the words that the system gives are run once, and the exit status is that of how the run ended
abbrev pub Starts : Result (IntoIter (String Global) Global) Error → Surroundings → Surroundings
    → ℕ → Type 0
Starts given before after code = (words : Result Words AllocError) × IsWordsFrom given words
    × ((status : Status) × IsStart words before after status × (code ≡ code_of status))
