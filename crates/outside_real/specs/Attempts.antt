-- Attempts at a call that signals may interrupt.
use Rattle.std.specs.Prelude.{◌≡◌, ◌≢◌, ◌⊎◌, ℕ, ◌<◌, zero, suc, Option, Some, None, Result, Ok, Err}
use Rattle.std.specs.IoError.{error_kind}
use Rattle.std.specs.declared.io.Error.{Error}
use Rattle.std.specs.declared.io.ErrorKind.TheVariants.{Interrupted}
use Rattle.outside.specs.declared.source.ReadEnd.{ReadEnd}
use Rattle.outside.specs.declared.source.ReadEnd.TheVariants.{Got, End, Failed}
use Rattle.outside.specs.declared.sink.WriteEnd.{WriteEnd}
use Rattle.outside.specs.declared.sink.WriteEnd.TheVariants.{Took, Failed as WriteFailed}
use Rattle.outside_real.specs.declared.TheConstants.{TRIES}

-- so many attempts one after another, each of which a signal interrupted
abbrev pub AreInterrupted : {S : Type 0} → (S → Result ℕ Error → S → Type 0) → ℕ → S → S → Type 0
AreInterrupted {S} attempt zero before after = after ≡ before
AreInterrupted {S} attempt (suc n) before after =
    (mid : S) × AreInterrupted attempt n before mid
    × ((error : Error) × (error_kind error ≡ Interrupted) × attempt mid (Err error) after)

-- the attempts that a signal interrupts, fewer than are allowed, and then one that it doesn't, with
-- this outcome
abbrev pub IsLastAttempt : {S : Type 0} → (S → Result ℕ Error → S → Type 0) → S → S
    → Result ℕ Error → Type 0
IsLastAttempt {S} attempt before after outcome =
    (n : ℕ) × (n < TRIES) × ((mid : S) × AreInterrupted attempt n before mid
    × attempt mid outcome after)

-- what all attempts came to: so many octets; None where one failed, or where all that are allowed
-- were interrupted
abbrev pub Attempted : {S : Type 0} → (S → Result ℕ Error → S → Type 0) → S → S → Option ℕ → Type 0
Attempted {S} attempt before after (Some count) = IsLastAttempt attempt before after (Ok count)
Attempted {S} attempt before after None =
    ((error : Error) × (error_kind error ≢ Interrupted)
    × IsLastAttempt attempt before after (Err error))
    ⊎ ((n : ℕ) × (n ≡ TRIES) × AreInterrupted attempt n before after)

-- a read says what its attempts came to: no octets are the end
abbrev pub ReadAttempted : {S : Type 0} → (S → Result ℕ Error → S → Type 0) → S → S → ReadEnd
    → Type 0
ReadAttempted {S} attempt before after (Got count) = Attempted attempt before after (Some count)
ReadAttempted {S} attempt before after End = Attempted attempt before after (Some 0)
ReadAttempted {S} attempt before after Failed = Attempted attempt before after None

-- so does a write: no octets are a fault
abbrev pub WriteAttempted : {S : Type 0} → (S → Result ℕ Error → S → Type 0) → S → S → WriteEnd
    → Type 0
WriteAttempted {S} attempt before after (Took count) = Attempted attempt before after (Some count)
WriteAttempted {S} attempt before after WriteFailed =
    Attempted attempt before after None ⊎ Attempted attempt before after (Some 0)
