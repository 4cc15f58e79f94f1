-- Attempts at a connection that never waits.
use Rattle.std.specs.Prelude.{Bool, true, false, ◌≡◌, ◌≢◌, ◌⊎◌, ℕ, ◌<◌, ◌≤◌, List}
use Rattle.std.specs.Prelude.{Option, Some, None, Result, Ok, Err}
use Rattle.std.specs.IoError.{error_kind}
use Rattle.std.specs.declared.io.Error.{Error}
use Rattle.std.specs.declared.io.ErrorKind.TheVariants.{Interrupted, WouldBlock}
use Rattle.outside.specs.declared.sink.WriteEnd.{WriteEnd}
use Rattle.outside.specs.declared.sink.WriteEnd.TheVariants.{Took, Failed as SendFailed}
use Rattle.outside.specs.declared.links.link.Recv.{Recv}
use Rattle.outside.specs.declared.links.link.Recv.TheVariants.{Got, Idle, End, Failed as RecvFailed}
use Rattle.outside_real.specs.declared.TheConstants.{TRIES}
use Rattle.outside_real.specs.declared.socket.TheConstants.{SILENCE_LIMIT}
use Rattle.outside_real.specs.declared.socket.Attempt.{Attempt}
use Rattle.outside_real.specs.declared.socket.Attempt.TheVariants.{Came, NotYet, Failed}
use Rattle.outside_real.specs.Attempts.{AreInterrupted, IsLastAttempt}

-- at most so many octets came
abbrev pub IsCount : Attempt → ℕ → Type 0
IsCount (Came count) most = count ≤ most
IsCount NotYet most = Unit {0}
IsCount Failed most = Unit {0}

-- what an error other than an interrupt says
abbrev pub FailsAs : Error → Attempt → Type 0
FailsAs error (Came count) = ⊥
FailsAs error NotYet = error_kind error ≡ WouldBlock
FailsAs error Failed = error_kind error ≢ WouldBlock

-- what attempts came to: the last one, which no signal interrupted; or all that are allowed were
-- interrupted
abbrev pub CameTo : {S : Type 0} → (S → Result ℕ Error → S → Type 0) → S → Attempt → S → Type 0
CameTo {S} attempt before (Came count) after = IsLastAttempt attempt before after (Ok count)
CameTo {S} attempt before NotYet after =
    (error : Error) × (error_kind error ≡ WouldBlock)
    × IsLastAttempt attempt before after (Err error)
CameTo {S} attempt before Failed after =
    ((error : Error) × (error_kind error ≢ Interrupted) × (error_kind error ≢ WouldBlock)
    × IsLastAttempt attempt before after (Err error))
    ⊎ ((n : ℕ) × (n ≡ TRIES) × AreInterrupted attempt n before after)

-- a wait, which leaves the buffer as it is
abbrev pub WaitsBetween : {T : Type 0} → (T → Bool → T → Type 0) → T × List ℕ → Bool → T × List ℕ
    → Type 0
WaitsBetween {T} waits before could after = waits before.0 could after.0 × (after.1 ≡ before.1)

-- what comes of an attempt; where it would have had to wait, what comes of a second one after a
-- wait, or that it couldn't wait
abbrev pub TriedTwice : {S O : Type 0} → (S → O → S → Type 0) → (S → Bool → S → Type 0) → O → O
    → S → S → O → Type 0
TriedTwice {S} {O} attempt waits not_yet failed before after outcome =
    ((outcome ≢ not_yet) × attempt before outcome after)
    ⊎ ((mid : S) × (waited : S) × attempt before not_yet mid × waits mid true waited
    × attempt waited outcome after)
    ⊎ ((mid : S) × attempt before not_yet mid × waits mid false after × (outcome ≡ failed))

-- what two attempts at reading came to
abbrev pub ReadTwice : {T : Type 0} → (T × List ℕ → Result ℕ Error → T × List ℕ → Type 0)
    → (T → Bool → T → Type 0) → T × List ℕ → T × List ℕ → Attempt → Type 0
ReadTwice {T} reads waits =
    TriedTwice (CameTo reads) (WaitsBetween waits) NotYet Failed

-- a recv says what its attempts came to: no octets are the end, and so is a link that was never
-- heard and is too old
abbrev pub Received : {T : Type 0} → (T × List ℕ → Result ℕ Error → T × List ℕ → Type 0)
    → (T → Bool → T → Type 0) → (T → Option ℕ → Type 0) → Bool → T × List ℕ → T × List ℕ → Recv
    → Type 0
Received {T} reads waits ages was_heard before after (Got count) =
    ReadTwice reads waits before after (Came count)
Received {T} reads waits ages was_heard before after Idle =
    ReadTwice reads waits before after NotYet × ((was_heard ≡ true)
    ⊎ ((age : ℕ) × (age < SILENCE_LIMIT) × ages after.0 (Some age)))
Received {T} reads waits ages was_heard before after End =
    ReadTwice reads waits before after (Came 0)
    ⊎ (ReadTwice reads waits before after NotYet × (was_heard ≡ false)
    × ((age : ℕ) × (SILENCE_LIMIT ≤ age) × ages after.0 (Some age)))
Received {T} reads waits ages was_heard before after RecvFailed =
    ReadTwice reads waits before after Failed
    ⊎ (ReadTwice reads waits before after NotYet × (was_heard ≡ false) × ages after.0 None)

-- so does a send: nothing is taken where it would have had to wait
abbrev pub Sent : {T : Type 0} → (T → Result ℕ Error → T → Type 0) → T → T → WriteEnd → Type 0
Sent {T} attempt before after (Took count) =
    CameTo attempt before (Came count) after
    ⊎ ((count ≡ 0) × CameTo attempt before NotYet after)
Sent {T} attempt before after SendFailed = CameTo attempt before Failed after
