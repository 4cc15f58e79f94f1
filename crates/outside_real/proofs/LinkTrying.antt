-- Attempts at a connection, one after another.
use Rattle.std.proofs.Common.{Bool, true, false, ◌≡◌, ◌≢◌, ℕ, ◌<◌, List, subst, refl, inl, inr}
use Rattle.std.specs.Prelude.{Result, Err}
use Rattle.std.specs.IoError.{error_kind}
use Rattle.std.specs.declared.io.Error.{Error}
use Rattle.std.specs.declared.io.ErrorKind.TheVariants.{Interrupted}
use Rattle.outside_real.specs.declared.TheConstants.{TRIES}
use Rattle.outside_real.specs.declared.socket.Attempt.{Attempt}
use Rattle.outside_real.specs.declared.socket.Attempt.TheVariants.{Came, NotYet, Failed}
use Rattle.outside_real.specs.Attempts.{AreInterrupted}
use Rattle.outside_real.specs.LinkAttempts.{FailsAs, CameTo, TriedTwice, ReadTwice}
use Rattle.outside_real.proofs.Trying.{attempted_last}

module _ {S : Type 0} (attempt : S → Result ℕ Error → S → Type 0) where
  -- an error that no signal made
  pub came_to_error : (n : ℕ) (before mid after : S) (error : Error) (outcome : Attempt)
      → AreInterrupted attempt n before mid → n < TRIES → error_kind error ≢ Interrupted
      → attempt mid (Err error) after → FailsAs error outcome
      → CameTo attempt before outcome after
  came_to_error n before mid after error (Came count) so_far within kind last fails = absurd fails
  came_to_error n before mid after error NotYet so_far within kind last fails =
      (error, fails, attempted_last attempt n before mid after (Err error) so_far within last)
  came_to_error n before mid after error Failed so_far within kind last fails =
      inl (
        error,
        kind,
        fails,
        attempted_last attempt n before mid after (Err error) so_far within last,
      )

module _ {S O : Type 0} (attempt : S → O → S → Type 0) (waits : S → Bool → S → Type 0)
    (not_yet failed : O) where
  -- it couldn't wait
  pub twice_unwaited : (before mid after : S) → attempt before not_yet mid → waits mid false after
      → TriedTwice attempt waits not_yet failed before after failed
  twice_unwaited before mid after came waited = inr (inr (mid, came, waited, refl))

  -- it waited, and tried once more
  pub twice_waited : (before mid waited after : S) (outcome : O) → attempt before not_yet mid
      → waits mid true waited → attempt waited outcome after
      → TriedTwice attempt waits not_yet failed before after outcome
  twice_waited before mid waited after outcome came did last =
      inr (inl (mid, waited, came, did, last))

-- the same outcome, spelled otherwise
pub twice_as : {T : Type 0} (reads : T × List ℕ → Result ℕ Error → T × List ℕ → Type 0)
    (waits : T → Bool → T → Type 0) (before after : T × List ℕ) (outcome other : Attempt)
    → outcome ≡ other → ReadTwice reads waits before after outcome
    → ReadTwice reads waits before after other
twice_as {T} reads waits before after outcome other same tried =
    subst (λ (a : Attempt). ReadTwice reads waits before after a) same tried
