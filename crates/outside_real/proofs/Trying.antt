-- Attempts one after another.
use Rattle.std.proofs.Common.{Bool, true, false, ◌≡◌, ◌≢◌, ℕ, ◌+◌, ◌<◌, Some, None, subst, inl, inr, add-one}
use Rattle.std.specs.Prelude.{Result, Err}
use Rattle.std.specs.IoError.{error_kind}
use Rattle.std.specs.declared.io.Error.{Error}
use Rattle.std.specs.declared.io.ErrorKind.TheVariants.{Interrupted}
use Rattle.outside_real.specs.declared.TheConstants.{TRIES}
use Rattle.outside_real.specs.Attempts.{AreInterrupted, IsLastAttempt, Attempted}

-- a test isn't both
pub not_true : (b : Bool) → b ≡ true → b ≡ false → ⊥
not_true b is not_so = cc

module _ {S : Type 0} (attempt : S → Result ℕ Error → S → Type 0) where
  -- one more that a signal interrupted
  pub interrupted_more : (n : ℕ) (before mid after : S) (error : Error)
      → AreInterrupted attempt n before mid → error_kind error ≡ Interrupted
      → attempt mid (Err error) after → AreInterrupted attempt (n + 1) before after
  interrupted_more n before mid after error so_far kind last =
      rw add-one (mid, so_far, (error, kind, last))

  -- one that was taken, or that failed
  pub attempted_last : (n : ℕ) (before mid after : S) (outcome : Result ℕ Error)
      → AreInterrupted attempt n before mid → n < TRIES → attempt mid outcome after
      → IsLastAttempt attempt before after outcome
  attempted_last n before mid after outcome so_far within last = (n, within, (mid, so_far, last))

  pub attempted_failed : (n : ℕ) (before mid after : S) (error : Error)
      → AreInterrupted attempt n before mid → n < TRIES → error_kind error ≢ Interrupted
      → attempt mid (Err error) after → Attempted attempt before after None
  attempted_failed n before mid after error so_far within kind last =
      inl (error, kind, attempted_last n before mid after (Err error) so_far within last)

  -- all that are allowed were interrupted
  pub attempted_out : (n : ℕ) (before after : S) → AreInterrupted attempt n before after
      → n ≡ TRIES → Attempted attempt before after None
  attempted_out n before after so_far all = inr (n, all, so_far)

  -- the same, spelled otherwise
  pub attempted_as : (before after : S) (n m : ℕ) → n ≡ m → Attempted attempt before after (Some n)
      → Attempted attempt before after (Some m)
  attempted_as before after n m same attempted =
      subst (λ (k : ℕ). Attempted attempt before after (Some k)) same attempted
