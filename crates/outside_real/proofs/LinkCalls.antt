-- The calls of a real link.
use Rattle.std.proofs.Common.{Bool, false, ◌≡◌, ℕ, List, refl}
use Rattle.std.specs.Prelude.{Option, Result}
use Rattle.std.specs.declared.io.Error.{Error}
use Rattle.outside.specs.declared.links.link.Recv.{Recv}
use Rattle.outside_real.specs.LinkAttempts.{Received}
use Rattle.outside_real.specs.RealLinks.{RealLinkState, ReceivesAs, is_spent, after_recv}
use Rattle.outside_real.proofs.Trying.{not_true}

-- neither over nor closed
pub not_spent : {T : Type 0} → (link : RealLinkState T) → link.is_over ≡ false
    → link.is_closed ≡ false → is_spent link ≡ false
not_spent {T} link over closed = rw over rw closed refl

module _ {T : Type 0} (reads : T × List ℕ → Result ℕ Error → T × List ℕ → Type 0)
    (waits : T → Bool → T → Type 0) (ages : T → Option ℕ → Type 0) where
  pub receives_as : (before after : RealLinkState T) (old_buf new_buf : List ℕ) (end : Recv)
      → before.is_over ≡ false → before.is_closed ≡ false
      → Received reads waits ages before.was_heard (before.socket, old_buf)
      (after.socket, new_buf) end
      → after ≡ after_recv end after.socket before
      → ReceivesAs reads waits ages before after old_buf new_buf end
  receives_as before after old_buf new_buf end over closed received leaves = record {
    spent = λ spent. absurd (not_true (is_spent before) spent (not_spent before over closed));
    came = λ _. received;
    leaves = λ _. leaves;
  }
