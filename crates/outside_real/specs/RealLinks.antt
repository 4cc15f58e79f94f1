-- A link over a connection, and what its calls do.
use Rattle.std.specs.Prelude.{Bool, true, false, ◌≡◌, ◌||◌, ℕ, List, Option, Result}
use Rattle.std.specs.declared.io.Error.{Error}
use Rattle.outside.specs.Faults.{counted}
use Rattle.outside.specs.Sink.{is_failed_write}
use Rattle.outside.specs.declared.sink.WriteEnd.{WriteEnd}
use Rattle.outside.specs.declared.links.link.Recv.{Recv}
use Rattle.outside.specs.declared.links.link.Recv.TheVariants.{Got, Idle, End, Failed}
use Rattle.outside_real.specs.LinkAttempts.{Received, Sent}

-- a link
pub record RealLinkState (T : Type 0) : Type 0 where
  -- the connection
  pub socket : T
  -- whether it gave an octet
  pub was_heard : Bool
  -- whether recv answered the end or a fault
  pub is_over : Bool
  pub is_closed : Bool
  pub faults : ℕ

-- a link on which no call came
abbrev pub new_real_link : {T : Type 0} → T → RealLinkState T
new_real_link {T} socket = record {
  socket = socket;
  was_heard = false;
  is_over = false;
  is_closed = false;
  faults = 0;
}

-- a link after an answer of recv
abbrev pub after_recv : {T : Type 0} → Recv → T → RealLinkState T → RealLinkState T
after_recv {T} (Got count) socket before =
    record before { socket = socket; was_heard = true }
after_recv {T} Idle socket before = record before { socket = socket }
after_recv {T} End socket before = record before { socket = socket; is_over = true }
after_recv {T} Failed socket before =
    record before { socket = socket; is_over = true; faults = counted true before.faults }

-- a link that is over or closed answers the end, and asks nothing
abbrev pub is_spent : {T : Type 0} → RealLinkState T → Bool
is_spent {T} link = link.is_over || link.is_closed

-- a recv: the end of a link that is spent, or what its attempts came to
pub record ReceivesAs {T : Type 0} (reads : T × List ℕ → Result ℕ Error → T × List ℕ → Type 0)
    (waits : T → Bool → T → Type 0) (ages : T → Option ℕ → Type 0)
    (before after : RealLinkState T) (old_buf new_buf : List ℕ) (end : Recv) : Type 0 where
  pub spent : is_spent before ≡ true → (end ≡ End) × (after ≡ before) × (new_buf ≡ old_buf)
  pub came : is_spent before ≡ false
      → Received reads waits ages before.was_heard (before.socket, old_buf)
      (after.socket, new_buf) end
  pub leaves : is_spent before ≡ false → after ≡ after_recv end after.socket before

-- a send is what its attempts came to
pub record SendsAs {T : Type 0} (writes : List ℕ → T → Result ℕ Error → T → Type 0)
    (before after : RealLinkState T) (piece : List ℕ) (end : WriteEnd) : Type 0 where
  pub went : Sent (writes piece) before.socket after.socket end
  pub stays : after ≡ record before {
    socket = after.socket;
    faults = counted (is_failed_write end) before.faults;
  }

-- a close shuts the connection
pub record ClosesAs {T : Type 0} (shuts : T → T → Type 0) (before after : RealLinkState T)
    : Type 0 where
  pub shut : shuts before.socket after.socket
  pub stays : after ≡ record before { socket = after.socket; is_closed = true }
