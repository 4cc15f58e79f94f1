-- Attempts at accepting connections.
use Rattle.std.specs.Prelude.{Bool, ◌≡◌, ◌⊎◌, ℤ, pos, Some, Result, Ok, Err}
use Rattle.std.specs.IoError.{error_kind, raw_os_error}
use Rattle.std.specs.declared.io.Error.{Error}
use Rattle.std.specs.declared.io.ErrorKind.TheVariants.{Interrupted, WouldBlock, ConnectionAborted}
use Rattle.std.specs.declared.io.ErrorKind.TheVariants.{OutOfMemory}
use Rattle.outside.specs.declared.links.listener.Accept.{Accept}
use Rattle.outside.specs.declared.links.listener.Accept.TheVariants as accept
use Rattle.outside_real.specs.declared.gate.Arrival.{Arrival}
use Rattle.outside_real.specs.declared.gate.Arrival.TheVariants.{Came, NotYet, Failed}
use Rattle.outside_real.specs.LinkAttempts.{TriedTwice}
use Rattle.outside_real.specs.RealLinks.{RealLinkState, new_real_link}

-- the system gave this number
abbrev pub HasNumber : Error → ℤ → Type 0
HasNumber error number = raw_os_error error ≡ Some number

-- no memory is left (`ENOMEM`), or no descriptor or buffer: `EMFILE`, `ENFILE`, `ENOBUFS`
abbrev pub IsWant : Error → Type 0
IsWant error =
    (error_kind error ≡ OutOfMemory) ⊎ (HasNumber error (pos 24)
    ⊎ (HasNumber error (pos 23) ⊎ HasNumber error (pos 105)))

-- the network of the one connection that was to be accepted failed: `ENETDOWN`, `EPROTO`,
-- `ENOPROTOOPT`, `EHOSTDOWN`, `ENONET`, `EHOSTUNREACH`, `EOPNOTSUPP`, `ENETUNREACH`
abbrev pub IsOfOne : Error → Type 0
IsOfOne error =
    HasNumber error (pos 100) ⊎ (HasNumber error (pos 71) ⊎ (HasNumber error (pos 92)
    ⊎ (HasNumber error (pos 112) ⊎ (HasNumber error (pos 64) ⊎ (HasNumber error (pos 113)
    ⊎ (HasNumber error (pos 95) ⊎ HasNumber error (pos 101)))))))

-- a connection can't be had for now, though the listener is whole
abbrev pub IsHindrance : Error → Type 0
IsHindrance error = IsWant error ⊎ IsOfOne error

-- there is no connection now: it would have had to wait, a signal interrupted it, the node that had
-- connected has gone, or there is a hindrance
abbrev pub IsNoArrival : Error → Type 0
IsNoArrival error =
    (error_kind error ≡ WouldBlock) ⊎ ((error_kind error ≡ Interrupted)
    ⊎ ((error_kind error ≡ ConnectionAborted) ⊎ IsHindrance error))

-- what one attempt came to
abbrev pub ArriveAs : {T S : Type 0} → (T → Result S Error → T → Type 0) → T → Arrival S → T
    → Type 0
ArriveAs {T} {S} accepts before (Came socket) after = accepts before (Ok socket) after
ArriveAs {T} {S} accepts before NotYet after =
    (error : Error) × IsNoArrival error × accepts before (Err error) after
ArriveAs {T} {S} accepts before Failed after =
    (error : Error) × (¬ IsNoArrival error) × accepts before (Err error) after

-- what two attempts came to
abbrev pub AcceptedTwice : {T S : Type 0} → (T → Result S Error → T → Type 0)
    → (T → Bool → T → Type 0) → T → T → Arrival S → Type 0
AcceptedTwice {T} {S} accepts waits = TriedTwice (ArriveAs accepts) waits NotYet Failed

-- accept says what its attempts came to: a link is new, over the connection that came
abbrev pub Accepted : {T S : Type 0} → (T → Result S Error → T → Type 0) → (T → Bool → T → Type 0)
    → T → T → Accept (RealLinkState S) → Type 0
Accepted {T} {S} accepts waits before after (accept.Link link) =
    AcceptedTwice accepts waits before after (Came link.socket) × (link ≡ new_real_link link.socket)
Accepted {T} {S} accepts waits before after accept.Idle =
    AcceptedTwice accepts waits before after NotYet
Accepted {T} {S} accepts waits before after accept.End = ⊥
Accepted {T} {S} accepts waits before after accept.Failed =
    AcceptedTwice accepts waits before after Failed
