-- What a link tells, and what its calls do to it.
use Rattle.std.specs.Prelude.{Bool, true, false, ◌≡◌, ℕ, ◌≤◌, List, [], length, Option, Some, None}
use Rattle.std.specs.Prelude.{option_map, IfSome}
use Rattle.outside.specs.declared.sink.WriteEnd.{WriteEnd}
use Rattle.outside.specs.declared.sink.WriteEnd.TheVariants.{Took, Failed as SendFailed}
use Rattle.outside.specs.Faults.{counted}
use Rattle.outside.specs.Octets.{Adds}
use Rattle.outside.specs.Sink.{octets_taken, is_failed_write}
use Rattle.outside.specs.declared.links.link.Recv.{Recv}
use Rattle.outside.specs.declared.links.link.Recv.TheVariants.{Got, Idle, End, Failed}
use Rattle.outside.specs.Links.LinkAnswers.{LinkAnswers, LinkClose, received_of, with_answer}
use Rattle.outside.specs.Links.LinkAnswers.{with_send, took_none, answered_more, with_close}

-- what a link tells; a member that is an option may be untold
pub record LinkTold : Type 0 where
  -- the answers of recv
  pub hearing : Option LinkAnswers
  -- the octets that send took
  pub taken : Option (List ℕ)
  -- whether the last send took nothing or failed; none where no send came
  pub refused : Option (Option Bool)
  -- whether a recv came after the last send; none where no send came
  pub heard : Option (Option Bool)
  -- how many answers recv had given at the first close
  pub closing : Option LinkClose
  -- whether it was closed
  pub is_closed : Bool
  -- how many faults there were
  pub faults : ℕ
  -- the address under which it stands in its outside; empty for none
  pub name : List ℕ

abbrev pub is_failed_recv : Recv → Bool
is_failed_recv (Got count) = false
is_failed_recv Idle = false
is_failed_recv End = false
is_failed_recv Failed = true

-- a recv that got octets got at least one, and at most so many
abbrev pub IsRecvCount : Recv → ℕ → Type 0
IsRecvCount (Got count) most = (1 ≤ count) × (count ≤ most)
IsRecvCount Idle most = Unit {0}
IsRecvCount End most = Unit {0}
IsRecvCount Failed most = Unit {0}

-- a send took at most so many octets
abbrev pub IsSendCount : WriteEnd → ℕ → Type 0
IsSendCount (Took count) most = count ≤ most
IsSendCount SendFailed most = Unit {0}

pub record ReceivesPiece (before after : LinkTold) (end : Recv) (buf : List ℕ) : Type 0 where
  -- it is one answer more
  pub hearing : after.hearing ≡ option_map (with_answer (received_of end buf)) before.hearing
  pub closing : after.closing ≡ option_map answered_more before.closing
  -- it came after the last send, where one came
  pub heard : after.heard ≡ option_map (option_map (λ _. true)) before.heard
  -- it gave at least one octet, and as many as fit at most
  pub count : IsRecvCount end (length buf)
  -- a link that was closed answers the end
  pub ends : before.is_closed ≡ true → end ≡ End
  -- the count rises by one exactly where it fails
  pub faults : after.faults ≡ counted (is_failed_recv end) before.faults
  pub taken : after.taken ≡ before.taken
  pub refused : after.refused ≡ before.refused
  pub is_closed : after.is_closed ≡ before.is_closed
  pub name : after.name ≡ before.name

pub record SendsPiece (before after : LinkTold) (end : WriteEnd) (piece : List ℕ) : Type 0 where
  -- a front part of the piece was taken, which may be empty
  pub taken : Adds before.taken after.taken (octets_taken end piece)
  pub count : IsSendCount end (length piece)
  -- the next answer of recv comes after it
  pub hearing : after.hearing ≡ option_map (with_send end) before.hearing
  -- it is the last send, and no recv came after it yet
  pub refused : after.refused ≡ option_map (λ _. Some (took_none end)) before.refused
  pub heard : after.heard ≡ option_map (λ _. Some false) before.heard
  -- the count rises by one exactly where it fails
  pub faults : after.faults ≡ counted (is_failed_write end) before.faults
  pub closing : after.closing ≡ before.closing
  pub is_closed : after.is_closed ≡ before.is_closed
  pub name : after.name ≡ before.name

-- what a link tells after a close
abbrev pub closed_link : LinkTold → LinkTold
closed_link link = record link { closing = option_map with_close link.closing; is_closed = true }

-- a link as it is handed out: no recv, no send and no close came, and it has no faults
pub record IsNewLink (link : LinkTold) : Type 0 where
  pub hearing : IfSome link.hearing (λ hearing. hearing
      ≡ record { answers = []; sent = 0; after_nothing = false })
  pub taken : IfSome link.taken (λ octets. octets ≡ [])
  pub refused : IfSome link.refused (λ refused. refused ≡ None)
  pub heard : IfSome link.heard (λ heard. heard ≡ None)
  pub closing : IfSome link.closing (λ closing. closing ≡ record { answered = 0; closed = None })
  pub is_closed : link.is_closed ≡ false
  pub faults : link.faults ≡ 0
