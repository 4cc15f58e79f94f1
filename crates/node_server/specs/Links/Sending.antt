-- What sending the octets that wait does to a connection and its link.
use Rattle.std.specs.Prelude.{◌≡◌, Bool, true, false, List, [], ◌++◌, ℕ}
use Rattle.outside.specs.Links.LinkAnswers.{LinkAnswers}
use Rattle.outside.specs.Links.Links.{LinkTold}
use Rattle.tase_conn.specs.Talking.{Talking, pending_of}
use Rattle.tase_conn.specs.Places.{KeepsPlace}
use Rattle.tase_conn.specs.Taken.{SendsSome}
use Rattle.node_server.specs.Links.LinkUses.{UsesLink, IsUntaken}
use Rattle.node_server.specs.declared.links.sending.SendsEnd.{SendsEnd}
use Rattle.node_server.specs.declared.links.sending.SendsEnd.TheVariants.{AllTaken, NoneTaken, Failed}

abbrev pub is_failed_end : SendsEnd → Bool
is_failed_end AllTaken = false
is_failed_end NoneTaken = false
is_failed_end Failed = true

-- how the sends have left a connection and its link: nothing waits any more; the last send took
-- nothing; it failed
abbrev pub IsLeftBySends : SendsEnd → LinkTold → LinkAnswers → Talking → Type 0
IsLeftBySends AllTaken link now v = pending_of v ≡ []
IsLeftBySends NoneTaken link now v = IsUntaken link × (now.after_nothing ≡ true)
IsLeftBySends Failed link now v = IsUntaken link

-- the first of the octets that wait were taken, up to this end
pub record SendsPending (before after : LinkTold) (first : LinkAnswers) (old new : Talking)
    (end : SendsEnd) : Type 0 where
  pub now : LinkAnswers
  pub taken : List ℕ
  pub uses : UsesLink before after first now [] taken (is_failed_end end)
  pub waited : pending_of old ≡ taken ++ pending_of new
  pub left : IsLeftBySends end after now new
  pub stands : KeepsPlace old new
  pub same : SendsSome old new
