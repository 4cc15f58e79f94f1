-- What sending the octets that wait does to them and to a link.
use Rattle.std.specs.Prelude.{◌≡◌, ℕ, Bool, true, false, List, [], ◌++◌, Some, IfSome}
use Rattle.outside.specs.Links.LinkAnswers.{LinkAnswers}
use Rattle.outside.specs.Links.Links.{LinkTold}
use Rattle.node_server.specs.Links.LinkUses.{UsesLink}
use Rattle.asking_end.specs.declared.service.sending.Sent.{Sent}
use Rattle.asking_end.specs.declared.service.sending.Sent.TheVariants.{All, Front, Failed}

-- the last send took nothing or failed, where the link tells
abbrev pub IsLastRefused : LinkTold → Type 0
IsLastRefused link = IfSome link.refused (λ refused. refused ≡ Some true)

abbrev pub is_send_fault : Sent → Bool
is_send_fault All = false
is_send_fault Front = false
is_send_fault Failed = true

-- how the sends have left the octets and a link: nothing waits any more; the last send took
-- nothing; it failed
abbrev pub IsLeftBySend : Sent → LinkTold → LinkAnswers → List ℕ → Type 0
IsLeftBySend All link now out = out ≡ []
IsLeftBySend Front link now out = IsLastRefused link × (now.after_nothing ≡ true)
IsLeftBySend Failed link now out = Unit {0}

-- the first of the octets that waited were taken
pub record SendsOut (before after : LinkTold) (first : LinkAnswers) (old new : List ℕ)
    (sent : Sent) : Type 0 where
  pub now : LinkAnswers
  pub taken : List ℕ
  pub uses : UsesLink before after first now [] taken (is_send_fault sent)
  pub waited : old ≡ taken ++ new
  pub left : IsLeftBySend sent after now new
