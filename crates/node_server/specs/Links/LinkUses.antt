-- What calls of recv and send do to a link.
use Rattle.std.specs.Prelude.{◌≡◌, ℕ, ◌+◌, Bool, true, false, List, ◌++◌, length}
use Rattle.std.specs.Prelude.{Some, option_map, IfSome}
use Rattle.outside.specs.Faults.{counted}
use Rattle.outside.specs.Octets.{Adds}
use Rattle.outside.specs.Links.LinkAnswers.{LinkAnswer, LinkAnswers, LinkClose}
use Rattle.outside.specs.Links.Links.{LinkTold}

-- a link has heard so much, where it tells
abbrev pub HasHeard : LinkTold → LinkAnswers → Type 0
HasHeard link heard = IfSome link.hearing (λ hearing. hearing ≡ heard)

-- so many answers of recv more
abbrev pub answered_by : ℕ → LinkClose → LinkClose
answered_by count before = record { answered = before.answered + count; closed = before.closed }

-- a link was used and not closed: recv gave these answers and send took these octets, and the last
-- of these calls has failed, or none
pub record UsesLink (before after : LinkTold) (first now : LinkAnswers) (given : List LinkAnswer)
    (taken : List ℕ) (has_failed : Bool) : Type 0 where
  pub heard : HasHeard before first
  pub hearing : after.hearing ≡ option_map (λ _. now) before.hearing
  pub answers : now.answers ≡ first.answers ++ given
  pub sent : now.sent ≡ first.sent + length taken
  pub took : Adds before.taken after.taken taken
  pub faults : after.faults ≡ counted has_failed before.faults
  pub closing : after.closing ≡ option_map (answered_by (length given)) before.closing
  pub is_closed : after.is_closed ≡ before.is_closed
  pub name : after.name ≡ before.name

-- the last send took nothing or failed, and no recv came after it, where it tells
abbrev pub IsUntaken : LinkTold → Type 0
IsUntaken link = IfSome link.refused (λ refused. refused ≡ Some true)
    × IfSome link.heard (λ heard. heard ≡ Some false)
