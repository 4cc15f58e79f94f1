-- What a listener tells, and what its calls do to it.
use Rattle.std.specs.Prelude.{Bool, true, false, ◌≡◌, ℕ, ◌+◌, ◌<◌, ◌≤◌, List, [], ◌∷◌, ◌++◌, length}
use Rattle.std.specs.Prelude.{Option, Some, None, option_map, IfSome}
use Rattle.outside.specs.Faults.{counted, next_count}
use Rattle.outside.specs.declared.links.listener.Accept.{Accept}
use Rattle.outside.specs.declared.links.listener.Accept.TheVariants.{Link, Idle, End, Failed}
use Rattle.outside.specs.Links.Links.{LinkTold, IsNewLink}

-- what a listener tells; a member that is an option may be untold
pub record ListenerTold : Type 0 where
  -- how many links accept gave
  pub accepted : Option ℕ
  -- the links that were retired, in order, as they were then
  pub retired : Option (List LinkTold)
  -- how many calls of accept there were; it stands still at its type's end
  pub calls : Option ℕ
  -- how many faults there were; those of links aren't counted here
  pub faults : ℕ
  -- the address under which it stands in its outside; empty for none
  pub name : List ℕ

-- what is told of the link that accept gave, where it gave one
abbrev pub link_given : {L : Type 0} → (L → LinkTold) → Accept L → Option LinkTold
link_given {L} told (Link link) = Some (told link)
link_given {L} told Idle = None
link_given {L} told End = None
link_given {L} told Failed = None

abbrev pub is_failed_accept : {L : Type 0} → Accept L → Bool
is_failed_accept {L} (Link link) = false
is_failed_accept {L} Idle = false
is_failed_accept {L} End = false
is_failed_accept {L} Failed = true

-- how many links accept has given, with this one
abbrev pub with_link : Option LinkTold → ℕ → ℕ
with_link (Some link) count = count + 1
with_link None count = count

-- accept gives a new link or none
pub record AcceptsLink (before after : ListenerTold) (given : Option LinkTold)
    (failed : Bool) : Type 0 where
  pub link : IfSome given IsNewLink
  pub accepted : after.accepted ≡ option_map (with_link given) before.accepted
  pub calls : after.calls ≡ option_map next_count before.calls
  -- the count rises by one exactly where it fails
  pub faults : after.faults ≡ counted failed before.faults
  pub retired : after.retired ≡ before.retired
  pub name : after.name ≡ before.name

-- fewer links were retired than accept gave, where both are told
abbrev pub MayRetire : ListenerTold → Type 0
MayRetire listener =
    IfSome listener.retired (λ links. IfSome listener.accepted (λ count. length links < count))

-- no more links were retired than accept gave, where both are told
abbrev pub RetiredIsWithin : ListenerTold → Type 0
RetiredIsWithin listener =
    IfSome listener.retired (λ links. IfSome listener.accepted (λ count. length links ≤ count))

-- what a listener tells after a link was retired: that link is the last of those retired
abbrev pub with_retired : ListenerTold → LinkTold → ListenerTold
with_retired listener link =
    record listener { retired = option_map (λ links. links ++ link ∷ []) listener.retired }
