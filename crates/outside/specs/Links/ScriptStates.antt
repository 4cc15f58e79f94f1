-- What contracts see of the doubles in memory, and what these tell: all of it.
use Rattle.std.specs.Prelude.{Bool, true, ◌≡◌, ◌⊎◌, ◌↔◌, ℕ, ◌+◌, ◌-◌, ◌≤◌, List, [], ◌∷◌, ◌++◌}
use Rattle.std.specs.Prelude.{length, map, min, drop, Option, Some, None, IfSome, is_some, Contains}
use Rattle.std.specs.Prelude.{unwrap_or}
use Rattle.outside.specs.Faults.{next_count}
use Rattle.outside.specs.declared.sink.WriteEnd.{WriteEnd}
use Rattle.outside.specs.declared.sink.WriteEnd.TheVariants.{Took, Failed as SendFailed}
use Rattle.outside.specs.declared.links.link.Recv.{Recv}
use Rattle.outside.specs.declared.links.link.Recv.TheVariants.{Failed}
use Rattle.outside.specs.declared.links.listener.Accept.{Accept}
use Rattle.outside.specs.declared.links.listener.Accept.TheVariants as accept
use Rattle.outside.specs.declared.links.clock.TheConstants.{READING_LIMIT}
use Rattle.outside.specs.Links.LinkAnswers.{LinkAnswer, received_of}
use Rattle.outside.specs.Links.Links.{LinkTold, IsNewLink}
use Rattle.outside.specs.Links.Listeners.{ListenerTold}
use Rattle.outside.specs.Links.Clocks.{ClockTold}
use Rattle.outside.specs.Links.Scripts.{ScriptLeft, script_answer, script_after}

-- a link
pub record LinkState : Type 0 where
  -- what the other node has yet to say
  pub script : ScriptLeft
  -- the most octets that one send takes, and the room left for what sends take
  pub most : ℕ
  pub room : ℕ
  -- the numbers of the calls of recv and of send that fail, and those of their next calls
  pub fails_recv : List ℕ
  pub fails_send : List ℕ
  pub recvs : ℕ
  pub sends : ℕ
  -- the answers of recv, and the octets that send took
  pub answers : List LinkAnswer
  pub taken : List ℕ
  -- whether the last call of recv or send was a send that took nothing; whether the last send took
  -- nothing or failed; whether a recv came after it
  pub after_nothing : Bool
  pub refused : Option Bool
  pub heard : Option Bool
  -- how many answers recv had given at the first close
  pub closed : Option ℕ
  pub faults : ℕ
  -- the address under which it stands in its outside; empty for none
  pub name : List ℕ

abbrev pub script_link_told : LinkState → LinkTold
script_link_told link = record {
  hearing = Some (record {
    answers = link.answers;
    sent = length link.taken;
    after_nothing = link.after_nothing;
  });
  taken = Some link.taken;
  refused = Some link.refused;
  heard = Some link.heard;
  closing = Some (record { answered = length link.answers; closed = link.closed });
  is_closed = is_some link.closed;
  faults = link.faults;
  name = link.name;
}

-- a link after a close, of which the first counts
abbrev pub closed_script_link : LinkState → LinkState
closed_script_link link =
    record link { closed = Some (unwrap_or link.closed (length link.answers)) }

-- a call of recv fails exactly where its number is in the list and the link wasn't closed
abbrev pub RecvFails : LinkState → Type 0
RecvFails link = (link.closed ≡ None) × Contains link.fails_recv link.recvs

-- what a call of recv does to the script of a link
pub record FollowsScript (before after : LinkState) (end : Recv) (buf : List ℕ) : Type 0 where
  pub fails : (end ≡ Failed) ↔ RecvFails before
  -- else it gives what the script has next, unless the link was closed
  pub gives : before.closed ≡ None → ¬ Contains before.fails_recv before.recvs
      → received_of end buf ≡ script_answer (length buf) before.script.begun before.script.items
  pub goes_on : before.closed ≡ None → ¬ Contains before.fails_recv before.recvs
      → after.script ≡ script_after (length buf) before.script.begun before.script.items
  pub stays : (is_some before.closed ≡ true) ⊎ Contains before.fails_recv before.recvs
      → after.script ≡ before.script
  pub number : after.recvs ≡ next_count before.recvs
  pub numbers : (after.sends ≡ before.sends) × (after.fails_recv ≡ before.fails_recv)
      × (after.fails_send ≡ before.fails_send)
  pub limits : (after.most ≡ before.most) × (after.room ≡ before.room)

-- what a call of send does to the room of a link
pub record FillsRoom (before after : LinkState) (end : WriteEnd) (piece : List ℕ) : Type 0 where
  -- it fails exactly where its number is in the list or no room is left
  pub fails : (end ≡ SendFailed)
      ↔ (Contains before.fails_send before.sends ⊎ (before.room ≡ 0))
  -- else it takes what fits into the room, and at most so many octets at once
  pub takes : (count : ℕ) → end ≡ Took count
      → count ≡ min (length piece) (min before.most before.room)
  pub room : (count : ℕ) → end ≡ Took count → after.room ≡ before.room - count
  pub no_room : end ≡ SendFailed → after.room ≡ before.room
  pub number : after.sends ≡ next_count before.sends
  pub numbers : (after.recvs ≡ before.recvs) × (after.fails_recv ≡ before.fails_recv)
      × (after.fails_send ≡ before.fails_send)
  pub script : (after.script ≡ before.script) × (after.most ≡ before.most)

-- a listener
pub record ListenerState : Type 0 where
  -- what accept has yet to give
  pub items : List (Option LinkState)
  -- the numbers of the calls of accept that fail, and that of its next call
  pub fails : List ℕ
  pub calls : ℕ
  -- how many links it gave, and those that were retired
  pub accepted : ℕ
  pub retired : List LinkState
  pub faults : ℕ
  -- the address under which it stands in its outside; empty for none
  pub name : List ℕ

abbrev pub script_listener_told : ListenerState → ListenerTold
script_listener_told listener = record {
  accepted = Some listener.accepted;
  retired = Some (map script_link_told listener.retired);
  calls = Some listener.calls;
  faults = listener.faults;
  name = listener.name;
}

-- a listener after a link was retired
abbrev pub with_retired_link : ListenerState → LinkState → ListenerState
with_retired_link listener link =
    record listener { retired = listener.retired ++ link ∷ [] }

-- no call came on this link but for its faults, if there is one
abbrev pub IsNewItem : Option LinkState → Type 0
IsNewItem item = IfSome item (λ link. IsNewLink (script_link_told link))

-- no call came on any of these links but for its faults
abbrev pub AllNewLinks : List (Option LinkState) → Type 0
AllNewLinks [] = Unit {0}
AllNewLinks (item ∷ items) = IsNewItem item × AllNewLinks items

-- what accept comes to, by the items that are left
abbrev pub next_accept : List (Option LinkState) → Accept LinkState
next_accept [] = accept.End
next_accept (None ∷ items) = accept.Idle
next_accept (Some link ∷ items) = accept.Link link

-- what a call of accept does to the items of a listener
pub record TakesNextItem (before after : ListenerState) (answer : Accept LinkState) : Type 0 where
  -- it fails exactly where its number is in the list
  pub fails : (answer ≡ accept.Failed) ↔ Contains before.fails before.calls
  -- else it gives what comes next
  pub gives : ¬ Contains before.fails before.calls → answer ≡ next_accept before.items
  pub goes_on : ¬ Contains before.fails before.calls → after.items ≡ drop 1 before.items
  pub stays : Contains before.fails before.calls → after.items ≡ before.items
  pub number : after.calls ≡ next_count before.calls
  pub numbers : after.fails ≡ before.fails
  pub retired : after.retired ≡ before.retired

-- a clock
pub record ClockState : Type 0 where
  -- the readings that it has yet to give of its list
  pub left : List ℕ
  -- those that it gave, the last of them, and 0 before the first
  pub given : List ℕ
  pub last : ℕ
  -- the numbers of the calls that fail, and that of the next call
  pub fails : List ℕ
  pub calls : ℕ
  pub faults : ℕ

abbrev pub script_clock_told : ClockState → ClockTold
script_clock_told clock = record { readings = Some clock.given; faults = clock.faults }

-- the next reading, in or out of range: past the list a second after the last
abbrev pub next_reading : List ℕ → ℕ → ℕ
next_reading [] last = last + 1000
next_reading (reading ∷ readings) last = reading

-- what a call of now does to the readings of a clock
pub record TakesNextReading (before after : ClockState) (result : Option ℕ) : Type 0 where
  -- it fails exactly where its number is in the list or the next reading is out of range
  pub fails : (result ≡ None) ↔ (Contains before.fails before.calls
      ⊎ (READING_LIMIT ≤ next_reading before.left before.last))
  -- else it gives that reading
  pub gives : IfSome result (λ reading. reading ≡ next_reading before.left before.last)
  -- a call that fails by its number takes none
  pub goes_on : ¬ Contains before.fails before.calls → after.left ≡ drop 1 before.left
  pub stays : Contains before.fails before.calls → after.left ≡ before.left
  pub last : after.last ≡ unwrap_or result before.last
  pub number : after.calls ≡ next_count before.calls
  pub numbers : after.fails ≡ before.fails
