-- Links that are out, and the seats that are noted of those retired.
use Rattle.std.specs.Prelude.{ℕ, ◌+◌, ◌≤◌, List, ◌++◌, length, Option, option_map, IfSome}
use Rattle.outside.specs.Links.Links.{LinkTold}
use Rattle.outside.specs.Links.Listeners.{ListenerTold}
use Rattle.server_main.specs.declared.run.seats.LinkSeat.{LinkSeat}

-- the seats of the links that were retired, in order, and for how many more there is room
pub record LinksNoted : Type 0 where
  pub seats : List (Option LinkSeat)
  pub rooms : ℕ

-- at least so many links were given and not retired, where both are told
abbrev pub AreOut : ℕ → ListenerTold → Type 0
AreOut many listener =
    IfSome listener.retired (λ links. IfSome listener.accepted (λ count.
    length links + many ≤ count))

-- what a listener tells after these links were retired, in order
abbrev pub with_all_retired : ListenerTold → List LinkTold → ListenerTold
with_all_retired listener laters =
    record listener { retired = option_map (λ links. links ++ laters) listener.retired }
