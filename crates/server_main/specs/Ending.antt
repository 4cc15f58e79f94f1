-- The end of a server, by what ended how.
use Rattle.std.specs.Prelude.{◌≡◌, ℕ, false, Option, Some, None}
use Rattle.server_main.specs.declared.run.seats.Seats.{Seats}
use Rattle.server_main.specs.ServedParts.{IsAllDone, bad_line_of}
use Rattle.server_main.specs.declared.fullness.Fullness.{Fullness}
use Rattle.server_main.specs.declared.work_end.WorkEnd.{WorkEnd}
use Rattle.server_main.specs.declared.serve_end.ServeEnd.{ServeEnd}
use Rattle.server_main.specs.declared.serve_end.ServeEnd.TheVariants as ends

-- where nothing failed outside, the history isn't full and the feed has no bad line
abbrev pub EndsPlain : WorkEnd → Seats → ServeEnd → Type 0
EndsPlain work seats ends.Done = IsAllDone work false seats
EndsPlain work seats ends.Memory = IsAllDone work false seats → ⊥
EndsPlain work seats ends.Outside = ⊥
EndsPlain work seats (ends.Full weight limit) = ⊥
EndsPlain work seats (ends.BadFeed line) = ⊥

-- where nothing failed outside, and the history isn't full
abbrev pub EndsUnfull : Option ℕ → WorkEnd → Seats → ServeEnd → Type 0
EndsUnfull (Some line) work seats end = end ≡ ends.BadFeed line
EndsUnfull None work seats end = EndsPlain work seats end

-- where nothing failed outside
abbrev pub EndsInside : Option Fullness → WorkEnd → Seats → ServeEnd → Type 0
EndsInside (Some full) work seats end = end ≡ ends.Full full.weight full.limit
EndsInside None work seats end = EndsUnfull (bad_line_of seats.feed) work seats end
