-- What real links, listeners and clocks tell: their faults, and of a link whether it was closed.
use Rattle.std.specs.Prelude.{Bool, ℕ, [], None}
use Rattle.outside.specs.Links.Links.{LinkTold}
use Rattle.outside.specs.Links.Listeners.{ListenerTold}
use Rattle.outside.specs.Links.Clocks.{ClockTold}

abbrev pub link_told : Bool → ℕ → LinkTold
link_told is_closed faults = record {
  hearing = None;
  taken = None;
  refused = None;
  heard = None;
  closing = None;
  is_closed = is_closed;
  faults = faults;
  name = [];
}

abbrev pub listener_told : ℕ → ListenerTold
listener_told faults =
    record { accepted = None; retired = None; calls = None; faults = faults; name = [] }

abbrev pub clock_told : ℕ → ClockTold
clock_told faults = record { readings = None; faults = faults }
