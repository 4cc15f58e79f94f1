-- What a server works on, opened one after another: a listener, the feed, the clock and the plant.
use Rattle.std.specs.Prelude.{◌⊎◌, ℕ, List, Option, Some, None, codes}
use Rattle.outside.specs.Source.{SourceTold}
use Rattle.outside.specs.Sink.{SinkTold}
use Rattle.outside.specs.Links.Clocks.{ClockTold}
use Rattle.outside.specs.Links.Listeners.{ListenerTold}
use Rattle.outside.specs.Names.Outside.{OutsideTold, OpensIn, ClosesIn, OpensOut, Listens}
use Rattle.outside.specs.Names.Outside.{ClosesListener, OpensClock, ClosesClock}
use Rattle.commands.specs.Io.Runs.{output_name}

-- the name of standard input among the sources
abbrev pub input_name : List ℕ
input_name = codes "-"

module _ {X Y : Type 0} (opens : OutsideTold → OutsideTold → Option X → Type 0)
    (closes : OutsideTold → OutsideTold → X → Type 0)
    (rest : OutsideTold → OutsideTold → Option Y → Type 0) where
  -- one thing is opened, and then the rest; where the rest isn't handed out, it is closed again
  abbrev pub OpensBefore : OutsideTold → OutsideTold → Option (X × Y) → Type 0
  OpensBefore before after (Some both) = (mid : OutsideTold)
      × opens before mid (Some both.0) × rest mid after (Some both.1)
  OpensBefore before after None = opens before after None
      ⊎ ((one : X) × (mid : OutsideTold) × (late : OutsideTold)
      × opens before mid (Some one) × rest mid late None × closes late after one)

-- the plant is standard output
abbrev pub OpensPlant : OutsideTold → OutsideTold → Option SinkTold → Type 0
OpensPlant before after plant = OpensOut before after output_name plant

abbrev pub OpensTimed : OutsideTold → OutsideTold → Option (ClockTold × SinkTold) → Type 0
OpensTimed before after opened = OpensBefore OpensClock ClosesClock OpensPlant before after opened

-- the feed is standard input
abbrev pub OpensFeed : OutsideTold → OutsideTold → Option SourceTold → Type 0
OpensFeed before after feed = OpensIn before after input_name feed

abbrev pub OpensFed : OutsideTold → OutsideTold → Option (SourceTold × (ClockTold × SinkTold))
    → Type 0
OpensFed before after opened = OpensBefore OpensFeed ClosesIn OpensTimed before after opened

-- what a server works on: a listener, a feed, a clock and a plant
abbrev pub WorkTold : Type 0
WorkTold = ListenerTold × (SourceTold × (ClockTold × SinkTold))

-- a listener at this address, the feed, the clock and the plant are opened, in this order
abbrev pub OpensAll : List ℕ → OutsideTold → OutsideTold → Option WorkTold → Type 0
OpensAll address before after opened =
    OpensBefore (λ told later listener. Listens told later address listener) ClosesListener
    OpensFed before after opened
