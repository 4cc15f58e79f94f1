-- The faults that an outside counts while what a server works on is opened and closed.
use Rattle.std.proofs.Common.{◌≡◌, ◌⊎◌, ℕ, zero, suc, Bool, true, false, ◌<◌, List, Option, Some}
use Rattle.std.proofs.Common.{None, ◌∙◌, ap, inl, inr, arith}
use Rattle.std.specs.Prelude.{is_none, nat_lt}
use Rattle.outside.specs.Faults.{counted, next_count}
use Rattle.outside.specs.Sink.{SinkTold}
use Rattle.outside.specs.Source.{SourceTold}
use Rattle.outside.specs.Links.Clocks.{ClockTold}
use Rattle.outside.specs.Links.Listeners.{ListenerTold}
use Rattle.outside.specs.Names.Outside.{OutsideTold, ClosesIn, Listens, ClosesListener, OpensClock}
use Rattle.outside.specs.Names.Outside.{ClosesClock}
use Rattle.commands.specs.Io.OutsideUse.{Grows, Rises}
use Rattle.commands.proofs.OfIo.Leaving.{Grows-then, Rises-after, Rises-before}
use Rattle.commands.proofs.OfIo.Reading.{lt-test}
use Rattle.tase_tool.specs.Server.Opening.{OpensBefore, OpensPlant, OpensTimed, OpensFeed, OpensFed}
use Rattle.tase_tool.specs.Server.Opening.{WorkTold, OpensAll}
use Rattle.tase_tool.specs.Server.Serving.{ClosesInputs}

pub next-positive : (count : ℕ) → 0 < next_count count
next-positive count = grind arith

pub Grows-counted : (failed : Bool) (before after : ℕ) → after ≡ counted failed before
    → Grows before after
Grows-counted true before after rise = (suc zero, rise)
Grows-counted false before after same = (zero, same)

pub Rises-counted : (before after : ℕ) → after ≡ counted true before → Rises before after
Rises-counted before after rise = (zero, rise)

-- an object that has faults is counted when it is closed
pub Rises-faulty : (faults before after : ℕ) → 0 < faults
    → after ≡ counted (nat_lt 0 faults) before → Rises before after
Rises-faulty faults before after positive rise =
    Rises-counted before after (rise ∙ ap (λ f. counted f before) (lt-test faults positive))

module _ {X Y : Type 0} (opens : OutsideTold → OutsideTold → Option X → Type 0)
    (closes : OutsideTold → OutsideTold → X → Type 0)
    (rest : OutsideTold → OutsideTold → Option Y → Type 0)
    (opened : (b a : OutsideTold) (one : Option X) → opens b a one
    → a.faults ≡ counted (is_none one) b.faults) where
  -- where something isn't handed out, the count rises
  pub fails-rises : ((b a : OutsideTold) (one : X) → closes b a one → Grows b.faults a.faults)
      → ((b a : OutsideTold) → rest b a None → Rises b.faults a.faults)
      → (b a : OutsideTold) → OpensBefore opens closes rest b a None → Rises b.faults a.faults
  fails-rises closed fails b a (inl none) =
      Rises-counted b.faults a.faults (opened b a None none)
  fails-rises closed fails b a (inr some) =
      Rises-before b.faults some.2.faults a.faults
      (Rises-after b.faults some.1.faults some.2.faults
      (Grows-counted false b.faults some.1.faults (opened b some.1 (Some some.0) some.3))
      (fails some.1 some.2 some.4))
      (closed some.2 a some.0 some.5)

  -- where all are handed out, it is as before
  pub opens-same : ((b a : OutsideTold) (other : Y) → rest b a (Some other)
      → a.faults ≡ b.faults)
      → (b a : OutsideTold) (both : X × Y) → OpensBefore opens closes rest b a (Some both)
      → a.faults ≡ b.faults
  opens-same same b a both all =
      same all.0 a both.1 all.2 ∙ opened b all.0 (Some both.0) all.1

plant_rises : (b a : OutsideTold) → OpensPlant b a None → Rises b.faults a.faults
plant_rises b a none = Rises-counted b.faults a.faults none.faults

plant_same : (b a : OutsideTold) (plant : SinkTold) → OpensPlant b a (Some plant)
    → a.faults ≡ b.faults
plant_same b a plant opens = opens.faults

clock_opened : (b a : OutsideTold) (clock : Option ClockTold) → OpensClock b a clock
    → a.faults ≡ counted (is_none clock) b.faults
clock_opened b a clock opens = opens.faults

clock_closed : (b a : OutsideTold) (clock : ClockTold) → ClosesClock b a clock
    → Grows b.faults a.faults
clock_closed b a clock closes =
    Grows-counted (nat_lt 0 clock.faults) b.faults a.faults closes.faults

timed_rises : (b a : OutsideTold) → OpensTimed b a None → Rises b.faults a.faults
timed_rises b a none =
    fails-rises OpensClock ClosesClock OpensPlant clock_opened clock_closed plant_rises b a none

timed_same : (b a : OutsideTold) (timed : ClockTold × SinkTold) → OpensTimed b a (Some timed)
    → a.faults ≡ b.faults
timed_same b a timed opens =
    opens-same OpensClock ClosesClock OpensPlant clock_opened plant_same b a timed opens

feed_opened : (b a : OutsideTold) (feed : Option SourceTold) → OpensFeed b a feed
    → a.faults ≡ counted (is_none feed) b.faults
feed_opened b a feed opens = opens.faults

feed_closed : (b a : OutsideTold) (feed : SourceTold) → ClosesIn b a feed
    → Grows b.faults a.faults
feed_closed b a feed closes =
    Grows-counted (nat_lt 0 feed.faults) b.faults a.faults closes.faults

fed_rises : (b a : OutsideTold) → OpensFed b a None → Rises b.faults a.faults
fed_rises b a none =
    fails-rises OpensFeed ClosesIn OpensTimed feed_opened feed_closed timed_rises b a none

fed_same : (b a : OutsideTold) (fed : SourceTold × (ClockTold × SinkTold))
    → OpensFed b a (Some fed) → a.faults ≡ b.faults
fed_same b a fed opens =
    opens-same OpensFeed ClosesIn OpensTimed feed_opened timed_same b a fed opens

listener_opened : (address : List ℕ) (b a : OutsideTold) (listener : Option ListenerTold)
    → Listens b a address listener → a.faults ≡ counted (is_none listener) b.faults
listener_opened address b a listener opens = opens.faults

listener_closed : (b a : OutsideTold) (listener : ListenerTold) → ClosesListener b a listener
    → Grows b.faults a.faults
listener_closed b a listener closes =
    Grows-counted (nat_lt 0 listener.faults) b.faults a.faults closes.faults

pub all-rises : (address : List ℕ) (b a : OutsideTold) → OpensAll address b a None
    → Rises b.faults a.faults
all-rises address b a none =
    fails-rises (λ told later listener. Listens told later address listener) ClosesListener
    OpensFed (listener_opened address) listener_closed fed_rises b a none

pub all-same : (address : List ℕ) (b a : OutsideTold) (work : WorkTold)
    → OpensAll address b a (Some work) → a.faults ≡ b.faults
all-same address b a work opens =
    opens-same (λ told later listener. Listens told later address listener) ClosesListener
    OpensFed (listener_opened address) fed_same b a work opens

-- ---- what is closed

pub inputs-grow : (b a : OutsideTold) (left : WorkTold) → ClosesInputs b a left
    → Grows b.faults a.faults
inputs-grow b a left closes =
    Grows-then b.faults closes.unfed.faults a.faults
    (Grows-then b.faults closes.unlistening.faults closes.unfed.faults
    (listener_closed b closes.unlistening left.0 closes.listener)
    (feed_closed closes.unlistening closes.unfed left.1.0 closes.feed))
    (clock_closed closes.unfed a left.1.1.0 closes.clock)

-- one of them had faults
pub inputs-rise : (b a : OutsideTold) (left : WorkTold) → ClosesInputs b a left
    → (0 < left.0.faults) ⊎ ((0 < left.1.0.faults) ⊎ (0 < left.1.1.0.faults))
    → Rises b.faults a.faults
inputs-rise b a left closes (inl listener) =
    Rises-before b.faults closes.unlistening.faults a.faults
    (Rises-faulty left.0.faults b.faults closes.unlistening.faults listener
    closes.listener.faults)
    (Grows-then closes.unlistening.faults closes.unfed.faults a.faults
    (feed_closed closes.unlistening closes.unfed left.1.0 closes.feed)
    (clock_closed closes.unfed a left.1.1.0 closes.clock))
inputs-rise b a left closes (inr (inl feed)) =
    Rises-after b.faults closes.unlistening.faults a.faults
    (listener_closed b closes.unlistening left.0 closes.listener)
    (Rises-before closes.unlistening.faults closes.unfed.faults a.faults
    (Rises-faulty left.1.0.faults closes.unlistening.faults closes.unfed.faults feed
    closes.feed.faults)
    (clock_closed closes.unfed a left.1.1.0 closes.clock))
inputs-rise b a left closes (inr (inr clock)) =
    Rises-after b.faults closes.unfed.faults a.faults
    (Grows-then b.faults closes.unlistening.faults closes.unfed.faults
    (listener_closed b closes.unlistening left.0 closes.listener)
    (feed_closed closes.unlistening closes.unfed left.1.0 closes.feed))
    (Rises-faulty left.1.1.0.faults closes.unfed.faults a.faults clock closes.clock.faults)
