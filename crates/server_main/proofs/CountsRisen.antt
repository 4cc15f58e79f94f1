-- Counts of faults, and why a server ends for what lies outside.
use Rattle.std.proofs.Common.{◌≡◌, ◌⊎◌, ℕ, zero, suc, ◌≤◌, Bool, true, false, ◌||◌, List}
use Rattle.std.proofs.Common.{refl, sym, subst, ◌∙◌, arith, inl, inr, Option, Some, None}
use Rattle.outside.specs.Faults.{counted, next_count}
use Rattle.outside.specs.Source.{SourceTold}
use Rattle.outside.specs.Links.Clocks.{ClockTold}
use Rattle.node_server.specs.declared.turn.turn_node.NodeSetup.{NodeSetup}
use Rattle.server_main.specs.declared.run.seats.FeedSeat.{FeedSeat}
use Rattle.server_main.specs.declared.run.seats.TickSeat.{TickSeat}
use Rattle.server_main.specs.declared.run.seats.Seats.{Seats}
use Rattle.server_main.specs.Run.Gathering.{SeatClaim, FeedClaims, TicksClaims}
use Rattle.server_main.specs.declared.run.serving.ServingEnd.{ServingEnd}
use Rattle.server_main.specs.declared.run.serving.ServingEnd.TheVariants as servings
use Rattle.server_main.specs.Rounds.Rounds.{counted_up, CountsTurnedAway}
use Rattle.server_main.specs.declared.work_end.WorkEnd.{WorkEnd}
use Rattle.server_main.specs.declared.work_end.WorkEnd.TheVariants as works
use Rattle.server_main.specs.ServedParts.{is_listener_work, CountsRefused, fails_outside}
use Rattle.server_main.specs.ServedParts.{has_source_fault, has_clock_fault}
use Rattle.server_main.specs.Serving.{ServerTold, HasRisen, HasFailed, IsUnstarted}

pub counted-grows : (failed : Bool) (count : ℕ) → count ≤ counted failed count
counted-grows true count = omega arith
counted-grows false count = omega arith

next-grows : (count : ℕ) → count ≤ next_count count
next-grows count = omega arith

up-grows : (many count : ℕ) → count ≤ counted_up many count
up-grows zero count = omega arith
up-grows (suc many) count =
    omega (arith, up-grows many count, next-grows (counted_up many count))

pub risen : (failed : Bool) (before after : ℕ) → after ≡ counted failed before → failed ≡ true
    → HasRisen before after
risen failed before after is loud = (
  0,
  is ∙ subst (λ (b : Bool). counted failed before
      ≡ counted b before) loud refl,
)

-- ---- the feed and the clock

pub feed-counted : (setup : NodeSetup) (given left : SourceTold) (fed : Option FeedSeat)
    (claims : List SeatClaim) → FeedClaims setup given left fed claims
    → left.faults ≡ counted (has_source_fault fed) given.faults
feed-counted setup given left None claims is =
    subst (λ (s : SourceTold). s.faults ≡ given.faults) (sym is.0) refl
feed-counted setup given left (Some fed) claims is = is.1.feeds.fed.read.faults

pub feed-named : (setup : NodeSetup) (given left : SourceTold) (fed : Option FeedSeat)
    (claims : List SeatClaim) → FeedClaims setup given left fed claims → left.name ≡ given.name
feed-named setup given left None claims is =
    subst (λ (s : SourceTold). s.name ≡ given.name) (sym is.0) refl
feed-named setup given left (Some fed) claims is = is.1.feeds.fed.read.name

pub clock-counted : (setup : NodeSetup) (given left : ClockTold) (ticked : Option TickSeat)
    (claims : List SeatClaim) → TicksClaims setup given left ticked claims
    → left.faults ≡ counted (has_clock_fault ticked) given.faults
clock-counted setup given left None claims is =
    subst (λ (s : ClockTold). s.faults ≡ given.faults) (sym is.0) refl
clock-counted setup given left (Some ticked) claims is = is.1.ticks.told.faults

-- ---- the spawner

turned-grows : (end : ServingEnd) (many before after : ℕ)
    → CountsTurnedAway end many before after → before ≤ after
turned-grows servings.Memory many before after counts =
    omega (arith, counts.1, up-grows counts.0 before)
turned-grows servings.Stopped many before after counts =
    omega (arith, counts, up-grows many before)
turned-grows servings.ListenerFault many before after counts =
    omega (arith, counts, up-grows many before)
turned-grows servings.PlantFault many before after counts =
    omega (arith, counts, up-grows many before)
turned-grows (servings.Full weight limit) many before after counts =
    omega (arith, counts, up-grows many before)

pub spawner-grows : (work : WorkEnd) (many before after : ℕ)
    → CountsRefused work many before after → before ≤ after
spawner-grows works.Refused many before after counts =
    omega (arith, counts.1, next-grows before)
spawner-grows (works.Ended end) many before after counts =
    turned-grows end many before after counts

-- ---- why it ends so

either : (a b : Bool) → (a || b) ≡ true → (a ≡ true) ⊎ (b ≡ true)
either true b e = inl refl
either false b e = inr e

-- something failed, by what it says of each
pub why-outside : (before after : ServerTold) (work : WorkEnd) (failed : Bool) (seats : Seats)
    → after.listener.faults ≡ counted (is_listener_work work) before.listener.faults
    → after.plant.faults ≡ counted failed before.plant.faults
    → after.feed.faults ≡ counted (has_source_fault seats.feed) before.feed.faults
    → after.clock.faults ≡ counted (has_clock_fault seats.ticks) before.clock.faults
    → (work ≡ works.Refused → IsUnstarted before after seats)
    → fails_outside work failed seats ≡ true
    → HasFailed before after ⊎ IsUnstarted before after seats
why-outside before after works.Refused failed seats listener plant feed clock unstarted fails =
    inr (unstarted refl)
why-outside before after (works.Ended end) failed seats listener plant feed clock unstarted fails =
    inl (elim (either _ _ fails) [
      | inl a ↦ inl (risen _ _ _ listener a)
      | inr b ↦ inr (elim (either _ _ b) [
        | inl a ↦ inl (risen _ _ _ plant a)
        | inr d ↦ inr (elim (either _ _ d) [
          | inl a ↦ inl (risen _ _ _ feed a)
          | inr e ↦ inr (risen _ _ _ clock e)
        ])
      ])
    ])
