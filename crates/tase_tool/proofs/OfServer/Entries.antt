-- What stands under the names of a command that serves, before and after.
use Rattle.std.proofs.Common.{◌≡◌, ◌<◌, ◌∙◌, Some, None, sym, ap, subst, inl, inr, [], ◌∷◌}
use Rattle.outside.specs.Links.Clocks.{ClockTold}
use Rattle.outside.specs.Names.Outside.{NameEntry, untold, missing, lent, there, OutsideTold}
use Rattle.outside.specs.Names.Outside.{HandsOutClock, lent_from, put_back_at}
use Rattle.commands.specs.Io.OutsideUse.{FaultyAt}
use Rattle.commands.specs.Io.Runs.{output_name}
use Rattle.commands.proofs.OfIo.Entries.{IsKept, sources_between, sinks_between}
use Rattle.commands.specs.Words.Words.{ServeTask}
use Rattle.tase_tool.specs.Server.Opening.{input_name}
use Rattle.tase_tool.specs.Server.Serving.{listener_faults, clock_faults, HasFaultyName}

pub clock_unhanded : (s a : NameEntry ClockTold) → HandsOutClock s None
    → FaultyAt clock_faults s a
clock_unhanded untold a hands = tt
clock_unhanded missing a hands = tt
clock_unhanded lent a hands = tt
clock_unhanded (there x) a hands = absurd (let e : None ≡ Some x = hands in cc)

pub clock_faulty : (s mid closing a : NameEntry ClockTold) (x y : ClockTold)
    → HandsOutClock s (Some x) → mid ≡ lent_from s → closing ≡ mid → a ≡ put_back_at closing y
    → 0 < y.faults → FaultyAt clock_faults s a
clock_faulty untold mid closing a x y hands opens same closes positive = tt
clock_faulty missing mid closing a x y hands opens same closes positive = tt
clock_faulty lent mid closing a x y hands opens same closes positive = tt
clock_faulty (there z) mid closing a x y hands opens same closes positive =
    (y, closes ∙ ap (λ s. put_back_at s y) (same ∙ opens), positive)

-- a reason stays one, with what came before and what comes behind
pub faulty_between : (task : ServeTask) (b t m a : OutsideTold) → IsKept b t → IsKept m a
    → HasFaultyName task t m → HasFaultyName task b a
faulty_between task b t m a first then (inl some) =
    inl (sources_between (task.tables ∷ input_name ∷ []) b t m a first then some)
faulty_between task b t m a first then (inr (inl some)) =
    inr (inl (sinks_between (output_name ∷ task.journal ∷ []) b t m a first then some))
faulty_between task b t m a first then (inr (inr (inl faulty))) =
    inr (inr (inl (subst (λ n. FaultyAt listener_faults (n.listeners task.address)
    (a.network.listeners task.address)) first.network
    (subst (λ n. FaultyAt listener_faults (t.network.listeners task.address)
    (n.listeners task.address)) (sym then.network) faulty))))
faulty_between task b t m a first then (inr (inr (inr faulty))) =
    inr (inr (inr (subst (λ n. FaultyAt clock_faults n.clock a.network.clock) first.network
    (subst (λ n. FaultyAt clock_faults t.network.clock n.clock) (sym then.network) faulty))))
