-- The parts of the outside that a command works on which runs an asking end over a link.
use Rattle.std.specs.Prelude.{◌⊎◌, ℕ, List, [], ◌∷◌}
use Rattle.outside.specs.Links.Links.{LinkTold}
use Rattle.outside.specs.Names.Outside.{OutsideTold}
use Rattle.commands.specs.Io.OutsideUse.{SomeOf, EachOf, FaultyAt, CleanAt}
use Rattle.commands.specs.Io.OutsideUse.{source_faults, sink_faults}
use Rattle.commands.specs.Io.Runs.{output_name}

abbrev pub link_faults : LinkTold → ℕ
link_faults link = link.faults

-- under one of the names of its inputs, as standard output or at its address nothing stood at
-- first, or what stood there has a fault now, where that is told
abbrev pub HasFaultyObject : List (List ℕ) → List ℕ → OutsideTold → OutsideTold → Type 0
HasFaultyObject names address before after = SomeOf names
    (λ name. FaultyAt source_faults (before.sources name) (after.sources name))
    ⊎ (SomeOf (output_name ∷ [])
    (λ name. FaultyAt sink_faults (before.sinks name) (after.sinks name))
    ⊎ FaultyAt link_faults (before.network.links address) (after.network.links address))

-- none of these has a fault, where that is told
abbrev pub HasCleanObjects : List (List ℕ) → List ℕ → OutsideTold → Type 0
HasCleanObjects names address before =
    EachOf names (λ name. CleanAt source_faults (before.sources name))
    × EachOf (output_name ∷ []) (λ name. CleanAt sink_faults (before.sinks name))
    × CleanAt link_faults (before.network.links address)
