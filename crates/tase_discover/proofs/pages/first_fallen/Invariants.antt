use Rattle.std.proofs.Common.{◌≡◌, drop}
use Rattle.std.specs.Option.{option_copied}
use Rattle.tase_discover.specs.Listings.{first_fallen}
use Rattle.tase_discover.proofs.Falling.{fallen_from}
use Rattle.tase_discover.proofs.pages.first_fallen.Given as goal

abbrev pub invariant-loop-place : goal.invariant-loop-place
invariant-loop-place l =
    fallen_from l.place (option_copied l.before) (drop l.place l.items)
    ≡ first_fallen (option_copied l.fn.last) l.items
