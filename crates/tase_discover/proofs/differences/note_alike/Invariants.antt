use Rattle.std.proofs.Common.{◌≡◌, ℕ, List, take}
use Rattle.std.specs.Prelude.{zip}
use Rattle.std.specs.List.{list_any}
use Rattle.tase_discover.specs.Noted.{is_noted}
use Rattle.tase_discover.proofs.Alike.{is_that}
use Rattle.tase_discover.proofs.differences.note_alike.Given as goal

abbrev pub invariant-loop-place : goal.invariant-loop-place
invariant-loop-place l =
    (item : List ℕ)
    → is_noted l.noted item
    ≡ list_any (is_that l.scope item) (take l.place (zip l.names l.judged))
