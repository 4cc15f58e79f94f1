-- What became of the contexts on offer (ISO 8823-1, Presentation-context-definition-result-list).
use Rattle.std.specs.Prelude.{ℕ, Bool, true, false, not, ◌||◌, ◌==◌, List, [], ◌∷◌, ◌⊎◌}
use Rattle.ber_values.specs.declared.head.Head.{Head}
use Rattle.ber_values.specs.Faults.{◌>>=◌}
use Rattle.ber_values.specs.Reading.{Taken}
use Rattle.ber_values.specs.Grammars.{Grammar, then_in, map_in, branch_in}
use Rattle.ber_values.specs.Passing.{pass_in, is_other}
use Rattle.ber_values.specs.Parts.{Contents, part_in, maybe_in, all_in, contents_as}
use Rattle.ber_values.specs.Parts.{contents_where}
use Rattle.ber_values.specs.Lists.{list_in}
use Rattle.ber_values.specs.Leaves.{octet, oid}

-- whether a result may be so: 0 where it has to accept, else any
abbrev pub may_be : Bool → ℕ → Bool
may_be accepting result = not accepting || (result == 0)

-- a result, the transfer syntax's name, if there is one, and whatever else behind them
unfoldable pub result_contents : Bool → Contents ℕ
result_contents accepting = all_in
    (then_in (part_in 128 (contents_where (may_be accepting) octet)) (λ result.
    then_in (maybe_in 129 oid) (λ name.
    map_in (λ u. result) (pass_in (is_other 0 255 [])))))

unfoldable pub one_result : Bool → Grammar ℕ
one_result accepting = part_in 48 (result_contents accepting)

-- any results
abbrev pub any_results : Contents (List ℕ)
any_results = list_in 0 (one_result false)

-- a head, with its contents from a place on
abbrev pub from_place : Head → ℕ → Head
from_place head place = record head { body = place }

-- contents that begin with one thing, and go on after it
unfoldable pub begin_then_in : {X Y : Type 0} → Grammar X → (X → Contents Y) → Contents Y
begin_then_in {X} {Y} g next = record {
  spells = λ at y octets.
      (t : Taken X) × g.begins at octets t × (next t.value).spells t.next y t.rest;
  fault = λ head octets f. g.fault head.body octets f
      ⊎ ((t : Taken X) × g.begins head.body octets t
      × (next t.value).fault (from_place head t.next) t.rest f);
  reading = λ head octets. g.reading head.body octets
      >>= λ t. (next t.value).reading (from_place head t.next) t.rest;
}

-- two that accept, and any after them
unfoldable pub accepting_results : Contents (List ℕ)
accepting_results =
    begin_then_in (one_result true) (λ one.
    begin_then_in (one_result true) (λ two.
    contents_as (λ others. one ∷ two ∷ others) any_results))

-- results; the first two have to accept, or all may be any
unfoldable pub results : Bool → Grammar (List ℕ)
results accepting = branch_in (λ octets. accepting)
    (part_in 165 accepting_results) (part_in 165 any_results)
