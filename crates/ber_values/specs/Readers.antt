-- What the public reader of a grammar answers.
use Rattle.std.specs.Prelude.{◌≡◌, ℕ, ◌+◌, ◌-◌, List, [], length, drop, Result, Err, IfOk, ◌↔◌}
use Rattle.ber_values.specs.declared.fault.BerFault.{BerFault}
use Rattle.ber_values.specs.Reading.{Taken}
use Rattle.ber_values.specs.Stops.{AnswersValue}
use Rattle.ber_values.specs.Grammars.{Grammar, taken}

-- a value, and the place after it in octets, of which the first has the place at
abbrev pub taken_from : {X : Type 0} → ℕ → List ℕ → X × ℕ → Taken X
taken_from at octets x = taken x.0 x.1 (drop (x.1 - at) octets)

-- a value that all octets are, of which the first has the place at
abbrev pub taken_whole : {X : Type 0} → ℕ → List ℕ → X → Taken X
taken_whole at octets x = taken x (at + length octets) []

-- octets, of which the first has the place at, were read exactly; view is what was taken
pub record IsReadBy {V X : Type 0} (g : Grammar X) (view : V → Taken X) (at : ℕ)
    (octets : List ℕ) (read : Result V BerFault) : Type 0 where
  -- a value is read only where the octets begin with it,
  pub found : IfOk read (λ v. g.begins at octets (view v))
  -- and wherever they begin with one, that is read
  pub only : (t : Taken X) → g.begins at octets t → AnswersValue view read t
  -- a fault is the first one from the left
  pub fault : (f : BerFault) → (read ≡ Err f) ↔ g.fault at octets f
