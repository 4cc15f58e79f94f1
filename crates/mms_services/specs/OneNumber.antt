-- The number of a request is told by its octets.
use Rattle.std.specs.Prelude.{ℕ, List, ◌⊎◌}
use Rattle.ber_values.specs.Reading.{IsOne}
use Rattle.mms_services.specs.Pdus.{HasInvoke}

-- octets are a request with exactly one number, or with none
abbrev pub HasOneNumber : List ℕ → Type 0
HasOneNumber octets =
    IsOne ℕ (HasInvoke octets) ⊎ ((invoke : ℕ) → HasInvoke octets invoke → ⊥)
