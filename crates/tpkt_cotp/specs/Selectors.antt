-- Selectors of the transport.
use Rattle.std.specs.Prelude.{ℕ, ◌<◌, ◌≤◌, List, length, Option, Some, None}
use Rattle.tpkt_cotp.specs.declared.limits.TheConstants.{SELECTOR_LIMIT}

-- one to 32 octets
abbrev pub IsSelector : List ℕ → Type 0
IsSelector octets = (0 < length octets) × (length octets ≤ SELECTOR_LIMIT)

-- a selector, if there is one, is one
abbrev pub HasSelector : Option (List ℕ) → Type 0
HasSelector None = Unit {0}
HasSelector (Some selector) = IsSelector selector
