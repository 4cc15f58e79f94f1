-- Octets of which an object may tell. What isn't told goes on so.
use Rattle.std.specs.Prelude.{◌≡◌, ℕ, List, ◌++◌, Option, option_map}

-- these octets were added behind those told
abbrev pub Adds : Option (List ℕ) → Option (List ℕ) → List ℕ → Type 0
Adds before after octets = after ≡ option_map (λ told. told ++ octets) before

-- these octets were taken from the front of those told
abbrev pub TakesOctets : Option (List ℕ) → Option (List ℕ) → List ℕ → Type 0
TakesOctets before after octets = before ≡ option_map (λ told. octets ++ told) after
