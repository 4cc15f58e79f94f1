-- A code under one of several tags, which tells its class or kind.
use Rattle.std.specs.Prelude.{ℕ, ◌-◌, Bool, ◌&&◌, List, [], ◌∷◌, nat_le}
use Rattle.ber_values.specs.Grammars.{Grammar, branch_in, first_is, refused}
use Rattle.ber_values.specs.Parts.{part_in, contents_as}
use Rattle.ber_values.specs.Leaves.{octet}
use Rattle.mms_services.specs.declared.coded.Coded.{Coded}

-- the first octet, where there is one
abbrev pub first_octet_of : List ℕ → ℕ
first_octet_of [] = 0
first_octet_of (first ∷ octets) = first

-- a grammar for each first octet
unfoldable pub by_first : {X : Type 0} → (ℕ → Grammar X) → Grammar X
by_first g = record {
  begins = λ at octets. (g (first_octet_of octets)).begins at octets;
  fault = λ at octets. (g (first_octet_of octets)).fault at octets;
  reading = λ at octets. (g (first_octet_of octets)).reading at octets;
}

abbrev pub is_within : ℕ → ℕ → ℕ → Bool
is_within low high tag = nat_le low tag && nat_le tag high

-- a code, and the number of its tag
abbrev pub coded : ℕ → ℕ → Coded
coded tag code = record { number = tag - 128; code = code }

-- one octet under one of the context-specific tags from low to high
unfoldable pub coded_in : ℕ → ℕ → Grammar Coded
coded_in low high = branch_in (first_is (is_within low high))
    (by_first (λ tag. part_in tag (contents_as (coded tag) octet))) refused
