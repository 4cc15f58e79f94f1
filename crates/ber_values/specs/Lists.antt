-- Contents that are elements, one after another.
use Rattle.std.specs.Prelude.{◌≡◌, ◌≢◌, ℕ, zero, suc, ◌<◌, ◌≤◌, List, [], ◌∷◌, ◌++◌, length}
use Rattle.std.specs.Prelude.{◌⊎◌, Result, Ok, Err, nat_lt, if◌then◌else◌}
use Rattle.ber_values.specs.declared.fault.BerFault.{BerFault}
use Rattle.ber_values.specs.declared.fault.Why.TheVariants as whys
use Rattle.ber_values.specs.Faults.{fault_at, ◌>>=◌}
use Rattle.ber_values.specs.Reading.{Taken}
use Rattle.ber_values.specs.Grammars.{Grammar}
use Rattle.ber_values.specs.Parts.{Contents}

-- the octets from a place on begin with these elements, up to a place before other octets
abbrev pub BeginsList : {X : Type 0} → Grammar X → ℕ → List ℕ → List X → ℕ → List ℕ → Type 0
BeginsList g at octets [] next rest = (next ≡ at) × (rest ≡ octets)
BeginsList {X} g at octets (x ∷ xs) next rest = (t : Taken X) × (octets ≢ [])
    × g.begins at octets t × (x ≡ t.value) × BeginsList g t.next t.rest xs next rest

-- the octets are such elements, at least and at most so many
pub record SpellsList {X : Type 0} (g : Grammar X) (least most at : ℕ) (xs : List X)
    (octets : List ℕ) : Type 0 where
  pub end : ℕ
  pub spelled : BeginsList g at octets xs end []
  pub enough : least ≤ length xs
  pub few : length xs ≤ most

-- what breaks after so many elements: too few of them, a faulty one, or one too many
abbrev pub BreaksList : {X : Type 0} → Grammar X → ℕ → ℕ → ℕ → ℕ → List ℕ → BerFault → Type 0
BreaksList g least most count at octets f =
    ((octets ≡ []) × (count < least) × (f ≡ fault_at at whys.Short))
    ⊎ (((octets ≢ []) × (count < most) × g.fault at octets f)
    ⊎ ((octets ≢ []) × (count ≡ most) × (f ≡ fault_at at whys.Tag)))

-- after some elements the octets break
pub record ListFault {X : Type 0} (g : Grammar X) (least most at : ℕ) (octets : List ℕ)
    (f : BerFault) : Type 0 where
  pub before : List X
  pub next : ℕ
  pub rest : List ℕ
  pub spelled : BeginsList g at octets before next rest
  pub few : length before ≤ most
  pub breaks : BreaksList g least most (length before) next rest f

-- the elements so far, and as many more as there is room for
unfoldable pub more_in : {X : Type 0} → Grammar X → ℕ → ℕ → List X → ℕ → List ℕ
    → Result (List X) BerFault
more_in g least room xs at [] =
    if nat_lt (length xs) least then Err (fault_at at whys.Short) else Ok xs
more_in g least zero xs at (first ∷ rest) = Err (fault_at at whys.Tag)
more_in g least (suc room) xs at (first ∷ rest) = do
  t ← g.reading at (first ∷ rest)
  more_in g least room (xs ++ t.value ∷ []) t.next t.rest

-- at least and at most so many
unfoldable pub count_in : {X : Type 0} → ℕ → ℕ → Grammar X → Contents (List X)
count_in least most g = record {
  spells = λ at xs octets. SpellsList g least most at xs octets;
  fault = λ head octets f. ListFault g least most head.body octets f;
  reading = λ head octets. more_in g least most [] head.body octets;
}

-- at least so many; each takes an octet at least
unfoldable pub list_in : {X : Type 0} → ℕ → Grammar X → Contents (List X)
list_in least g = record {
  spells = λ at xs octets. SpellsList g least (length octets) at xs octets;
  fault = λ head octets f. ListFault g least (length octets) head.body octets f;
  reading = λ head octets. more_in g least (length octets) [] head.body octets;
}
