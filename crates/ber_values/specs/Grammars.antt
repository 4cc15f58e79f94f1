-- Grammars of octets: which octets begin with which value, the first fault of those that begin
-- with none, and the reading from the left that tells both. Productions are composed of these.
use Rattle.std.specs.Prelude.{◌≡◌, ℕ, zero, suc, Bool, true, false, List, [], ◌∷◌, length}
use Rattle.std.specs.Prelude.{◌⊎◌, Result, Ok, Err, ◌/◌, ◌==◌, if◌then◌else◌}
use Rattle.ber_values.specs.declared.fault.BerFault.{BerFault}
use Rattle.ber_values.specs.declared.fault.Why.{Why}
use Rattle.ber_values.specs.declared.fault.Why.TheVariants as whys
use Rattle.ber_values.specs.Faults.{fault_at, ◌>>=◌}
use Rattle.ber_values.specs.Reading.{Taken, IsReading}

-- what stands at the front of octets
pub record Grammar (X : Type 0) : Type 1 where
  -- the octets from a place on begin with a value, which ends at a place before other octets
  pub begins : ℕ → List ℕ → Taken X → Type 0
  -- the first fault of octets that begin with none
  pub fault : ℕ → List ℕ → BerFault → Type 0
  -- reading from the left
  pub reading : ℕ → List ℕ → Result (Taken X) BerFault

-- the reading is exact: a value just where octets begin with it, else the first fault
abbrev pub IsGrammar : {X : Type 0} → Grammar X → Type 0
IsGrammar {X} g = (at : ℕ) (octets : List ℕ)
    → IsReading (Taken X) (g.begins at octets) (g.fault at octets) (g.reading at octets)

abbrev pub taken : {X : Type 0} → X → ℕ → List ℕ → Taken X
taken x next rest = record { value = x; next = next; rest = rest }

-- nothing is taken, and the value is this one
unfoldable pub gives : {X : Type 0} → X → Grammar X
gives x = record {
  begins = λ at octets t. t ≡ taken x at octets;
  fault = λ at octets f. ⊥;
  reading = λ at octets. Ok (taken x at octets);
}

-- two, one after the other: the second may depend on the value of the first
unfoldable pub then_in : {X Y : Type 0} → Grammar X → (X → Grammar Y) → Grammar Y
then_in {X} g next = record {
  begins = λ at octets u.
      (t : Taken X) × g.begins at octets t × (next t.value).begins t.next t.rest u;
  fault = λ at octets f. g.fault at octets f
      ⊎ ((t : Taken X) × g.begins at octets t × (next t.value).fault t.next t.rest f);
  reading = λ at octets. g.reading at octets >>= λ t. (next t.value).reading t.next t.rest;
}

-- the same octets, and a function of the value
unfoldable pub map_in : {X Y : Type 0} → (X → Y) → Grammar X → Grammar Y
map_in {X} f g = record {
  begins = λ at octets u.
      (t : Taken X) × g.begins at octets t × (u ≡ taken (f t.value) t.next t.rest);
  fault = g.fault;
  reading = λ at octets. g.reading at octets >>= λ t. Ok (taken (f t.value) t.next t.rest);
}

-- one grammar where the octets pass a test, else another
unfoldable pub branch_in : {X : Type 0} → (List ℕ → Bool) → Grammar X → Grammar X → Grammar X
branch_in test one other = record {
  begins = λ at octets t. ((test octets ≡ true) × one.begins at octets t)
      ⊎ ((test octets ≡ false) × other.begins at octets t);
  fault = λ at octets f. ((test octets ≡ true) × one.fault at octets f)
      ⊎ ((test octets ≡ false) × other.fault at octets f);
  reading = λ at octets.
      if test octets then one.reading at octets else other.reading at octets;
}

-- whether the first octet passes a test
abbrev pub first_is : (ℕ → Bool) → List ℕ → Bool
first_is test [] = false
first_is test (first ∷ octets) = test first

-- whether the first octet is this tag
abbrev pub has_tag : ℕ → List ℕ → Bool
has_tag tag octets = first_is (λ first. first == tag) octets

-- whether an element with this first octet is of the context class
abbrev pub is_context : ℕ → Bool
is_context first = first / 64 == 2

-- whether no octets are left
abbrev pub is_ended : List ℕ → Bool
is_ended [] = true
is_ended (first ∷ octets) = false

-- why nothing may stand here: none is left, or else the tag
abbrev pub why_refused : List ℕ → Why
why_refused [] = whys.Short
why_refused (first ∷ octets) = whys.Tag

-- nothing may stand here
unfoldable pub refused : {X : Type 0} → Grammar X
refused = record {
  begins = λ at octets t. ⊥;
  fault = λ at octets f. f ≡ fault_at at (why_refused octets);
  reading = λ at octets. Err (fault_at at (why_refused octets));
}

-- a grammar for each number of octets
unfoldable pub by_length : {X : Type 0} → (ℕ → Grammar X) → Grammar X
by_length g = record {
  begins = λ at octets. (g (length octets)).begins at octets;
  fault = λ at octets. (g (length octets)).fault at octets;
  reading = λ at octets. (g (length octets)).reading at octets;
}

-- at most so many that begin with octets which pass a test
unfoldable pub passed_within : Grammar (Unit {0}) → (ℕ → Bool) → ℕ → Grammar (Unit {0})
passed_within g skips zero = gives tt
passed_within g skips (suc n) =
    branch_in (first_is skips) (then_in g (λ u. passed_within g skips n)) (gives tt)

-- all that begin so, up to the first octet that doesn't pass the test
unfoldable pub passed_in : Grammar (Unit {0}) → (ℕ → Bool) → Grammar (Unit {0})
passed_in g skips = by_length (passed_within g skips)

-- just so many
unfoldable pub times_in : {X : Type 0} → ℕ → Grammar X → Grammar (List X)
times_in zero g = gives []
times_in (suc n) g = then_in g (λ x. map_in (λ xs. x ∷ xs) (times_in n g))

-- at most so many, up to the end, in an order that each state's grammar allows
unfoldable pub fold_in : {S : Type 0} → ℕ → (S → Grammar S) → S → Grammar S
fold_in zero step s = gives s
fold_in (suc n) step s =
    branch_in is_ended (gives s) (then_in (step s) (λ s'. fold_in n step s'))
