-- Results that are read after others, and two that accept before them.
use Rattle.std.proofs.Common.{◌≡◌, ℕ, zero, suc, ◌+◌, ◌<◌, ◌^◌, true, false, List, [], ◌∷◌, ◌++◌, length, Result, Ok, Err, refl, sym, ap, ◌∙◌, append_assoc, arith}
use Rattle.std.proofs.lemmas.Bool.{le-ltb}
use Rattle.ber_values.specs.declared.fault.BerFault.{BerFault}
use Rattle.ber_values.specs.Faults.{◌>>=◌}
use Rattle.ber_values.specs.Grammars.{Grammar, taken}
use Rattle.ber_values.specs.Reading.{Taken}
use Rattle.ber_values.specs.Lists.{more_in, list_in}
use Rattle.ber_values.specs.Parts.{contents_as}
use Rattle.ber_values.specs.declared.head.Head.{Head}
use Rattle.ber_values.proofs.Lists.{MembersSoFar}
use Rattle.presentation_profile.specs.Results.{one_result, begin_then_in, accepting_results}

-- what a loop over results begins with
pub results-begin : (found : List ℕ) (at : ℕ) (octets : List ℕ) → at + length octets < 2 ^ 64 → MembersSoFar (one_result false) 0 (length found + length octets) found at octets (more_in (one_result false) 0 (length octets) found at octets)
results-begin found at octets placed = record {
  placed = placed;
  fewer = omega arith;
  reads = record { reads = ap (λ (k : ℕ). more_in (one_result false) 0 k found at octets) (omega arith) };
}

-- elements are read after others as they are alone
pub more-after : {X : Type 0} (g : Grammar X) (room : ℕ) (before xs : List X) (at : ℕ) (octets : List ℕ) → more_in g 0 room (before ++ xs) at octets ≡ (more_in g 0 room xs at octets >>= λ ys. Ok (before ++ ys))
unfolding more_in
more-after {X} g room before xs at [] = rw (le-ltb (length (before ++ xs)) 0 (omega arith), le-ltb (length xs) 0 (omega arith)) refl
more-after {X} g zero before xs at (first ∷ octets) = refl
more-after {X} g (suc room) before xs at (first ∷ octets) =
    step (g.reading at (first ∷ octets)) (λ t. ap (λ (ys : List X). more_in g 0 room ys t.next t.rest) (append_assoc before xs (t.value ∷ [])) ∙ more-after g room before (xs ++ t.value ∷ []) t.next t.rest)
  where
    step : (read : Result (Taken X) BerFault) → ((t : Taken X) → more_in g 0 room ((before ++ xs) ++ t.value ∷ []) t.next t.rest ≡ (more_in g 0 room (xs ++ t.value ∷ []) t.next t.rest >>= λ ys. Ok (before ++ ys))) → (read >>= λ t. more_in g 0 room ((before ++ xs) ++ t.value ∷ []) t.next t.rest) ≡ ((read >>= λ t. more_in g 0 room (xs ++ t.value ∷ []) t.next t.rest) >>= λ ys. Ok (before ++ ys))
    step (Err f) each = refl
    step (Ok t) each = each t

-- two that accept, and then any
pub accepting-reads : (head : Head) (octets : List ℕ) (one at : ℕ) (rest : List ℕ) (two next : ℕ) (last : List ℕ) → (one_result true).reading head.body octets ≡ Ok (taken one at rest) → (one_result true).reading at rest ≡ Ok (taken two next last) → accepting_results.reading head octets ≡ more_in (one_result false) 0 (length last) (one ∷ two ∷ []) next last
unfolding accepting_results begin_then_in contents_as list_in
accepting-reads head octets one at rest two next last first second = rw (first, second) (sym (more-after (one_result false) (length last) (one ∷ two ∷ []) [] next last))

pub first-fails : (head : Head) (octets : List ℕ) (f : BerFault) → (one_result true).reading head.body octets ≡ Err f → accepting_results.reading head octets ≡ Err f
unfolding accepting_results begin_then_in
first-fails head octets f first = rw first refl

pub second-fails : (head : Head) (octets : List ℕ) (one at : ℕ) (rest : List ℕ) (f : BerFault) → (one_result true).reading head.body octets ≡ Ok (taken one at rest) → (one_result true).reading at rest ≡ Err f → accepting_results.reading head octets ≡ Err f
unfolding accepting_results begin_then_in
second-fails head octets one at rest f first second = rw (first, second) refl
