-- Octets that are noted in a set, whether they were there before or not.
use Rattle.std.proofs.Common.{◌≡◌, ℕ, Bool, true, false, not, ◌||◌, List, ◌∷◌, Vec, bytes_eq}
use Rattle.std.proofs.Common.{refl, sym, ap, ◌∙◌, subst}
use Rattle.std.specs.Global.{Global}
use Rattle.std.specs.Prelude.{IsPermutation}
use Rattle.std.specs.Bool.{MatchBool}
use Rattle.std.specs.List.{list_any}
use Rattle.std.proofs.lemmas.List.Sorted.{list_any-IsPermutation}
use Rattle.std.proofs.lemmas.Slice.Eq.{bytes_eq-Decides}

was_there : (b : Bool) → false ≡ not b → b ≡ true
was_there true e = refl
was_there false e = e

kept : (b here : Bool) → (b ≡ true → here ≡ true) → here ≡ (b || here)
kept true here there = there refl
kept false here there = refl

-- a set of which one key more was put, if it wasn't there, finds that key and those before
pub noted_more : (keys after : List (Vec ℕ Global)) (key : Vec ℕ Global) (added : Bool)
    (q : List ℕ) → added ≡ not (list_any (λ other. bytes_eq key.items other.items) keys)
    → MatchBool added (IsPermutation (key ∷ keys) after) (after ≡ keys)
    → list_any (λ other. bytes_eq q other.items) after
    ≡ (bytes_eq q key.items || list_any (λ other. bytes_eq q other.items) keys)
noted_more keys after key true q is put =
    sym (list_any-IsPermutation (λ other. bytes_eq q other.items) (key ∷ keys) after put)
noted_more keys after key false q is put =
    ap (list_any (λ (other : Vec ℕ Global). bytes_eq q other.items)) put
    ∙ kept (bytes_eq q key.items) (list_any (λ other. bytes_eq q other.items) keys)
    (λ same. subst (λ (octets : List ℕ).
    list_any (λ (other : Vec ℕ Global). bytes_eq octets other.items) keys ≡ true)
    (sym ((bytes_eq-Decides q key.items).0 same))
    (was_there (list_any (λ other. bytes_eq key.items other.items) keys) is))
