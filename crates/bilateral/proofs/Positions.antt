-- Where the first element that passes stands, in a list that grows or changes.
use Rattle.std.proofs.Common.{◌≡◌, ℕ, ◌+◌, ◌<◌, Bool, true, false, cond, ltb, List}
use Rattle.std.proofs.Common.{[], ◌∷◌, ◌++◌, length, get_or, Some, None, position}
use Rattle.std.proofs.Common.{refl, sym, ap, ◌∙◌, inl, inr, arith}
use Rattle.std.specs.List.{position_from}
use Rattle.std.proofs.lemmas.Bool.{cases_Bool, cond-true, cond-false, lt-ltb, le-ltb}
use Rattle.std.proofs.lemmas.List.{length_push, get_or_push, get_or_append_left}
use Rattle.std.proofs.lemmas.List.Sums.{position_or_len_is}
use Rattle.plain_text.proofs.Parts.{position-None}
use Rattle.std.proofs.lemmas.Iterator.Adapters.{position_from-zero}

-- where nothing passes, nothing is found
pub absent : {X : Type 0} (p : X → Bool) (xs : List X)
    → ((k : ℕ) (d : X) → k < length xs → p (get_or xs k d) ≡ false) → position p xs ≡ None
absent p [] out = refl
absent p (x ∷ xs) out =
    let size = length (x ∷ xs) in
    ap (λ n. cond (ltb n size) (Some n) None)
    (position_or_len_is p (x ∷ xs) size x (omega arith) (λ k below. out k x below)
    (λ below. absurd (omega arith)))
    ∙ cond-false (ltb size size) (Some size) None (le-ltb size size (omega arith))

-- the first place where something passes is found
pub found : {X : Type 0} (p : X → Bool) (xs : List X) (i : ℕ) (d : X) → i < length xs
    → p (get_or xs i d) ≡ true → ((k : ℕ) → k < i → p (get_or xs k d) ≡ false)
    → position p xs ≡ Some i
found p xs i d below here before =
    ap (λ n. cond (ltb n (length xs)) (Some n) None)
    (position_or_len_is p xs i d (omega arith) before (λ within. here))
    ∙ cond-true (ltb i (length xs)) (Some i) None (lt-ltb i (length xs) below)

from-push_other : {X : Type 0} (p : X → Bool) (n : ℕ) (xs : List X) (y : X) → p y ≡ false
    → position_from p n (xs ++ y ∷ []) ≡ position_from p n xs
from-push_other p n [] y fails = cond-false (p y) (Some n) None fails
from-push_other p n (x ∷ xs) y fails =
    ap (cond (p x) (Some n)) (from-push_other p (n + 1) xs y fails)

-- an element more that doesn't pass
pub position-push_other : {X : Type 0} (p : X → Bool) (xs : List X) (y : X) → p y ≡ false
    → position p (xs ++ y ∷ []) ≡ position p xs
position-push_other p xs y fails = position_from-zero p (xs ++ y ∷ [])
    ∙ from-push_other p 0 xs y fails ∙ sym (position_from-zero p xs)

-- the first element that passes, at the end
pub position-push_here : {X : Type 0} (p : X → Bool) (xs : List X) (y : X) → position p xs ≡ None
    → p y ≡ true → position p (xs ++ y ∷ []) ≡ Some (length xs)
position-push_here p xs y none passes =
    found p (xs ++ y ∷ []) (length xs) y (omega (arith, length_push xs y))
    (ap p (get_or_push xs y y (length xs) refl) ∙ passes)
    (λ k early. ap p (get_or_append_left xs (y ∷ []) y k early)
    ∙ position-None p xs none k y early)

-- a new row is found at the end by what it has alone, and others where they were
pub position-by : {X V : Type 0} (test : V → V → Bool) → ((a b : V) → test a b ≡ true → a ≡ b)
    → (f : X → V) (rows : List X) (row : X) → position (λ r. test (f r) (f row)) rows ≡ None
    → (other : V)
    → cond (test (f row) other) (Some (length rows)) (position (λ r. test (f r) other) rows)
    ≡ position (λ r. test (f r) other) (rows ++ row ∷ [])
position-by test decides f rows row fresh other =
    elim (cases_Bool (test (f row) other)) [
      | inl same ↦ cond-true (test (f row) other) _ _ same
          ∙ sym (position-push_here (λ r. test (f r) other) rows row
          (ap (λ v. position (λ r. test (f r) v) rows) (sym (decides (f row) other same)) ∙ fresh)
          same)
      | inr differs ↦ cond-false (test (f row) other) _ _ differs
          ∙ sym (position-push_other (λ r. test (f r) other) rows row differs)
    ]
