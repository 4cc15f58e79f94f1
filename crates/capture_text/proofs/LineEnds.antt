-- The place of the first octet of a kind, as the kit's search tells it.
use Rattle.std.proofs.Common.{◌≡◌, ℕ, Bool, true, false, cond, eqb, List, length, get_or}
use Rattle.std.proofs.Common.{Option, Some, None, position, refl, sym, ap, ◌∙◌, arith}
use Rattle.std.specs.List.{position_or_len}
use Rattle.std.specs.Prelude.{nat_lt}
use Rattle.std.proofs.lemmas.List.Sums.{position_or_len_is}
use Rattle.std.proofs.lemmas.Bool.{lt-ltb, le-ltb}
use Rattle.memchr.specs.Find.{IsFirstByte, is_byte}

is_false : (b : Bool) → (b ≡ true → ⊥) → b ≡ false
is_false true h = absurd (h refl)
is_false false h = refl

pub position_found : (c : ℕ) (xs : List ℕ) (found : Option ℕ) → IsFirstByte (is_byte c) xs found
    → found ≡ position (λ x. eqb x c) xs
position_found c xs None h =
    let at : position_or_len (λ x. eqb x c) xs ≡ length xs =
    position_or_len_is (λ x. eqb x c) xs (length xs) 0 (omega arith)
    (λ k below. is_false (eqb (get_or xs k 0) c) (h k (omega arith) below))
    (λ past. absurd (omega arith)) in
    sym (ap (λ (n : ℕ). cond (nat_lt n (length xs)) (Some n) None) at
    ∙ ap (λ (b : Bool). cond b (Some (length xs)) None)
    (le-ltb (length xs) (length xs) (omega arith)))
position_found c xs (Some i) h =
    let at : position_or_len (λ x. eqb x c) xs ≡ i =
    position_or_len_is (λ x. eqb x c) xs i 0 (omega (arith, h.0.high))
    (λ k below. is_false (eqb (get_or xs k 0) c) (h.0.before k (omega arith) below))
    (λ _. h.1) in
    sym (ap (λ (n : ℕ). cond (nat_lt n (length xs)) (Some n) None) at
    ∙ ap (λ (b : Bool). cond b (Some i) None) (lt-ltb i (length xs) h.0.high))
