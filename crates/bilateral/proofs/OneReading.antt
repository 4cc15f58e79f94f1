-- What a reading answers is one thing or the other.
use Rattle.std.proofs.Common.{◌≡◌, Result, Ok, Err}

pub not_value_and_error : {A E : Type 0} (r : Result A E) (a : A) (e : E) → r ≡ Ok a → r ≡ Err e → ⊥
not_value_and_error r a e is_value is_error = cc

pub one_value : {A E : Type 0} (r : Result A E) (a b : A) → r ≡ Ok a → r ≡ Ok b → a ≡ b
one_value r a b first second = cc

pub one_error : {A E : Type 0} (r : Result A E) (a b : E) → r ≡ Err a → r ≡ Err b → a ≡ b
one_error r a b first second = cc
