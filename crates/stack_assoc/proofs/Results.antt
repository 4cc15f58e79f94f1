-- Facts of an Ok, weaker.
use Rattle.std.proofs.Common.{◌≡◌, ℕ, List, Result, Ok, Err, IfOk, OnOk, OnErr, IsErr, sym, ap, subst, ◌∙◌}

pub if_ok_weaker : {T E : Type 0} (P Q : T → Type 0) (r : Result T E) → ((x : T) → P x → Q x)
    → IfOk r P → IfOk r Q
if_ok_weaker P Q (Ok x) to p = to x p
if_ok_weaker P Q (Err e) to p = tt

-- what was told once the answer was out
pub told_done : {A E X C : Type 0} (P : X → C → List ℕ → Type 0) (done : Result A E)
    (result : Result X E) (a : X) (v w new : C) (tell : C → C) (written right : List ℕ)
    → OnOk done (w ≡ v) → OnOk done (written ≡ right) → OnOk done (new ≡ tell w)
    → OnOk done (result ≡ Ok a) → OnErr done (IsErr result) → P a (tell v) right
    → IfOk result (λ x. P x new written)
told_done {A} {E} {X} {C} P (Ok u) result a v w new tell written right e f g h m p =
    let Q : Result X E → Type 0 = λ r. IfOk r (λ x. P x new written) in
    let R : C → Type 0 = λ c. P a c written in
    let S : List ℕ → Type 0 = λ os. P a (tell v) os in
    subst Q (sym h) (subst R (sym (g ∙ ap tell e)) (subst S (sym f) p))
told_done P (Err x) (Ok y) a v w new tell written right e f g h m p = absurd cc
told_done P (Err x) (Err y) a v w new tell written right e f g h m p = tt

-- what is so where it isn't
pub kept_done : {A E X C : Type 0} (P : C → Type 0) (done : Result A E) (result : Result X E)
    (a : X) (v w new : C) → OnOk done (result ≡ Ok a) → OnErr done (w ≡ v) → OnErr done (new ≡ w)
    → P v → OnErr result (P new)
kept_done {A} {E} {X} {C} P (Ok u) result a v w new h e f p =
    let Q : Result X E → Type 0 = λ r. OnErr r (P new) in subst Q (sym h) tt
kept_done P (Err x) (Ok y) a v w new h e f p = tt
kept_done P (Err x) (Err y) a v w new h e f p = subst P (sym (f ∙ e)) p

pub out_done : {A E X : Type 0} (done : Result A E) (result : Result X E) (a : X)
    (written out : List ℕ) → OnOk done (result ≡ Ok a) → OnErr done (written ≡ out)
    → OnErr result (written ≡ out)
out_done {A} {E} {X} (Ok u) result a written out h e =
    let Q : Result X E → Type 0 = λ r. OnErr r (written ≡ out) in subst Q (sym h) tt
out_done (Err x) (Ok y) a written out h e = tt
out_done (Err x) (Err y) a written out h e = e
