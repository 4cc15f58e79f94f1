-- Values one after another, up to the first error.
use Rattle.std.proofs.Common.{◌≡◌, List, [], ◌∷◌, ◌++◌, map, Result, Ok, Err, refl, sym, ap, ◌∙◌}
use Rattle.std.proofs.Common.{append_assoc}
use Rattle.centre_client.specs.Scripts.{value_behind, values_of}

-- more values in front of those that are all right
abbrev pub in_front : {A E : Type 0} → List A → Result (List A) E → Result (List A) E
in_front xs (Ok ys) = Ok (xs ++ ys)
in_front xs (Err e) = Err e

pub one_in_front : {A E : Type 0} (xs : List A) (x : A) (more : Result (List A) E)
    → in_front xs (value_behind (Ok x) more) ≡ in_front (xs ++ x ∷ []) more
one_in_front xs x (Ok ys) = ap Ok (sym (append_assoc xs (x ∷ []) ys))
one_in_front xs x (Err e) = refl

pub none_in_front : {A E : Type 0} (more : Result (List A) E) → more ≡ in_front [] more
none_in_front (Ok ys) = refl
none_in_front (Err e) = refl

-- all that some items are
pub values_of-all : {A B E : Type 0} (f : A → Result B E) (xs : List A) (ys : List B)
    → values_of (map f xs) ≡ Ok ys → map f xs ≡ map Ok ys
values_of-all f [] [] is = refl
values_of-all f [] (y ∷ ys) is = absurd cc
values_of-all {B = B} {E = E} f (x ∷ xs) ys is =
    one (f x) refl (values_of (map f xs)) ys is (values_of-all f xs)
  where
    one : (r : Result B E) → f x ≡ r → (more : Result (List B) E) (ys : List B)
        → value_behind r more ≡ Ok ys
        → ((zs : List B) → more ≡ Ok zs → map f xs ≡ map Ok zs)
        → f x ∷ map f xs ≡ map Ok ys
    one (Err e) at more ys is others = absurd cc
    one (Ok y) at (Err e) ys is others = absurd cc
    one (Ok y) at (Ok zs) [] is others = absurd cc
    one (Ok y) at (Ok zs) (w ∷ ws) is others =
        let head : y ≡ w = cc in
        let tail : zs ≡ ws = cc in
        ap (λ (r : Result B E). r ∷ map f xs) (at ∙ ap Ok head)
        ∙ ap (λ (rs : List (Result B E)). Ok w ∷ rs) (others zs refl ∙ ap (map Ok) tail)

pub values_of-ok : {B E : Type 0} (rs : List (Result B E)) (ys : List B) → rs ≡ map Ok ys
    → values_of rs ≡ Ok ys
values_of-ok {B = B} {E = E} rs ys is = ap values_of is ∙ whole ys
  where
    whole : (ys : List B) → values_of {A = B} {E = E} (map Ok ys) ≡ Ok ys
    whole [] = refl
    whole (y ∷ ys) = ap (value_behind (Ok y)) (whole ys)

-- the first item that is an error, behind others that aren't
pub record FirstError {A B E : Type 0} (f : A → Result B E) (xs : List A) (error : E) : Type 0 where
  pub before : List A
  pub bad : A
  pub after : List A
  pub parts : xs ≡ before ++ bad ∷ after
  pub values : List B
  pub spelled : map f before ≡ map Ok values
  pub reason : f bad ≡ Err error

pub values_of-first : {A B E : Type 0} (f : A → Result B E) (xs : List A) (e : E)
    → values_of (map f xs) ≡ Err e → FirstError f xs e
values_of-first f [] e is = absurd cc
values_of-first {A = A} {B = B} {E = E} f (x ∷ xs) e is =
    one (f x) refl (values_of (map f xs)) is (values_of-first f xs e)
  where
    one : (r : Result B E) → f x ≡ r → (more : Result (List B) E)
        → value_behind r more ≡ Err e → (more ≡ Err e → FirstError f xs e)
        → FirstError f (x ∷ xs) e
    one (Err d) at more is others = record {
      before = [];
      bad = x;
      after = xs;
      parts = refl;
      values = [];
      spelled = refl;
      reason = at ∙ (let same : d ≡ e = cc in ap Err same);
    }
    one (Ok y) at (Ok ys) is others = absurd cc
    one (Ok y) at (Err d) is others =
        let o = others (let same : d ≡ e = cc in ap Err same) in
        record {
          before = x ∷ o.before;
          bad = o.bad;
          after = o.after;
          parts = ap (λ (ys : List A). x ∷ ys) o.parts;
          values = y ∷ o.values;
          spelled = ap (λ (r : Result B E). r ∷ map f o.before) at
              ∙ ap (λ (rs : List (Result B E)). Ok y ∷ rs) o.spelled;
          reason = o.reason;
        }

pub first-values_of : {A B E : Type 0} (f : A → Result B E) (before : List A) (bad : A)
    (after : List A) (values : List B) (e : E) → map f before ≡ map Ok values → f bad ≡ Err e
    → values_of (map f (before ++ bad ∷ after)) ≡ Err e
first-values_of f [] bad after values e spelled reason =
    ap (λ r. value_behind r (values_of (map f after))) reason
first-values_of f (x ∷ before) bad after [] e spelled reason = absurd cc
first-values_of {B = B} {E = E} f (x ∷ before) bad after (y ∷ values) e spelled reason =
    let head : f x ≡ Ok y = cc in
    let tail : map f before ≡ map Ok values = cc in
    ap (λ r. value_behind r (values_of (map f (before ++ bad ∷ after)))) head
    ∙ ap (value_behind (Ok y)) (first-values_of f before bad after values e tail reason)

-- a list that begins so goes on so
pub goes_on : {A : Type 0} (whole : List A) (first : A) (more rest : List A)
    → whole ≡ first ∷ more → more ≡ rest → whole ≡ first ∷ rest
goes_on whole first more rest begins is = begins ∙ ap (λ ys. first ∷ ys) is
