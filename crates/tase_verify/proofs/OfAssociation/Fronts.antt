-- Octets that begin alike.
use Rattle.std.proofs.Common.{◌≡◌, ◌==◌, ◌+◌, ◌<◌, ℕ, suc, Bool, true, false, List, [], ◌∷◌, ◌++◌}
use Rattle.std.proofs.Common.{Option, Some, None, refl, sym, ap, ◌∙◌, subst, arith, length, drop, eqb, add-zero}
use Rattle.std.specs.Prelude.{bytes_eq, slice_get, if◌then◌else◌, ◌&&◌}
use Rattle.tase_verify.specs.declared.association.verdict.Verdict.{Verdict}
use Rattle.tase_verify.specs.declared.association.verdict.Verdict.TheVariants as verdicts
use Rattle.tase_verify.specs.Association.Verdicts.{common, verdict_from}

pub common_none : (got : List ℕ) → common got [] ≡ 0
common_none [] = refl
common_none (octet ∷ got) = refl

-- by whether the first octets are the same
abbrev first_told : Bool → ℕ → ℕ → ℕ → List ℕ → List ℕ → Verdict
first_told same n x y got want =
    if same && bytes_eq got want then verdicts.Equal
    else verdicts.Differs (n + (if same then 1 + common got want else 0))
    (slice_get (x ∷ got) (if same then 1 + common got want else 0))
    (slice_get (y ∷ want) (if same then 1 + common got want else 0))

-- a difference behind them
behind_first : (n x y c : ℕ) (got want : List ℕ)
    → verdicts.Differs (n + (1 + c)) (slice_get (x ∷ got) (1 + c)) (slice_get (y ∷ want) (1 + c))
    ≡ verdicts.Differs ((n + 1) + c) (slice_get got c) (slice_get want c)
behind_first n x y c got want =
    let e : 1 + c ≡ suc c = omega arith in
    let p : n + suc c ≡ (n + 1) + c = omega arith in
    ap (λ (k : ℕ). verdicts.Differs (n + k) (slice_get (x ∷ got) k) (slice_get (y ∷ want) k)) e
    ∙ ap (λ (k : ℕ). verdicts.Differs k (slice_get got c) (slice_get want c)) p

same_first : (n x y : ℕ) (got want : List ℕ)
    → first_told true n x y got want ≡ verdict_from (n + 1) got want
same_first n x y got want =
    ap (λ (v : Verdict). if bytes_eq got want then verdicts.Equal else v)
    (behind_first n x y (common got want) got want)

all_same : (b : Bool) (piece want : List ℕ)
    → (if b then 1 + common piece want else 0) ≡ suc (length piece)
    → (b ≡ true) × (common piece want ≡ length piece)
all_same true piece want e = (refl, let r : common piece want ≡ length piece = omega arith in r)
all_same false piece want e = absurd (omega (arith, e))

-- behind a piece with which what is wanted begins
pub goes_on : (n : ℕ) (piece got want : List ℕ) → common piece want ≡ length piece
    → verdict_from n (piece ++ got) want
    ≡ verdict_from (n + length piece) got (drop (length piece) want)
goes_on n [] got want e =
    ap (λ (k : ℕ). verdict_from k got want) (let z : n ≡ n + 0 = omega arith in z)
goes_on n (x ∷ piece) got [] e = absurd (omega (arith, e))
goes_on n (x ∷ piece) got (y ∷ want) e =
    let s = all_same (x == y) piece want e in
    ap (λ (b : Bool). first_told b n x y (piece ++ got) want) s.0
    ∙ same_first n x y (piece ++ got) want ∙ goes_on (n + 1) piece got want s.1
    ∙ ap (λ (k : ℕ). verdict_from k got (drop (length piece) want))
    (let z : (n + 1) + length piece ≡ n + suc (length piece) = omega arith in z)

stops_first : (b : Bool) (n x y : ℕ) (piece got want : List ℕ)
    → (common piece want < length piece → verdict_from (n + 1) (piece ++ got) want
    ≡ verdicts.Differs ((n + 1) + common piece want) (slice_get piece (common piece want))
    (slice_get want (common piece want)))
    → (if b then 1 + common piece want else 0) < suc (length piece)
    → first_told b n x y (piece ++ got) want
    ≡ verdicts.Differs (n + (if b then 1 + common piece want else 0))
    (slice_get (x ∷ piece) (if b then 1 + common piece want else 0))
    (slice_get (y ∷ want) (if b then 1 + common piece want else 0))
stops_first true n x y piece got want next l =
    same_first n x y (piece ++ got) want ∙ next (omega (arith, l))
    ∙ sym (behind_first n x y (common piece want) piece want)
stops_first false n x y piece got want next l = refl

-- in a piece with which it doesn't
pub stops : (n : ℕ) (piece got want : List ℕ) → common piece want < length piece
    → verdict_from n (piece ++ got) want
    ≡ verdicts.Differs (n + common piece want) (slice_get piece (common piece want))
    (slice_get want (common piece want))
stops n [] got want l = absurd (omega (arith, l))
stops n (x ∷ piece) got [] l = refl
stops n (x ∷ piece) got (y ∷ want) l =
    stops_first (x == y) n x y piece got want (λ s. stops (n + 1) piece got want s) l

-- where none is left
pub ends_short : (n next : ℕ) (want : List ℕ)
    → verdict_from n [] (next ∷ want) ≡ verdicts.Differs n None (Some next)
ends_short n next want =
    ap (λ (k : ℕ). verdicts.Differs k None (Some next)) (let z : n + 0 ≡ n = omega arith in z)
