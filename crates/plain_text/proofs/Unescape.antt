-- Escaped text, octet by octet.
use Rattle.std.proofs.Common.{◌≡◌, ℕ, ◌<◌, Bool, true, false, cond, List, [], ◌∷◌, ◌++◌, length}
use Rattle.std.proofs.Common.{get_or, Option, None, option_map, refl, arith}
use Rattle.plain_text.specs.Escaped.{is_plain, unescaped}

same_cond : {A : Type 0} (b : Bool) (x : A) → cond b x x ≡ x
same_cond true x = refl
same_cond false x = refl

-- less than three octets, of which the first doesn't stand for itself, stand for nothing
pub unescaped-short : (escaped : List ℕ) (d : ℕ) → 0 < length escaped → length escaped < 3
    → is_plain (get_or escaped 0 d) ≡ false → unescaped escaped ≡ None
unescaped-short [] d some few e = absurd (omega arith)
unescaped-short (c ∷ []) d some few e = rw e (same_cond _ None)
unescaped-short (c ∷ h ∷ []) d some few e = rw e (same_cond _ None)
unescaped-short (c ∷ h ∷ l ∷ rest) d some few e = absurd (omega arith)

-- these octets before others
abbrev pub after_octets : List ℕ → Option (List ℕ) → Option (List ℕ)
after_octets octets rest = option_map (λ others. octets ++ others) rest
